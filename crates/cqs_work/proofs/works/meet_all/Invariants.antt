use Rattle.std.proofs.Common.{◌≡◌, ◌++◌, length}
use Rattle.std.specs.Vec.Iter.{into_iter_items, into_iter_len}
use Rattle.cqs_work.specs.Met.{shared_of}
use Rattle.cqs_work.proofs.Meeting.{MetSoFar}
use Rattle.cqs_work.proofs.works.meet_all.Given as goal

abbrev pub invariant-loop-floor : goal.invariant-loop-floor
invariant-loop-floor g l =
    (l.yielded ++ into_iter_items l.floor-iterator ≡ into_iter_items l.initial.floor-iterator)
    × MetSoFar (g.F.SharedFloor.shared l.initial.first) (shared_of g.F.SharedFloor.shared l.yielded)
    (g.F.SharedFloor.shared l.first)
    × (into_iter_len l.floor-iterator ≡ length (into_iter_items l.floor-iterator))
