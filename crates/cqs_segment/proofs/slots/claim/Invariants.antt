use Rattle.std.proofs.Common.{◌≡◌}
use Rattle.cqs_segment.specs.Slots.{SawAllTaken}
use Rattle.cqs_segment.proofs.slots.claim.Given as goal

-- each slot below this one was seen not free
abbrev pub invariant-loop-slot : goal.invariant-loop-slot
invariant-loop-slot g l =
    (l.seat.table_id ≡ l.words.table_id) × (l.seat.me.1 ≡ l.initial.seat.me.1)
    × SawAllTaken l.slot l.initial.seat.me.0 l.seat.me.0
