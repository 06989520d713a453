use Rattle.std.proofs.Common.{◌≢◌, All}
use Rattle.std.specs.Vec.Iter.{into_iter_items}
use Rattle.cqs_rule.specs.Passes.{pass_view}
use Rattle.cqs_rule.specs.Waits.{HasWait, place_of}
use Rattle.cqs_test_semaphore.specs.Callers.{IsTaken}
use Rattle.cqs_test_semaphore.proofs.caller.Caller.take_wait.Given as goal

-- the waits so far are the one that is taken, or others
abbrev pub invariant-loop-wait : goal.invariant-loop-wait
invariant-loop-wait l = record {
  taken : IsTaken l.number l.fn.self l.taken;
  others : All (λ w. HasWait (pass_view l.fn.self.pass) w × ((place_of w).index ≢ l.number)) l.others.items;
  left : All (HasWait (pass_view l.fn.self.pass)) (into_iter_items l.wait-iterator);
}
