use Rattle.std.proofs.Common.{◌≡◌, []}
use Rattle.cqs_latch.specs.Calls.{IsMine}
use Rattle.cqs_latch.specs.Latch.{latch_object}
use Rattle.cqs_latch.specs.Owed.{HasOwed}
use Rattle.cqs_rule.specs.Passes.{pass_view}
use Rattle.cqs_floor_shared_kinds.specs.Runs.{Went}
use Rattle.cqs_floor_shared_any.proofs.kinds.latch.finish.Given as goal

-- between two calls the resumptions are on their way still, and the pass waits for what it did
abbrev pub invariant-loop : goal.invariant-loop
invariant-loop g l = record {
  mine : IsMine l.latch l.pass;
  owes : HasOwed (pass_view l.pass).facts l.owed;
  went : Went latch_object (pass_view l.fn.pass) [] (pass_view l.pass);
  waits : (pass_view l.pass).facts.waits ≡ (pass_view l.fn.pass).facts.waits;
}
