use Rattle.std.proofs.Common.{◌≡◌, []}
use Rattle.cqs_barrier.specs.Barrier.{barrier_object}
use Rattle.cqs_barrier.specs.Calls.{IsMine}
use Rattle.cqs_barrier.specs.Resuming.{HasOwing}
use Rattle.cqs_rule.specs.Passes.{pass_view}
use Rattle.cqs_floor_shared_kinds.specs.Runs.{Went}
use Rattle.cqs_floor_shared_any.proofs.kinds.round.finish.Given as goal

-- between two calls the pass owes still, and has and waits for what it did
abbrev pub invariant-loop : goal.invariant-loop
invariant-loop g l = record {
  mine : IsMine l.barrier l.pass;
  owes : HasOwing (pass_view l.pass).facts l.owing;
  went : Went barrier_object (pass_view l.fn.pass) [] (pass_view l.pass);
  held : (pass_view l.pass).facts.has.held ≡ (pass_view l.fn.pass).facts.has.held;
  waits : (pass_view l.pass).facts.waits ≡ (pass_view l.fn.pass).facts.waits;
}
