use Rattle.std.proofs.Common.{◌≡◌, []}
use Rattle.cqs_barrier.specs.Barrier.{barrier_object}
use Rattle.cqs_barrier.specs.Calls.{IsMine}
use Rattle.cqs_barrier.specs.Leaving.{HasLeaving, leaving_at}
use Rattle.cqs_rule.specs.Passes.{pass_view}
use Rattle.cqs_floor_shared_any.specs.RoundsOne.{HasNumbers}
use Rattle.cqs_floor_shared_kinds.specs.Runs.{Went}
use Rattle.cqs_floor_shared_any.proofs.kinds.round.leave_on.Given as goal

-- between two calls the pass is leaving the wait still, and has and waits for what it did
abbrev pub invariant-loop : goal.invariant-loop
invariant-loop g l = record {
  mine : IsMine l.barrier l.pass;
  numbers : HasNumbers (pass_view l.pass);
  has : HasLeaving (pass_view l.pass) l.leaving;
  same_wait : (leaving_at l.leaving).index ≡ (leaving_at l.fn.leaving).index;
  went : Went barrier_object (pass_view l.fn.pass) [] (pass_view l.pass);
  held : (pass_view l.pass).facts.has.held ≡ (pass_view l.fn.pass).facts.has.held;
  waits : (pass_view l.pass).facts.waits ≡ (pass_view l.fn.pass).facts.waits;
}
