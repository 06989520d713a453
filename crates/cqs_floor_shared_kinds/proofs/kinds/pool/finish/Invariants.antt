use Rattle.std.proofs.Common.{◌≡◌, []}
use Rattle.cqs_pool.specs.Calls.{IsMine}
use Rattle.cqs_pool.specs.Pool.{pool_object}
use Rattle.cqs_rule.specs.Owed.{HasUnder, under_payload}
use Rattle.cqs_rule.specs.Passes.{pass_view}
use Rattle.cqs_floor_shared_kinds.specs.Runs.{Went}
use Rattle.cqs_floor_shared_kinds.proofs.kinds.pool.finish.Given as goal

-- between two calls the element is on its way still, and the pass has and waits for what it did
abbrev pub invariant-loop : goal.invariant-loop
invariant-loop g l = record {
  mine : IsMine l.pool l.pass;
  owes : HasUnder (pass_view l.pass).facts l.under;
  brings : under_payload l.under ≡ under_payload l.fn.under;
  further : (pass_view l.pass).facts.has.further ≡ 0;
  went : Went pool_object (pass_view l.fn.pass) [] (pass_view l.pass);
  slots : (pass_view l.pass).facts.has.slots ≡ (pass_view l.fn.pass).facts.has.slots;
  waits : (pass_view l.pass).facts.waits ≡ (pass_view l.fn.pass).facts.waits;
}
