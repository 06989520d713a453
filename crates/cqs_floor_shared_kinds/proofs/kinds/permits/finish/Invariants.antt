use Rattle.std.proofs.Common.{◌≡◌, []}
use Rattle.cqs_rule.specs.Owed.{HasUnder}
use Rattle.cqs_rule.specs.Passes.{pass_view}
use Rattle.cqs_semaphore_client.specs.Semaphore.{semaphore_object}
use Rattle.cqs_semaphore.specs.Calls.{IsMine}
use Rattle.cqs_floor_shared_kinds.specs.Runs.{Went}
use Rattle.cqs_floor_shared_kinds.proofs.kinds.permits.finish.Given as goal

-- between two calls the permit is on its way still, and the pass holds and waits for what it did
abbrev pub invariant-loop : goal.invariant-loop
invariant-loop g l = record {
  mine : IsMine l.semaphore l.pass;
  owes : HasUnder (pass_view l.pass).facts l.under;
  further : (pass_view l.pass).facts.has.further ≡ 0;
  went : Went semaphore_object (pass_view l.fn.pass) [] (pass_view l.pass);
  held : (pass_view l.pass).facts.has.held ≡ (pass_view l.fn.pass).facts.has.held;
  waits : (pass_view l.pass).facts.waits ≡ (pass_view l.fn.pass).facts.waits;
}
