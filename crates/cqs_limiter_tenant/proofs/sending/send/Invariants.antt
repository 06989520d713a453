use Rattle.std.proofs.Common.{◌≡◌, ◌-◌, ◌^◌}
use Rattle.cqs_rule.specs.Owed.{under_reached}
use Rattle.cqs_rule.specs.Passes.{pass_view}
use Rattle.cqs_semaphore.specs.Calls.{IsMine}
use Rattle.cqs_limiter_tenant.proofs.Sends.{IsSending}
use Rattle.cqs_limiter_tenant.proofs.sending.send.Given as goal

abbrev pub invariant-loop-number : goal.invariant-loop-number
invariant-loop-number l = record {
  mine : IsMine l.semaphore l.pass;
  sending : IsSending 1 (pass_view l.fn.pass) (pass_view l.pass) l.under;
  reached : l.reached ≡ under_reached l.under;
}

abbrev pub decreases-loop-number : goal.decreases-loop-number
decreases-loop-number l = 2 ^ 64 - l.reached
