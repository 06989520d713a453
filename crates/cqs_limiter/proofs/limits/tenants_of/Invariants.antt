use Rattle.cqs_limiter.proofs.Running.{AreFirst}
use Rattle.cqs_limiter.proofs.limits.tenants_of.Given as goal

abbrev pub invariant-loop-tenant : goal.invariant-loop-tenant
invariant-loop-tenant l = AreFirst l.requests l.tenant l.tenants.items
