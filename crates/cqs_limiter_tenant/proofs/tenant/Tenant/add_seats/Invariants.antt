use Rattle.cqs_limiter_tenant.proofs.Opened.{IsSeating}
use Rattle.cqs_limiter_tenant.proofs.tenant.Tenant.add_seats.Given as goal

abbrev pub invariant-loop-line : goal.invariant-loop-line
invariant-loop-line l = IsSeating l.fn.self l.tenant l.lines l.line-index l.self
