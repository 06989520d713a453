use Rattle.std.proofs.Common.{◌≡◌, ◌+◌, ◌≤◌, drop}
use Rattle.cqs_limiter_workers.specs.Sights.{own}
use Rattle.cqs_limiter_tenant.specs.Tenants.{enters}
use Rattle.cqs_limiter_tenant.proofs.making.enters_of.Given as goal

abbrev pub invariant-loop-line : goal.invariant-loop-line
invariant-loop-line l =
    (l.enters + enters (own l.tenant (drop l.line-index l.lines)) ≡ enters (own l.tenant l.lines))
    × (l.enters ≤ l.line-index)
