use Rattle.cqs_limiter.proofs.Running.{first-push}
use Rattle.cqs_limiter.proofs.limits.tenants_of.Goals as goal

pub loop-tenant-preserved : goal.loop-tenant-preserved
loop-tenant-preserved c =
    rw c.in_ok-push.ensures.items (
    first-push c.args.requests.now c.loop-tenant.tenant c.loop-tenant.tenants.items c.in_ok-made.made
    c.loop-tenant.invariant c.in_ok-made.ensures
    )
