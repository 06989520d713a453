use Rattle.std.proofs.Common.{sym, subst}
use Rattle.cqs_limiter_workers.specs.Noting.{told_by}
use Rattle.cqs_limiter_workers.specs.Running.{CanRun, HasRun}
use Rattle.cqs_limiter_tenant.specs.Tenants.{tenant_sight}
use Rattle.cqs_limiter.proofs.Running.{can-run, has-limited}
use Rattle.cqs_limiter.proofs.limits.limit_run.Goals as goal

pub run-requires-clause-can : goal.run-requires-clause-can
run-requires-clause-can g c = λ κs bounds.
    subst (λ l. CanRun tenant_sight l c.in_ok-tenants.tenants.items) (sym c.as_slice.ensures.value)
    (can-run c.args.requests.now c.in_ok-tenants.tenants.items c.requires.valid c.in_ok-tenants.ensures)

pub returns : goal.returns
returns g c =
    let told = told_by g.G.Gate.begun g.G.Gate.ended c.args.gate.now in
    rw c.limited_by.ensures (
    has-limited c.args.requests.now told c.in_ok-tenants.tenants.items c.args.workers c.in_ok-ran.ran
    c.in_ok-tenants.ensures
    (subst (λ l. HasRun tenant_sight told l c.in_ok-tenants.tenants.items c.args.workers c.in_ok-ran.ran)
    c.as_slice.ensures.value c.in_ok-ran.ensures)
    )
