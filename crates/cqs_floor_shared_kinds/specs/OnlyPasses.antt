-- The one live pass of the table that a resource stands on.
use Rattle.std.specs.Prelude.{ℕ, ◌<◌}
use Rattle.std.specs.Arc.{arc_value}
use Rattle.cqs_core.specs.Parts.{Has}
use Rattle.cqs_plan.specs.declared.plans.kind.Kind.{Kind}
use Rattle.cqs_pool.specs.Calls.{IsMine as IsMineAtPool}
use Rattle.cqs_rule.specs.Passes.{pass_view}
use Rattle.cqs_rule_laws.specs.declared.view.View.{View}
use Rattle.cqs_semaphore.specs.Calls.{IsMine}
use Rattle.cqs_floor_shared_kinds.specs.declared.kinds.permits.SharedPermits.{SharedPermits}
use Rattle.cqs_floor_shared_kinds.specs.declared.kinds.pool.SharedPool.{SharedPool}
use Rattle.cqs_floor_shared_kinds.specs.PermitRuns.{IsOfPermits}
use Rattle.cqs_floor_shared_kinds.specs.PoolRuns.{IsPool}

-- Each number that a pass of the table may have is this pass's own: it is the one live pass, since
-- no two live passes have a number in common.
abbrev pub HasAllNumbers : {E S : Type 0} → View E S → Type 0
HasAllNumbers v = (n : ℕ) → n < v.passes → Has n v.own

-- it is a semaphore for a semaphore or a mutex, and for a pool a pool; and its pass is its own, and
-- the one live pass there
abbrev pub HasOnlyPermitPass : Kind → SharedPermits → Type 0
HasOnlyPermitPass k x =
    IsOfPermits k × IsMine (arc_value x.semaphore) x.pass × HasAllNumbers (pass_view x.pass)

abbrev pub HasOnlyPoolPass : Kind → SharedPool → Type 0
HasOnlyPoolPass k x =
    IsPool k × IsMineAtPool (arc_value x.pool) x.pass × HasAllNumbers (pass_view x.pass)
