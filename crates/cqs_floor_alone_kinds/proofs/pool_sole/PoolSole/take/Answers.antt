use Rattle.std.proofs.Common.{◌++◌, ◌∷◌, [], refl, subst, sym}
use Rattle.cqs_pool_object.specs.declared.entries.PoolEntry.TheVariants as entry
use Rattle.cqs_pool.specs.Calls.{IsMine}
use Rattle.cqs_rule.specs.Passes.{pass_view}
use Rattle.cqs_rule.specs.Waits.{place_of}
use Rattle.cqs_floor_alone_kinds.specs.Waits.{WaitsAt}
use Rattle.cqs_floor_alone_kinds.proofs.PoolCalls.{takes-comes, waits-comes}
use Rattle.cqs_floor_alone_kinds.proofs.PoolRests.{Comes}
use Rattle.cqs_floor_alone_kinds.proofs.PoolTakes.{pool-takes}
use Rattle.cqs_floor_alone_kinds.proofs.PoolWaits.{pool-waits_at}
use Rattle.cqs_floor_alone_kinds.proofs.pool_sole.PoolSole.take.Goals as goal

pub returns-in-Ok-Took : goal.returns-in-Ok-Took
returns-in-Ok-Took c =
    rw c.number-number.ensures (pool-takes _ _ c.in-Ok-Took.ensures.belongs c.push_reserved.ensures.capacity c.args.job
    c.in-Ok-Took.element c.push_reserved.ensures.items _
    (takes-comes _ _ c.in-Ok-Took.element (rw c.in-Ok-Took.field-0-is at c.in-Ok-Took.ensures.called)
    (rw c.in-Ok-Took.field-0-is at c.in-Ok-Took.ensures.took))
    (λ alone. ((rw c.in-Ok-Took.field-0-is at c.in-Ok-Took.ensures.alone) alone).0)
    (rw c.in-Ok-Took.field-0-is at c.in-Ok-Took.ensures.first)
    (rw c.in-Ok-Took.field-0-is at c.in-Ok-Took.ensures.new) refl refl)

pub returns-in-Ok-Later : goal.returns-in-Ok-Later
returns-in-Ok-Later c =
    let took = rw c.in-Ok-Later.field-0-is at c.in-Ok-Later.ensures.took in
    let comes = waits-comes _ _ c.in-Ok-Later.wait (rw c.in-Ok-Later.field-0-is at c.in-Ok-Later.ensures.called) took in
    let next = sym c.spend_wait.ensures.same in
    let v = pass_view c.args.self.now.pass in
    let k = (place_of c.in-Ok-Later.wait).index in
    pool-waits_at _ _ (subst (λ p. IsMine c.args.self.now.pool p) next c.in-Ok-Later.ensures.belongs) refl refl
    c.args.job _ _ c.spend_wait.ensures.place
    (λ only zero. subst (λ p. Comes v (pass_view p) (entry.Enter 0 k ∷ []) v.facts.has.slots (v.facts.waits ++ k ∷ []))
    next (comes only zero))
    (subst (λ p. WaitsAt (pass_view p) (place_of c.in-Ok-Later.wait)) next
    (record { open_yet = took.1.open_yet; place = took.1.place }))
    (rw c.in-Ok-Later.field-0-is at c.in-Ok-Later.ensures.alone) refl refl
