use Rattle.std.proofs.Common.{◌<◌, vec_capacity, Ok, refl, sym, subst, ap, Err}
use Rattle.std.specs.Arc.{arc_value}
use Rattle.cqs_pool.specs.declared.answers.Taking.TheVariants.{Later}
use Rattle.cqs_pool.specs.Answers.{Takes}
use Rattle.cqs_pool.specs.Calls.{CallRule, IsMine}
use Rattle.cqs_pool.specs.Elements.{number_of}
use Rattle.cqs_pool.specs.Entries.{took_entries, took_further}
use Rattle.cqs_rule.specs.Passes.{pass_view}
use Rattle.cqs_floor_shared_kinds.proofs.PoolShares.{pool-takes, pool-takes_none, pool-takes_wait, room-for}
use Rattle.cqs_floor_shared_kinds.proofs.kinds.pool.SharedPool.take.Goals as goal

pub push_reserved-requires : goal.push_reserved-requires
push_reserved-requires g c =
    let took = rw c.in-Ok-Took.field-0-is at c.in-Ok-Took.ensures.took in
    let rule = rw c.in-Ok-Took.field-0-is at c.in-Ok-Took.ensures.called in
    subst (λ n. n < vec_capacity c.args.self.now.held) (sym c.args.self.now.held.ok.0)
    (room-for c.args.self.now c.requires.a (pass_view c.take.new.pass) (number_of c.in-Ok-Took.element)
    c.requires.funded
    rule.called.same.opening c.in-Ok-Took.ensures.belongs.live.known took.1.elements_are)

pub returns-in-Ok-Took : goal.returns-in-Ok-Took
returns-in-Ok-Took g c =
    let took = rw c.in-Ok-Took.field-0-is at c.in-Ok-Took.ensures.took in
    rw c.number-number.ensures (pool-takes _ _ refl (rw c.deref.ensures at c.in-Ok-Took.ensures.belongs)
    c.push_reserved.ensures.capacity c.args.job c.in-Ok-Took.element c.push_reserved.ensures.items
    (rw c.in-Ok-Took.field-0-is at c.in-Ok-Took.ensures.called) took.1)

pub returns-in-Ok-Later : goal.returns-in-Ok-Later
returns-in-Ok-Later g c =
    let rule = rw c.in-Ok-Later.field-0-is at c.in-Ok-Later.ensures.called in
    let took = rw c.in-Ok-Later.field-0-is at c.in-Ok-Later.ensures.took in
    let next = sym c.spend_wait.ensures.same in
    let v = pass_view c.args.self.now.pass in
    let wait = c.in-Ok-Later.wait in
    let then_rule = subst (λ p. CallRule v (took_entries v.number (Ok (Later wait))) (took_further (Ok (Later wait)))
    (pass_view p)) next rule in
    let then_took = subst (λ p. Takes v (Later wait) (pass_view p)) next took in
    pool-takes_wait _ _ refl
    (subst (λ p. IsMine (arc_value c.args.self.now.pool) p) next (rw c.deref.ensures at c.in-Ok-Later.ensures.belongs))
    refl refl c.args.job wait _ c.spend_wait.ensures.place then_rule then_took.1 then_took.2

pub returns-in-Err-Worn : goal.returns-in-Err-Worn
returns-in-Err-Worn g c =
    pool-takes_none _ _ refl (rw c.deref.ensures at c.in-Err-Worn.ensures.belongs) refl refl c.args.job
    c.in-Err-Worn.ensures.called (c.in-Err-Worn.ensures.worn (ap Err c.in-Err-Worn.field-0-is))
    c.in-Err-Worn.ensures.ready
