use Rattle.std.proofs.Common.{◌<◌, vec_capacity, None, Some, [], ◌∷◌, refl, sym, subst}
use Rattle.std.specs.Arc.{arc_value}
use Rattle.cqs_pool.specs.declared.answers.PoolLeft.TheVariants.{Cancelled, TooLate}
use Rattle.cqs_pool.specs.Answers.{LeavesPass}
use Rattle.cqs_pool.specs.Calls.{CallRule, IsMine}
use Rattle.cqs_pool.specs.Elements.{number_of}
use Rattle.cqs_pool.specs.Entries.{passed_further}
use Rattle.cqs_pool.specs.Steps.{HasCancelled}
use Rattle.cqs_pool_object.specs.declared.entries.PoolEntry.TheVariants as entry
use Rattle.cqs_rule.specs.Passes.{pass_view}
use Rattle.cqs_rule.specs.Waits.{place_of}
use Rattle.cqs_floor_shared_kinds.proofs.PoolShares.{pool-gone, pool-gone_late, pool-late, room-for-wait}
use Rattle.cqs_floor_shared_kinds.proofs.kinds.pool.SharedPool.leave.Goals as goal

pub cancel-requires-clause-belongs : goal.cancel-requires-clause-belongs
cancel-requires-clause-belongs g c κs =
    rw c.deref-2.ensures (subst (λ p. IsMine (arc_value c.args.self.now.pool) p) (sym c.wait_of-token.ensures.same)
    c.requires.funded.mine)

pub push_reserved-requires : goal.push_reserved-requires
push_reserved-requires g c =
    let told = rw (c.wait_of-token.ensures.same, c.in-TooLate.is) at c.cancel.ensures.cancelled in
    let leaves = rw (c.wait_of-token.ensures.same, c.in-TooLate.is) at c.cancel.ensures.leaves in
    subst (λ n. n < vec_capacity c.args.self.now.held) (sym c.args.self.now.held.ok.0)
    (room-for-wait c.args.self.now c.requires.a (pass_view c.cancel.new.pass) (number_of c.in-TooLate.element)
    c.requires.funded told.2.called.same.opening c.cancel.ensures.belongs.live.known leaves.elements_are)

pub returns-in-Cancelled-None : goal.returns-in-Cancelled-None
returns-in-Cancelled-None g c =
    let k = (place_of c.wait_of-token.result).index in
    let v = pass_view c.args.self.now.pass in
    let w = pass_view c.cancel.new.pass in
    let told : HasCancelled k v (Cancelled None) w
    = rw (c.wait_of-token.ensures.same, c.in-Cancelled-None.is, c.in-Cancelled-None.field-0-is)
    at c.cancel.ensures.cancelled in
    let leaves : LeavesPass k v (Cancelled None) w
    = rw (c.wait_of-token.ensures.same, c.in-Cancelled-None.is, c.in-Cancelled-None.field-0-is)
    at c.cancel.ensures.leaves in
    pool-gone _ _ refl (rw c.deref-2.ensures at c.cancel.ensures.belongs) refl _ c.wait_of-token.result _
    c.wait_of-token.ensures.place c.requires.has.0 c.requires.has.1.open_yet refl c.args.job
    (passed_further told.0 told.1) told.2 leaves

pub returns-in-Cancelled-Some : goal.returns-in-Cancelled-Some
returns-in-Cancelled-Some g c =
    let k = (place_of c.wait_of-token.result).index in
    let v = pass_view c.args.self.now.pass in
    let u = pass_view c.cancel.new.pass in
    let told : HasCancelled k v (Cancelled (Some c.in-Cancelled-Some.under)) u
    = rw (c.wait_of-token.ensures.same, c.in-Cancelled-Some.is, c.in-Cancelled-Some.field-0-is)
    at c.cancel.ensures.cancelled in
    let leaves : LeavesPass k v (Cancelled (Some c.in-Cancelled-Some.under)) u
    = rw (c.wait_of-token.ensures.same, c.in-Cancelled-Some.is, c.in-Cancelled-Some.field-0-is)
    at c.cancel.ensures.leaves in
    pool-gone_late _ _ refl (rw c.deref-in-Cancelled-Some.ensures at c.finish.ensures.mine) refl _
    c.wait_of-token.result _
    c.wait_of-token.ensures.place c.requires.has.0 c.requires.has.1.open_yet refl c.args.job
    (passed_further told.0 told.1) u told.2 leaves.2 leaves.3 c.finish.ensures.went c.finish.ensures.rests

pub returns-in-TooLate : goal.returns-in-TooLate
returns-in-TooLate g c =
    let k = (place_of c.wait_of-token.result).index in
    let v = pass_view c.args.self.now.pass in
    let w = pass_view c.cancel.new.pass in
    let e = number_of c.in-TooLate.element in
    let told : HasCancelled k v (TooLate c.in-TooLate.element) w
    = rw (c.wait_of-token.ensures.same, c.in-TooLate.is) at c.cancel.ensures.cancelled in
    let leaves : LeavesPass k v (TooLate c.in-TooLate.element) w
    = rw (c.wait_of-token.ensures.same, c.in-TooLate.is) at c.cancel.ensures.leaves in
    let rule : CallRule v (entry.Late v.number k e ∷ []) [] w
    = subst (λ passed. CallRule v (entry.Late v.number k e ∷ []) (passed_further told.0 passed) w) told.3.0 told.2 in
    rw c.number-number.ensures (pool-late _ _ refl (rw c.deref-2.ensures at c.cancel.ensures.belongs)
    c.push_reserved.ensures.capacity _ c.wait_of-token.result _
    c.wait_of-token.ensures.place c.requires.has.0 c.requires.has.1.open_yet c.args.job c.in-TooLate.element
    c.push_reserved.ensures.items leaves rule)
