use Rattle.std.proofs.Common.{refl, subst, ◌≤◌, vec_capacity}
use Rattle.cqs_floor_shared_kinds.proofs.PoolSplits.{pool-split}
use Rattle.cqs_floor_shared_kinds.proofs.kinds.pool.SharedPool.split.Goals as goal

pub returns-in-Ok : goal.returns-in-Ok
returns-in-Ok c =
    pool-split _ _ _ refl (rw c.deref.ensures at c.in-Ok.ensures.belongs) refl
    (rw c.deref.ensures at c.in-Ok.ensures.new_belongs) c.in_ok-pool.ensures c.in_ok-held.ensures.items
    (subst (λ n. n ≤ vec_capacity c.in_ok-held.held) c.capacity.ensures c.in_ok-held.ensures.capacity)
    c.in-Ok.ensures.looked c.in-Ok.ensures.ready c.in-Ok.ensures.came c.in-Ok.ensures.new_ready c.args.gives
