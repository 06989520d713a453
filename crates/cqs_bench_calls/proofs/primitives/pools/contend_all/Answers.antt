use Rattle.std.proofs.Common.{subst, sym}
use Rattle.cqs_bench_calls.specs.Idle.{IsIdleAtPool}
use Rattle.cqs_bench_calls.proofs.primitives.pools.contend_all.Goals as goal

-- each thread gets one of the passes
pub map_vec-made-requires-after_bounds : goal.map_vec-made-requires-after_bounds
map_vec-made-requires-after_bounds g c κs within = λ i x less same.
    subst (IsIdleAtPool c.args.pool.now) (sym same) (c.requires.idle i x less)
