use Rattle.cqs_rule.specs.Passes.{pass_view}
use Rattle.cqs_bench_calls.proofs.Holding.{arrived-holds}
use Rattle.cqs_bench_calls.proofs.primitives.contended.seek_so.Goals as goal

-- the permit came
pub returns-in-Ok : goal.returns-in-Ok
returns-in-Ok g c =
    let arrives = rw c.in-Ok.is at c.acquire_wait.ensures.arrives in
    record {
      holder = record {
        idle = record { belongs = c.acquire_wait.ensures.belongs; ready = c.acquire_wait.ensures.ready };
        holds = arrived-holds (pass_view c.args.pass.now) (pass_view c.acquire_wait.new.pass) c.in-Ok.permit arrives;
      };
    }
