use Rattle.std.proofs.Common.{◌≡◌, ◌*◌, map}
use Rattle.std.specs.List.{range_with_len}
use Rattle.cqs_plan_generator.specs.Draws.{state_after}
use Rattle.cqs_plan_generator.specs.Generated.{nth_job}
use Rattle.cqs_plan_generator.proofs.making.make_jobs.Given as goal

abbrev pub invariant-loop-index : goal.invariant-loop-index
invariant-loop-index l = record {
  made : l.made.items ≡ map (nth_job l.number) (range_with_len 0 l.index);
  state : l.draws.state ≡ state_after l.number (3 * l.index);
}
