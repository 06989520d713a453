use Rattle.std.proofs.Common.{◌≡◌, vec_len}
use Rattle.cqs_turns_report.specs.Running.{AreOpening}
use Rattle.cqs_turns.proofs.runs.opening_states.Given as goal

abbrev pub invariant-loop-job : goal.invariant-loop-job
invariant-loop-job l = record {
  len : vec_len l.states ≡ l.job-index;
  opening : AreOpening l.states.items;
}
