use Rattle.std.proofs.Common.{◌≡◌, ◌++◌, drop}
use Rattle.cqs_cli_top.specs.WorkText.{jobs_text}
use Rattle.cqs_cli_top.proofs.texts.push_jobs.Given as goal

abbrev pub invariant-loop-place : goal.invariant-loop-place
invariant-loop-place l =
    l.text.items ++ jobs_text (drop l.place l.jobs) (drop l.place l.ends)
    ≡ l.initial.text.items ++ jobs_text l.jobs l.ends
