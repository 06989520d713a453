-- The jobs that the total line counts.
use Rattle.std.specs.Prelude.{Bool}
use Rattle.cqs_turns_report.specs.declared.states.Progress.{Progress}
use Rattle.cqs_turns_report.specs.declared.texts.Counted.{Counted}
use Rattle.cqs_turns_report.specs.declared.texts.Counted.TheVariants.{Done, GaveUp, Late, Unfinished}
use Rattle.cqs_turns_report.specs.Lines.{is_done, has_given_up, is_late, is_unfinished}

-- how far they are
abbrev pub is_counted : Counted → Progress → Bool
is_counted Done = is_done
is_counted GaveUp = has_given_up
is_counted Late = is_late
is_counted Unfinished = is_unfinished
