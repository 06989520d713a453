-- How the jobs of a plan ended, and how many in each way.
use Rattle.std.specs.Prelude.{◌≡◌, Bool, true, false, List, count_by}
use Rattle.cqs_work.specs.declared.ends.JobEnd.{JobEnd}
use Rattle.cqs_work.specs.declared.ends.JobEnd.TheVariants.{Done, GaveUp, Late, Crowded, Unfinished}
use Rattle.cqs_work.specs.declared.ends.Totals.{Totals}
use Rattle.cqs_turns_report.specs.declared.states.End.TheVariants as end
use Rattle.cqs_turns_report.specs.declared.states.Progress.{Progress}
use Rattle.cqs_turns_report.specs.declared.states.Progress.TheVariants.{Stepping, Working, Waiting, Ended}

-- how a job ended that is so far after the last turn
abbrev pub job_end : Progress → JobEnd
job_end (Ended end.Done) = Done
job_end (Ended end.GaveUp) = GaveUp
job_end (Ended end.Late) = Late
job_end (Ended end.Crowded) = Crowded
job_end (Stepping next) = Unfinished
job_end (Working next until) = Unfinished
job_end (Waiting next at round number) = Unfinished

abbrev pub is_done : JobEnd → Bool
is_done Done = true
is_done GaveUp = false
is_done Late = false
is_done Crowded = false
is_done Unfinished = false

abbrev pub has_given_up : JobEnd → Bool
has_given_up GaveUp = true
has_given_up Done = false
has_given_up Late = false
has_given_up Crowded = false
has_given_up Unfinished = false

abbrev pub is_late : JobEnd → Bool
is_late Late = true
is_late Done = false
is_late GaveUp = false
is_late Crowded = false
is_late Unfinished = false

abbrev pub is_crowded : JobEnd → Bool
is_crowded Crowded = true
is_crowded Done = false
is_crowded GaveUp = false
is_crowded Late = false
is_crowded Unfinished = false

abbrev pub is_unfinished : JobEnd → Bool
is_unfinished Unfinished = true
is_unfinished Done = false
is_unfinished GaveUp = false
is_unfinished Late = false
is_unfinished Crowded = false

-- the totals are the numbers of jobs with each end
pub record AreTotals (ends : List JobEnd) (totals : Totals) : Type 0 where
  pub done : totals.done ≡ count_by is_done ends
  pub gave_up : totals.gave_up ≡ count_by has_given_up ends
  pub late : totals.late ≡ count_by is_late ends
  pub crowded : totals.crowded ≡ count_by is_crowded ends
  pub unfinished : totals.unfinished ≡ count_by is_unfinished ends
