-- What is written for a number: a line of what was asked for, and the summary of the plan's report.
use Rattle.std.specs.Prelude.{◌≡◌, ℕ, List, ◌++◌, codes}
use Rattle.std.specs.Fmt.{decimal}
use Rattle.cqs_plan.specs.LegalFloor.{IsLegalFor}
use Rattle.cqs_plan_generator.specs.Generated.{plan_of_number}
use Rattle.cqs_turns_report.specs.Report.{summary_of}
use Rattle.cqs_cli.specs.Plans.{floor_after}
use Rattle.cqs_cli.specs.Words.{IsGen}

-- the line of what was asked for
abbrev pub asked_line : ℕ → ℕ → List ℕ
asked_line number jobs =
    codes "gen number " ++ decimal number ++ codes " jobs " ++ decimal jobs ++ codes "\n"

-- what is written for the plan of this number with so many jobs
abbrev pub summary_text : ℕ → ℕ → List ℕ
summary_text number jobs = asked_line number jobs ++ summary_of (plan_of_number number jobs)

-- The text is that of the turn machine on this plan, and what happened to each of the plan's
-- resources is a legal history of it.
pub record IsSummaryOf (number jobs : ℕ) (text : List ℕ) : Type 0 where
  pub summed : text ≡ summary_text number jobs
  pub legal : IsLegalFor (plan_of_number number jobs) (floor_after (plan_of_number number jobs))

-- the words ask for the plan of a number, and the text is what is written for it
pub record IsSummary (words : List (List ℕ)) (text : List ℕ) : Type 0 where
  pub number : ℕ
  pub jobs : ℕ
  pub asked : IsGen number jobs words
  pub right : IsSummaryOf number jobs text
