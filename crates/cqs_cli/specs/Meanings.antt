-- What the statuses of the program mean.
use Rattle.std.specs.Prelude.{◌≡◌, ℕ, ◌⊎◌, List, [], ◌∷◌, length, Option, Contains}
use Rattle.cqs_cli_streams.specs.Stream.{Gains, GainsPrefix}
use Rattle.cqs_cli_streams.specs.Tally.{StopsAfter, StopsWithin}
use Rattle.cqs_cli_streams.specs.declared.streams.tally.Tally.{Tally}
use Rattle.cqs_cli_streams.specs.Input.{IsInput}
use Rattle.cqs_cli.specs.Plans.{IsFaultLine, IsReport}
use Rattle.cqs_cli.specs.Summaries.{IsSummary}
use Rattle.cqs_cli.specs.Words.{IsCommand, IsRun, IsStudy, usage}
use Rattle.cqs_cli_streams.specs.declared.statuses.TheConstants.{BAD_TEXT, DONE, NO_COMMAND, NO_MEMORY, NO_PLAN, NOT_LEGAL, SINK_FAILED, SOURCE_FAILED, TOO_LONG}
use Rattle.cqs_cli_histories.specs.Studies.{IsBadText, IsNotLegal, IsStudyText}
use Rattle.cqs_cli_histories.specs.declared.studies.Study.{Study}

-- the input was a plan, and the sink took its whole report
pub record Reported (left after held now : Option (List ℕ)) : Type 0 where
  pub bytes : List ℕ
  pub input : IsInput bytes left after
  pub text : List ℕ
  pub report : IsReport bytes text
  pub written : Gains text held now

-- the words ask for the plan of a number, and the sink took all that is written for it
pub record Summed (words : List (List ℕ)) (held now : Option (List ℕ)) : Type 0 where
  pub text : List ℕ
  pub summary : IsSummary words text
  pub written : Gains text held now

-- the words ask for a study; the input was read, a text for it is of this kind, and of that text
-- this holds
pub record StudyTold (Is : Study → List ℕ → List ℕ → Type 0) (words : List (List ℕ))
    (left after : Option (List ℕ)) (Holds : List ℕ → Type 0) : Type 0 where
  pub study : Study
  pub asked : IsStudy study words
  pub bytes : List ℕ
  pub input : IsInput bytes left after
  pub text : List ℕ
  pub right : Is study bytes text
  pub holds : Holds text

-- the sink took what the command's words ask for: the report of the plan that was read, the
-- summary of the plan that was made, or what a study of the schedule or the history came to
abbrev pub HasTold : List (List ℕ) → Option (List ℕ) → Option (List ℕ) → Option (List ℕ)
    → Option (List ℕ) → Type 0
HasTold words left after held now =
    (IsRun words × Reported left after held now) ⊎ Summed words held now
    ⊎ StudyTold IsStudyText words left after (λ text. Gains text held now)

-- the input was no plan, and the sink took the whole line that says why, and counted it
pub record NamedFault (left after held now : Option (List ℕ)) (old new : Tally) : Type 0 where
  pub bytes : List ℕ
  pub input : IsInput bytes left after
  pub line : List ℕ
  pub fault : IsFaultLine bytes line
  pub written : Gains line held now
  pub counted : StopsAfter (length line) old new

-- the text that an input calls for
abbrev pub IsAnswer : List ℕ → List ℕ → Type 0
IsAnswer bytes text = IsReport bytes text ⊎ IsFaultLine bytes text

-- the text that a study of an input calls for
abbrev pub IsStudyAnswer : Study → List ℕ → List ℕ → Type 0
IsStudyAnswer study bytes text =
    IsStudyText study bytes text ⊎ IsBadText study bytes text ⊎ IsNotLegal study bytes text

-- the text that the words and the input call for
abbrev pub IsDue : List (List ℕ) → Option (List ℕ) → Option (List ℕ) → List ℕ → Type 0
IsDue words left after text =
    ((¬ IsCommand words) × (text ≡ usage))
    ⊎ (IsRun words × ((bytes : List ℕ) × IsInput bytes left after × IsAnswer bytes text))
    ⊎ IsSummary words text
    ⊎ StudyTold IsStudyAnswer words left after (λ due. due ≡ text)

-- the sink took a prefix of the text that the words and the input call for, and then it failed
pub record BrokeOff (words : List (List ℕ)) (left after held now : Option (List ℕ))
    (old new : Tally) : Type 0 where
  pub text : List ℕ
  pub due : IsDue words left after text
  pub prefix : GainsPrefix text held now
  pub counted : StopsWithin (length text) old new

-- the statuses that there are
abbrev pub IsStatus : ℕ → Type 0
IsStatus = Contains (DONE ∷ NO_COMMAND ∷ NO_PLAN ∷ SOURCE_FAILED ∷ SINK_FAILED ∷ NO_MEMORY
    ∷ TOO_LONG ∷ BAD_TEXT ∷ NOT_LEGAL ∷ [])
