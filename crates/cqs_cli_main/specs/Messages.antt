-- What is told on standard error.
use Rattle.std.specs.Prelude.{◌≡◌, ℕ, ◌⊎◌, List, [], ◌∷◌, ◌++◌, length, codes, Option, ◌==◌, if◌then◌else◌}
use Rattle.std.specs.Str.{bytes_eq}
use Rattle.cqs_cli_streams.specs.Stream.{Gains, GainsPrefix, Rises}
use Rattle.cqs_cli_streams.specs.Tally.{StopsAfter}
use Rattle.cqs_cli_streams.specs.declared.streams.tally.Tally.{Tally}
use Rattle.cqs_cli_top.specs.declared.kept.Kept.{Kept}
use Rattle.cqs_cli_top.specs.declared.kept.Kept.TheVariants as kept_as
use Rattle.cqs_work.specs.declared.plans.Worked.{Worked}
use Rattle.cqs_cli_streams.specs.declared.statuses.TheConstants.{DONE, NO_COMMAND, NO_MEMORY, NO_PLAN, SINK_FAILED, SOURCE_FAILED, TOO_LONG}

-- the line for words that are no command, by what the first of them is
abbrev pub wrong_after : List ℕ → List ℕ
wrong_after first =
    if bytes_eq first (codes "run") then
    codes "cqs: run has no more words; it reads a plan from standard input: cqs run < plan.toml\n"
    else if bytes_eq first (codes "work") then
    codes "cqs: work may have --workers N, N from 1 to 16: cqs work --workers 4 < plan.toml\n"
    else if bytes_eq first (codes "gen") then
    codes "cqs: gen has --number N, 0 to 2147483647, and --jobs M, 1 to 4096, in digits\n"
    else if bytes_eq first (codes "replay") then
    codes "cqs: replay has no more words; it reads a schedule: cqs replay < core.schedule\n"
    else if bytes_eq first (codes "history") then
    codes "cqs: history has no more words; it reads a schedule: cqs history < core.schedule\n"
    else if bytes_eq first (codes "check") then
    codes "cqs: check has no more words; it reads a history: cqs check < log.history\n"
    else if bytes_eq first (codes "limit") then
    codes "cqs: limit has no more words; it reads requests: cqs limit < day.requests\n"
    else codes "cqs: the first word is run, work, gen, replay, history, check or limit, "
    ++ codes "and all are UTF-8: cqs run < plan.toml\n"

abbrev pub wrong_words : List (List ℕ) → List ℕ
wrong_words [] = wrong_after []
wrong_words (first ∷ more) = wrong_after first

-- the line that tells the cause of a status after these words; none where standard output has
-- a report or a fault line
abbrev pub message : List (List ℕ) → ℕ → List ℕ
message words status =
    if status == NO_COMMAND then wrong_words words
    else if status == SOURCE_FAILED then codes "cqs: standard input could not be read\n"
    else if status == SINK_FAILED then codes "cqs: standard output could not be written\n"
    else if status == NO_MEMORY then codes "cqs: out of memory\n"
    else if status == TOO_LONG then codes "cqs: the input is longer than 1,048,576 bytes\n"
    else []

-- a sink was handed this text: it took all of it where it counted no fault, and a prefix in any
-- case
pub record IsTold (text : List ℕ) (faults now : ℕ) (held after : Option (List ℕ)) : Type 0 where
  pub whole : ¬ Rises faults now → Gains text held after
  pub part : GainsPrefix text held after

-- there is more to tell than the message of a status: the input was no plan, or workers have run
-- one
abbrev pub MayExplain : {F : Type 0} → ℕ → Kept F → Type 0
MayExplain {F} status kept =
    (status ≡ NO_PLAN) ⊎ ((status ≡ DONE) × ((worked : Worked F) × (kept ≡ kept_as.Worked worked)))

-- Standard error was handed one text: the message, or where there is more to tell, some text for
-- people. By its tally it took all of that text, where it counted no fault.
pub record IsAnswered {F : Type 0} (words : List (List ℕ)) (status : ℕ) (kept : Kept F)
    (faults now : ℕ) (held after : Option (List ℕ)) (old new : Tally) : Type 0 where
  pub text : List ℕ
  pub says : MayExplain status kept ⊎ (text ≡ message words status)
  pub told : IsTold text faults now held after
  pub counted : ¬ Rises faults now → StopsAfter (length text) old new

-- what standard error counted: its calls, and how often it failed
pub record StandardError : Type 0 where
  pub tally : Tally
  pub faults : ℕ
