-- Which words are a command, and the text for those that are none.
use Rattle.std.specs.Prelude.{◌≡◌, ◌≢◌, ℕ, ◌≤◌, ◌⊎◌, List, [], ◌∷◌, ◌++◌, Option, Some, None, codes}
use Rattle.std.specs.Fmt.{decimal}
use Rattle.cqs_cli.specs.declared.words.Command.{Command}
use Rattle.cqs_cli.specs.declared.words.Command.TheVariants.{Run, Gen, Read}
use Rattle.cqs_cli_histories.specs.declared.studies.Study.{Study}
use Rattle.cqs_cli_histories.specs.declared.studies.Study.TheVariants.{Replay, History, Check}

-- the words of the command that reads a plan and writes its report
abbrev pub IsRun : List (List ℕ) → Type 0
IsRun words = words ≡ codes "run" ∷ []

-- the words of the command that makes the plan of a number: its name, and then its two options in
-- either order, each with its number in decimal
abbrev pub SpellGen : ℕ → ℕ → List (List ℕ) → Type 0
SpellGen number jobs words =
    (words ≡ codes "gen" ∷ codes "--number" ∷ decimal number ∷ codes "--jobs" ∷ decimal jobs ∷ [])
    ⊎ (words
    ≡ codes "gen" ∷ codes "--jobs" ∷ decimal jobs ∷ codes "--number" ∷ decimal number ∷ [])

-- the words ask for the plan of this number with so many jobs, and both are in their ranges
pub record IsGen (number jobs : ℕ) (words : List (List ℕ)) : Type 0 where
  pub number_fits : number ≤ 2147483647
  pub some_jobs : 1 ≤ jobs
  pub few_jobs : jobs ≤ 4096
  pub spelled : SpellGen number jobs words

-- the words ask for the plan of some number
abbrev pub IsSomeGen : List (List ℕ) → Type 0
IsSomeGen words = (number : ℕ) × ((jobs : ℕ) × IsGen number jobs words)

-- the word of each command that reads a schedule or a history
abbrev pub study_word : Study → List ℕ
study_word Replay = codes "replay"
study_word History = codes "history"
study_word Check = codes "check"

-- the words ask for this study of an input
abbrev pub IsStudy : Study → List (List ℕ) → Type 0
IsStudy study words = words ≡ study_word study ∷ []

-- the words ask for some study
abbrev pub IsSomeStudy : List (List ℕ) → Type 0
IsSomeStudy words = (study : Study) × IsStudy study words

-- the words are a command
abbrev pub IsCommand : List (List ℕ) → Type 0
IsCommand words = IsRun words ⊎ IsSomeGen words ⊎ IsSomeStudy words

-- the words are those of a command that reads
abbrev pub Reads : List (List ℕ) → Type 0
Reads words = IsRun words ⊎ IsSomeStudy words

-- what is written where the words are no command
abbrev pub usage : List ℕ
usage =
    codes "usage: cqs run\n       cqs work [--workers N]\n       cqs gen --number N --jobs M\n"
    ++ codes "       cqs replay\n       cqs history\n       cqs check\n       cqs limit\n"

-- the words are this command, or none
abbrev pub IsCommandOf : List (List ℕ) → Option Command → Type 0
IsCommandOf words None = ¬ IsCommand words
IsCommandOf words (Some Run) = IsRun words
IsCommandOf words (Some (Gen number jobs)) = IsGen number jobs words
IsCommandOf words (Some (Read study)) = IsStudy study words

-- two words for a number and for jobs ask for this command, or for none
abbrev pub IsGenOf : List ℕ → List ℕ → Option Command → Type 0
IsGenOf number jobs None = (n m : ℕ)
    → ¬ IsGen n m (codes "gen" ∷ codes "--number" ∷ number ∷ codes "--jobs" ∷ jobs ∷ [])
IsGenOf number jobs (Some Run) = ⊥
IsGenOf number jobs (Some (Read study)) = ⊥
IsGenOf number jobs (Some (Gen n m)) =
    IsGen n m (codes "gen" ∷ codes "--number" ∷ number ∷ codes "--jobs" ∷ jobs ∷ [])

-- a word is this number in decimal, which is in the range, or it is none that is
abbrev pub IsNumberOf : List ℕ → ℕ → ℕ → Option ℕ → Type 0
IsNumberOf word least most None = (n : ℕ) → least ≤ n → n ≤ most → word ≢ decimal n
IsNumberOf word least most (Some n) = (least ≤ n) × (n ≤ most) × (word ≡ decimal n)
