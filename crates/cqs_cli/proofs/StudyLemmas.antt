-- What a study of an input came to, as it was told, and nothing of it is kept.
use Rattle.std.proofs.Common.{◌≡◌, ◌≢◌, ℕ, ◌<◌, ◌≤◌, ◌⊎◌, inl, inr, List, length, Option, Some, ◌∙◌, sym, subst, arith, refl}
use Rattle.cqs_cli_streams.specs.Counts.{Rises}
use Rattle.cqs_cli_streams.specs.declared.streams.sink.Sink.{Ghosts as Sink}
use Rattle.cqs_cli_streams.specs.declared.streams.source.Source.{Ghosts as Source}
use Rattle.cqs_cli.specs.KeptRuns.{Keeps}
use Rattle.cqs_cli.specs.Meanings.{IsStudyAnswer, StudyTold}
use Rattle.cqs_cli.specs.Tellings.{Tells, studied_status, studied_text}
use Rattle.cqs_cli.specs.Verdicts.{HasStudied, IsVerdict}
use Rattle.cqs_cli.specs.Words.{IsSomeStudy, IsStudy}
use Rattle.cqs_cli.specs.declared.kept.Kept.{Kept}
use Rattle.cqs_cli.specs.declared.kept.Kept.TheVariants.{Nothing}
use Rattle.cqs_cli.specs.declared.verdict.Verdict.{Verdict}
use Rattle.cqs_cli.specs.declared.verdict.Verdict.TheVariants as verdict
use Rattle.cqs_cli_streams.proofs.Inputs.{gave-as-many, input-told}
use Rattle.cqs_cli_streams.specs.Sayings.{MustEnd, Wrote}
use Rattle.cqs_cli.proofs.WordLemmas.{gen-is-no-study, one-study, run-is-no-study}
use Rattle.cqs_cli_histories.proofs.OneAnswer.{form-has-no-fault, illegal-has-form, illegal-has-no-text, illegal-input-has-form, legal-has-no-fault, legal-input-has-form, text-has-form}
use Rattle.cqs_cli_histories.specs.Studies.{HasForm, IsBadText, IsIllegalInput, IsLegalInput, IsNotLegal, IsStudied, IsStudyText}
use Rattle.cqs_cli_histories.specs.declared.studies.Studied.{Studied}
use Rattle.cqs_cli_histories.specs.declared.studies.Studied.TheVariants as studied
use Rattle.cqs_cli_histories.specs.declared.studies.Study.{Study}

-- the statuses of what a study came to
pub studied-statuses : (found : Studied)
    → (studied_status found ≡ 0) ⊎ (studied_status found ≡ 8) ⊎ (studied_status found ≡ 9)
studied-statuses (studied.Text text) = inl refl
studied-statuses (studied.BadText line) = inr (inl refl)
studied-statuses (studied.NotLegal line) = inr (inr refl)

pub no-fault-status : (found : Studied) → studied_status found ≡ 5 → ⊥
no-fault-status (studied.Text text) five = omega (arith, five)
no-fault-status (studied.BadText line) five = omega (arith, five)
no-fault-status (studied.NotLegal line) five = omega (arith, five)

-- the verdict is on no study
abbrev pub IsNoStudy : Verdict → Type 0
IsNoStudy (verdict.Studied found) = ⊥
IsNoStudy verdict.NoCommand = Unit {0}
IsNoStudy (verdict.Report text) = Unit {0}
IsNoStudy (verdict.Summary text) = Unit {0}
IsNoStudy (verdict.NoPlan line) = Unit {0}
IsNoStudy verdict.SourceFailed = Unit {0}
IsNoStudy verdict.NoMemory = Unit {0}
IsNoStudy verdict.TooLong = Unit {0}

module _ {K : Type 0} (of_sink : Sink K) (sink sink_after : K) where
  open of_sink use {faults as sink_faults}

  -- a study is told with none of the statuses from 1 to 7 but 5
  pub study-statuses : (found : Studied) (status : ℕ) → Tells of_sink (verdict.Studied found) status sink sink_after
      → (n : ℕ) → status ≡ n → (0 < n) × (n < 8) × (n ≢ 5) → ⊥
  study-statuses found status (inr (is, broke)) n same within = within.2 (sym same ∙ is)
  study-statuses found status (inl (is, wrote)) n same within = elim (studied-statuses found) [
    | inl zero ↦ omega (arith, is, zero, same, within.0)
    | inr (inl eight) ↦ omega (arith, is, eight, same, within.1)
    | inr (inr nine) ↦ omega (arith, is, nine, same, within.1)
  ]

  -- and where it isn't 5 the sink counted no fault
  pub study-calm : (found : Studied) (status : ℕ) → Tells of_sink (verdict.Studied found) status sink sink_after
      → status ≢ 5 → sink_faults sink_after ≡ sink_faults sink
  study-calm found status (inl (is, wrote)) other = wrote.calm
  study-calm found status (inr (is, broke)) other = absurd (other is)

-- which status goes with an input
pub legal-found : (study : Study) (bytes : List ℕ) → IsLegalInput study bytes → (found : Studied)
    → IsStudied study bytes found → studied_status found ≡ 0
legal-found study bytes legal (studied.Text text) right = refl
legal-found study bytes legal (studied.BadText line) right =
    absurd (form-has-no-fault study bytes line.items (legal-input-has-form study bytes legal) right)
legal-found study bytes legal (studied.NotLegal line) right =
    absurd (legal-has-no-fault study bytes line.items legal right)

pub wrong-found : (study : Study) (bytes : List ℕ) → ¬ HasForm study bytes → (found : Studied)
    → IsStudied study bytes found → studied_status found ≡ 8
wrong-found study bytes none (studied.Text text) right = absurd (none (text-has-form study bytes text.items right))
wrong-found study bytes none (studied.BadText line) right = refl
wrong-found study bytes none (studied.NotLegal line) right =
    absurd (none (illegal-has-form study bytes line.items right))

pub illegal-found : (study : Study) (bytes : List ℕ) → IsIllegalInput study bytes → (found : Studied)
    → IsStudied study bytes found → studied_status found ≡ 9
illegal-found study bytes illegal (studied.Text text) right =
    absurd (illegal-has-no-text study bytes text.items illegal right)
illegal-found study bytes illegal (studied.BadText line) right =
    absurd (form-has-no-fault study bytes line.items (illegal-input-has-form study bytes illegal) right)
illegal-found study bytes illegal (studied.NotLegal line) right = refl

module _ (words : List (List ℕ)) (left after : Option (List ℕ)) where
  -- the text that was due
  pub due-of : (found : Studied) → HasStudied words found left after
      → StudyTold IsStudyAnswer words left after (λ due. due ≡ studied_text found)
  due-of (studied.Text text) read = record {
    study = read.study;
    asked = read.asked;
    bytes = read.bytes;
    input = read.input;
    text = text.items;
    right = inl read.right;
    holds = refl;
  }
  due-of (studied.BadText line) read = record {
    study = read.study;
    asked = read.asked;
    bytes = read.bytes;
    input = read.input;
    text = line.items;
    right = inr (inl read.right);
    holds = refl;
  }
  due-of (studied.NotLegal line) read = record {
    study = read.study;
    asked = read.asked;
    bytes = read.bytes;
    input = read.input;
    text = line.items;
    right = inr (inr read.right);
    holds = refl;
  }

  -- the text of each status
  pub text-of : (found : Studied) → HasStudied words found left after → (Holds : List ℕ → Type 0)
      → Holds (studied_text found) → studied_status found ≡ 0 → StudyTold IsStudyText words left after Holds
  text-of (studied.Text text) read Holds holds zero = record {
    study = read.study;
    asked = read.asked;
    bytes = read.bytes;
    input = read.input;
    text = text.items;
    right = read.right;
    holds = holds;
  }
  text-of (studied.BadText line) read Holds holds zero = absurd (omega (arith, zero))
  text-of (studied.NotLegal line) read Holds holds zero = absurd (omega (arith, zero))

  bad-of : (found : Studied) → HasStudied words found left after → (Holds : List ℕ → Type 0)
      → Holds (studied_text found) → studied_status found ≡ 8 → StudyTold IsBadText words left after Holds
  bad-of (studied.BadText line) read Holds holds eight = record {
    study = read.study;
    asked = read.asked;
    bytes = read.bytes;
    input = read.input;
    text = line.items;
    right = read.right;
    holds = holds;
  }
  bad-of (studied.Text text) read Holds holds eight = absurd (omega (arith, eight))
  bad-of (studied.NotLegal line) read Holds holds eight = absurd (omega (arith, eight))

  illegal-of : (found : Studied) → HasStudied words found left after → (Holds : List ℕ → Type 0)
      → Holds (studied_text found) → studied_status found ≡ 9 → StudyTold IsNotLegal words left after Holds
  illegal-of (studied.NotLegal line) read Holds holds nine = record {
    study = read.study;
    asked = read.asked;
    bytes = read.bytes;
    input = read.input;
    text = line.items;
    right = read.right;
    holds = holds;
  }
  illegal-of (studied.Text text) read Holds holds nine = absurd (omega (arith, nine))
  illegal-of (studied.BadText line) read Holds holds nine = absurd (omega (arith, nine))

  -- it is right for the study that the words ask for, and for the bytes that the source told
  right-of : (found : Studied) → HasStudied words found left after → (study : Study) → IsStudy study words
      → (bytes : List ℕ) → left ≡ Some bytes → IsStudied study bytes found
  right-of found read study asked bytes tells =
      let same = one-study study read.study words asked read.asked in
      let told = input-told read.bytes bytes left after read.input tells in
      rw (same, told) read.right

module _ {S K : Type 0} (of_source : Source S) (of_sink : Sink K) (words : List (List ℕ))
    (source source_after : S) (sink sink_after : K) where
  open of_source use {left, faults as source_faults}
  open of_sink use {faults as sink_faults}

  abbrev IsRight : Verdict → Type 0
  IsRight given = IsVerdict left source_faults words given source source_after

  -- a verdict that is right, and was told with this status
  abbrev Ends : Verdict → ℕ → Type 0
  Ends given status = IsRight given × Tells of_sink given status sink sink_after

  -- a study that was told whole with this status
  record Told (given : Verdict) (status : ℕ) : Type 0 where
    found : Studied
    is : given ≡ verdict.Studied found
    status_is : status ≡ studied_status found
    wrote : Wrote of_sink (studied_text found) sink sink_after

  -- a status above 7 is that of a study
  is-study : (given : Verdict) (status : ℕ) → Tells of_sink given status sink sink_after → 8 ≤ status
      → Told given status
  is-study (verdict.Studied found) status (inl (is, wrote)) high =
      record { found = found; is = refl; status_is = is; wrote = wrote }
  is-study (verdict.Studied found) status (inr (is, broke)) high = absurd (omega (arith, is, high))
  is-study verdict.NoCommand status (inl (is, wrote)) high = absurd (omega (arith, is, high))
  is-study verdict.NoCommand status (inr (is, broke)) high = absurd (omega (arith, is, high))
  is-study (verdict.Report text) status (inl (is, wrote)) high = absurd (omega (arith, is, high))
  is-study (verdict.Report text) status (inr (is, broke)) high = absurd (omega (arith, is, high))
  is-study (verdict.Summary text) status (inl (is, wrote)) high = absurd (omega (arith, is, high))
  is-study (verdict.Summary text) status (inr (is, broke)) high = absurd (omega (arith, is, high))
  is-study (verdict.NoPlan line) status (inl (is, wrote)) high = absurd (omega (arith, is, high))
  is-study (verdict.NoPlan line) status (inr (is, broke)) high = absurd (omega (arith, is, high))
  is-study verdict.SourceFailed status (is, untouched) high = absurd (omega (arith, is, high))
  is-study verdict.NoMemory status (is, untouched) high = absurd (omega (arith, is, high))
  is-study verdict.TooLong status (is, untouched) high = absurd (omega (arith, is, high))

  -- what was read for it
  read-for : (given : Verdict) (found : Studied) → IsRight given → given ≡ verdict.Studied found
      → HasStudied words found (left source) (left source_after)
  read-for given found right is = (subst IsRight is right).1

  pub bad-told : (given : Verdict) (status : ℕ) → Ends given status → status ≡ 8
      → StudyTold IsBadText words (left source) (left source_after) (λ line. Wrote of_sink line sink sink_after)
  bad-told given status ended eight =
      let told = is-study given status ended.1 (omega (arith, eight)) in
      bad-of words (left source) (left source_after) told.found (read-for given told.found ended.0 told.is)
      (λ line. Wrote of_sink line sink sink_after) told.wrote (sym told.status_is ∙ eight)

  pub illegal-told : (given : Verdict) (status : ℕ) → Ends given status → status ≡ 9
      → StudyTold IsNotLegal words (left source) (left source_after) (λ line. Wrote of_sink line sink sink_after)
  illegal-told given status ended nine =
      let told = is-study given status ended.1 (omega (arith, nine)) in
      illegal-of words (left source) (left source_after) told.found (read-for given told.found ended.0 told.is)
      (λ line. Wrote of_sink line sink sink_after) told.wrote (sym told.status_is ∙ nine)

  -- with status 0 the whole text of a study was written, where the words ask for one
  pub told-whole : (given : Verdict) (status : ℕ) → Ends given status → status ≡ 0 → IsSomeStudy words
      → StudyTold IsStudyText words (left source) (left source_after) (λ text. Wrote of_sink text sink sink_after)
  told-whole (verdict.Studied found) status ((calm, read), inl (is, wrote)) zero some =
      text-of words (left source) (left source_after) found read (λ text. Wrote of_sink text sink sink_after) wrote
      (sym is ∙ zero)
  told-whole (verdict.Studied found) status (right, inr (is, broke)) zero some = absurd (omega (arith, is, zero))
  told-whole verdict.NoCommand status ((wrong, _), told) zero some = absurd (wrong (inr (inr some)))
  told-whole (verdict.Report text) status ((run, _, _), told) zero some = absurd (run-is-no-study words run some)
  told-whole (verdict.NoPlan line) status ((run, _, _), told) zero some = absurd (run-is-no-study words run some)
  told-whole (verdict.Summary text) status ((summary, _), told) zero some =
      absurd (gen-is-no-study words (summary.number, (summary.jobs, summary.asked)) some)
  told-whole verdict.SourceFailed status (right, (is, untouched)) zero some = absurd (omega (arith, is, zero))
  told-whole verdict.NoMemory status (right, (is, untouched)) zero some = absurd (omega (arith, is, zero))
  told-whole verdict.TooLong status (right, (is, untouched)) zero some = absurd (omega (arith, is, zero))

  -- the status that must come of an input that the source told, where no fault came
  pub answers-study : (given : Verdict) (status : ℕ) → Ends given status → (study : Study) → IsStudy study words
      → (bytes : List ℕ) → left source ≡ Some bytes → length bytes ≤ 1048576
      → ¬ Rises (source_faults source) (source_faults source_after)
      → ¬ Rises (sink_faults sink) (sink_faults sink_after) → (wanted : ℕ)
      → ((found : Studied) → IsStudied study bytes found → studied_status found ≡ wanted) → MustEnd wanted status
  answers-study (verdict.Studied found) status ((_, read), inl (is, wrote)) study asked bytes tells few calm quiet
      wanted so =
      inl (is ∙ so found (right-of words (left source) (left source_after) found read study asked bytes tells))
  answers-study (verdict.Studied found) status (right, inr (is, broke)) study asked bytes tells few calm quiet wanted
      so = absurd (quiet broke.cause)
  answers-study verdict.NoCommand status ((wrong, _), told) study asked bytes tells few calm quiet wanted so =
      absurd (wrong (inr (inr (study, asked))))
  answers-study (verdict.Report text) status ((run, _, _), told) study asked bytes tells few calm quiet wanted so =
      absurd (run-is-no-study words run (study, asked))
  answers-study (verdict.NoPlan line) status ((run, _, _), told) study asked bytes tells few calm quiet wanted so =
      absurd (run-is-no-study words run (study, asked))
  answers-study (verdict.Summary text) status ((summary, _), told) study asked bytes tells few calm quiet wanted so =
      absurd (gen-is-no-study words (summary.number, (summary.jobs, summary.asked)) (study, asked))
  answers-study verdict.SourceFailed status ((_, rises), told) study asked bytes tells few calm quiet wanted so =
      absurd (calm rises)
  answers-study verdict.NoMemory status (right, (is, untouched)) study asked bytes tells few calm quiet wanted so =
      inr is
  answers-study verdict.TooLong status ((_, _, many), told) study asked bytes tells few calm quiet wanted so =
      let as_many : 1048577 ≤ length bytes = gave-as-many 1048577 bytes _ _ many tells in
      absurd (omega (arith, few, as_many))

-- nothing is kept where the words ask for a study
pub kept-study : {S : Type 0} (left : S → Option (List ℕ)) (faults : S → ℕ) (words : List (List ℕ))
    (source source_after : S) (kept kept_after : Kept) (given : Verdict)
    → IsVerdict left faults words given source source_after
    → Keeps words given (left source) (left source_after) kept kept_after → kept ≡ Nothing → IsSomeStudy words
    → kept_after ≡ Nothing
kept-study left faults words source source_after kept kept_after (verdict.Report text) (run, _, _) keeps empty some =
    absurd (run-is-no-study words run some)
kept-study left faults words source source_after kept kept_after (verdict.Summary text) (summary, _) keeps empty
    some = absurd (gen-is-no-study words (summary.number, (summary.jobs, summary.asked)) some)
kept-study left faults words source source_after kept kept_after (verdict.NoPlan line) right keeps empty some =
    keeps ∙ empty
kept-study left faults words source source_after kept kept_after (verdict.Studied found) right keeps empty some =
    keeps ∙ empty
kept-study left faults words source source_after kept kept_after verdict.NoCommand right keeps empty some =
    keeps ∙ empty
kept-study left faults words source source_after kept kept_after verdict.SourceFailed right keeps empty some =
    keeps ∙ empty
kept-study left faults words source source_after kept kept_after verdict.NoMemory right keeps empty some =
    keeps ∙ empty
kept-study left faults words source source_after kept kept_after verdict.TooLong right keeps empty some =
    keeps ∙ empty
