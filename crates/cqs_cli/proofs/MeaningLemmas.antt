-- A verdict that is right and was told is a call of the program.
use Rattle.std.proofs.Common.{◌≡◌, ℕ, ◌+◌, ◌≤◌, ◌⊎◌, inl, inr, List, length, Some, IsTrue, sym, ◌∙◌, subst, arith, refl, lit<, rules}
use Rattle.cqs_cli_streams.specs.Counts.{Rises}
use Rattle.cqs_cli_streams.specs.declared.streams.reading.TheConstants.{LONGEST_INPUT}
use Rattle.cqs_cli_streams.specs.declared.streams.sink.Sink.{Ghosts as Sink}
use Rattle.cqs_cli_streams.specs.declared.streams.source.Source.{Ghosts as Source}
use Rattle.cqs_cli_streams.specs.declared.streams.tally.Tally.{Tally}
use Rattle.cqs_cli_streams.specs.Stream.{Gains, GivesAtMost, GivesCount}
use Rattle.cqs_cli.specs.Commands.{commands}
use Rattle.cqs_cli.specs.Contract.{IsCallOf}
use Rattle.cqs_cli.specs.KeptRuns.{IsNoRun, Keeps, KeptText}
use Rattle.cqs_cli.specs.Meanings.{BrokeOff, HasTold, IsStatus, NamedFault}
use Rattle.cqs_cli.specs.Plans.{IsPlan}
use Rattle.cqs_cli_streams.proofs.Inputs.{gave-as-many, input-told, long-is-no-input}
use Rattle.cqs_cli_streams.specs.Sayings.{Broke, MustEnd, Wrote}
use Rattle.cqs_cli.proofs.PlanLemmas.{plan_has_no_fault}
use Rattle.cqs_cli.proofs.StudyLemmas.{IsNoStudy, answers-study, bad-told, due-of, illegal-found, illegal-told, kept-study, legal-found, no-fault-status, study-calm, study-statuses, studied-statuses, text-of, told-whole, wrong-found}
use Rattle.cqs_cli.proofs.WordLemmas.{gen-is-no-study, gen-reads-nothing, one_command, reads-command, run-is-no-study}
use Rattle.cqs_cli.specs.Tellings.{Tells, studied_status, studied_text}
use Rattle.cqs_cli.specs.Verdicts.{HasTaken, IsVerdict}
use Rattle.cqs_cli.specs.Words.{IsCommand, IsRun, IsSomeGen, IsSomeStudy, Reads, usage}
use Rattle.cqs_cli.specs.declared.kept.Kept.{Kept}
use Rattle.cqs_cli.specs.declared.kept.Kept.TheVariants.{Nothing}
use Rattle.cqs_cli.specs.declared.verdict.Verdict.{Verdict}
use Rattle.cqs_cli.specs.declared.verdict.Verdict.TheVariants as verdict
use Rattle.cqs_cli_histories.specs.declared.studies.Studied.{Studied}

-- each status is one of those that there are
pub all_statuses : IsStatus 0 × IsStatus 2 × IsStatus 3 × IsStatus 4 × IsStatus 5 × IsStatus 6 × IsStatus 7
    × IsStatus 8 × IsStatus 9
all_statuses = (
  (0, lit< tt, refl),
  (1, lit< tt, refl),
  (2, lit< tt, refl),
  (3, lit< tt, refl),
  (4, lit< tt, refl),
  (5, lit< tt, refl),
  (6, lit< tt, refl),
  (7, lit< tt, refl),
  (8, lit< tt, refl),
)

-- no call of a sink comes after one that stopped
pub stops-once : {K : Type 0} (of_sink : Sink K) (old new : K) (given : Verdict) (status : ℕ)
    → Tells of_sink given status old new → (of_sink.tally old).stops ≡ 0 → (of_sink.tally new).stops ≤ 1
stops-once of_sink old new verdict.NoCommand status (inl (is, wrote)) none =
    omega (arith, wrote.counted.stops none)
stops-once of_sink old new verdict.NoCommand status (inr (is, broke)) none =
    omega (arith, broke.counted.stops none)
stops-once of_sink old new (verdict.Report text) status (inl (is, wrote)) none =
    omega (arith, wrote.counted.stops none)
stops-once of_sink old new (verdict.Report text) status (inr (is, broke)) none =
    omega (arith, broke.counted.stops none)
stops-once of_sink old new (verdict.Summary text) status (inl (is, wrote)) none =
    omega (arith, wrote.counted.stops none)
stops-once of_sink old new (verdict.Summary text) status (inr (is, broke)) none =
    omega (arith, broke.counted.stops none)
stops-once of_sink old new (verdict.NoPlan line) status (inl (is, wrote)) none =
    omega (arith, wrote.counted.stops none)
stops-once of_sink old new (verdict.NoPlan line) status (inr (is, broke)) none =
    omega (arith, broke.counted.stops none)
stops-once of_sink old new (verdict.Studied found) status (inl (is, wrote)) none =
    omega (arith, wrote.counted.stops none)
stops-once of_sink old new (verdict.Studied found) status (inr (is, broke)) none =
    omega (arith, broke.counted.stops none)
stops-once of_sink old new verdict.SourceFailed status (is, same) none =
    rw same (rw none (omega arith))
stops-once of_sink old new verdict.NoMemory status (is, same) none =
    rw same (rw none (omega arith))
stops-once of_sink old new verdict.TooLong status (is, same) none =
    rw same (rw none (omega arith))

module _ {S K : Type 0} (of_source : Source S) (of_sink : Sink K) (words : List (List ℕ))
    (source source_after : S) (sink sink_after : K) where
  open of_source use {left, faults as source_faults, tally}
  open of_sink use {held, is_flushed, faults as sink_faults, tally as sink_tally}

  -- a verdict that is right, and was told with this status
  abbrev Ends : Verdict → ℕ → Type 0
  Ends given status =
      IsVerdict left source_faults words given source source_after
      × Tells of_sink given status sink sink_after

  -- the status of a verdict that was told is one of those that there are
  pub is_status : (given : Verdict) (status : ℕ) → Ends given status → IsStatus status
  is_status verdict.NoCommand status (judged, inl (is, wrote)) = subst IsStatus (sym is) (1, lit< tt, refl)
  is_status verdict.NoCommand status (judged, inr (is, broke)) = subst IsStatus (sym is) (4, lit< tt, refl)
  is_status (verdict.Report text) status (judged, inl (is, wrote)) = subst IsStatus (sym is) (0, lit< tt, refl)
  is_status (verdict.Report text) status (judged, inr (is, broke)) = subst IsStatus (sym is) (4, lit< tt, refl)
  is_status (verdict.Summary text) status (judged, inl (is, wrote)) = subst IsStatus (sym is) (0, lit< tt, refl)
  is_status (verdict.Summary text) status (judged, inr (is, broke)) = subst IsStatus (sym is) (4, lit< tt, refl)
  is_status (verdict.NoPlan line) status (judged, inl (is, wrote)) = subst IsStatus (sym is) (2, lit< tt, refl)
  is_status (verdict.NoPlan line) status (judged, inr (is, broke)) = subst IsStatus (sym is) (4, lit< tt, refl)
  is_status (verdict.Studied found) status (judged, inl (is, wrote)) = elim (studied-statuses found) [
    | inl zero ↦ subst IsStatus (sym (is ∙ zero)) (0, lit< tt, refl)
    | inr (inl eight) ↦ subst IsStatus (sym (is ∙ eight)) (7, lit< tt, refl)
    | inr (inr nine) ↦ subst IsStatus (sym (is ∙ nine)) (8, lit< tt, refl)
  ]
  is_status (verdict.Studied found) status (judged, inr (is, broke)) = subst IsStatus (sym is) (4, lit< tt, refl)
  is_status verdict.SourceFailed status (judged, (is, untouched)) = subst IsStatus (sym is) (3, lit< tt, refl)
  is_status verdict.NoMemory status (judged, (is, untouched)) = subst IsStatus (sym is) (5, lit< tt, refl)
  is_status verdict.TooLong status (judged, (is, untouched)) = subst IsStatus (sym is) (6, lit< tt, refl)

  -- a sink that failed took a prefix of the text that was due
  pub broke_off : (given : Verdict) (status : ℕ) → Ends given status → status ≡ 5
      → Rises (sink_faults sink) (sink_faults sink_after)
      × BrokeOff words (left source) (left source_after) (held sink) (held sink_after) (sink_tally sink)
      (sink_tally sink_after)
  broke_off verdict.NoCommand status (judged, inl (is, wrote)) five = absurd (omega (arith, is, five))
  broke_off verdict.NoCommand status ((wrong, untouched), inr (is, broke)) five =
      (broke.cause, record { text = usage; due = inl (wrong, refl); prefix = broke.prefix; counted = broke.counted })
  broke_off (verdict.Report text) status (judged, inl (is, wrote)) five = absurd (omega (arith, is, five))
  broke_off (verdict.Report text) status ((run, calm, read), inr (is, broke)) five = (
    broke.cause,
    record {
      text = text.items;
      due = inr (inl (run, (read.bytes, read.input, inl read.right)));
      prefix = broke.prefix;
      counted = broke.counted;
    },
  )
  broke_off (verdict.NoPlan line) status (judged, inl (is, wrote)) five = absurd (omega (arith, is, five))
  broke_off (verdict.NoPlan line) status ((run, calm, read), inr (is, broke)) five = (
    broke.cause,
    record {
      text = line.items;
      due = inr (inl (run, (read.bytes, read.input, inr read.right)));
      prefix = broke.prefix;
      counted = broke.counted;
    },
  )
  broke_off (verdict.Summary text) status (judged, inl (is, wrote)) five = absurd (omega (arith, is, five))
  broke_off (verdict.Summary text) status ((summary, untouched), inr (is, broke)) five = (
    broke.cause,
    record { text = text.items; due = inr (inr (inl summary)); prefix = broke.prefix; counted = broke.counted },
  )
  broke_off (verdict.Studied found) status (judged, inl (is, wrote)) five =
      absurd (no-fault-status found (sym is ∙ five))
  broke_off (verdict.Studied found) status ((calm, read), inr (is, broke)) five = (
    broke.cause,
    record {
      text = studied_text found;
      due = inr (inr (inr (due-of words (left source) (left source_after) found read)));
      prefix = broke.prefix;
      counted = broke.counted;
    },
  )
  broke_off verdict.SourceFailed status (judged, (is, untouched)) five = absurd (omega (arith, is, five))
  broke_off verdict.NoMemory status (judged, (is, untouched)) five = absurd (omega (arith, is, five))
  broke_off verdict.TooLong status (judged, (is, untouched)) five = absurd (omega (arith, is, five))

  -- no fault came in this call
  abbrev Calm : ℕ → ℕ → Type 0
  Calm before after = ¬ Rises before after

  -- what must come of an input that the source told and that is no plan, where no fault came
  pub answers_fault : (given : Verdict) (status : ℕ) → Ends given status → IsRun words → (bytes : List ℕ)
      → left source ≡ Some bytes → length bytes ≤ 1048576 → ¬ IsPlan bytes
      → Calm (source_faults source) (source_faults source_after) → Calm (sink_faults sink) (sink_faults sink_after)
      → MustEnd 3 status
  answers_fault verdict.NoCommand status ((wrong, untouched), told) run bytes tells few no_plan calm quiet =
      absurd (wrong (inl run))
  answers_fault (verdict.Report text) status ((_, _, read), told) run bytes tells few no_plan calm quiet =
      absurd (no_plan (subst IsPlan (sym (input-told read.bytes bytes _ _ read.input tells))
      (read.right.plan, read.right.says)))
  answers_fault (verdict.NoPlan line) status (judged, inl (is, wrote)) run bytes tells few no_plan calm quiet = inl is
  answers_fault (verdict.NoPlan line) status (judged, inr (is, broke)) run bytes tells few no_plan calm quiet =
      absurd (quiet broke.cause)
  answers_fault (verdict.Summary text) status ((summary, _), told) run bytes tells few no_plan calm quiet =
      absurd (one_command words run (summary.number, (summary.jobs, summary.asked)))
  answers_fault (verdict.Studied found) status ((_, read), told) run bytes tells few no_plan calm quiet =
      absurd (run-is-no-study words run (read.study, read.asked))
  answers_fault verdict.SourceFailed status ((_, rises), told) run bytes tells few no_plan calm quiet =
      absurd (calm rises)
  answers_fault verdict.NoMemory status (judged, (is, untouched)) run bytes tells few no_plan calm quiet = inr is
  answers_fault verdict.TooLong status ((_, _, many), told) run bytes tells few no_plan calm quiet =
      let as_many : 1048577 ≤ length bytes = gave-as-many 1048577 bytes _ _ many tells in
      absurd (omega (arith, few, as_many))

  -- what must come of a plan that the source told, where no fault came
  pub answers_plan : (given : Verdict) (status : ℕ) → Ends given status → IsRun words → (bytes : List ℕ)
      → left source ≡ Some bytes → length bytes ≤ 1048576 → IsPlan bytes
      → Calm (source_faults source) (source_faults source_after) → Calm (sink_faults sink) (sink_faults sink_after)
      → MustEnd 0 status
  answers_plan verdict.NoCommand status ((wrong, untouched), told) run bytes tells few plan calm quiet =
      absurd (wrong (inl run))
  answers_plan (verdict.Report text) status (judged, inl (is, wrote)) run bytes tells few plan calm quiet = inl is
  answers_plan (verdict.Report text) status (judged, inr (is, broke)) run bytes tells few plan calm quiet =
      absurd (quiet broke.cause)
  answers_plan (verdict.NoPlan line) status ((_, _, read), told) run bytes tells few plan calm quiet =
      absurd (plan_has_no_fault read.bytes line.items
      (subst IsPlan (input-told read.bytes bytes _ _ read.input tells) plan) read.right)
  answers_plan (verdict.Summary text) status ((summary, _), told) run bytes tells few plan calm quiet =
      absurd (one_command words run (summary.number, (summary.jobs, summary.asked)))
  answers_plan (verdict.Studied found) status ((_, read), told) run bytes tells few plan calm quiet =
      absurd (run-is-no-study words run (read.study, read.asked))
  answers_plan verdict.SourceFailed status ((_, rises), told) run bytes tells few plan calm quiet = absurd (calm rises)
  answers_plan verdict.NoMemory status (judged, (is, untouched)) run bytes tells few plan calm quiet = inr is
  answers_plan verdict.TooLong status ((_, _, many), told) run bytes tells few plan calm quiet =
      let as_many : 1048577 ≤ length bytes = gave-as-many 1048577 bytes _ _ many tells in
      absurd (omega (arith, few, as_many))

  -- what must come of words that ask for the plan of a number, where no fault came
  pub answers_number : (given : Verdict) (status : ℕ) → Ends given status → IsSomeGen words
      → Calm (sink_faults sink) (sink_faults sink_after) → MustEnd 0 status
  answers_number verdict.NoCommand status ((wrong, untouched), told) gen quiet = absurd (wrong (inr (inl gen)))
  answers_number (verdict.Summary text) status (judged, inl (is, wrote)) gen quiet = inl is
  answers_number (verdict.Summary text) status (judged, inr (is, broke)) gen quiet = absurd (quiet broke.cause)
  answers_number (verdict.Report text) status ((run, _, _), told) gen quiet = absurd (one_command words run gen)
  answers_number (verdict.NoPlan line) status ((run, _, _), told) gen quiet = absurd (one_command words run gen)
  answers_number (verdict.Studied found) status ((_, read), told) gen quiet =
      absurd (gen-is-no-study words gen (read.study, read.asked))
  answers_number verdict.SourceFailed status ((reads, _), told) gen quiet = absurd (gen-reads-nothing words gen reads)
  answers_number verdict.NoMemory status (judged, (is, untouched)) gen quiet = inr is
  answers_number verdict.TooLong status ((reads, _, _), told) gen quiet = absurd (gen-reads-nothing words gen reads)

  -- unless memory ran out or it was too long, an input was read until a read stopped
  pub was-ended : (given : Verdict) (status : ℕ) → Ends given status → (old new : Tally) → HasTaken given old new
      → Reads words → ¬ (status ≡ 6) → ¬ (status ≡ 7) → old.stops ≡ 0 → new.stops ≡ 1
  was-ended (verdict.Report text) status ended old new taken reads room short none = taken.stops none
  was-ended (verdict.NoPlan line) status ended old new taken reads room short none = taken.stops none
  was-ended (verdict.Studied found) status ended old new taken reads room short none = taken.stops none
  was-ended verdict.SourceFailed status ended old new taken reads room short none = taken.stops none
  was-ended verdict.NoMemory status (judged, (is, untouched)) old new taken reads room short none = absurd (room is)
  was-ended verdict.TooLong status (judged, (is, untouched)) old new taken reads room short none = absurd (short is)
  was-ended verdict.NoCommand status ((wrong, _), told) old new taken reads room short none =
      absurd (wrong (reads-command words reads))
  was-ended (verdict.Summary text) status ((summary, _), told) old new taken reads room short none =
      absurd (gen-reads-nothing words (summary.number, (summary.jobs, summary.asked)) reads)

  -- words that don't ask for it leave the source as it was
  pub leaves_source : (given : Verdict) → IsVerdict left source_faults words given source source_after
      → ¬ Reads words → source_after ≡ source
  leaves_source verdict.NoCommand (wrong, untouched) other = untouched
  leaves_source (verdict.Summary text) (summary, untouched) other = untouched
  leaves_source (verdict.Report text) (run, _, _) other = absurd (other (inl run))
  leaves_source (verdict.NoPlan line) (run, _, _) other = absurd (other (inl run))
  leaves_source (verdict.Studied found) (_, read) other = absurd (other (inr (read.study, read.asked)))
  leaves_source verdict.SourceFailed (reads, _) other = absurd (other reads)
  leaves_source verdict.NoMemory (_, _, untouched) other = untouched other
  leaves_source verdict.TooLong (reads, _, _) other = absurd (other reads)

  -- with status 0 the report of a plan was written, or a summary
  pub headline : (given : Verdict) (status : ℕ) → Ends given status → status ≡ 0
      → HasTold words (left source) (left source_after) (held sink) (held sink_after)
      × IsTrue (is_flushed sink_after)
  headline (verdict.Report text) status ((run, calm, read), inl (is, wrote)) zero = (
    inl (
      run,
      record { bytes = read.bytes; input = read.input; text = text.items; report = read.right; written = wrote.whole },
    ),
    wrote.flushed,
  )
  headline (verdict.Summary text) status ((summary, untouched), inl (is, wrote)) zero =
      (inr (inl (record { text = text.items; summary = summary; written = wrote.whole })), wrote.flushed)
  headline (verdict.Studied found) status ((calm, read), inl (is, wrote)) zero = (
    inr (inr (text-of words (left source) (left source_after) found read
        (λ text. Gains text (held sink) (held sink_after)) wrote.whole (sym is ∙ zero))),
    wrote.flushed,
  )
  headline (verdict.Studied found) status (judged, inr (is, broke)) zero = absurd (omega (arith, is, zero))
  headline (verdict.Summary text) status (judged, inr (is, broke)) zero = absurd (omega (arith, is, zero))
  headline (verdict.Report text) status (judged, inr (is, broke)) zero = absurd (omega (arith, is, zero))
  headline verdict.NoCommand status (judged, inl (is, wrote)) zero = absurd (omega (arith, is, zero))
  headline verdict.NoCommand status (judged, inr (is, broke)) zero = absurd (omega (arith, is, zero))
  headline (verdict.NoPlan line) status (judged, inl (is, wrote)) zero = absurd (omega (arith, is, zero))
  headline (verdict.NoPlan line) status (judged, inr (is, broke)) zero = absurd (omega (arith, is, zero))
  headline verdict.SourceFailed status (judged, (is, untouched)) zero = absurd (omega (arith, is, zero))
  headline verdict.NoMemory status (judged, (is, untouched)) zero = absurd (omega (arith, is, zero))
  headline verdict.TooLong status (judged, (is, untouched)) zero = absurd (omega (arith, is, zero))

  -- what the other statuses mean, and what must come, of a verdict on no study
  no-command : (given : Verdict) (status : ℕ) → IsNoStudy given → Ends given status → status ≡ 2
      → (¬ IsCommand words) × (source_after ≡ source) × Wrote of_sink usage sink sink_after
  no-command given status other ended two = search rules

  no-plan : (given : Verdict) (status : ℕ) → IsNoStudy given → Ends given status → status ≡ 3
      → IsRun words
      × NamedFault (left source) (left source_after) (held sink) (held sink_after) (sink_tally sink)
      (sink_tally sink_after)
      × IsTrue (is_flushed sink_after)
  no-plan given status other ended three = search rules

  source-failed : (given : Verdict) (status : ℕ) → IsNoStudy given → Ends given status → status ≡ 4
      → Reads words × Rises (source_faults source) (source_faults source_after) × (sink_after ≡ sink)
  source-failed given status other ended four = search rules

  no-memory : (given : Verdict) (status : ℕ) → IsNoStudy given → Ends given status → status ≡ 6
      → IsCommand words × (sink_after ≡ sink)
  no-memory given status other ended six = search rules

  too-long : (given : Verdict) (status : ℕ) → IsNoStudy given → Ends given status → status ≡ 7
      → Reads words × GivesCount (LONGEST_INPUT + 1) (left source) (left source_after) × (sink_after ≡ sink)
  too-long given status other ended seven = search rules

  source-calm : (given : Verdict) (status : ℕ) → IsNoStudy given → Ends given status → ¬ (status ≡ 4)
      → source_faults source_after ≡ source_faults source
  source-calm given status other ended calm = search rules

  sink-calm : (given : Verdict) (status : ℕ) → IsNoStudy given → Ends given status → ¬ (status ≡ 5)
      → sink_faults sink_after ≡ sink_faults sink
  sink-calm given status other ended calm = search rules

  wrong-words : (given : Verdict) (status : ℕ) → IsNoStudy given → Ends given status → ¬ IsCommand words
      → ¬ Rises (sink_faults sink) (sink_faults sink_after) → status ≡ 2
  wrong-words given status other ended wrong quiet = search rules

  module _ (kept kept_after : Kept) where
    -- what was kept with a verdict
    abbrev KeptWith : Verdict → Type 0
    KeptWith given = Keeps words given (left source) (left source_after) kept kept_after

    -- with status 0 the floor of the run is kept whose text was written
    pub kept_done : (given : Verdict) (status : ℕ) → Ends given status → KeptWith given → status ≡ 0
        → ¬ IsSomeStudy words → KeptText words (left source) (left source_after) kept_after
        (λ text. Wrote of_sink text sink sink_after)
    kept_done (verdict.Report text) status ((run, _, _), inl (is, wrote)) keeps zero other = inl (
      run,
      record {
        bytes = keeps.bytes;
        input = keeps.input;
        text = keeps.text;
        run = keeps.run;
        holds = rw keeps.holds wrote;
      },
    )
    kept_done (verdict.Summary text) status (judged, inl (is, wrote)) keeps zero other = inr (record {
      number = keeps.number;
      jobs = keeps.jobs;
      asked = keeps.asked;
      run = keeps.run;
      holds = subst (λ made. Wrote of_sink made sink sink_after) (sym keeps.holds) wrote;
    })
    kept_done (verdict.Summary text) status (judged, inr (is, broke)) keeps zero other =
        absurd (omega (arith, is, zero))
    kept_done (verdict.Report text) status (judged, inr (is, broke)) keeps zero other = absurd (omega (arith, is, zero))
    kept_done verdict.NoCommand status (judged, inl (is, wrote)) keeps zero other = absurd (omega (arith, is, zero))
    kept_done verdict.NoCommand status (judged, inr (is, broke)) keeps zero other = absurd (omega (arith, is, zero))
    kept_done (verdict.NoPlan line) status (judged, inl (is, wrote)) keeps zero other = absurd (omega (arith, is, zero))
    kept_done (verdict.NoPlan line) status (judged, inr (is, broke)) keeps zero other = absurd (omega (arith, is, zero))
    kept_done (verdict.Studied found) status ((_, read), told) keeps zero other =
        absurd (other (read.study, read.asked))
    kept_done verdict.SourceFailed status (judged, (is, untouched)) keeps zero other = absurd (omega (arith, is, zero))
    kept_done verdict.NoMemory status (judged, (is, untouched)) keeps zero other = absurd (omega (arith, is, zero))
    kept_done verdict.TooLong status (judged, (is, untouched)) keeps zero other = absurd (omega (arith, is, zero))

    -- where the sink failed, the floor is kept of the run whose text broke off, and nothing more where there was none
    pub kept_broken : (given : Verdict) (status : ℕ) → Ends given status → KeptWith given → kept ≡ Nothing → status ≡ 5
        → ¬ IsSomeStudy words → KeptText words (left source) (left source_after) kept_after
        (λ text. Broke of_sink text sink sink_after)
        ⊎ ((kept_after ≡ Nothing) × IsNoRun words (left source) (left source_after))
    kept_broken (verdict.Report text) status ((run, _, _), inr (is, broke)) keeps empty five other = inl (inl (
      run,
      record {
        bytes = keeps.bytes;
        input = keeps.input;
        text = keeps.text;
        run = keeps.run;
        holds = rw keeps.holds broke;
      },
    ))
    kept_broken (verdict.Summary text) status (judged, inr (is, broke)) keeps empty five other = inl (inr (record {
      number = keeps.number;
      jobs = keeps.jobs;
      asked = keeps.asked;
      run = keeps.run;
      holds = subst (λ made. Broke of_sink made sink sink_after) (sym keeps.holds) broke;
    }))
    kept_broken (verdict.Summary text) status (judged, inl (is, wrote)) keeps empty five other =
        absurd (omega (arith, is, five))
    kept_broken (verdict.Report text) status (judged, inl (is, wrote)) keeps empty five other =
        absurd (omega (arith, is, five))
    kept_broken verdict.NoCommand status ((wrong, untouched), inr (is, broke)) keeps empty five other =
        inr (keeps ∙ empty, inl wrong)
    kept_broken verdict.NoCommand status (judged, inl (is, wrote)) keeps empty five other =
        absurd (omega (arith, is, five))
    kept_broken (verdict.NoPlan line) status ((run, calm, read), inr (is, broke)) keeps empty five other =
        inr (keeps ∙ empty, inr (run, (read.bytes, read.input, (line.items, read.right))))
    kept_broken (verdict.NoPlan line) status (judged, inl (is, wrote)) keeps empty five other =
        absurd (omega (arith, is, five))
    kept_broken (verdict.Studied found) status ((_, read), told) keeps empty five other =
        absurd (other (read.study, read.asked))
    kept_broken verdict.SourceFailed status (judged, (is, untouched)) keeps empty five other =
        absurd (omega (arith, is, five))
    kept_broken verdict.NoMemory status (judged, (is, untouched)) keeps empty five other =
        absurd (omega (arith, is, five))
    kept_broken verdict.TooLong status (judged, (is, untouched)) keeps empty five other =
        absurd (omega (arith, is, five))

    -- the whole contract of a call that comes to a study of its input
    study-call : (found : Studied) (status : ℕ) → Ends (verdict.Studied found) status → KeptWith (verdict.Studied found)
        → GivesAtMost (LONGEST_INPUT + 1) (left source) (left source_after)
        → HasTaken (verdict.Studied found) (tally source) (tally source_after) → kept ≡ Nothing
        → IsCallOf commands of_source of_sink words source source_after sink sink_after kept_after status
    study-call found status ended keeps taken counted empty =
        let given : Verdict = verdict.Studied found in
        let read = ended.0.1 in
        let some : IsSomeStudy words = (read.study, read.asked) in
        let so = study-statuses of_sink sink sink_after found status ended.1 in
        record {
          headline = headline given status ended;
          no_command = λ two. absurd (so 2 two (omega arith));
          no_plan = λ three. absurd (so 3 three (omega arith));
          source_failed = λ four. absurd (so 4 four (omega arith));
          sink_failed = broke_off given status ended;
          no_memory = λ six. absurd (so 6 six (omega arith));
          too_long = λ seven. absurd (so 7 seven (omega arith));
          studied = told-whole of_source of_sink words source source_after sink sink_after given status ended;
          bad_text = bad-told of_source of_sink words source source_after sink sink_after given status ended;
          not_legal = illegal-told of_source of_sink words source source_after sink sink_after given status ended;
          statuses = is_status given status ended;
          unread = leaves_source given ended.0;
          taken = taken;
          given = omega (arith, counted.few);
          stops = λ none. omega (arith, counted.stops none);
          ended = λ reads room short. was-ended given status ended _ _ counted reads room short;
          too_many = λ seven. absurd (so 7 seven (omega arith));
          many_bytes = λ many. absurd (omega (arith, counted.few, many));
          source_calm = λ other. ended.0.0;
          sink_calm = study-calm of_sink sink sink_after found status ended.1;
          sink_stops = stops-once of_sink sink sink_after given status ended.1;
          wrong_words = λ wrong quiet. absurd (wrong (inr (inr some)));
          wrong_input = answers_fault given status ended;
          long_input = λ reads bytes tells long calm.
              absurd (long-is-no-input read.bytes bytes (left source) (left source_after) read.input tells long);
          complete = answers_plan given status ended;
          complete_gen = answers_number given status ended;
          complete_study = λ study asked bytes tells few legal calm quiet.
              answers-study of_source of_sink words source source_after sink sink_after given status ended study asked
              bytes tells few calm quiet 0 (legal-found study bytes legal);
          wrong_text = λ study asked bytes tells few none calm quiet.
              answers-study of_source of_sink words source source_after sink sink_after given status ended study asked
              bytes tells few calm quiet 8 (wrong-found study bytes none);
          illegal_input = λ study asked bytes tells few illegal calm quiet.
              answers-study of_source of_sink words source source_after sink sink_after given status ended study asked
              bytes tells few calm quiet 9 (illegal-found study bytes illegal);
          kept_study = λ of_study. keeps ∙ empty;
          kept_done = kept_done given status ended keeps;
          kept_broken = kept_broken given status ended keeps empty;
          kept_nothing = λ done failed. keeps ∙ empty;
        }

    -- and of any other
    other-call : (given : Verdict) (status : ℕ) → IsNoStudy given → Ends given status → KeptWith given
        → GivesAtMost (LONGEST_INPUT + 1) (left source) (left source_after)
        → HasTaken given (tally source) (tally source_after) → kept ≡ Nothing
        → IsCallOf commands of_source of_sink words source source_after sink sink_after kept_after status
    other-call given status no_study ended keeps taken counted empty = record {
      headline = headline given status ended;
      no_command = no-command given status no_study ended;
      no_plan = no-plan given status no_study ended;
      source_failed = source-failed given status no_study ended;
      sink_failed = broke_off given status ended;
      no_memory = no-memory given status no_study ended;
      too_long = too-long given status no_study ended;
      statuses = is_status given status ended;
      unread = leaves_source given ended.0;
      taken = taken;
      given = search rules;
      stops = search rules;
      ended = λ reads room short. was-ended given status ended _ _ counted reads room short;
      too_many = search rules;
      many_bytes = search rules;
      source_calm = source-calm given status no_study ended;
      sink_calm = sink-calm given status no_study ended;
      sink_stops = stops-once of_sink sink sink_after given status ended.1;
      wrong_words = wrong-words given status no_study ended;
      wrong_input = answers_fault given status ended;
      long_input = search rules;
      complete = answers_plan given status ended;
      complete_gen = answers_number given status ended;
      studied = told-whole of_source of_sink words source source_after sink sink_after given status ended;
      bad_text = bad-told of_source of_sink words source source_after sink sink_after given status ended;
      not_legal = illegal-told of_source of_sink words source source_after sink sink_after given status ended;
      complete_study = λ study asked bytes tells few legal calm quiet.
          answers-study of_source of_sink words source source_after sink sink_after given status ended study asked bytes
          tells few calm quiet 0 (legal-found study bytes legal);
      wrong_text = λ study asked bytes tells few none calm quiet.
          answers-study of_source of_sink words source source_after sink sink_after given status ended study asked bytes
          tells few calm quiet 8 (wrong-found study bytes none);
      illegal_input = λ study asked bytes tells few illegal calm quiet.
          answers-study of_source of_sink words source source_after sink sink_after given status ended study asked bytes
          tells few calm quiet 9 (illegal-found study bytes illegal);
      kept_study =
          kept-study left source_faults words source source_after kept kept_after given ended.0 keeps empty;
      kept_done = kept_done given status ended keeps;
      kept_broken = kept_broken given status ended keeps empty;
      kept_nothing = search rules;
    }

    pub is_call : (given : Verdict) (status : ℕ) → Ends given status → KeptWith given
        → GivesAtMost (LONGEST_INPUT + 1) (left source) (left source_after)
        → HasTaken given (tally source) (tally source_after) → kept ≡ Nothing
        → IsCallOf commands of_source of_sink words source source_after sink sink_after kept_after status
    is_call (verdict.Studied found) = study-call found
    is_call verdict.NoCommand = λ status. other-call verdict.NoCommand status tt
    is_call (verdict.Report text) = λ status. other-call (verdict.Report text) status tt
    is_call (verdict.Summary text) = λ status. other-call (verdict.Summary text) status tt
    is_call (verdict.NoPlan line) = λ status. other-call (verdict.NoPlan line) status tt
    is_call verdict.SourceFailed = λ status. other-call verdict.SourceFailed status tt
    is_call verdict.NoMemory = λ status. other-call verdict.NoMemory status tt
    is_call verdict.TooLong = λ status. other-call verdict.TooLong status tt
