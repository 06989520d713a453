-- A verdict on the work of a plan that is right and was told is a call of the program.
use Rattle.std.proofs.Common.{◌≡◌, ℕ, ◌+◌, ◌≤◌, ◌⊎◌, inl, inr, List, length, Some, [], ◌∷◌, codes, decimal, IsTrue, ◌∙◌, sym, subst, arith, rules}
use Rattle.cqs_cli_streams.specs.Counts.{Rises}
use Rattle.cqs_cli_streams.specs.Stream.{GivesAtMost}
use Rattle.cqs_cli_streams.specs.declared.streams.reading.TheConstants.{LONGEST_INPUT}
use Rattle.cqs_cli_streams.specs.declared.streams.sink.Sink.{Ghosts as Sink}
use Rattle.cqs_cli_streams.specs.declared.streams.source.Source.{Ghosts as Source}
use Rattle.cqs_cli_streams.specs.declared.streams.tally.Tally.{Tally}
use Rattle.cqs_cli.specs.Contract.{IsCallOf}
use Rattle.cqs_cli.specs.Meanings.{IsStatus}
use Rattle.cqs_cli.specs.Plans.{IsPlan}
use Rattle.cqs_cli.specs.Tellings.{Tells}
use Rattle.cqs_cli.specs.Verdicts.{HasTaken}
use Rattle.cqs_cli.specs.Words.{IsSomeStudy}
use Rattle.cqs_cli.specs.declared.verdict.Verdict.{Verdict}
use Rattle.cqs_cli.specs.declared.verdict.Verdict.TheVariants as verdict
use Rattle.cqs_cli_streams.proofs.Inputs.{gave-as-many, input-told}
use Rattle.cqs_cli_streams.specs.Sayings.{Broke, MustEnd, Wrote}
use Rattle.cqs_cli.proofs.MeaningLemmas.{all_statuses, stops-once}
use Rattle.cqs_cli.proofs.PlanLemmas.{plan_has_no_fault}
use Rattle.cqs_cli.proofs.WordLemmas.{begun-is-no-study}
use Rattle.cqs_floor_shared.specs.Shared.{Shared}
use Rattle.cqs_plan.specs.declared.plans.plan.Plan.{Plan}
use Rattle.cqs_work.specs.declared.plans.Worked.{Worked as WorkedOn}
use Rattle.cqs_cli_top.specs.Commands.{commands_over}
use Rattle.cqs_cli_top.specs.declared.kept.Kept.{Kept}
use Rattle.cqs_cli_top.specs.declared.kept.Kept.TheVariants.{Nothing}
use Rattle.cqs_cli_top.specs.KeptWorks.{IsNoPlan, KeptWork}
use Rattle.cqs_cli_top.specs.Meanings.{WorkBroke, WorkTold}
use Rattle.cqs_cli_top.specs.Verdicts.{IsVerdict}
use Rattle.cqs_cli_top.specs.Words.{IsWork}
use Rattle.cqs_cli_top.proofs.Works.{of-kept}

-- no words ask for workers and for a study
work-is-no-study : (workers : ℕ) (words : List (List ℕ)) → IsWork workers words → IsSomeStudy words → ⊥
work-is-no-study workers words work some = elim work.spelled [
  | inl alone ↦ begun-is-no-study words [] alone.0 some
  | inr more ↦ begun-is-no-study words (codes "--workers" ∷ decimal workers ∷ []) more some
]

module _ {S K F : Type 0} (shared : F → Shared) (Leaves : Plan → List Shared → WorkedOn F → Type 0)
    (of_source : Source S) (of_sink : Sink K) (workers : ℕ)
    (source source_after : S) (sink sink_after : K) (kept kept_after : Kept F) where
  open of_source use {left, faults as source_faults, tally}
  open of_sink use {held, is_flushed, faults as sink_faults, tally as sink_tally}

  -- a verdict that is right, and was told with this status
  abbrev Ends : Verdict → ℕ → Type 0
  Ends given status =
      IsVerdict shared Leaves left source_faults workers given source source_after kept kept_after
      × Tells of_sink given status sink sink_after

  -- no fault came in this call
  abbrev Calm : ℕ → ℕ → Type 0
  Calm before after = ¬ Rises before after

  pub is_status : (given : Verdict) (status : ℕ) → Ends given status → IsStatus status
  is_status (verdict.Report text) status (judged, inl (is, wrote)) = subst IsStatus (sym is) all_statuses.0
  is_status (verdict.Report text) status (judged, inr (is, broke)) = subst IsStatus (sym is) all_statuses.4
  is_status (verdict.NoPlan line) status (judged, inl (is, wrote)) = subst IsStatus (sym is) all_statuses.2
  is_status (verdict.NoPlan line) status (judged, inr (is, broke)) = subst IsStatus (sym is) all_statuses.4
  is_status verdict.SourceFailed status (judged, (is, untouched)) = subst IsStatus (sym is) all_statuses.3
  is_status verdict.NoMemory status (judged, (is, untouched)) = subst IsStatus (sym is) all_statuses.5
  is_status verdict.TooLong status (judged, (is, untouched)) = subst IsStatus (sym is) all_statuses.6
  is_status verdict.NoCommand status (judged, told) = absurd judged
  is_status (verdict.Summary text) status (judged, told) = absurd judged
  is_status (verdict.Studied found) status (judged, told) = absurd judged

  -- with status 0 the whole text was written of what is kept
  pub kept_done : (given : Verdict) (status : ℕ) → Ends given status → status ≡ 0
      → KeptWork shared Leaves workers (left source) (left source_after) kept_after
      (λ text. Wrote of_sink text sink sink_after)
  kept_done (verdict.Report text) status ((calm, read), inl (is, wrote)) zero =
      record { bytes = read.bytes; input = read.input; text = text.items; worked = read.right; holds = wrote }
  kept_done (verdict.Report text) status (judged, inr (is, broke)) zero = absurd (omega (arith, is, zero))
  kept_done (verdict.NoPlan line) status (judged, inl (is, wrote)) zero = absurd (omega (arith, is, zero))
  kept_done (verdict.NoPlan line) status (judged, inr (is, broke)) zero = absurd (omega (arith, is, zero))
  kept_done verdict.SourceFailed status (judged, (is, untouched)) zero = absurd (omega (arith, is, zero))
  kept_done verdict.NoMemory status (judged, (is, untouched)) zero = absurd (omega (arith, is, zero))
  kept_done verdict.TooLong status (judged, (is, untouched)) zero = absurd (omega (arith, is, zero))
  kept_done verdict.NoCommand status (judged, told) zero = absurd judged
  kept_done (verdict.Summary text) status (judged, told) zero = absurd judged
  kept_done (verdict.Studied found) status (judged, told) zero = absurd judged

  pub headline : (given : Verdict) (status : ℕ) → Ends given status → status ≡ 0
      → WorkTold workers (left source) (left source_after) (held sink) (held sink_after)
      × IsTrue (is_flushed sink_after)
  headline given status ended zero =
      let done = kept_done given status ended zero in (
        record {
          bytes = done.bytes;
          input = done.input;
          text = done.text;
          worked = of-kept shared Leaves done.bytes workers done.text kept_after done.worked;
          written = done.holds.whole;
        },
        done.holds.flushed,
      )

  -- a sink that failed took a prefix of the text that was due
  pub broke_off : (given : Verdict) (status : ℕ) → Ends given status → status ≡ 5
      → Rises (sink_faults sink) (sink_faults sink_after)
      × WorkBroke workers (left source) (left source_after) (held sink) (held sink_after) (sink_tally sink)
      (sink_tally sink_after)
  broke_off (verdict.Report text) status ((calm, read), inr (is, broke)) five = (
    broke.cause,
    record {
      text = text.items;
      due = (
        read.bytes,
        read.input,
        inl (of-kept shared Leaves read.bytes workers text.items kept_after read.right),
      );
      prefix = broke.prefix;
      counted = broke.counted;
    },
  )
  broke_off (verdict.NoPlan line) status ((calm, read), inr (is, broke)) five = (
    broke.cause,
    record {
      text = line.items;
      due = (read.bytes, read.input, inr read.right.0);
      prefix = broke.prefix;
      counted = broke.counted;
    },
  )
  broke_off (verdict.Report text) status (judged, inl (is, wrote)) five = absurd (omega (arith, is, five))
  broke_off (verdict.NoPlan line) status (judged, inl (is, wrote)) five = absurd (omega (arith, is, five))
  broke_off verdict.SourceFailed status (judged, (is, untouched)) five = absurd (omega (arith, is, five))
  broke_off verdict.NoMemory status (judged, (is, untouched)) five = absurd (omega (arith, is, five))
  broke_off verdict.TooLong status (judged, (is, untouched)) five = absurd (omega (arith, is, five))
  broke_off verdict.NoCommand status (judged, told) five = absurd judged
  broke_off (verdict.Summary text) status (judged, told) five = absurd judged
  broke_off (verdict.Studied found) status (judged, told) five = absurd judged

  -- where the sink failed, that is kept whose text broke off, and nothing where the input is no plan
  pub kept_broken : (given : Verdict) (status : ℕ) → Ends given status → kept ≡ Nothing → status ≡ 5
      → KeptWork shared Leaves workers (left source) (left source_after) kept_after
      (λ text. Broke of_sink text sink sink_after)
      ⊎ ((kept_after ≡ Nothing) × IsNoPlan (left source) (left source_after))
  kept_broken (verdict.Report text) status ((calm, read), inr (is, broke)) empty five = inl (record {
    bytes = read.bytes;
    input = read.input;
    text = text.items;
    worked = read.right;
    holds = broke;
  })
  kept_broken (verdict.NoPlan line) status ((calm, read), inr (is, broke)) empty five =
      inr (read.right.1 ∙ empty, (read.bytes, read.input, (line.items, read.right.0)))
  kept_broken (verdict.Report text) status (judged, inl (is, wrote)) empty five = absurd (omega (arith, is, five))
  kept_broken (verdict.NoPlan line) status (judged, inl (is, wrote)) empty five = absurd (omega (arith, is, five))
  kept_broken verdict.SourceFailed status (judged, (is, untouched)) empty five = absurd (omega (arith, is, five))
  kept_broken verdict.NoMemory status (judged, (is, untouched)) empty five = absurd (omega (arith, is, five))
  kept_broken verdict.TooLong status (judged, (is, untouched)) empty five = absurd (omega (arith, is, five))
  kept_broken verdict.NoCommand status (judged, told) empty five = absurd judged
  kept_broken (verdict.Summary text) status (judged, told) empty five = absurd judged
  kept_broken (verdict.Studied found) status (judged, told) empty five = absurd judged

  -- unless memory ran out or it was too long, the input was read until a read stopped
  pub was-ended : (given : Verdict) (status : ℕ) → Ends given status → (old new : Tally) → HasTaken given old new
      → ¬ (status ≡ 6) → ¬ (status ≡ 7) → old.stops ≡ 0 → new.stops ≡ 1
  was-ended (verdict.Report text) status ended old new taken room short none = taken.stops none
  was-ended (verdict.NoPlan line) status ended old new taken room short none = taken.stops none
  was-ended verdict.SourceFailed status ended old new taken room short none = taken.stops none
  was-ended verdict.NoMemory status (judged, (is, untouched)) old new taken room short none = absurd (room is)
  was-ended verdict.TooLong status (judged, (is, untouched)) old new taken room short none = absurd (short is)
  was-ended verdict.NoCommand status (judged, told) old new taken room short none = absurd judged
  was-ended (verdict.Summary text) status (judged, told) old new taken room short none = absurd judged
  was-ended (verdict.Studied found) status (judged, told) old new taken room short none = absurd judged

  -- what must come of an input that the source told and that is no plan, where no fault came
  pub answers_fault : (given : Verdict) (status : ℕ) → Ends given status → (bytes : List ℕ)
      → left source ≡ Some bytes → length bytes ≤ 1048576 → ¬ IsPlan bytes
      → Calm (source_faults source) (source_faults source_after) → Calm (sink_faults sink) (sink_faults sink_after)
      → MustEnd 3 status
  answers_fault (verdict.Report text) status ((_, read), told) bytes tells few no_plan calm quiet =
      absurd (no_plan (subst IsPlan (sym (input-told read.bytes bytes _ _ read.input tells))
      (read.right.plan, read.right.says)))
  answers_fault (verdict.NoPlan line) status (judged, inl (is, wrote)) bytes tells few no_plan calm quiet = inl is
  answers_fault (verdict.NoPlan line) status (judged, inr (is, broke)) bytes tells few no_plan calm quiet =
      absurd (quiet broke.cause)
  answers_fault verdict.SourceFailed status ((rises, _), told) bytes tells few no_plan calm quiet =
      absurd (calm rises)
  answers_fault verdict.NoMemory status (judged, (is, untouched)) bytes tells few no_plan calm quiet = inr is
  answers_fault verdict.TooLong status ((_, many, _), told) bytes tells few no_plan calm quiet =
      let as_many : 1048577 ≤ length bytes = gave-as-many 1048577 bytes _ _ many tells in
      absurd (omega (arith, few, as_many))
  answers_fault verdict.NoCommand status (judged, told) bytes tells few no_plan calm quiet = absurd judged
  answers_fault (verdict.Summary text) status (judged, told) bytes tells few no_plan calm quiet = absurd judged
  answers_fault (verdict.Studied found) status (judged, told) bytes tells few no_plan calm quiet = absurd judged

  -- what must come of a plan that the source told, where no fault came
  pub answers_plan : (given : Verdict) (status : ℕ) → Ends given status → (bytes : List ℕ)
      → left source ≡ Some bytes → length bytes ≤ 1048576 → IsPlan bytes
      → Calm (source_faults source) (source_faults source_after) → Calm (sink_faults sink) (sink_faults sink_after)
      → MustEnd 0 status
  answers_plan (verdict.Report text) status (judged, inl (is, wrote)) bytes tells few plan calm quiet = inl is
  answers_plan (verdict.Report text) status (judged, inr (is, broke)) bytes tells few plan calm quiet =
      absurd (quiet broke.cause)
  answers_plan (verdict.NoPlan line) status ((_, read), told) bytes tells few plan calm quiet =
      absurd (plan_has_no_fault read.bytes line.items
      (subst IsPlan (input-told read.bytes bytes _ _ read.input tells) plan) read.right.0)
  answers_plan verdict.SourceFailed status ((rises, _), told) bytes tells few plan calm quiet = absurd (calm rises)
  answers_plan verdict.NoMemory status (judged, (is, untouched)) bytes tells few plan calm quiet = inr is
  answers_plan verdict.TooLong status ((_, many, _), told) bytes tells few plan calm quiet =
      let as_many : 1048577 ≤ length bytes = gave-as-many 1048577 bytes _ _ many tells in
      absurd (omega (arith, few, as_many))
  answers_plan verdict.NoCommand status (judged, told) bytes tells few plan calm quiet = absurd judged
  answers_plan (verdict.Summary text) status (judged, told) bytes tells few plan calm quiet = absurd judged
  answers_plan (verdict.Studied found) status (judged, told) bytes tells few plan calm quiet = absurd judged

  -- a status above 7 is that of no plan
  low-status : (given : Verdict) (status : ℕ) → Ends given status → 8 ≤ status → ⊥
  low-status (verdict.Report text) status (judged, inl (is, wrote)) high = omega (arith, is, high)
  low-status (verdict.Report text) status (judged, inr (is, broke)) high = omega (arith, is, high)
  low-status (verdict.NoPlan line) status (judged, inl (is, wrote)) high = omega (arith, is, high)
  low-status (verdict.NoPlan line) status (judged, inr (is, broke)) high = omega (arith, is, high)
  low-status verdict.SourceFailed status (judged, (is, untouched)) high = omega (arith, is, high)
  low-status verdict.NoMemory status (judged, (is, untouched)) high = omega (arith, is, high)
  low-status verdict.TooLong status (judged, (is, untouched)) high = omega (arith, is, high)
  low-status verdict.NoCommand status (judged, told) high = absurd judged
  low-status (verdict.Summary text) status (judged, told) high = absurd judged
  low-status (verdict.Studied found) status (judged, told) high = absurd judged

  -- the whole contract of a call, for words that ask for so many workers
  pub is_call : (given : Verdict) (status : ℕ) → Ends given status
      → GivesAtMost (LONGEST_INPUT + 1) (left source) (left source_after)
      → HasTaken given (tally source) (tally source_after) → kept ≡ Nothing
      → (words : List (List ℕ)) → IsWork workers words
      → IsCallOf (commands_over shared Leaves) of_source of_sink words source source_after sink sink_after kept_after
      status
  is_call given status ended taken counted empty words asked = record {
    headline = λ zero. let told = headline given status ended zero in (inr (workers, (asked, told.0)), told.1);
    no_command = search rules;
    no_plan = search rules;
    source_failed = search rules;
    sink_failed = λ five.
        let broke = broke_off given status ended five in (broke.0, inr (workers, (asked, broke.1)));
    no_memory = search rules;
    too_long = search rules;
    statuses = is_status given status ended;
    studied = λ zero some. absurd (work-is-no-study workers words asked some);
    bad_text = λ eight. absurd (low-status given status ended (omega (arith, eight)));
    not_legal = λ nine. absurd (low-status given status ended (omega (arith, nine)));
    unread = λ other. absurd (other (inl (inr (workers, asked))));
    taken = taken;
    given = search rules;
    stops = search rules;
    ended = λ reads room short. was-ended given status ended _ _ counted room short;
    too_many = search rules;
    many_bytes = search rules;
    source_calm = search rules;
    sink_calm = search rules;
    sink_stops = stops-once of_sink sink sink_after given status ended.1;
    wrong_words = λ wrong quiet. absurd (wrong (inr (workers, asked)));
    wrong_input = λ reads. answers_fault given status ended;
    long_input = search rules;
    complete = λ reads. answers_plan given status ended;
    complete_gen = search rules;
    complete_study = λ study of_study. absurd (work-is-no-study workers words asked (study, of_study));
    wrong_text = λ study of_study. absurd (work-is-no-study workers words asked (study, of_study));
    illegal_input = λ study of_study. absurd (work-is-no-study workers words asked (study, of_study));
    kept_study = λ some. absurd (work-is-no-study workers words asked some);
    kept_done = λ zero no_study. inr (workers, (asked, kept_done given status ended zero));
    kept_broken = λ five no_study. elim (kept_broken given status ended empty five) [
      | inl of_text ↦ inl (inr (workers, (asked, of_text)))
      | inr (nothing, no_plan) ↦ inr (nothing, inr ((workers, asked), no_plan))
    ];
    kept_nothing = search rules;
  }
