-- A verdict that is right and was told is a call of the command.
use Rattle.std.proofs.Common.{◌≡◌, ℕ, ◌+◌, ◌≤◌, inl, inr, Bool, List, length, Some, refl, sym, subst, arith, lit<}
use Rattle.cqs_cli_streams.specs.Stream.{GivesAtMost}
use Rattle.cqs_cli_streams.specs.declared.streams.reading.TheConstants.{LONGEST_INPUT}
use Rattle.cqs_cli_streams.specs.declared.streams.sink.Sink.{Ghosts as Sink}
use Rattle.cqs_cli_streams.specs.declared.streams.source.Source.{Ghosts as Source}
use Rattle.cqs_cli_streams.proofs.Inputs.{gave-as-many, input-told, long-is-no-input}
use Rattle.cqs_cli_limits.specs.Contract.{IsLimitCall, IsStatus}
use Rattle.cqs_cli_limits.specs.Replies.{AreSomeRequests}
use Rattle.cqs_cli_limits.specs.Verdicts.{HasTaken, IsVerdict, Tells, kept_of}
use Rattle.cqs_cli_limits.specs.declared.verdict.Verdict.{Verdict}
use Rattle.cqs_cli_limits.specs.declared.verdict.Verdict.TheVariants as verdict
use Rattle.cqs_cli_limits.proofs.OneAnswer.{requests-have-no-fault}

-- each status is one of those that there are
all-statuses : IsStatus 0 × IsStatus 4 × IsStatus 5 × IsStatus 6 × IsStatus 7 × IsStatus 8
all-statuses = (
  (0, lit< tt, refl),
  (1, lit< tt, refl),
  (2, lit< tt, refl),
  (3, lit< tt, refl),
  (4, lit< tt, refl),
  (5, lit< tt, refl),
)

module _ {S K : Type 0} (told : ℕ → ℕ → Bool) (of_source : Source S) (of_sink : Sink K) (source source_after : S)
    (sink sink_after : K) where
  open of_source use {left, faults as source_faults, tally}

  -- the whole contract of a call, for a verdict that is right and was told with this status
  pub is_call : (given : Verdict) (status : ℕ) → IsVerdict told left source_faults given source source_after
      → Tells of_sink given status sink sink_after
      → GivesAtMost (LONGEST_INPUT + 1) (left source) (left source_after)
      → HasTaken given (tally source) (tally source_after)
      → IsLimitCall told of_source of_sink source source_after sink sink_after (kept_of given) status
  is_call (verdict.Replied limited) status (calm, read) (inl (is, wrote)) taken counted = record {
    headline = λ zero. record {
      bytes = read.bytes;
      input = read.input;
      limited = limited;
      is = refl;
      replied = read.right;
      holds = wrote;
    };
    bad_text = λ eight. absurd (omega (arith, is, eight));
    source_failed = λ four. absurd (omega (arith, is, four));
    sink_failed = λ five. absurd (omega (arith, is, five));
    no_memory = λ six. absurd (omega (arith, is, six));
    too_long = λ seven. absurd (omega (arith, is, seven));
    statuses = subst IsStatus (sym is) all-statuses.0;
    taken = taken;
    given = omega (arith, counted.few);
    stops = λ none. omega (arith, counted.stops none);
    ended = λ room short none. counted.stops none;
    too_many = λ seven. absurd (omega (arith, is, seven));
    many_bytes = λ many. absurd (omega (arith, counted.few, many));
    source_calm = λ other. calm;
    sink_calm = λ other. wrote.calm;
    sink_stops = λ none. omega (arith, wrote.counted.stops none);
    complete = λ bytes tells few some calm quiet. inl is;
    wrong_text = λ bytes tells few none calm quiet.
        let same = input-told read.bytes bytes _ _ read.input tells in
        absurd (none (subst AreSomeRequests (sym same) (read.right.requests, read.right.says)));
    long_input = λ bytes tells long quiet.
        absurd (long-is-no-input read.bytes bytes (left source) (left source_after) read.input tells long);
    kept_nothing = λ done failed. absurd (done is);
  }
  is_call (verdict.Replied limited) status (calm, read) (inr (is, broke)) taken counted = record {
    headline = λ zero. absurd (omega (arith, is, zero));
    bad_text = λ eight. absurd (omega (arith, is, eight));
    source_failed = λ four. absurd (omega (arith, is, four));
    sink_failed = λ five. (
      broke.cause,
      inl (record {
        bytes = read.bytes;
        input = read.input;
        limited = limited;
        is = refl;
        replied = read.right;
        holds = broke;
      }),
    );
    no_memory = λ six. absurd (omega (arith, is, six));
    too_long = λ seven. absurd (omega (arith, is, seven));
    statuses = subst IsStatus (sym is) all-statuses.2;
    taken = taken;
    given = omega (arith, counted.few);
    stops = λ none. omega (arith, counted.stops none);
    ended = λ room short none. counted.stops none;
    too_many = λ seven. absurd (omega (arith, is, seven));
    many_bytes = λ many. absurd (omega (arith, counted.few, many));
    source_calm = λ other. calm;
    sink_calm = λ other. absurd (other is);
    sink_stops = λ none. omega (arith, broke.counted.stops none);
    complete = λ bytes tells few some calm quiet. absurd (quiet broke.cause);
    wrong_text = λ bytes tells few none calm quiet. absurd (quiet broke.cause);
    long_input = λ bytes tells long quiet.
        absurd (long-is-no-input read.bytes bytes (left source) (left source_after) read.input tells long);
    kept_nothing = λ done failed. absurd (failed is);
  }
  is_call (verdict.BadText line) status (calm, read) (inl (is, wrote)) taken counted = record {
    headline = λ zero. absurd (omega (arith, is, zero));
    bad_text = λ eight. record {
      bytes = read.bytes;
      input = read.input;
      line = line.items;
      bad = read.right;
      holds = wrote;
    };
    source_failed = λ four. absurd (omega (arith, is, four));
    sink_failed = λ five. absurd (omega (arith, is, five));
    no_memory = λ six. absurd (omega (arith, is, six));
    too_long = λ seven. absurd (omega (arith, is, seven));
    statuses = subst IsStatus (sym is) all-statuses.5;
    taken = taken;
    given = omega (arith, counted.few);
    stops = λ none. omega (arith, counted.stops none);
    ended = λ room short none. counted.stops none;
    too_many = λ seven. absurd (omega (arith, is, seven));
    many_bytes = λ many. absurd (omega (arith, counted.few, many));
    source_calm = λ other. calm;
    sink_calm = λ other. wrote.calm;
    sink_stops = λ none. omega (arith, wrote.counted.stops none);
    complete = λ bytes tells few some calm quiet.
        let same = input-told read.bytes bytes _ _ read.input tells in
        absurd (requests-have-no-fault read.bytes line.items (subst AreSomeRequests same some) read.right);
    wrong_text = λ bytes tells few none calm quiet. inl is;
    long_input = λ bytes tells long quiet.
        absurd (long-is-no-input read.bytes bytes (left source) (left source_after) read.input tells long);
    kept_nothing = λ done failed. refl;
  }
  is_call (verdict.BadText line) status (calm, read) (inr (is, broke)) taken counted = record {
    headline = λ zero. absurd (omega (arith, is, zero));
    bad_text = λ eight. absurd (omega (arith, is, eight));
    source_failed = λ four. absurd (omega (arith, is, four));
    sink_failed = λ five. (
      broke.cause,
      inr (
        refl,
        record {
          bytes = read.bytes;
          input = read.input;
          line = line.items;
          bad = read.right;
          holds = broke;
        },
      ),
    );
    no_memory = λ six. absurd (omega (arith, is, six));
    too_long = λ seven. absurd (omega (arith, is, seven));
    statuses = subst IsStatus (sym is) all-statuses.2;
    taken = taken;
    given = omega (arith, counted.few);
    stops = λ none. omega (arith, counted.stops none);
    ended = λ room short none. counted.stops none;
    too_many = λ seven. absurd (omega (arith, is, seven));
    many_bytes = λ many. absurd (omega (arith, counted.few, many));
    source_calm = λ other. calm;
    sink_calm = λ other. absurd (other is);
    sink_stops = λ none. omega (arith, broke.counted.stops none);
    complete = λ bytes tells few some calm quiet. absurd (quiet broke.cause);
    wrong_text = λ bytes tells few none calm quiet. absurd (quiet broke.cause);
    long_input = λ bytes tells long quiet.
        absurd (long-is-no-input read.bytes bytes (left source) (left source_after) read.input tells long);
    kept_nothing = λ done failed. refl;
  }
  is_call verdict.SourceFailed status rises (is, same) taken counted = record {
    headline = λ zero. absurd (omega (arith, is, zero));
    bad_text = λ eight. absurd (omega (arith, is, eight));
    source_failed = λ four. (rises, same);
    sink_failed = λ five. absurd (omega (arith, is, five));
    no_memory = λ six. absurd (omega (arith, is, six));
    too_long = λ seven. absurd (omega (arith, is, seven));
    statuses = subst IsStatus (sym is) all-statuses.1;
    taken = taken;
    given = omega (arith, counted.few);
    stops = λ none. omega (arith, counted.stops none);
    ended = λ room short none. counted.stops none;
    too_many = λ seven. absurd (omega (arith, is, seven));
    many_bytes = λ many. absurd (omega (arith, counted.few, many));
    source_calm = λ other. absurd (other is);
    sink_calm = λ other. rw same refl;
    sink_stops = λ none. rw same (omega (arith, none));
    complete = λ bytes tells few some calm quiet. absurd (calm rises);
    wrong_text = λ bytes tells few none calm quiet. absurd (calm rises);
    long_input = λ bytes tells long calm. absurd (calm rises);
    kept_nothing = λ done failed. refl;
  }
  is_call verdict.NoMemory status calm (is, same) taken counted = record {
    headline = λ zero. absurd (omega (arith, is, zero));
    bad_text = λ eight. absurd (omega (arith, is, eight));
    source_failed = λ four. absurd (omega (arith, is, four));
    sink_failed = λ five. absurd (omega (arith, is, five));
    no_memory = λ six. same;
    too_long = λ seven. absurd (omega (arith, is, seven));
    statuses = subst IsStatus (sym is) all-statuses.3;
    taken = taken;
    given = omega (arith, counted.0);
    stops = counted.1;
    ended = λ room short none. absurd (room is);
    too_many = λ seven. absurd (omega (arith, is, seven));
    many_bytes = λ many. absurd (omega (arith, counted.0, many));
    source_calm = λ other. calm;
    sink_calm = λ other. rw same refl;
    sink_stops = λ none. rw same (omega (arith, none));
    complete = λ bytes tells few some calm quiet. inr is;
    wrong_text = λ bytes tells few none calm quiet. inr is;
    long_input = λ bytes tells long calm. inr is;
    kept_nothing = λ done failed. refl;
  }
  is_call verdict.TooLong status (calm, many) (is, same) taken counted = record {
    headline = λ zero. absurd (omega (arith, is, zero));
    bad_text = λ eight. absurd (omega (arith, is, eight));
    source_failed = λ four. absurd (omega (arith, is, four));
    sink_failed = λ five. absurd (omega (arith, is, five));
    no_memory = λ six. absurd (omega (arith, is, six));
    too_long = λ seven. (many, same);
    statuses = subst IsStatus (sym is) all-statuses.4;
    taken = taken;
    given = omega (arith, counted.0);
    stops = λ none. omega (arith, counted.1 none);
    ended = λ room short none. absurd (short is);
    too_many = λ seven. counted.0;
    many_bytes = λ more. is;
    source_calm = λ other. calm;
    sink_calm = λ other. rw same refl;
    sink_stops = λ none. rw same (omega (arith, none));
    complete = λ bytes tells few some calm quiet.
        let as_many : 1048577 ≤ length bytes =
        gave-as-many 1048577 bytes (left source) (left source_after) many tells in
        absurd (omega (arith, few, as_many));
    wrong_text = λ bytes tells few none calm quiet.
        let as_many : 1048577 ≤ length bytes =
        gave-as-many 1048577 bytes (left source) (left source_after) many tells in
        absurd (omega (arith, few, as_many));
    long_input = λ bytes tells long calm. inl is;
    kept_nothing = λ done failed. refl;
  }
