-- The contract of the command: what one call of it does, whatever its source and its sink.
use Rattle.std.specs.Prelude.{◌≡◌, ◌≢◌, ℕ, ◌+◌, ◌<◌, ◌≤◌, ◌⊎◌, Bool, List, [], ◌∷◌, length, Option, Some, None, Contains}
pub use Rattle.cqs_limiter.specs.declared.limits.Limited.{Limited}
use Rattle.cqs_cli_streams.specs.Counts.{raise, Rises}
use Rattle.cqs_cli_streams.specs.Input.{IsInput}
use Rattle.cqs_cli_streams.specs.Sayings.{Broke, MustEnd, Wrote}
use Rattle.cqs_cli_streams.specs.Stream.{GivesAtMost, GivesCount}
use Rattle.cqs_cli_streams.specs.declared.statuses.TheConstants.{BAD_TEXT, DONE, NO_MEMORY, SINK_FAILED, SOURCE_FAILED, TOO_LONG}
use Rattle.cqs_cli_streams.specs.declared.streams.reading.TheConstants.{LONGEST_INPUT}
use Rattle.cqs_cli_streams.specs.declared.streams.sink.Sink.{Ghosts as Sink}
use Rattle.cqs_cli_streams.specs.declared.streams.source.Source.{Ghosts as Source}
use Rattle.cqs_cli_limits.specs.Replies.{AreReplies, AreSomeRequests, IsBadText}

-- the input was requests, what is kept is what workers left of them, and of its text this holds
pub record RepliesTold (told : ℕ → ℕ → Bool) (left after : Option (List ℕ))
    (kept : Option Limited) (Holds : List ℕ → Type 0) : Type 0 where
  pub bytes : List ℕ
  pub input : IsInput bytes left after
  pub limited : Limited
  pub is : kept ≡ Some limited
  pub replied : AreReplies told bytes limited
  pub holds : Holds limited.text.items

-- the input was no requests, and of the line that says where this holds
pub record BadTold (left after : Option (List ℕ)) (Holds : List ℕ → Type 0) : Type 0 where
  pub bytes : List ℕ
  pub input : IsInput bytes left after
  pub line : List ℕ
  pub bad : IsBadText bytes line
  pub holds : Holds line

-- the statuses that there are
abbrev pub IsStatus : ℕ → Type 0
IsStatus = Contains (DONE ∷ SOURCE_FAILED ∷ SINK_FAILED ∷ NO_MEMORY ∷ TOO_LONG ∷ BAD_TEXT ∷ [])

module _ {S K : Type 0} (told : ℕ → ℕ → Bool) (source : Source S) (sink : Sink K) where
  open source use {left, faults as source_faults, tally as read}
  open sink use {faults as sink_faults, tally as written}

  -- One call, from one source to the next and from one sink to the next; what it keeps, and the
  -- status that it gives.
  pub record IsLimitCall (before after : S) (old new : K) (kept : Option Limited) (status : ℕ)
      : Type 0 where
    -- Status 0 means: the bytes read are requests, and the text that was written, whole and
    -- flushed, is that of what workers left of them, which is kept.
    pub headline : status ≡ DONE
        → RepliesTold told (left before) (left after) kept (λ text. Wrote sink text old new)
    -- The bytes are no requests, and the line that names their first bad line was written and
    -- flushed.
    pub bad_text : status ≡ BAD_TEXT
        → BadTold (left before) (left after) (λ line. Wrote sink line old new)
    -- The source failed, and nothing was written.
    pub source_failed : status ≡ SOURCE_FAILED
        → Rises (source_faults before) (source_faults after) × (new ≡ old)
    -- The sink failed, after a prefix of the text that was to be written; what is kept is as if it
    -- had been written.
    pub sink_failed : status ≡ SINK_FAILED
        → Rises (sink_faults old) (sink_faults new)
        × (RepliesTold told (left before) (left after) kept (λ text. Broke sink text old new)
        ⊎ ((kept ≡ None)
        × BadTold (left before) (left after) (λ line. Broke sink line old new)))
    -- Memory ran out, and nothing was written.
    pub no_memory : status ≡ NO_MEMORY → new ≡ old
    -- One byte more than an input may have was read, and nothing was written.
    pub too_long : status ≡ TOO_LONG
        → GivesCount (LONGEST_INPUT + 1) (left before) (left after) × (new ≡ old)
    -- There is no other status.
    pub statuses : IsStatus status
    -- Never are more bytes taken, and nothing is read after the end of the source or a fault of it.
    pub taken : GivesAtMost (LONGEST_INPUT + 1) (left before) (left after)
    pub given : (read after).given ≤ (read before).given + (LONGEST_INPUT + 1)
    pub stops : (read before).stops ≡ 0 → (read after).stops ≤ 1
    -- Unless memory ran out or it was too long, an input was read until a read stopped: at its end,
    -- or where the source failed.
    pub ended : status ≢ NO_MEMORY → status ≢ TOO_LONG → (read before).stops ≡ 0
        → (read after).stops ≡ 1
    -- By the source's tally an input is too long exactly where so many bytes were read.
    pub too_many : status ≡ TOO_LONG
        → (read after).given ≡ raise (read before).given (LONGEST_INPUT + 1)
    pub many_bytes : (read before).given + LONGEST_INPUT < (read after).given → status ≡ TOO_LONG
    -- A fault is never hidden, and nothing is written after a fault of the sink or a flush.
    pub source_calm : status ≢ SOURCE_FAILED → source_faults after ≡ source_faults before
    pub sink_calm : status ≢ SINK_FAILED → sink_faults new ≡ sink_faults old
    pub sink_stops : (written old).stops ≡ 0 → (written new).stops ≤ 1
    -- Requests are always answered by the whole text.
    pub complete : (bytes : List ℕ) → left before ≡ Some bytes → length bytes ≤ LONGEST_INPUT
        → AreSomeRequests bytes → ¬ Rises (source_faults before) (source_faults after)
        → ¬ Rises (sink_faults old) (sink_faults new) → MustEnd DONE status
    -- An input that is none is always answered by the line that says where.
    pub wrong_text : (bytes : List ℕ) → left before ≡ Some bytes → length bytes ≤ LONGEST_INPUT
        → ¬ AreSomeRequests bytes → ¬ Rises (source_faults before) (source_faults after)
        → ¬ Rises (sink_faults old) (sink_faults new) → MustEnd BAD_TEXT status
    -- An input that is too long is always refused.
    pub long_input : (bytes : List ℕ) → left before ≡ Some bytes → LONGEST_INPUT < length bytes
        → ¬ Rises (source_faults before) (source_faults after) → MustEnd TOO_LONG status
    -- With every other status nothing is kept.
    pub kept_nothing : status ≢ DONE → status ≢ SINK_FAILED → kept ≡ None
