-- What it means that a text was written to a sink and that a status came after it.
use Rattle.std.specs.Prelude.{◌≡◌, ℕ, ◌⊎◌, List, length, IsTrue}
use Rattle.cqs_cli_streams.specs.Stream.{Gains, GainsPrefix, Rises}
use Rattle.cqs_cli_streams.specs.Tally.{StopsAfter, StopsWithin}
use Rattle.cqs_cli_streams.specs.declared.statuses.TheConstants.{NO_MEMORY, SINK_FAILED}
use Rattle.cqs_cli_streams.specs.declared.streams.sink.Sink.{Ghosts as Sink}

module _ {K : Type 0} (sink : Sink K) where
  open sink use {held, is_flushed, faults, tally}

  -- the whole text was written and flushed
  pub record Wrote (text : List ℕ) (old new : K) : Type 0 where
    pub whole : Gains text (held old) (held new)
    pub flushed : IsTrue (is_flushed new)
    pub calm : faults new ≡ faults old
    pub counted : StopsAfter (length text) (tally old) (tally new)

  -- the sink failed after a prefix of the text, and nothing was written after that
  pub record Broke (text : List ℕ) (old new : K) : Type 0 where
    pub prefix : GainsPrefix text (held old) (held new)
    pub cause : Rises (faults old) (faults new)
    pub counted : StopsWithin (length text) (tally old) (tally new)

  -- the text was written and the status is the one given with it, or the sink failed
  abbrev pub Says : List ℕ → ℕ → ℕ → K → K → Type 0
  Says text given result old new =
      ((result ≡ given) × Wrote text old new) ⊎ ((result ≡ SINK_FAILED) × Broke text old new)

-- the status that must come, unless there was no memory
abbrev pub MustEnd : ℕ → ℕ → Type 0
MustEnd status result = (result ≡ status) ⊎ (result ≡ NO_MEMORY)
