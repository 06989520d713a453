-- One call of the program, whichever its words.
use Rattle.std.specs.Prelude.{◌≡◌, ℕ, Bool, true, List, Option}
use Rattle.cqs_cli.specs.Contract.{IsCallOf}
use Rattle.cqs_cli_limits.specs.Contract.{IsLimitCall, Limited}
use Rattle.cqs_cli_streams.specs.declared.streams.sink.Sink.{Ghosts as Sink}
use Rattle.cqs_cli_streams.specs.declared.streams.source.Source.{Ghosts as Source}
use Rattle.cqs_floor_shared_any.specs.declared.kinds.any.AnyShared.{AnyShared}
use Rattle.cqs_floor_shared_queue.specs.Ledgers.{Ledger}
use Rattle.cqs_cli_top.specs.Commands.{commands}
use Rattle.cqs_cli_top.specs.declared.kept.Kept.{Kept}
use Rattle.cqs_cli_top.specs.KeptWorks.{kept_limited}
use Rattle.cqs_cli_top.specs.Words.{IsLimit}

-- of which calls or requests of a worker a gate is told that does nothing: of all
abbrev pub all_told : ℕ → ℕ → Bool
all_told worker request = true

module _ {S K : Type 0} (told : ℕ → ℕ → Bool) (source : Source S) (sink : Sink K) where
  -- a call that replies to requests, with what it keeps
  pub record IsLimitOn (before after : S) (old new : K) (kept : Kept (Ledger AnyShared))
      (status : ℕ) : Type 0 where
    pub limited : Option Limited
    pub keeps : kept ≡ kept_limited limited
    pub call : IsLimitCall told source sink before after old new limited status

  -- It replies to requests where the words say so, and does as any other command for any others.
  pub record IsProgramCall (words : List (List ℕ)) (before after : S) (old new : K)
      (kept : Kept (Ledger AnyShared)) (status : ℕ) : Type 0 where
    pub limit : IsLimit words → IsLimitOn before after old new kept status
    pub other : ¬ IsLimit words
        → IsCallOf (commands told) source sink words before after old new kept status
