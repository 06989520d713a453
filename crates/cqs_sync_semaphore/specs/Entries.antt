-- What an acquire appends to the history: the entries of the caller, in order; and apart from them
-- the one that may come after them, by which a permit on its way is delivered.
use Rattle.std.specs.Prelude.{ℕ, List, [], ◌∷◌, Some, Result, Ok, Err}
use Rattle.cqs_core.specs.declared.entries.Entry.{Entry}
use Rattle.cqs_core.specs.declared.entries.Entry.TheVariants as entry
use Rattle.cqs_rule_laws.specs.declared.config.AcquireError.{AcquireError}
use Rattle.cqs_rule.specs.Waits.{place_of}
use Rattle.cqs_semaphore.specs.Entries.{came_by, took_entries}
use Rattle.cqs_semaphore.specs.Permits.{number_of}
use Rattle.cqs_sync_semaphore.specs.declared.answers.SyncAcquired.{SyncAcquired}
use Rattle.cqs_sync_semaphore.specs.declared.answers.SyncAcquired.TheVariants.{Now, Later, Broke}

-- A caller who came to a broken cell drew its number, and was out of the line by that.
abbrev pub acquired_entries : ℕ → Result SyncAcquired AcquireError → List Entry
acquired_entries p (Ok (Now permit)) = took_entries p (number_of permit)
acquired_entries p (Ok (Later wait)) = took_entries p (Some (place_of wait).index)
acquired_entries p (Ok (Broke k)) =
    entry.TakeDoor p ∷ entry.Enter p k ∷ entry.Undo p k ∷ []
acquired_entries p (Err e) = []

abbrev pub acquired_further : Result SyncAcquired AcquireError → List Entry
acquired_further (Ok (Now permit)) = came_by (number_of permit)
acquired_further (Ok (Later wait)) = []
acquired_further (Ok (Broke k)) = []
acquired_further (Err e) = []
