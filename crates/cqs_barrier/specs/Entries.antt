-- What each answer appends to the history: the entries of the caller, in order.
use Rattle.std.specs.Prelude.{ℕ, List, [], ◌∷◌}
use Rattle.cqs_barrier_object.specs.declared.entries.BarrierEntry.{BarrierEntry}
use Rattle.cqs_barrier_object.specs.declared.entries.BarrierEntry.TheVariants as entry
use Rattle.cqs_barrier.specs.declared.answers.PartyPolled.{PartyPolled}
use Rattle.cqs_barrier.specs.declared.answers.PartyPolled.TheVariants.{Through, Pending}

-- the caller of the wait k looked at it
abbrev pub polled_entries : ℕ → ℕ → PartyPolled → List BarrierEntry
polled_entries p k Through = entry.LookGranted p k ∷ []
polled_entries p k (Pending wait) = entry.LookPending p k ∷ []
