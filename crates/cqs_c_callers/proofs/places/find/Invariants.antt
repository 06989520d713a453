use Rattle.std.proofs.Common.{◌≢◌, ℕ, ◌<◌, slice_index_or}
use Rattle.cqs_rule_laws.specs.declared.config.Place.{Place}
use Rattle.cqs_c_callers.proofs.places.find.Given as goal

-- none of the waits before has the number
abbrev pub invariant-loop-i : goal.invariant-loop-i
invariant-loop-i l = (j : ℕ) → (d : Place) → j < l.i → (slice_index_or l.waits j d).index ≢ l.number
