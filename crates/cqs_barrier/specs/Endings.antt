-- How the resumptions of a barrier's last party ended: each at a cell, one after the other.
use Rattle.std.specs.Prelude.{◌≡◌, ◌⊎◌, ℕ, ◌+◌, List, [], ◌∷◌, ◌++◌, cond}
use Rattle.cqs_core.specs.declared.cells.CoreState.{CoreState}
use Rattle.cqs_core.specs.declared.cells.CoreState.TheVariants as state
use Rattle.cqs_barrier_object.specs.declared.entries.BarrierEntry.{BarrierEntry}
use Rattle.cqs_barrier_object.specs.declared.entries.BarrierEntry.TheVariants as entry
use Rattle.cqs_rule_laws.specs.declared.view.Facts.{Facts}
use Rattle.cqs_rule_laws.specs.declared.view.View.{View}
use Rattle.cqs_rule_laws.specs.Causes.{cell_of}
use Rattle.cqs_rule_laws.specs.Exchanges.{FoundCell, HasCell}
use Rattle.cqs_rule_laws.specs.Facts.{is_owing}
use Rattle.cqs_rule_laws.specs.Lists.{IsPrefix}
use Rattle.cqs_rule_laws.specs.Saw.{WasShown}
use Rattle.cqs_barrier.specs.Causes.{primitive_of}

-- The waiter of this number was served; the value was left at this number, for its party or for one
-- that is leaving; or that party had been refused to leave, and the resumption ended there.
pub data Ending : Type 0 where
  served_at : (number : ℕ) → Ending
  left_at : (number : ℕ) → Ending
  refused_at : (number : ℕ) → Ending

abbrev pub number_of : Ending → ℕ
number_of (served_at k) = k
number_of (left_at k) = k
number_of (refused_at k) = k

-- the state in which the cell was found then
abbrev pub EndsIn : Ending → CoreState → Type 0
EndsIn (served_at k) s = s ≡ state.Waiter
EndsIn (left_at k) s = (s ≡ state.Empty) ⊎ (s ≡ state.Cancelling)
EndsIn (refused_at k) s = s ≡ state.Refused

abbrev pub ending_entries : Ending → List BarrierEntry
ending_entries (served_at k) = entry.Deliver k ∷ []
ending_entries (left_at k) = []
ending_entries (refused_at k) = []

-- the waits that were served
abbrev pub served_by : Ending → List ℕ
served_by (served_at k) = k ∷ []
served_by (left_at k) = []
served_by (refused_at k) = []

abbrev pub served_in : List Ending → List ℕ
served_in [] = []
served_in (e ∷ es) = served_by e ++ served_in es

-- how many resumptions a pass at these facts owes
abbrev pub owed_by : Facts → ℕ
owed_by f = f.has.further + cond (is_owing f.doing) 1 0

module _ {T : Type 0} where
  -- It ended so after all of `from`: the cell was found in such a state, by its word and at the end
  -- of this history, and the entry of the ending comes next.
  pub record EndedSo (e : Ending) (from : List BarrierEntry) (w : View BarrierEntry T) : Type 0
    where
      pub state : CoreState
      pub found : EndsIn e state
      pub word : ℕ
      pub payload : ℕ
      pub cell : FoundCell word (cell_of (number_of e) state payload)
      pub before : List BarrierEntry
      pub since : IsPrefix from before
      pub seen : IsPrefix (before ++ ending_entries e) w.seen
      pub was : WasShown {S = T} primitive_of w.opening
          (HasCell (cell_of (number_of e) state payload)) before

  -- so did each of these, one after the other
  abbrev pub AllEnded : List Ending → List BarrierEntry → View BarrierEntry T → Type 0
  AllEnded [] from w = Unit {0}
  AllEnded (e ∷ es) from w =
      (one : EndedSo e from w) × AllEnded es (one.before ++ ending_entries e) w

  -- The pass served these waits: so its resumptions ended since v, and so many are owed still.
  pub record Served (ks : List ℕ) (v w : View BarrierEntry T) : Type 0 where
    pub ends : List Ending
    pub serves : served_in ends ≡ ks
    pub each : AllEnded ends v.seen w
