-- The slots that passes have spare.
use Rattle.std.specs.Prelude.{◌≡◌, ℕ, ◌<◌, ◌≤◌, List, [], ◌∷◌}
use mathlib.Core.Option.{some}
use lib.ListN.{get_elem?}
use Rattle.cqs_slots.specs.Slots.{Segments, spare}
use Rattle.cqs_rule_laws.specs.declared.view.Spare.{Spare}
use Rattle.cqs_rule_laws.specs.declared.view.View.{View}
use Rattle.cqs_rule_laws.specs.Lists.{Has, IsDistinct}

-- the slots of these
abbrev pub slots_of : List Spare → List ℕ
slots_of [] = []
slots_of (x ∷ xs) = x.slot ∷ slots_of xs

-- The slot is spare, and reset so far. Once its reset was begun for the segment after `after`, its
-- last segment isn't after that one.
pub record IsSpare (slots : ℕ) (t : Segments) (x : Spare) : Type 0 where
  pub low : x.slot < slots
  pub id : ℕ
  pub is : t.slots x.slot ≡ spare id x.after x.done
  pub begun : 0 < x.done → id ≤ x.after

abbrev pub AreSpare : ℕ → Segments → List Spare → Type 0
AreSpare slots t [] = Unit {0}
AreSpare slots t (x ∷ xs) = IsSpare slots t x × AreSpare slots t xs

-- each spare slot is one pass's
pub record SparesHold {E S : Type 0} (slots : ℕ) (t : Segments) (views : List (View E S))
    : Type 0 where
  pub are : (j : ℕ) (v : View E S) → get_elem? views j ≡ some v
      → AreSpare slots t v.facts.spare_slots
  pub once : (j : ℕ) (v : View E S) → get_elem? views j ≡ some v
      → IsDistinct (slots_of v.facts.spare_slots)
  pub apart : (i j : ℕ) (v w : View E S) (y : ℕ) → get_elem? views i ≡ some v
      → get_elem? views j ≡ some w
      → Has y (slots_of v.facts.spare_slots) → Has y (slots_of w.facts.spare_slots) → i ≡ j
