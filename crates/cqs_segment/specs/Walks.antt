-- What a call on segments needs of its pass, and what it leaves.
use Rattle.std.specs.Prelude.{◌≡◌, ℕ, ◌≤◌, List, [], ◌∷◌, ◌++◌, length}
use Rattle.cqs_rule_laws.specs.declared.view.Spare.{Spare}
use Rattle.cqs_rule_laws.specs.declared.view.View.{View}
use Rattle.cqs_rule_laws.specs.Layout.{words_for}
use Rattle.cqs_rule_laws.specs.SegmentSteps.{LeftBy, reset_slot}

-- a live pass on a table of so many words
pub record IsWalker {E S : Type 0} (words : ℕ) (v : View E S) : Type 0 where
  pub one : v.weight ≡ 1
  pub wide : words ≡ words_for v.slots
  pub few : v.slots ≤ 65536

-- the list without its last element
abbrev pub but_last : {A : Type 0} → List A → List A
but_last [] = []
but_last (x ∷ []) = []
but_last (x ∷ y ∷ ys) = x ∷ but_last (y ∷ ys)

-- of these spares the last is this slot, whose reset has come so far
abbrev pub EndsReset : List Spare → ℕ → ℕ → ℕ → Type 0
EndsReset spares x after done = spares ≡ but_last spares ++ reset_slot x after done ∷ []

-- of these spares the last is this slot
abbrev pub EndsWith : List Spare → ℕ → Type 0
EndsWith spares x = (after done : ℕ) × EndsReset spares x after done

-- the last of these cells that are to be counted is one of this segment
abbrev pub EndsAt : List ℕ → ℕ → Type 0
EndsAt duties s = duties ≡ but_last duties ++ s ∷ []

module _ {E S : Type 0} where
  -- The pass has these slots spare and these cells to count now, whatever heads it found. All else
  -- that it knows is as it was, but that it has seen more of the segments.
  abbrev pub Left : List Spare → List ℕ → View E S → View E S → Type 0
  Left spares duties v w = (heads : List (ℕ × ℕ)) × LeftBy heads spares duties v w

  -- it has what it had
  abbrev pub Looked : View E S → View E S → Type 0
  Looked v w = Left v.facts.spare_slots v.facts.duties v w

  -- and found at most so many heads
  abbrev pub LookedAt : ℕ → View E S → View E S → Type 0
  LookedAt most v w =
      (heads : List (ℕ × ℕ)) × (length heads ≤ most)
      × LeftBy heads v.facts.spare_slots v.facts.duties v w
