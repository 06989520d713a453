-- What the calls on slots answer.
use Rattle.std.specs.Prelude.{◌≡◌, ◌≢◌, ◌⊎◌, ℕ, ◌<◌, ◌^◌, Bool, true, List, [], ◌∷◌}
use mathlib.Core.Logic.{◌↔◌}
use Rattle.cqs_words.specs.Head.{head_word}
use Rattle.cqs_rule_laws.specs.declared.view.View.{View}
use Rattle.cqs_rule_laws.specs.SegmentSteps.{HeadLoaded, LeftBy}

-- this is no head of a free slot
abbrev pub IsTaken : ℕ → Type 0
IsTaken n = (id : ℕ) → id < 2 ^ 36 → n ≢ head_word id 0

-- nor is this one of a claimed one
abbrev pub IsNotClaimed : ℕ → Type 0
IsNotClaimed n = (id : ℕ) → id < 2 ^ 36 → n ≢ head_word id 1

-- nor is this one of a live one
abbrev pub IsNotLive : ℕ → Type 0
IsNotLive n = (id : ℕ) → id < 2 ^ 36 → n ≢ head_word id 2

-- among these heads is one of the slot x that says so
abbrev pub FoundTaken : ℕ → List (ℕ × ℕ) → Type 0
FoundTaken x [] = ⊥
FoundTaken x (head ∷ heads) = ((head.0 ≡ x) × IsTaken head.1) ⊎ FoundTaken x heads

module _ {E S : Type 0} where
  -- The slot x was seen not free at a step of this call, and the pass has what it had.
  pub record SawTaken (x : ℕ) (v w : View E S) : Type 0 where
    pub heads : List (ℕ × ℕ)
    pub left : LeftBy heads v.facts.spare_slots v.facts.duties v w
    pub taken : FoundTaken x heads

  -- Each slot below this one was.
  pub record SawAllTaken (slots : ℕ) (v w : View E S) : Type 0 where
    pub heads : List (ℕ × ℕ)
    pub left : LeftBy heads v.facts.spare_slots v.facts.duties v w
    pub taken : (x : ℕ) → x < slots → FoundTaken x heads

  -- The head of the slot x was loaded; the answer says whether it was live with this id.
  pub record Confirms (x id : ℕ) (answer : Bool) (v w : View E S) : Type 0 where
    pub found : ℕ
    pub loaded : HeadLoaded x v found w
    pub exactly : (answer ≡ true) ↔ (found ≡ head_word id 2)
