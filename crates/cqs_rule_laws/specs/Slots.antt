-- Values that move through slots of the table: which pass may open a slot, and what lies in it.
use Rattle.std.specs.Prelude.{◌≡◌, ◌⊎◌, ℕ, ◌<◌, ◌==◌, List, [], ◌∷◌, length, Option, Some, None, if◌then◌else◌}
use mathlib.Core.Option.{some}
use mathlib.Core.Option as maybe
use lib.ListN.{get_elem?}
use Rattle.cqs_rule_laws.specs.declared.view.Has.{Has}
use Rattle.cqs_rule_laws.specs.declared.view.View.{View}

module _ {S : Type 0} where
  -- what was laid into the slot k last, where the latest comes first
  abbrev pub laid_in : List (ℕ × Option S) → ℕ → Option (Option S)
  laid_in [] k = None
  laid_in (x ∷ xs) k = if x.0 == k then Some x.1 else laid_in xs k

  -- all but what was laid into the slot k
  abbrev pub taken_off : ℕ → List (ℕ × Option S) → List (ℕ × Option S)
  taken_off k [] = []
  taken_off k (x ∷ xs) = if x.0 == k then taken_off k xs else x ∷ taken_off k xs

  -- nothing was laid into a slot in which nothing was laid before
  abbrev pub LaysNone : List (ℕ × Option S) → List (ℕ × Option S) → Type 0
  LaysNone before after = (k : ℕ) → laid_in before k ≡ None → laid_in after k ≡ None

  abbrev pub or_else : Option S → Option S → Option S
  or_else None other = other
  or_else (Some y) other = Some y

  -- the value that was handed in last for the slot k
  abbrev pub handed_in : List (ℕ × S) → ℕ → Option S
  handed_in [] k = None
  handed_in (x ∷ xs) k = or_else (handed_in xs k) (if x.0 == k then Some x.1 else None)

-- The slots of a table. A slot is the pass's that may open it, and lies at home but for the moment
-- in which its pass has it open. What lies there is what its pass has laid into it, or else what
-- was handed in last for it.
module _ {E S : Type 0} (opens : Has → ℕ → Type 0) where
  -- the pass may open the slot: it is its own, or no other pass is live
  abbrev pub MayOpen : ℕ → View E S → ℕ → Type 0
  MayOpen live v k = opens v.facts.has k ⊎ (live ≡ 1)

  pub record Shelf (handed : List (ℕ × S)) (live : ℕ)
      (homes : List (maybe.Option (Option S))) (views : List (View E S)) : Type 0 where
    pub lies : ℕ → Option S
    pub home : (k : ℕ) → k < length homes
        → ((j : ℕ) (v : View E S) → get_elem? views j ≡ some v → 0 < v.weight
        → v.facts.open_slot ≡ Some k → ⊥)
        → get_elem? homes k ≡ some (some (lies k))
    pub opened : (j : ℕ) (v : View E S) → get_elem? views j ≡ some v → 0 < v.weight → (k : ℕ)
        → v.facts.open_slot ≡ Some k → MayOpen live v k
    pub laid : (j : ℕ) (v : View E S) → get_elem? views j ≡ some v → 0 < v.weight → (k : ℕ)
        (x : Option S)
        → laid_in v.laid k ≡ Some x → (lies k ≡ x) × opens v.facts.has k × (k < length homes)
    pub last : (k : ℕ)
        → ((j : ℕ) (v : View E S) → get_elem? views j ≡ some v → 0 < v.weight
        → laid_in v.laid k ≡ None)
        → lies k ≡ handed_in handed k
