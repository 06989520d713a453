-- What a step on a cell leaves, after which its pass counts the cell if it settled it.
use Rattle.std.specs.Prelude.{◌≡◌, ◌⊎◌, ℕ, ◌≤◌, Bool, true, false, List, [], ◌∷◌, ◌++◌, length}
use Rattle.cqs_rule_laws.specs.declared.view.Facts.{Facts}
use Rattle.cqs_rule_laws.specs.declared.view.View.{View}
use Rattle.cqs_rule_laws.specs.Lists.{Has}
use Rattle.cqs_rule_laws.specs.Loads.{LoadStep, counts, watches, polls, cancels, meets, misses, sees, finds, Loaded}
use Rattle.cqs_rule_laws.specs.Object.{Object, Primitive}
use Rattle.cqs_rule_laws.specs.SegmentSteps.{LeftBy}

-- the heads that a pass has found, by whether it counted a cell and found these for that
abbrev pub heads_after : Bool → List (ℕ × ℕ) → List (ℕ × ℕ) → List (ℕ × ℕ)
heads_after false more heads = heads
heads_after true more heads = heads ++ more

-- the cells that it is to count: none, if it counted
abbrev pub duties_left : Bool → List ℕ → List ℕ
duties_left false duties = duties
duties_left true duties = []

-- A pass at these facts, whose last step settled its cell or didn't. If it did, that cell is
-- counted, and these heads were found besides.
abbrev pub counted_after : Bool → List (ℕ × ℕ) → Facts → Facts
counted_after settles heads f =
    record f { heads = heads_after settles heads f.heads; duties = duties_left settles f.duties }

module _ {E S : Type 0} where
  -- The cells that the pass had to count are counted; for each of them at most one head was found,
  -- and only where all cells of its segment are counted, so that the segment was to leave. Nothing
  -- else that the pass knows has changed, but that it has seen more of the segments. A pass that
  -- had no cell to count knows just what it knew.
  pub record Counted (v w : View E S) : Type 0 where
    pub heads : List (ℕ × ℕ)
    pub few : length heads ≤ length v.facts.duties
    pub full : (s : ℕ) → v.facts.duties ≡ s ∷ [] → (heads ≡ []) ⊎ Has s w.segments.full
    pub left : LeftBy heads v.facts.spare_slots [] v w
    pub none : v.facts.duties ≡ [] → w ≡ v

  -- a step that is told so was made, and then its cell was counted
  abbrev pub ThenCounted : (View E S → Type 0) → View E S → Type 0
  ThenCounted told w = (u : View E S) × told u × Counted u w

module _ {C E S : Type 0} (object : Object E) (primitive : C → Primitive E S) where
  -- A load of the word of this number found n. A cell that it settled was counted then: the load of
  -- a counter settles none, and whoever watches doesn't either.
  abbrev pub LoadedThen : LoadStep → ℕ → View E S → ℕ → View E S → Type 0
  LoadedThen counts word v n w = Loaded object primitive counts word v n w
  LoadedThen watches word v n w = Loaded object primitive watches word v n w
  LoadedThen polls word v n w = ThenCounted (Loaded object primitive polls word v n) w
  LoadedThen cancels word v n w = ThenCounted (Loaded object primitive cancels word v n) w
  LoadedThen meets word v n w = ThenCounted (Loaded object primitive meets word v n) w
  LoadedThen misses word v n w = ThenCounted (Loaded object primitive misses word v n) w
  LoadedThen sees word v n w = ThenCounted (Loaded object primitive sees word v n) w
  LoadedThen finds word v n w = ThenCounted (Loaded object primitive finds word v n) w
