-- A resource that workers share, as one worker's floor sees it; and what every call leaves of it.
use Rattle.std.specs.Prelude.{◌≡◌, ◌≢◌, ◌⊎◌, ℕ, ◌+◌, ◌<◌, ◌≤◌, true, List, [], ◌∷◌, ◌++◌, drop, length, slice_set, if◌then◌else◌}
use Rattle.cqs_core.specs.Parts.{Has}
use Rattle.cqs_plan.specs.declared.plans.kind.Kind.{Kind}
use Rattle.cqs_plan.specs.FloorHistory.{History}
use Rattle.cqs_plan.specs.Language.{can_hold}
use Rattle.cqs_plan.specs.LegalFloor.{IsHistory}
use Rattle.cqs_rule_laws.specs.declared.config.Place.{Place}
use Rattle.cqs_floor_common.specs.HeldElements.{held_by}
use Rattle.cqs_floor_shared.specs.Entries.{Entries, AreOf, with_entries, own_entries, own_history, none_of, is_nothing}

-- What the jobs of a worker have of a resource: what it is, how many of their waits stand in cells,
-- how many of them came with their numbers and weren't looked at yet, and for each job which
-- elements it holds, oldest first. Permits have the number 0.
pub record Funds : Type 0 where
  pub kind : Kind
  pub waiting : ℕ
  pub came : ℕ
  pub held : List (List ℕ)

-- What a floor sees of it. A wait is named by the place of its cell, whose number is the wait's,
-- and at a barrier by its round; what isn't a barrier has the round 0.
pub record Share (X : Type 0) : Type 1 where
  -- what its pass has seen
  pub seen : X → History
  -- the pass's number, those of the passes that were met into it, and how many may be made in all
  pub number : X → ℕ
  pub met : X → List ℕ
  pub passes : X → ℕ
  -- the limit of its waits, in each round
  pub limit : X → ℕ
  -- for each round the parties that the pass holds; what isn't a barrier has no rounds
  pub parties : X → List ℕ
  -- a name that it has in common with what was split from one with it
  pub family : X → List (List ℕ)
  -- the jobs have this of it
  pub funded : X → Funds → Type 0
  -- its pass has the wait of this round and this place
  pub has : X → ℕ → Place → Type 0

-- a job has one more, or the oldest less; and what came, where the kind can be held
abbrev pub with_more : Funds → ℕ → ℕ → Funds
with_more a job element =
    record a { held = slice_set a.held job (held_by a.held job ++ element ∷ []) }

abbrev pub with_less : Funds → ℕ → Funds
with_less a job = record a { held = slice_set a.held job (drop 1 (held_by a.held job)) }

abbrev pub with_brought : Funds → ℕ → ℕ → Funds
with_brought a job element = if can_hold a.kind then with_more a job element else a

-- another wait stands in a cell, or stands there with its number; one less does
abbrev pub with_wait : Funds → Funds
with_wait a = record a { waiting = a.waiting + 1 }

abbrev pub with_came : Funds → Funds
with_came a = record a { came = a.came + 1 }

-- what each job holds of two: first of the one, and then of the other
abbrev pub join_held : List (List ℕ) → List (List ℕ) → List (List ℕ)
join_held [] theirs = theirs
join_held (es ∷ held) [] = es ∷ held
join_held (es ∷ held) (fs ∷ theirs) = (es ++ fs) ∷ join_held held theirs

module _ {X : Type 0} (s : Share X) where
  -- all numbers of its pass
  abbrev pub own : X → List ℕ
  own x = s.number x ∷ s.met x

  -- what no call but a meet changes
  pub record IsSame (x y : X) : Type 0 where
    pub number : s.number y ≡ s.number x
    pub met : s.met y ≡ s.met x
    pub passes : s.passes y ≡ s.passes x
    pub limit : s.limit y ≡ s.limit x
    pub family : s.family y ≡ s.family x

  -- The call rule. The pass has seen more. In the new part the entries that name it are these, in
  -- order, and none names a pass that was met into it, or one that can't be made; and all that it
  -- has seen is legal.
  pub record Sees (kind : Kind) (x : X) (entries : Entries) (y : X) : Type 0 where
    pub more : Entries
    pub words : AreOf (s.seen x) more
    pub seen : s.seen y ≡ with_entries (s.seen x) more
    pub mine : own_entries (s.number x) more ≡ entries
    pub others : (n : ℕ) → Has n (s.met x) → own_entries n more ≡ none_of more
    pub unnamed : (n : ℕ) → s.passes x ≤ n → own_entries n more ≡ none_of more
    pub legal : IsHistory kind (s.seen y)
    pub same : IsSame x y

  -- its caller has all waits on; or all but that of this round and this number
  abbrev pub KeepsAll : X → X → Type 0
  KeepsAll x y = (round : ℕ) (wait : Place) → s.has x round wait → s.has y round wait

  abbrev pub KeepsOthers : X → ℕ → ℕ → X → Type 0
  KeepsOthers x round k y =
      (r : ℕ) (wait : Place) → (r ≡ round → wait.index ≢ k) → s.has x r wait → s.has y r wait

  -- all entries that its pass has seen name one of its numbers, or none
  abbrev pub IsWhole : X → Type 0
  IsWhole x =
      (n : ℕ) → (is_nothing (own_history n (s.seen x)) ≡ true) ⊎ Has n (own x)

  -- What every such resource keeps to: what its pass has seen is legal, and names no pass that
  -- can't be made.
  pub record IsLawful : Type 0 where
    pub legal : (x : X) (a : Funds) → s.funded x a → IsHistory a.kind (s.seen x)
    pub unnamed : (x : X) (a : Funds) → s.funded x a → (n : ℕ) → s.passes x ≤ n
        → is_nothing (own_history n (s.seen x)) ≡ true
    -- what came with its number can be held, and its job has it once it has looked
    pub held : (x : X) (a : Funds) → s.funded x (with_came a) → can_hold a.kind ≡ true
    pub found : (x : X) (a : Funds) (job : ℕ) → s.funded x (with_came a) → job < length a.held
        → s.funded x (with_brought a job 0)
