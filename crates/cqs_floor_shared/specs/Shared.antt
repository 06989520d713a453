-- What contracts see of a shared floor: what its pass has seen, and what its jobs have there.
use Rattle.std.specs.Prelude.{◌≡◌, ℕ, ◌≤◌, Bool, false, List, [], Option, Some, slice_get, slice_index_or, slice_set}
use Rattle.cqs_core.specs.Parts.{Has}
use Rattle.cqs_plan.specs.declared.plans.kind.Kind.{Kind}
use Rattle.cqs_plan.specs.Floor.{PlainFloor}
use Rattle.cqs_plan.specs.FloorHistory.{History, of_permits}
use Rattle.cqs_plan.specs.LegalFloor.{IsHistory}
use Rattle.cqs_floor_shared.specs.Entries.{Entries, AreOf, with_entries, own_entries, none_of}

pub record Shared : Type 0 where
  -- What the resources are, their room, and what the jobs wait for, hold, and arrive at next. Its
  -- histories are none: what happened stands in `seen`.
  pub board : PlainFloor
  -- for each job, whether what it waits for came with its number
  pub came : List Bool
  -- for each resource what the pass has seen
  pub seen : List History
  -- for each resource, and for each round of a barrier, the parties that the pass holds
  pub parties : List (List ℕ)
  -- for each resource the limit of its waits, in each round
  pub limits : List ℕ
  -- the pass's number, and those of the passes that were met into it
  pub number : ℕ
  pub met : List ℕ
  -- how many floors were split from one with it, and the name that they have in common, in numbers:
  -- first what they were all opened for, and then for each resource the names of its objects
  pub floors : ℕ
  pub family : List (List (List ℕ))

abbrev pub seen_at : Shared → ℕ → History
seen_at f at = slice_index_or f.seen at (of_permits [])

abbrev pub kind_in : PlainFloor → ℕ → Option Kind
kind_in board at = slice_get board.kinds at

abbrev pub kind_at : Shared → ℕ → Option Kind
kind_at f at = kind_in f.board at

abbrev pub parties_in : List (List ℕ) → ℕ → ℕ → ℕ
parties_in parties at round = slice_index_or (slice_index_or parties at []) round 0

abbrev pub parties_at : Shared → ℕ → ℕ → ℕ
parties_at f at round = parties_in f.parties at round

abbrev pub with_parties : List (List ℕ) → ℕ → ℕ → ℕ → List (List ℕ)
with_parties parties at round many =
    slice_set parties at (slice_set (slice_index_or parties at []) round many)

-- whether what a job waits for came with its number
abbrev pub came_of : Shared → ℕ → Bool
came_of f job = slice_index_or f.came job false

-- a legal history of what stands at a place
pub record IsLegalAt (board : PlainFloor) (at : ℕ) (history : History) : Type 0 where
  pub legal : (k : Kind) → kind_in board at ≡ Some k → IsHistory k history

-- what no call but `meet` changes
pub record IsSame (f g : Shared) : Type 0 where
  pub limits : g.limits ≡ f.limits
  pub number : g.number ≡ f.number
  pub met : g.met ≡ f.met
  pub floors : g.floors ≡ f.floors
  pub family : g.family ≡ f.family

-- The call rule. The pass has seen more of the one resource. In the new part the entries that name
-- it are these, in order, and none names a pass that was met into it, or one that no floor has; and
-- all that it has seen is legal.
pub record Sees (f : Shared) (at : ℕ) (entries : Entries) (g : Shared) : Type 0 where
  pub more : Entries
  pub words : AreOf (seen_at f at) more
  pub seen : g.seen ≡ slice_set f.seen at (with_entries (seen_at f at) more)
  pub mine : own_entries f.number more ≡ entries
  pub others : (n : ℕ) → Has n f.met → own_entries n more ≡ none_of more
  pub unnamed : (n : ℕ) → f.floors ≤ n → own_entries n more ≡ none_of more
  pub legal : IsLegalAt f.board at (with_entries (seen_at f at) more)
  pub same : IsSame f g
