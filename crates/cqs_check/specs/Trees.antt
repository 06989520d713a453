-- A tree of counts in one list: the children of node i are the nodes 2 i and 2 i + 1.
use Rattle.std.specs.Prelude.{◌≡◌, ◌≢◌, ℕ, zero, suc, ◌+◌, ◌-◌, ◌<◌, ◌≤◌, ◌^◌, ◌%◌, List, length, slice_index}
use Rattle.cqs_check.specs.declared.counts.Counts.{Counts}

-- the sum of so many nodes from one on
abbrev pub total : List ℕ → ℕ → ℕ → ℕ
total t from zero = 0
total t from (suc n) = total t from n + slice_index t (from + n)

-- node i is the sum of its children
abbrev pub IsPair : List ℕ → ℕ → Type 0
IsPair t i = slice_index t i ≡ slice_index t (i + i) + slice_index t (i + i + 1)

abbrev pub size_of : Counts → ℕ
size_of c = c.size

abbrev pub raised_of : Counts → ℕ
raised_of c = c.raised

-- 1 while number k stands
abbrev pub leaf : Counts → ℕ → ℕ
leaf c k = slice_index c.nodes.items (c.size + k)

-- how many numbers below k stand
abbrev pub stands_before : Counts → ℕ → ℕ
stands_before c k = total c.nodes.items c.size k

pub record IsTree (c : Counts) : Type 0 where
  pub height : ℕ
  pub power : c.size ≡ 2 ^ height
  pub long : length c.nodes.items ≡ c.size + c.size
  pub small : c.size + c.size < 2 ^ 63
  pub pairs : (i : ℕ) → 0 < i → i < c.size → IsPair c.nodes.items i
  pub few : (i : ℕ) → slice_index c.nodes.items i ≤ c.raised

-- node `base + place` has a left neighbour with the same parent, which counts so many; or it is the
-- left one
pub record IsBeside (c : Counts) (base place many : ℕ) : Type 0 where
  pub odd : place % 2 ≡ 1 → many ≡ slice_index c.nodes.items (base + place - 1)
  pub even : place % 2 ≢ 1 → many ≡ 0

pub record IsRaised (old : Counts) (k : ℕ) (new : Counts) : Type 0 where
  pub size : new.size ≡ old.size
  pub raised : new.raised ≡ old.raised + 1
  pub here : leaf new k ≡ leaf old k + 1
  pub others : (j : ℕ) → j ≢ k → leaf new j ≡ leaf old j

pub record IsLowered (old : Counts) (k : ℕ) (new : Counts) : Type 0 where
  pub size : new.size ≡ old.size
  pub raised : new.raised ≡ old.raised
  pub here : leaf old k ≡ leaf new k + 1
  pub others : (j : ℕ) → j ≢ k → leaf new j ≡ leaf old j
