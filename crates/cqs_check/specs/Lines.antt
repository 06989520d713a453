-- The waits by number, and the line that they show.
use Rattle.std.specs.Prelude.{◌≡◌, ℕ, ◌+◌, ◌<◌, ◌≤◌, List, [], ◌∷◌, ◌++◌, length, slice_set, vec_len, ◌^◌, vec_capacity, Option, Some, None, suc, true, false, slice_get}
use Rattle.cqs_core.specs.Numbered.{pick_each}
use Rattle.cqs_core.specs.QueueLine.{Waiting, Service}
use Rattle.cqs_check.specs.declared.waits.WaitState.{WaitState}
use Rattle.cqs_check.specs.declared.waits.WaitState.TheVariants as wait
use Rattle.cqs_check.specs.declared.waits.Table.{Table}
use Rattle.cqs_check.specs.Trees.{IsTree, leaf, size_of, raised_of}

-- the wait of a number, where it stands in the line
abbrev pub waiting_at : ℕ → WaitState → Option Waiting
waiting_at k (wait.Waiting c) = Some (record { wait = k; pass = c })
waiting_at k (wait.Served c) = None
waiting_at k (wait.Closed c) = None
waiting_at k wait.Gone = None

-- how many stand in the line
abbrev pub standing : List WaitState → ℕ
standing [] = 0
standing (wait.Waiting c ∷ waits) = suc (standing waits)
standing (wait.Served c ∷ waits) = standing waits
standing (wait.Closed c ∷ waits) = standing waits
standing (wait.Gone ∷ waits) = standing waits

abbrev pub flag : Option WaitState → ℕ
flag (Some (wait.Waiting c)) = 1
flag (Some (wait.Served c)) = 0
flag (Some (wait.Closed c)) = 0
flag (Some wait.Gone) = 0
flag None = 0

-- the service of a number, where it was served
abbrev pub served_at : ℕ → WaitState → Option Service
served_at k (wait.Waiting c) = None
served_at k (wait.Served c) = Some (record { wait = k; pass = c; is_open = true })
served_at k (wait.Closed c) = Some (record { wait = k; pass = c; is_open = false })
served_at k wait.Gone = None

abbrev pub served_of : Table → List Service
served_of t = pick_each served_at 0 t.waits.items

abbrev pub line_of : Table → List Waiting
line_of t = pick_each waiting_at 0 t.waits.items

-- the tree counts those that stand
pub record IsTable (t : Table) : Type 0 where
  pub tree : IsTree t.counts
  pub room : length t.waits.items ≤ size_of t.counts
  pub entered : raised_of t.counts ≤ length t.waits.items
  pub flags : (k : ℕ) → k < size_of t.counts → leaf t.counts k ≡ flag (slice_get t.waits.items k)

-- wait k becomes this
pub record Becomes (old : Table) (k : ℕ) (state : WaitState) (new : Table) : Type 0 where
  pub table : IsTable new
  pub waits : new.waits.items ≡ slice_set old.waits.items k state
  pub spare : vec_capacity new.waits ≡ vec_capacity old.waits

-- the next number is this caller's
pub record Enters (old : Table) (caller : ℕ) (new : Table) : Type 0 where
  pub table : IsTable new
  pub waits : new.waits.items ≡ old.waits.items ++ wait.Waiting caller ∷ []
  pub spare : vec_capacity new.waits ≡ vec_capacity old.waits

-- the next number is nobody's
pub record PassesOver (old new : Table) : Type 0 where
  pub table : IsTable new
  pub waits : new.waits.items ≡ old.waits.items ++ wait.Gone ∷ []
  pub spare : vec_capacity new.waits ≡ vec_capacity old.waits

-- there is room for one more number
pub record HasRoom (t : Table) : Type 0 where
  pub low : vec_len t.waits < size_of t.counts
  pub spare : vec_len t.waits < vec_capacity t.waits
  pub few : vec_len t.waits + 1 < 2 ^ 32
