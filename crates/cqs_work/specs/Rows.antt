-- The waits at one semaphore as a row: the job of each number.
use Rattle.std.specs.Prelude.{◌≡◌, ◌≢◌, ℕ, suc, ◌<◌, ◌≤◌, ◌==◌, List, [], ◌∷◌, ◌++◌, AllPairs, Some, length, filter, slice_get}
use Rattle.cqs_core.specs.Numbered.{IsIn}
use Rattle.cqs_plan.specs.declared.plans.kind.Kind.{Kind}
use Rattle.cqs_plan.specs.declared.plans.kind.Kind.TheVariants as kind
use Rattle.cqs_work.specs.declared.waits.Waited.{Waited}
use Rattle.cqs_work.specs.declared.waits.WaitLine.{WaitLine}

-- a job of this number was told a wait there
pub record WasTold (told : List Waited) (at number job : ℕ) : Type 0 where
  pub wait : Waited
  pub among : IsIn wait told
  pub there : wait.at ≡ at
  pub numbered : wait.number ≡ number
  pub whose : wait.job ≡ job

-- where a number was told at this place, the row has a job there that was told it; and the row is
-- no longer than it must be
pub record IsRow (at : ℕ) (told : List Waited) (row : List ℕ) : Type 0 where
  pub short : (n : ℕ) → ((number job : ℕ) → WasTold told at number job → number < n)
      → length row ≤ n
  pub jobs : (number job : ℕ) → WasTold told at number job
      → (other : ℕ) × (slice_get row number ≡ Some other) × WasTold told at number other

-- a row that has this place, and is else as before
pub record IsLonger (old : List ℕ) (place : ℕ) (new : List ℕ) : Type 0 where
  pub there : place < length new
  pub kept : (k x : ℕ) → slice_get old k ≡ Some x → slice_get new k ≡ Some x
  pub short : (n : ℕ) → length old ≤ n → place < n → length new ≤ n

-- a row in which the number has this job, and that is else as before
pub record IsNote (old : List ℕ) (number job : ℕ) (new : List ℕ) : Type 0 where
  pub there : slice_get new number ≡ Some job
  pub kept : (k x : ℕ) → k ≢ number → slice_get old k ≡ Some x → slice_get new k ≡ Some x
  pub short : (n : ℕ) → length old ≤ n → number < n → length new ≤ n

-- a row after more waits
pub record IsRowAfter (at : ℕ) (more : List Waited) (old new : List ℕ) : Type 0 where
  pub on : (told : List Waited) → IsRow at told old → IsRow at (told ++ more) new

-- the lines of a row, from a number on
abbrev pub lines_from : ℕ → ℕ → List ℕ → List WaitLine
lines_from at number [] = []
lines_from at number (job ∷ row) =
    record { at = at; number = number; job = job } ∷ lines_from at (suc number) row

-- the lines of a resource came to the others, where it is a semaphore
abbrev pub AddsAt : Kind → List Waited → ℕ → List WaitLine → List WaitLine → Type 0
AddsAt (kind.Semaphore permits) told at old new =
    (row : List ℕ) × IsRow at told row × (new ≡ old ++ lines_from at 0 row)
AddsAt k told at old new = new ≡ old

-- the lines at a place
abbrev pub lines_at : ℕ → List WaitLine → List WaitLine
lines_at at lines = filter (λ line. line.at == at) lines

-- the lines of all workers' waits, of the first so many resources: those of each semaphore
-- together,
-- in the order of their numbers
pub record AreLines (kinds : List Kind) (told : List Waited) (many : ℕ) (lines : List WaitLine)
    : Type 0 where
  pub in_order : AllPairs (λ one other. one.at ≤ other.at) lines
  pub below : (k : ℕ) (line : WaitLine) → slice_get lines k ≡ Some line → line.at < many
  pub semaphores : (at permits : ℕ) → at < many
      → slice_get kinds at ≡ Some (kind.Semaphore permits)
      → (row : List ℕ) × IsRow at told row × (lines_at at lines ≡ lines_from at 0 row)
  pub others : (at : ℕ) (k : Kind) → slice_get kinds at ≡ Some k
      → ((permits : ℕ) → k ≢ kind.Semaphore permits) → lines_at at lines ≡ []
