-- What holds of a ledger between two calls of its floor.
use Rattle.std.specs.Prelude.{◌≡◌, ℕ, ◌+◌, ◌*◌, ◌≤◌, ◌==◌, Bool, false, List, length, Option, Some, None, is_some, sum, sum_by, count_by, slice_get, slice_index}
use Rattle.cqs_core.specs.Numbered.{EachAt}
use Rattle.cqs_plan.specs.Validity.{IsKind}
use Rattle.cqs_floor_common.specs.Holdings.{held_at}
use Rattle.cqs_floor_alone_kinds.specs.declared.waits.Wait.{Wait}
use Rattle.cqs_floor_alone.specs.Ledger.{Ledger, holds_in, job_wait}
use Rattle.cqs_floor_alone_kinds.specs.Stores.{Store}
use Rattle.cqs_floor_alone_kinds.specs.Waits.{place_in}

-- the wait is for this resource
abbrev pub is_wait_at : ℕ → Option Wait → Bool
is_wait_at at (Some wait) = wait.at == at
is_wait_at at None = false

-- how many jobs wait for a resource
abbrev pub waiting_at : List (Option Wait) → ℕ → ℕ
waiting_at waits at = count_by (is_wait_at at) waits

-- how many transfers may still come: two of each take, two of each wait, and one of each permit or
-- element held; a wait at a latch and an arrival count as a take
abbrev pub transfers_to_come : {X : Type 0} → Ledger X → ℕ
transfers_to_come l =
    2 * sum l.room + 2 * count_by (λ wait. is_some wait) l.waits
    + sum_by (λ hs. length hs) (holds_in l)

-- no two jobs have one wait
pub record AreApart (waits : List (Option Wait)) : Type 0 where
  pub same : (i j : ℕ) (v w : Wait) → slice_get waits i ≡ Some (Some v)
      → slice_get waits j ≡ Some (Some w) → job_wait v ≡ job_wait w → i ≡ j

module _ {X : Type 0} (s : Store X) where
  -- the job's wait is one that the caller of its resource has
  pub record StandsIn (soles : List X) (wait : Wait) : Type 0 where
    pub sole : X
    pub there : slice_get soles wait.at ≡ Some sole
    pub has : s.has sole wait.round (place_in wait)

  -- What is kept at a place stands for its resource, has room for all that can still come of what
  -- the ledger counts there, and for each job what the ledger has.
  abbrev pub IsFundedAt : Ledger X → ℕ → X → Type 0
  IsFundedAt l at sole =
      s.funded sole (slice_get l.kinds at) (slice_index l.room at)
      (waiting_at l.waits at) (held_at (holds_in l) at)

  pub record IsKept (l : Ledger X) : Type 0 where
    pub soles : length l.soles ≡ length l.kinds
    pub rooms : length l.room ≡ length l.kinds
    pub sized : EachAt (λ at kind. IsKind kind) l.kinds
    pub funded : EachAt (IsFundedAt l) l.soles
    pub waits : (job : ℕ) (wait : Wait) → slice_get l.waits job ≡ Some (Some wait)
        → StandsIn l.soles wait
    pub apart : AreApart l.waits
    pub spare : transfers_to_come l ≤ l.spare
