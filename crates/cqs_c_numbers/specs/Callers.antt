-- How a caller stands between two calls, of whatever primitive.
use Rattle.std.specs.Prelude.{◌≡◌, ℕ}
use Rattle.cqs_rule.specs.Passes.{pass_view}
use Rattle.cqs_c_numbers.specs.declared.caller.Caller.{Caller}
use Rattle.cqs_c_numbers.specs.declared.caller.Caller.TheVariants as caller
use Rattle.cqs_c_numbers.specs.declared.primitive.Primitive.{Primitive}
use Rattle.cqs_c_numbers.specs.declared.primitive.Primitive.TheVariants as primitive
use Rattle.cqs_c_latch_callers.specs.BarrierCallers as barrier
use Rattle.cqs_c_latch_callers.specs.LatchCallers as latch
use Rattle.cqs_c_callers.specs.PoolCallers as pool
use Rattle.cqs_c_callers.specs.SemaphoreCallers as semaphore
use Rattle.cqs_c_sync_callers.specs.Callers as sync

-- the caller is one of the primitive, and stands as such a caller does; none is of another kind
abbrev pub StandsAt : Primitive → Caller → Type 0
StandsAt (primitive.Semaphore s) (caller.Semaphore c) = semaphore.StandsAt s c
StandsAt (primitive.Pool p) (caller.Pool c) = pool.StandsAt p c
StandsAt (primitive.Latch l) (caller.Latch c) = latch.StandsAt l c
StandsAt (primitive.Barrier b) (caller.Barrier c) = barrier.StandsAt b c
StandsAt (primitive.SyncSemaphore s) (caller.SyncSemaphore c) = sync.StandsAt s c
StandsAt (primitive.Semaphore s) (caller.Pool c) = ⊥
StandsAt (primitive.Semaphore s) (caller.Latch c) = ⊥
StandsAt (primitive.Semaphore s) (caller.Barrier c) = ⊥
StandsAt (primitive.Semaphore s) (caller.SyncSemaphore c) = ⊥
StandsAt (primitive.Pool p) (caller.Semaphore c) = ⊥
StandsAt (primitive.Pool p) (caller.Latch c) = ⊥
StandsAt (primitive.Pool p) (caller.Barrier c) = ⊥
StandsAt (primitive.Pool p) (caller.SyncSemaphore c) = ⊥
StandsAt (primitive.Latch l) (caller.Semaphore c) = ⊥
StandsAt (primitive.Latch l) (caller.Pool c) = ⊥
StandsAt (primitive.Latch l) (caller.Barrier c) = ⊥
StandsAt (primitive.Latch l) (caller.SyncSemaphore c) = ⊥
StandsAt (primitive.Barrier b) (caller.Semaphore c) = ⊥
StandsAt (primitive.Barrier b) (caller.Pool c) = ⊥
StandsAt (primitive.Barrier b) (caller.Latch c) = ⊥
StandsAt (primitive.Barrier b) (caller.SyncSemaphore c) = ⊥
StandsAt (primitive.SyncSemaphore s) (caller.Semaphore c) = ⊥
StandsAt (primitive.SyncSemaphore s) (caller.Pool c) = ⊥
StandsAt (primitive.SyncSemaphore s) (caller.Latch c) = ⊥
StandsAt (primitive.SyncSemaphore s) (caller.Barrier c) = ⊥

-- the number of its pass
abbrev pub pass_number : Caller → ℕ
pass_number (caller.Semaphore c) = (pass_view c.pass).number
pass_number (caller.Pool c) = (pass_view c.pass).number
pass_number (caller.Latch c) = (pass_view c.pass).number
pass_number (caller.Barrier c) = (pass_view c.pass).number
pass_number (caller.SyncSemaphore c) = (pass_view c.pass).number

-- the caller stands so, and its pass has this number
pub record StandsAs (p : Primitive) (pass : ℕ) (c : Caller) : Type 0 where
  pub stands : StandsAt p c
  pub number : pass_number c ≡ pass
