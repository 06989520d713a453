-- What a split and a meet by number have done, of whatever primitive.
use Rattle.std.specs.Prelude.{◌≡◌, ◌⊎◌, ℕ, Some, None}
use Rattle.cqs_c_callers.specs.declared.answers.Answer.{Answer}
use Rattle.cqs_c_callers.specs.declared.answers.Answer.TheVariants as answer
use Rattle.cqs_c_numbers.specs.declared.caller.Caller.{Caller}
use Rattle.cqs_c_numbers.specs.declared.caller.Caller.TheVariants as caller
use Rattle.cqs_c_numbers.specs.declared.numbered.Numbered.{Numbered}
use Rattle.cqs_c_numbers.specs.declared.primitive.Primitive.{Primitive}
use Rattle.cqs_c_numbers.specs.declared.primitive.Primitive.TheVariants as primitive
use Rattle.cqs_c_numbers.specs.Callers.{StandsAt, StandsAs, pass_number}
use Rattle.cqs_c_numbers.specs.Numbered.{primitive_in, IsLaid, IsTaken}
use Rattle.cqs_c_latch_callers.specs.BarrierSeats as barrier
use Rattle.cqs_c_latch_callers.specs.LatchSeats as latch
use Rattle.cqs_c_callers.specs.PoolSeats as pool
use Rattle.cqs_c_callers.specs.SemaphoreSeats as semaphore
use Rattle.cqs_c_sync_callers.specs.Seats as sync

-- why the primitive refuses a split that is to give so many parties, which only a barrier does
abbrev pub RefusesSplitOf : Primitive → ℕ → Caller → Caller → Answer → Type 0
RefusesSplitOf (primitive.Semaphore s) n (caller.Semaphore c) (caller.Semaphore d) a =
    semaphore.RefusesSplit s c d a
RefusesSplitOf (primitive.Pool p) n (caller.Pool c) (caller.Pool d) a = pool.RefusesSplit p c d a
RefusesSplitOf (primitive.Latch l) n (caller.Latch c) (caller.Latch d) a =
    latch.RefusesSplit l c d a
RefusesSplitOf (primitive.Barrier b) n (caller.Barrier c) (caller.Barrier d) a =
    barrier.RefusesSplit b n c d a
RefusesSplitOf (primitive.SyncSemaphore s) n (caller.SyncSemaphore c) (caller.SyncSemaphore d) a =
    sync.RefusesSplit s c d a
RefusesSplitOf _ n c d a = ⊥

-- it does, or there was no memory for another caller
abbrev pub RefusesSplit : Primitive → ℕ → Caller → Caller → Answer → Type 0
RefusesSplit p n c d a = ((a ≡ answer.Memory) × (d ≡ c)) ⊎ RefusesSplitOf p n c d a

-- the primitive's own split made the pass of this new caller
abbrev pub HasSplit : Primitive → ℕ → Caller → Caller → Caller → Type 0
HasSplit (primitive.Semaphore s) n (caller.Semaphore c) (caller.Semaphore d) (caller.Semaphore m) =
    semaphore.HasSplit s c d m
HasSplit (primitive.Pool p) n (caller.Pool c) (caller.Pool d) (caller.Pool m) =
    pool.HasSplit p c d m
HasSplit (primitive.Latch l) n (caller.Latch c) (caller.Latch d) (caller.Latch m) =
    latch.HasSplit l c d m
HasSplit (primitive.Barrier b) n (caller.Barrier c) (caller.Barrier d) (caller.Barrier m) =
    barrier.HasSplit b n c d m
HasSplit (primitive.SyncSemaphore s) n (caller.SyncSemaphore c) (caller.SyncSemaphore d)
    (caller.SyncSemaphore m) = sync.HasSplit s c d m
HasSplit _ n c d m = ⊥

-- why a meet with the given caller is refused
abbrev pub RefusesMeet : Caller → Caller → Answer → Type 0
RefusesMeet (caller.Semaphore c) (caller.Semaphore given) a = semaphore.RefusesMeet c given a
RefusesMeet (caller.Pool c) (caller.Pool given) a = pool.RefusesMeet c given a
RefusesMeet (caller.Latch c) (caller.Latch given) a = latch.RefusesMeet c given a
RefusesMeet (caller.Barrier c) (caller.Barrier given) a = barrier.RefusesMeet c given a
RefusesMeet (caller.SyncSemaphore c) (caller.SyncSemaphore given) a = sync.RefusesMeet c given a
RefusesMeet _ given a = ⊥

-- the primitive's own meet took the given caller's pass in
abbrev pub TakesIn : Caller → Caller → Caller → Type 0
TakesIn (caller.Semaphore c) (caller.Semaphore given) (caller.Semaphore d) =
    semaphore.TakesIn c given d
TakesIn (caller.Pool c) (caller.Pool given) (caller.Pool d) = pool.TakesIn c given d
TakesIn (caller.Latch c) (caller.Latch given) (caller.Latch d) = latch.TakesIn c given d
TakesIn (caller.Barrier c) (caller.Barrier given) (caller.Barrier d) = barrier.TakesIn c given d
TakesIn (caller.SyncSemaphore c) (caller.SyncSemaphore given) (caller.SyncSemaphore d) =
    sync.TakesIn c given d
TakesIn _ given d = ⊥

-- A new caller was laid under the number of its pass, which is told, and which nobody had; or that
-- slot wasn't free, which is told as a crowd.
abbrev pub IsSeated : Numbered → Caller → Answer → Type 0
IsSeated of made a =
    ((a ≡ answer.Made (pass_number made)) × IsTaken of (pass_number made) 2 None
    × IsLaid of (pass_number made) 0 (Some made))
    ⊎ (a ≡ answer.Crowd)

-- the primitive's own split made this caller, who was told so
pub record IsMade (of : Numbered) (n : ℕ) (c d : Caller) (a : Answer) : Type 0 where
  pub made : Caller
  pub stands : StandsAt (primitive_in of) made
  pub split : HasSplit (primitive_in of) n c d made
  pub seated : IsSeated of made a

-- The pass of this number was taken by the exchange of its mark, and put back: the split was
-- refused, or another pass was made.
pub record Splits (of : Numbered) (pass n : ℕ) (a : Answer) : Type 0 where
  pub before : Caller
  pub after : Caller
  pub taken : IsTaken of pass 0 (Some before)
  pub stood : StandsAs (primitive_in of) pass before
  pub splits : RefusesSplit (primitive_in of) n before after a ⊎ IsMade of n before after a
  pub stands : StandsAs (primitive_in of) pass after
  pub back : IsLaid of pass 0 (Some after)

-- Nobody has the number, or another call has the pass just now; or the split was made.
abbrev pub IsSplit : Numbered → ℕ → ℕ → Answer → Type 0
IsSplit of pass n a = (a ≡ answer.NoPass) ⊎ (a ≡ answer.InUse) ⊎ Splits of pass n a

-- The meet was refused, and the pass is as it was, and so is the given one, which was put back; or
-- that was taken in, and its number is nobody's.
abbrev pub Joins : Numbered → ℕ → Caller → Caller → Answer → Caller → Type 0
Joins of number c given a d =
    (RefusesMeet c given a × (d ≡ c) × IsLaid of number 0 (Some given))
    ⊎ ((a ≡ answer.Met) × TakesIn c given d × IsLaid of number 2 None)

-- The passes of both numbers were taken, each by the exchange of its mark, and the first was put
-- back.
pub record Meets (of : Numbered) (pass number : ℕ) (a : Answer) : Type 0 where
  pub before : Caller
  pub given : Caller
  pub after : Caller
  pub taken : IsTaken of pass 0 (Some before)
  pub given_taken : IsTaken of number 0 (Some given)
  pub stood : StandsAs (primitive_in of) pass before
  pub came : StandsAs (primitive_in of) number given
  pub joins : Joins of number before given a after
  pub stands : StandsAs (primitive_in of) pass after
  pub back : IsLaid of pass 0 (Some after)

-- Nobody has one of the numbers, or another call has its pass just now; or the meet was made.
abbrev pub IsMet : Numbered → ℕ → ℕ → Answer → Type 0
IsMet of pass number a = (a ≡ answer.NoPass) ⊎ (a ≡ answer.InUse) ⊎ Meets of pass number a
