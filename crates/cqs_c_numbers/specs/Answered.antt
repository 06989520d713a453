-- What a call with the pass of a number answers, of whatever primitive.
use Rattle.std.specs.Prelude.{◌≡◌, ◌⊎◌, ℕ, Some}
use Rattle.cqs_c_callers.specs.declared.answers.Answer.{Answer}
use Rattle.cqs_c_callers.specs.declared.answers.Answer.TheVariants as answer
use Rattle.cqs_c_numbers.specs.declared.caller.Caller.{Caller}
use Rattle.cqs_c_numbers.specs.declared.caller.Caller.TheVariants as caller
use Rattle.cqs_c_numbers.specs.declared.numbered.Numbered.{Numbered}
use Rattle.cqs_c_numbers.specs.declared.primitive.Primitive.{Primitive}
use Rattle.cqs_c_numbers.specs.declared.primitive.Primitive.TheVariants as primitive
use Rattle.cqs_c_callers.specs.declared.verb.Verb.{Verb}
use Rattle.cqs_c_numbers.specs.Callers.{StandsAs}
use Rattle.cqs_c_numbers.specs.Numbered.{primitive_in, IsLaid, IsTaken}
use Rattle.cqs_c_latch_callers.specs.BarrierAnswers as barrier
use Rattle.cqs_c_latch_callers.specs.LatchAnswers as latch
use Rattle.cqs_c_callers.specs.PoolAnswers as pool
use Rattle.cqs_c_callers.specs.SemaphoreAnswers as semaphore
use Rattle.cqs_c_sync_callers.specs.Answers as sync

-- a call of this verb, with this number of a wait or an element, led from the one caller to the
-- other
abbrev pub Leads : Primitive → Verb → ℕ → Caller → Answer → Caller → Type 0
Leads (primitive.Semaphore s) v n (caller.Semaphore c) a (caller.Semaphore d) =
    semaphore.IsAnswered v n c a d
Leads (primitive.Pool p) v n (caller.Pool c) a (caller.Pool d) =
    pool.IsAnswered v n c a d
Leads (primitive.Latch l) v n (caller.Latch c) a (caller.Latch d) =
    latch.IsAnswered l v n c a d
Leads (primitive.Barrier b) v n (caller.Barrier c) a (caller.Barrier d) =
    barrier.IsAnswered v n c a d
Leads (primitive.SyncSemaphore s) v n (caller.SyncSemaphore c) a (caller.SyncSemaphore d) =
    sync.IsAnswered v n c a d
Leads _ v n c a d = ⊥

-- The pass of this number was taken by the exchange of its mark, and put back: it stood as a
-- caller's pass does, and one call led from what was taken to what was put back.
pub record IsCalled (of : Numbered) (pass : ℕ) (v : Verb) (n : ℕ) (a : Answer) : Type 0 where
  pub before : Caller
  pub after : Caller
  pub taken : IsTaken of pass 0 (Some before)
  pub stood : StandsAs (primitive_in of) pass before
  pub leads : Leads (primitive_in of) v n before a after
  pub stands : StandsAs (primitive_in of) pass after
  pub back : IsLaid of pass 0 (Some after)

-- Nobody has the number, or another call has the pass just now; or the call was made.
abbrev pub IsAnswered : Numbered → ℕ → Verb → ℕ → Answer → Type 0
IsAnswered of pass v n a = (a ≡ answer.NoPass) ⊎ (a ≡ answer.InUse) ⊎ IsCalled of pass v n a
