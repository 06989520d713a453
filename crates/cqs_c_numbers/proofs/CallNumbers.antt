-- Whatever a call of a semaphore, pool or latch answers, its pass has the number that it had.
use Rattle.std.proofs.Common.{◌≡◌, ℕ, ap, inl, inr, Result, Ok, Err, OnErr, IfOk}
use Rattle.cqs_rule_laws.specs.declared.config.CancelMode.{CancelMode}
use Rattle.cqs_rule_laws.specs.declared.config.Crowded.{Crowded}
use Rattle.cqs_rule_laws.specs.declared.carries.Unparked.{Unparked}
use Rattle.cqs_rule.specs.Passes.{pass_view}
use Rattle.cqs_latch.specs.declared.answers.Down.{Down}
use Rattle.cqs_latch.specs.declared.latch.Latch.{Latch}
use Rattle.cqs_latch.specs.CountAnswers.{HasCounted, IsRefused}
use Rattle.cqs_c_callers.specs.declared.answers.Answer.{Answer}
use Rattle.cqs_c_callers.specs.declared.pool_caller.PoolCaller.{PoolCaller}
use Rattle.cqs_c_callers.specs.declared.semaphore_caller.SemaphoreCaller.{SemaphoreCaller}
use Rattle.cqs_c_latch_callers.specs.declared.latch_caller.LatchCaller.{LatchCaller}
use Rattle.cqs_c_callers.specs.declared.verb.Verb.{Verb}
use Rattle.cqs_c_callers.specs.declared.verb.Verb.TheVariants as verb
use Rattle.cqs_c_callers.specs.SemaphoreAnswers as semaphore
use Rattle.cqs_c_callers.specs.PoolAnswers as pool
use Rattle.cqs_c_latch_callers.specs.LatchAnswers as latch

of-semaphore : (v : Verb) (n : ℕ) (c d : SemaphoreCaller) (a : Answer)
    → semaphore.Makes v n (pass_view c.pass) a (pass_view d.pass)
    → (pass_view d.pass).number ≡ (pass_view c.pass).number
of-semaphore verb.Enter n c d a m = m.called.called.same.number
of-semaphore verb.Try n c d a m = m.called.called.same.number
of-semaphore verb.Poll n c d a m = m.called.called.same.number
of-semaphore verb.Cancel n c d a m = m.cancelled.1.called.same.number
of-semaphore verb.Leave n c d a m = m.called.called.same.number
of-semaphore verb.Finish n c d a m = m.called.called.same.number
of-semaphore verb.State n c d a m = m.called.called.same.number
of-semaphore verb.Sole n c d a m = m.looked.saw.same.number

of-pool : (v : Verb) (n : ℕ) (c d : PoolCaller) (a : Answer)
    → pool.Makes v n (pass_view c.pass) a (pass_view d.pass)
    → (pass_view d.pass).number ≡ (pass_view c.pass).number
of-pool verb.Enter n c d a m = m.called.called.same.number
of-pool verb.Try n c d a m = absurd m
of-pool verb.Poll n c d a m = m.called.called.same.number
of-pool verb.Cancel n c d a m = m.cancelled.2.called.same.number
of-pool verb.Leave n c d a m = m.called.called.same.number
of-pool verb.Finish n c d a m = m.called.called.same.number
of-pool verb.State n c d a m = absurd m
of-pool verb.Sole n c d a m = m.looked.saw.same.number

of-counted : (c d : LatchCaller) (given : Result Down Crowded)
    → OnErr given (IsRefused (pass_view c.pass) (pass_view d.pass))
    → IfOk given (λ down. HasCounted (pass_view c.pass) down (pass_view d.pass))
    → (pass_view d.pass).number ≡ (pass_view c.pass).number
of-counted c d (Ok down) crowded counted = counted.1.called.same.number
of-counted c d (Err e) crowded counted = crowded.called.called.same.number

of-latch : (mode : CancelMode) (v : Verb) (n : ℕ) (c d : LatchCaller) (a : Answer)
    → latch.Makes mode v n (pass_view c.pass) a (pass_view d.pass)
    → (pass_view d.pass).number ≡ (pass_view c.pass).number
of-latch mode verb.Enter n c d a m = m.waited.1.called.same.number
of-latch mode verb.Try n c d a m = absurd m
of-latch mode verb.Poll n c d a m = m.called.called.same.number
of-latch mode verb.Cancel n c d a m = m.left.1.called.same.number
of-latch mode verb.Leave n c d a m = of-counted c d m.given m.crowded m.counted
of-latch mode verb.Finish n c d a m = m.finished.1.called.same.number
of-latch mode verb.State n c d a m = absurd m
of-latch mode verb.Sole n c d a m = m.looked.saw.same.number

pub semaphore-number : (v : Verb) (n : ℕ) (c d : SemaphoreCaller) (a : Answer) → semaphore.IsAnswered v n c a d
    → (pass_view d.pass).number ≡ (pass_view c.pass).number
semaphore-number v n c d a (inl refused) = ap (λ (x : SemaphoreCaller). (pass_view x.pass).number) refused.1
semaphore-number v n c d a (inr made) = of-semaphore v n c d a made

pub pool-number : (v : Verb) (n : ℕ) (c d : PoolCaller) (a : Answer) → pool.IsAnswered v n c a d
    → (pass_view d.pass).number ≡ (pass_view c.pass).number
pool-number v n c d a (inl refused) = ap (λ (x : PoolCaller). (pass_view x.pass).number) refused.1
pool-number v n c d a (inr made) = of-pool v n c d a made

pub latch-number : (l : Latch Unparked) (v : Verb) (n : ℕ) (c d : LatchCaller) (a : Answer)
    → latch.IsAnswered l v n c a d → (pass_view d.pass).number ≡ (pass_view c.pass).number
latch-number l v n c d a (inl refused) = ap (λ (x : LatchCaller). (pass_view x.pass).number) refused.1
latch-number l v n c d a (inr made) = of-latch _ v n c d a made
