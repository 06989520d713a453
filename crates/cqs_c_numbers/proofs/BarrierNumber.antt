-- Whatever a call of a barrier answers, its pass has the number that it had.
use Rattle.std.proofs.Common.{◌≡◌, ℕ, ap, refl, inl, inr, Some, None, Option, Result, Ok, Err, IsErrOf, IfOk}
use Rattle.cqs_rule_laws.specs.declared.config.AcquireError.{AcquireError}
use Rattle.cqs_rule_laws.specs.declared.config.AcquireError.TheVariants as refused
use Rattle.cqs_rule_laws.specs.declared.view.View.{View}
use Rattle.cqs_rule.specs.Passes.{pass_view}
use Rattle.cqs_barrier_object.specs.declared.entries.BarrierEntry.{BarrierEntry}
use Rattle.cqs_barrier.specs.declared.answers.Arrived.{Arrived}
use Rattle.cqs_barrier.specs.declared.answers.Arrived.TheVariants.{Last, LastOwing, Later}
use Rattle.cqs_barrier.specs.declared.answers.Owing.{Owing}
use Rattle.cqs_barrier.specs.declared.answers.PartyLeft.{PartyLeft}
use Rattle.cqs_barrier.specs.declared.answers.PartyLeft.TheVariants.{Withdrawn, TooLate, Contended}
use Rattle.cqs_barrier.specs.Arriving.{Arrives, IsWorn, IsCrowded, Finishes}
use Rattle.cqs_barrier.specs.Leaving.{HasLeft}
use Rattle.cqs_c_callers.specs.declared.answers.Answer.{Answer}
use Rattle.cqs_c_latch_callers.specs.declared.barrier_caller.BarrierCaller.{BarrierCaller}
use Rattle.cqs_c_latch_callers.specs.declared.barrier_caller.PartyOwes.{PartyOwes}
use Rattle.cqs_c_latch_callers.specs.declared.barrier_caller.PartyOwes.TheVariants.{Others, Leave}
use Rattle.cqs_c_callers.specs.declared.verb.Verb.{Verb}
use Rattle.cqs_c_callers.specs.declared.verb.Verb.TheVariants as verb
use Rattle.cqs_c_latch_callers.specs.BarrierAnswers.{Makes, IsAnswered, HasFinished}
use Rattle.cqs_c_latch_callers.proofs.BarrierKept.{through-waits}

module _ {T : Type 0} where
  of-left : (k : ℕ) (x y : View BarrierEntry T) (left : PartyLeft) → HasLeft k x left y → y.number ≡ x.number
  of-left k x y Withdrawn h = h.0.called.same.number
  of-left k x y TooLate (inl h) = h.0.called.same.number
  of-left k x y TooLate (inr h) = h.0.called.same.number
  of-left k x y (Contended saw found leaving) h = h.0.called.same.number

  of-resumed : (x y : View BarrierEntry T) (given : Result (Unit {0}) Owing) → Finishes x given y → y.number ≡ x.number
  of-resumed x y (Ok done) h = h.2.called.called.same.number
  of-resumed x y (Err owing) h = h.1.called.called.same.number

  of-arrived : (x y : View BarrierEntry T) (given : Result Arrived AcquireError)
      → (IsErrOf given refused.Worn → IsWorn x y) → (IsErrOf given refused.Crowded → IsCrowded x y)
      → IfOk given (λ arrived. Arrives x arrived y) → y.number ≡ x.number
  of-arrived x y (Err refused.Worn) worn crowded h = (worn refl).called.called.same.number
  of-arrived x y (Err refused.Crowded) worn crowded h = (crowded refl).called.called.same.number
  of-arrived x y (Ok Last) worn crowded h = (through-waits x y h).0.number
  of-arrived x y (Ok (LastOwing owing)) worn crowded h = h.1.called.called.same.number
  of-arrived x y (Ok (Later wait)) worn crowded h = h.0.called.called.same.number

  of-finished : (owed : Option PartyOwes) (x y : View BarrierEntry T) (a : Answer)
      → HasFinished owed x a y → y.number ≡ x.number
  of-finished None x y a m = absurd m
  of-finished (Some (Others owing)) x y a m = of-resumed x y m.given m.finished
  of-finished (Some (Leave leaving)) x y a m = of-left _ x y m.given m.left

  of-barrier : (owed : Option PartyOwes) (v : Verb) (n : ℕ) (x y : View BarrierEntry T) (a : Answer)
      → Makes owed v n x a y → y.number ≡ x.number
  of-barrier owed verb.Enter n x y a m = of-arrived x y m.given m.worn m.crowded m.arrived
  of-barrier owed verb.Try n x y a m = absurd m
  of-barrier owed verb.Poll n x y a m = m.called.called.same.number
  of-barrier owed verb.Cancel n x y a m = of-left _ x y m.given m.left
  of-barrier owed verb.Leave n x y a m = absurd m
  of-barrier owed verb.Finish n x y a m = of-finished owed x y a m
  of-barrier owed verb.State n x y a m = absurd m
  of-barrier owed verb.Sole n x y a m = m.looked.same.number

pub barrier-number : (v : Verb) (n : ℕ) (c d : BarrierCaller) (a : Answer) → IsAnswered v n c a d
    → (pass_view d.pass).number ≡ (pass_view c.pass).number
barrier-number v n c d a (inl refused) = ap (λ (x : BarrierCaller). (pass_view x.pass).number) refused.1
barrier-number v n c d a (inr made) = of-barrier c.owed v n (pass_view c.pass) (pass_view d.pass) a made
