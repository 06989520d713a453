-- Whatever a call of a synchronous semaphore answers, its pass has the number that it had.
use Rattle.std.proofs.Common.{◌≡◌, ℕ, [], None, ap, inl, inr, Result, Ok, Err, OnErr, IfOk}
use Rattle.cqs_core.specs.declared.entries.Entry.{Entry}
use Rattle.cqs_rule_laws.specs.declared.config.Crowded.{Crowded}
use Rattle.cqs_rule_laws.specs.declared.view.View.{View}
use Rattle.cqs_rule.specs.Passes.{pass_view}
use Rattle.cqs_semaphore.specs.declared.answers.Permit.{Permit}
use Rattle.cqs_semaphore.specs.Calls.{CallRule}
use Rattle.cqs_sync_semaphore.specs.declared.answers.SyncReleased.{SyncReleased}
use Rattle.cqs_sync_semaphore.specs.Answers.{Releases}
use Rattle.cqs_c_callers.specs.declared.answers.Answer.{Answer}
use Rattle.cqs_c_callers.specs.declared.verb.Verb.{Verb}
use Rattle.cqs_c_callers.specs.declared.verb.Verb.TheVariants as verb
use Rattle.cqs_c_sync_callers.specs.declared.sync_semaphore_caller.SyncSemaphoreCaller.{SyncSemaphoreCaller}
use Rattle.cqs_c_sync_callers.specs.Answers.{IsAnswered, Makes}
use Rattle.cqs_c_sync_callers.proofs.SyncKept.{cancel-keeping, ends-keeping, release-keeping}

module _ {T : Type 0} where
  of-released : (v w : View Entry T) (given : Result SyncReleased (Permit × Crowded)) → OnErr given (CallRule v [] [] w)
      → IfOk given (λ x. Releases None v x w) → w.number ≡ v.number
  of-released v w (Ok r) refused released = (release-keeping v w r released).goes.number
  of-released v w (Err back) refused released = refused.called.same.number

  of-sync : (t : Verb) (n : ℕ) (v w : View Entry T) (a : Answer) → Makes t n v a w → w.number ≡ v.number
  of-sync verb.Enter n v w a m = m.called.called.same.number
  of-sync verb.Try n v w a m = m.called.called.same.number
  of-sync verb.Poll n v w a m = m.called.called.same.number
  of-sync verb.Cancel n v w a m = (cancel-keeping _ v w m.given m.cancelled).goes.number
  of-sync verb.Leave n v w a m = of-released v w m.given m.refused m.released
  of-sync verb.Finish n v w a m = (ends-keeping _ _ _ v w m.given m.ends).goes.number
  of-sync verb.State n v w a m = m.called.called.same.number
  of-sync verb.Sole n v w a m = m.looked.saw.same.number

pub sync-number : (t : Verb) (n : ℕ) (c d : SyncSemaphoreCaller) (a : Answer) → IsAnswered t n c a d
    → (pass_view d.pass).number ≡ (pass_view c.pass).number
sync-number t n c d a (inl refused) = ap (λ (x : SyncSemaphoreCaller). (pass_view x.pass).number) refused.1
sync-number t n c d a (inr made) = of-sync t n (pass_view c.pass) (pass_view d.pass) a made
