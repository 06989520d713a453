-- An acquire is what a poll begins with that has no wait yet.
use Rattle.std.proofs.Common.{◌≡◌, None, Result, Ok, Err}
use Rattle.std.specs.Prelude.{true, IfOk, IsErrOf, OnOk}
use Rattle.cqs_core.specs.declared.entries.Entry.{Entry}
use Rattle.cqs_rule_laws.specs.declared.config.AcquireError.{AcquireError}
use Rattle.cqs_rule_laws.specs.declared.config.AcquireError.TheVariants.{Worn, Crowded}
use Rattle.cqs_rule_laws.specs.declared.view.View.{View}
use Rattle.cqs_semaphore.specs.declared.answers.Acquired.{Acquired}
use Rattle.cqs_semaphore.specs.declared.answers.Acquired.TheVariants.{Now, Later}
use Rattle.cqs_semaphore.specs.Alone.{IsPlainAcquire}
use Rattle.cqs_semaphore.specs.Answers.{Acquires, IsBelow, IsCrowded, IsWorn}
use Rattle.cqs_semaphore.specs.Calls.{CallRule}
use Rattle.cqs_semaphore.specs.Entries.{acquired_entries, acquired_further}
use Rattle.cqs_waiter.specs.Permits.{HasAcquired, PermitBegins}

module _ {T : Type 0} where
  acquired-begins : (v w : View Entry T) (answer : Result Acquired AcquireError) → HasAcquired v answer w
      → PermitBegins v None answer w
  acquired-begins v w (Ok (Now permit)) acquired = acquired
  acquired-begins v w (Ok (Later wait)) acquired = acquired
  acquired-begins v w (Err e) acquired = acquired

  pub acquire_begins : (v w : View Entry T) (answer : Result Acquired AcquireError)
      → CallRule v (acquired_entries v.number answer) (acquired_further answer) w
      → (IsErrOf answer Worn → IsWorn v w) → (IsErrOf answer Crowded → IsCrowded v w) → OnOk answer (IsBelow v w)
      → IfOk answer (λ acquired. Acquires v acquired w)
      → (v.alone ≡ true → IfOk answer (λ acquired. IsPlainAcquire v acquired)) → PermitBegins v None answer w
  acquire_begins v w answer called worn crowded below acquired alone =
      let has : HasAcquired v answer w = record {
        called = called;
        worn = worn;
        crowded = crowded;
        below = below;
        acquired = acquired;
        alone = alone;
      } in
      acquired-begins v w answer has
