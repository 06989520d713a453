-- A pass that was just made is one for a worker.
use Rattle.std.proofs.Common.{Result, Ok, Err, IfOk, ap, length}
use Rattle.cqs_core.specs.declared.entries.Entry.{Entry}
use Rattle.cqs_rule_laws.specs.CallRule.{IsReady}
use Rattle.cqs_rule_laws.specs.Crew.{Came}
use Rattle.cqs_rule_laws.specs.declared.client.ClientWords.{Ghosts}
use Rattle.cqs_rule_laws.specs.declared.config.Crowd.{Crowd}
use Rattle.cqs_rule_laws.specs.declared.view.View.{View}
use Rattle.cqs_rule.specs.declared.queue.Pass.{Pass}
use Rattle.cqs_rule.specs.Passes.{pass_view}
use Rattle.cqs_semaphore_client.specs.declared.semaphore.SemClient.{SemClient}
use Rattle.cqs_semaphore_client.specs.Semaphore.{semaphore_object}
use Rattle.cqs_semaphore.specs.declared.semaphore.Semaphore.{Semaphore}
use Rattle.cqs_semaphore.specs.Calls.{IsMine}
use Rattle.cqs_semaphore_crew.specs.Workers.{IsHired}

module _ {T : Type 0} {g : Ghosts (SemClient T) T Entry} where
  pub came-hired : (s : Semaphore T) (v : View Entry T) (r : Result (Pass (SemClient T) T Entry g) Crowd)
      → IfOk r (λ made. IsMine s made) → IfOk r (λ made. Came semaphore_object v (pass_view made))
      → IfOk r (λ made. IsReady (pass_view made).facts) → IfOk r (λ made. IsHired s made)
  came-hired s v (Ok made) mine came ready = record {
    rest = record {
      belongs = mine;
      ready = ready;
      held_is = ap (λ f. f.has.held) came.facts;
      waits_are = ap (λ f. f.waits) came.facts;
    };
    one = ap length came.own;
  }
  came-hired s v (Err e) mine came ready = tt
