-- What a call leaves of the one wait of its pass.
use Rattle.std.proofs.Common.{◌≡◌, ◌⊎◌, ℕ, List, [], ◌∷◌, inl, inr, rules}
use Rattle.cqs_core.specs.declared.entries.Entry.{Entry}
use Rattle.cqs_rule_laws.specs.declared.view.View.{View}
use Rattle.cqs_rule_laws.specs.Lists.{without}
use Rattle.cqs_rule.specs.declared.queue.tokens.Wait.{Wait}
use Rattle.cqs_rule.specs.Waits.{HasWait}
use Rattle.cqs_rule.proofs.Places.{has-wait-called}
use Rattle.cqs_semaphore_client.specs.Semaphore.{semaphore_object}
use Rattle.cqs_sync_semaphore.specs.Answers.{WasServed, WasTaken}

-- the one wait was this
pub without-one : (k : ℕ) → without k (k ∷ []) ≡ []
without-one k = search rules

module _ {T : Type 0} where
  -- a permit that was sent to the line closes no wait
  pub sent-keeps : (own : List Entry) (k : ℕ) (wait : Wait) (v w : View Entry T)
      → WasServed own k v w ⊎ WasTaken own k v w → w.facts.waits ≡ v.facts.waits → HasWait v wait → HasWait w wait
  sent-keeps own k wait v w (inl served) same h =
      has-wait-called semaphore_object v w _ _ wait served.called.called same h
  sent-keeps own k wait v w (inr taken) same h =
      has-wait-called semaphore_object v w _ _ wait taken.called.called same h
