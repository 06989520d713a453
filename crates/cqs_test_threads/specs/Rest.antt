-- What a pass is at between the calls of its thread.
use Rattle.cqs_latch_object.specs.declared.entries.LatchEntry.{LatchEntry}
use Rattle.cqs_rule_laws.specs.declared.client.ClientWords.{Ghosts}
use Rattle.cqs_rule.specs.declared.queue.Pass.{Pass}
use Rattle.cqs_rule.specs.declared.queue.tokens.Wait.{Wait}
use Rattle.cqs_rule.specs.Passes.{pass_view}
use Rattle.cqs_rule.specs.Waits.{HasWait}
use Rattle.cqs_latch.specs.declared.client.LatchClient.{LatchClient}
use Rattle.cqs_latch.specs.declared.latch.Latch.{Latch}
use Rattle.cqs_rule_laws.specs.CallRule.{IsReady}
use Rattle.cqs_latch.specs.Calls.{IsMine}

module _ {T : Type 0} {g : Ghosts (LatchClient T) T LatchEntry} where
  -- the pass is one of this latch, between two calls
  pub record IsAtRest (l : Latch T) (p : Pass (LatchClient T) T LatchEntry g) : Type 0 where
    pub belongs : IsMine l p
    pub ready : IsReady (pass_view p).facts

  -- and has this wait
  abbrev pub IsWaiting : Latch T → Wait → Pass (LatchClient T) T LatchEntry g → Type 0
  IsWaiting l wait p = IsAtRest l p × HasWait (pass_view p) wait

  -- so are two passes
  abbrev pub AreAtRest : Latch T
      → Pass (LatchClient T) T LatchEntry g × Pass (LatchClient T) T LatchEntry g
      → Type 0
  AreAtRest l two = IsAtRest l two.0 × IsAtRest l two.1

  -- and four
  pub record FourAreAtRest (l : Latch T)
      (four : (Pass (LatchClient T) T LatchEntry g × Pass (LatchClient T) T LatchEntry g)
      × (Pass (LatchClient T) T LatchEntry g × Pass (LatchClient T) T LatchEntry g))
      : Type 0 where
    pub early : AreAtRest l four.0
    pub late : AreAtRest l four.1

  -- and two that come back from their jobs
  abbrev pub HaveWorked : {A B : Type 0} → Latch T
      → (Pass (LatchClient T) T LatchEntry g × A)
      × (Pass (LatchClient T) T LatchEntry g × B)
      → Type 0
  HaveWorked l two = IsAtRest l two.0.0 × IsAtRest l two.1.0
