-- The waits of the pass that makes the rounds.
use Rattle.cqs_rule_laws.specs.declared.client.ClientWords.{Ghosts}
use Rattle.cqs_rule.specs.declared.queue.Pass.{Pass}
use Rattle.cqs_rule.specs.declared.queue.tokens.Wait.{Wait}
use Rattle.cqs_rule.specs.Passes.{pass_view}
use Rattle.cqs_rule.specs.Waits.{HasWait}

module _ {C S E : Type 0} {g : Ghosts C S E} where
  abbrev pub HasItsWait : Wait → Pass C S E g → Type 0
  HasItsWait wait p = HasWait (pass_view p) wait

  -- each wait that the pass had it has still
  pub record KeepsWaits (p p' : Pass C S E g) : Type 0 where
    pub each : (wait : Wait) → HasItsWait wait p → HasItsWait wait p'
