-- A wait is still the pass's own after a call claimed slots.
use Rattle.std.proofs.Common.{ℕ, [], ap}
use Rattle.cqs_rule.specs.declared.queue.tokens.Wait.{Wait}
use Rattle.cqs_rule_laws.specs.declared.view.Facts.{Facts}
use Rattle.cqs_rule_laws.specs.declared.view.View.{View}
use Rattle.cqs_rule_laws.specs.Object.{Object}
use Rattle.cqs_rule.specs.Claims.{Claimed}
use Rattle.cqs_rule.specs.Waits.{HasWait}
use Rattle.cqs_rule_laws.proofs.Calls.{called-by}
use Rattle.cqs_rule.proofs.Claiming.{saw-left}
use Rattle.cqs_rule.proofs.Places.{has-wait-called}

pub wait-claimed : {E S : Type 0} (object : Object E) (most : ℕ) (v w : View E S) (wait : Wait) → Claimed most v w
    → HasWait v wait → HasWait w wait
wait-claimed object most v w wait c h =
    let saw = saw-left object v w c.left.0 w.facts.spare_slots v.facts.duties c.left.1 in
    has-wait-called object v w _ _ wait (called-by object v w _ [] saw) (ap (λ (f : Facts). f.waits) saw.facts_are) h
