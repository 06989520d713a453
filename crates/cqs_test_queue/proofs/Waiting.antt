-- What a pass knows of its wait goes on from step to step and from call to call.
use Rattle.std.proofs.Common.{◌≡◌, ◌≢◌, ℕ, List, Result, Ok, Err, IfOk, IfErr, sym, subst, ap, ◌∙◌, true, if◌then◌else◌}
use Rattle.cqs_cell.specs.Transitions.{HasMade, HasMadeAfter, HasMissed}
use Rattle.cqs_core.specs.QueueSteps.{leaves, takes}
use Rattle.cqs_core.specs.declared.doings.Doing.TheVariants as doing
use Rattle.cqs_core.specs.declared.entries.Entry.{Entry}
use Rattle.cqs_words.specs.declared.cell.CellState.{CellState}
use Rattle.cqs_words.specs.declared.cell.CellState.TheVariants as shown
use Rattle.cqs_rule_laws.specs.declared.client.ClientWords.{Ghosts}
use Rattle.cqs_rule_laws.specs.declared.config.Place.{Place}
use Rattle.cqs_rule.specs.declared.queue.Pass.{Pass}
use Rattle.cqs_rule.specs.declared.queue.tokens.Wait.{Wait}
use Rattle.cqs_rule_laws.specs.declared.view.Facts.{Facts}
use Rattle.cqs_rule_laws.specs.declared.view.View.{View}
use Rattle.cqs_rule_laws.specs.Events.{in_any_case}
use Rattle.cqs_rule_laws.specs.Object.{Object}
use Rattle.cqs_rule_laws.specs.Placed.{GoesOn, KnowsPlace}
use Rattle.cqs_rule_laws.specs.Saw.{Saw}
use Rattle.cqs_semaphore_client.specs.Semaphore.{gives_one}
use Rattle.cqs_semaphore_client.specs.SemaphoreSteps.{OnState}
use Rattle.cqs_rule.specs.Passes.{pass_view}
use Rattle.cqs_rule.specs.Waits.{HasWait, place_of}
use Rattle.cqs_words.specs.State.{is_below_zero}
use Rattle.cqs_rule_laws.proofs.Calls.{called-by}
use Rattle.cqs_rule_laws.proofs.Places.{goes-saw}
use Rattle.cqs_rule.proofs.Places.{knows-at, has-wait-called}

module _ {E S : Type 0} where
  -- the place of a wait, wherever its token says so
  pub stands : (v w : View E S) (wait : Wait) (at : Place) → w ≡ v → at ≡ place_of wait → HasWait v wait
      → KnowsPlace w at
  stands v w wait at same is h = knows-at v w (place_of wait) at same is h.place

-- an exchange, made or not, leaves what the pass knows of places
module _ {C S E : Type 0} {g : Ghosts C S E} (p q : Pass C S E g) where
  pub took-on : (result : Result ℕ CellState) (k : ℕ) → IfOk result (λ payload. HasMadeAfter takes k payload p q)
      → IfErr result (λ found. HasMissed takes k found p q × (found ≢ shown.Value)) → GoesOn (pass_view p) (pass_view q)
  took-on (Ok payload) k made missed = goes-saw g.object _ _ _ _ made.saw
  took-on (Err found) k made missed = goes-saw g.object _ _ _ _ missed.0.saw

  pub left-on : (result : Result (Unit {0}) CellState) (k : ℕ) → IfOk result (λ _. HasMade leaves k 0 p q)
      → IfErr result (λ found. HasMissed leaves k found p q) → GoesOn (pass_view p) (pass_view q)
  left-on (Ok done) k made missed = goes-saw g.object _ _ _ _ made.saw
  left-on (Err found) k made missed = goes-saw g.object _ _ _ _ missed.saw

module _ {E S : Type 0} (object : Object E) where
  pub keeps-step : (v w : View E S) (f : Facts) (es : List E) (wait : Wait) → Saw object v f es w
      → f.waits ≡ v.facts.waits → HasWait v wait → HasWait w wait
  keeps-step v w f es wait s same =
      has-wait-called object v w es es wait (called-by object v w f es s)
      (subst (λ (g : Facts). g.waits ≡ v.facts.waits) (sym s.facts_are) same)

-- a pass that gave a permit back, and found the state below 0, owes it to the line
pub owes-it : {T : Type 0} (v w : View Entry T) (n : ℕ) → OnState gives_one in_any_case v n w
    → is_below_zero n ≡ true → w.facts.doing ≡ doing.Owes
owes-it v w n on below =
    ap (λ (f : Facts). f.doing) on.saw.facts_are ∙ ap (λ b. if b then doing.Owes else doing.Idle) below

pub owes-nothing-named : {T : Type 0} (v w : View Entry T) (n : ℕ) → OnState gives_one in_any_case v n w
    → w.facts.has.payload ≡ 0
owes-nothing-named v w n on = ap (λ (f : Facts). f.has.payload) on.saw.facts_are
