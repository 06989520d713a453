-- What every call of a latch leaves of its pass.
use Rattle.std.specs.Prelude.{◌≡◌, ◌≢◌, ℕ, List}
use Rattle.cqs_latch_object.specs.declared.entries.LatchEntry.{LatchEntry}
use Rattle.cqs_latch_object.specs.LatchEntries.{IsLegal}
use Rattle.cqs_rule_laws.specs.declared.client.ClientWords.{Ghosts}
use Rattle.cqs_rule.specs.declared.queue.Pass.{Pass}
use Rattle.cqs_rule_laws.specs.declared.view.View.{View}
use Rattle.cqs_rule_laws.specs.CallRule as laws
use Rattle.cqs_rule_laws.specs.CallRule.{IsReady}
use Rattle.cqs_rule.specs.Passes.{IsOf}
use Rattle.cqs_rule.specs.Waits.{place_of, HasWait}
use Rattle.cqs_rule.specs.declared.queue.tokens.Wait.{Wait}
use Rattle.cqs_latch.specs.declared.client.LatchClient.{LatchClient}
use Rattle.cqs_latch.specs.declared.latch.Latch.{Latch}
use Rattle.cqs_latch.specs.Latch.{is_simple, latch_object}

module _ {T : Type 0} where
  -- the pass is one of this latch
  abbrev pub IsMine : {g : Ghosts (LatchClient T) T LatchEntry} → Latch T
      → Pass (LatchClient T) T LatchEntry g → Type 0
  IsMine l p = IsOf l.queue p

  -- the history is one that the plain latch allows which opened so
  abbrev pub IsLegalOf : View LatchEntry T → Type 0
  IsLegalOf v = IsLegal (is_simple v.opening.mode) v.opening.size v.seen

  -- the call rule at a latch, of a call that ends with these entries, and of one whose further
  -- entry, where it makes one, is the last of all
  abbrev pub CallRuleEnding : View LatchEntry T → List LatchEntry → List LatchEntry
      → List LatchEntry → View LatchEntry T → Type 0
  CallRuleEnding v own further last w = laws.CallRuleEnding latch_object v own further last w

  abbrev pub CallRule : View LatchEntry T → List LatchEntry → List LatchEntry → View LatchEntry T
      → Type 0
  CallRule v own further w = laws.CallRule latch_object v own further w

  -- after a call the pass is idle and owes nothing, and has these waits
  pub record Rests (waits : List ℕ) (w : View LatchEntry T) : Type 0 where
    pub ready : IsReady w.facts
    pub waits_are : w.facts.waits ≡ waits

  -- the pass still has each wait that it had
  abbrev pub KeepsWaits : View LatchEntry T → View LatchEntry T → Type 0
  KeepsWaits v w = (wait : Wait) → HasWait v wait → HasWait w wait

  -- and each but that of the number k
  abbrev pub KeepsOtherWaits : ℕ → View LatchEntry T → View LatchEntry T → Type 0
  KeepsOtherWaits k v w =
      (wait : Wait) → (place_of wait).index ≢ k → HasWait v wait → HasWait w wait
