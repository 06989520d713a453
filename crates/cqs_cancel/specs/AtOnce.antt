-- What a cancel answers that leaves at once: exactly what its owner found in the cell of the wait.
use Rattle.std.specs.Prelude.{◌≡◌, ℕ}
use Rattle.cqs_core.specs.QueueSteps.{row_of, leaves_at_once}
use Rattle.cqs_rule_laws.specs.declared.client.ClientWords.{Ghosts}
use Rattle.cqs_rule.specs.declared.queue.Pass.{Pass}
use Rattle.cqs_rule_laws.specs.declared.view.View.{View}
use Rattle.cqs_rule_laws.specs.Called.{Called}
use Rattle.cqs_rule_laws.specs.Exchanges.{FoundCell, HasCell}
use Rattle.cqs_rule_laws.specs.Facts.{facts_after}
use Rattle.cqs_rule_laws.specs.Object.{Object, Primitive}
use Rattle.cqs_rule.specs.Passes.{pass_view}
use Rattle.cqs_rule_laws.specs.Saw.{WasFound}
use Rattle.cqs_cancel.specs.declared.at_once.AtOnce.{AtOnce}
use Rattle.cqs_cancel.specs.declared.at_once.AtOnce.TheVariants.{Gone, Late}
use Rattle.cqs_cancel.specs.Cancels.{waiting_glimpse, CameLate}

module _ {C E S : Type 0} (object : Object E) (primitive : C → Primitive E S) where
  -- The cell of the number k was found with its waiter, by the only exchange, and the wait is over.
  pub record WentAtOnce (k : ℕ) (v w : View E S) : Type 0 where
    pub word : ℕ
    pub cell : FoundCell word (waiting_glimpse k)
    pub called : Called object v (object.entries leaves_at_once v.number k v.facts.has.payload)
        (object.entries leaves_at_once v.number k v.facts.has.payload) w
    pub was : WasFound primitive (HasCell (waiting_glimpse k))
        (object.entries leaves_at_once v.number k v.facts.has.payload) w
    pub facts_are : w.facts ≡ facts_after object.gains (row_of leaves_at_once) k word
        v.facts.has.payload v.facts

  abbrev pub LeavesAtOnce : ℕ → View E S → AtOnce → View E S → Type 0
  LeavesAtOnce k v Gone w = WentAtOnce k v w
  LeavesAtOnce k v (Late payload) w = CameLate object primitive k payload v w

module _ {C S E : Type 0} {g : Ghosts C S E} where
  -- the wait of the number k left at once, or it was too late
  abbrev pub HasLeftAtOnce : ℕ → Pass C S E g → AtOnce → Pass C S E g → Type 0
  HasLeftAtOnce k p left p' =
      LeavesAtOnce g.object g.primitive k (pass_view p) left (pass_view p')
