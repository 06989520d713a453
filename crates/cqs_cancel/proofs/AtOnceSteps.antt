-- A cancel that leaves at once is one exchange on its cell; or it is too late, and a load follows.
use Rattle.std.proofs.Common.{◌≡◌, ℕ, [], ◌++◌, refl, ◌∙◌, subst}
use Rattle.std.proofs.lemmas.List.{append-nil}
use Rattle.cqs_core.specs.QueueSteps.{row_of, leaves_at_once}
use Rattle.cqs_words.specs.declared.cell.CellState.{CellState}
use Rattle.cqs_rule_laws.specs.declared.client.ClientWords.{Ghosts}
use Rattle.cqs_rule_laws.specs.declared.config.Place.{Place}
use Rattle.cqs_rule.specs.declared.queue.Pass.{Pass}
use Rattle.cqs_rule_laws.specs.declared.view.Facts.{Facts}
use Rattle.cqs_rule_laws.specs.declared.view.View.{View}
use Rattle.cqs_rule_laws.specs.Facts.{facts_after}
use Rattle.cqs_rule_laws.specs.Object.{Object, Primitive}
use Rattle.cqs_rule.specs.Passes.{pass_view}
use Rattle.cqs_rule_laws.specs.Placed.{KnowsPlace}
use Rattle.cqs_rule_laws.specs.Saw.{Saw}
use Rattle.cqs_rule_laws.proofs.Calls.{called-by}
use Rattle.cqs_rule.proofs.Places.{knows-saw, knows-at}
use Rattle.cqs_cell.specs.Transitions.{facts_since, MadeBy, HasMissed}
use Rattle.cqs_cancel.specs.AtOnce.{WentAtOnce}
use Rattle.cqs_cancel.proofs.Steps.{no-more}

module _ {C E S : Type 0} (object : Object E) (primitive : C → Primitive E S) where
  -- the exchange was made
  pub went : (k : ℕ) (v w : View E S) → MadeBy object primitive leaves_at_once (row_of leaves_at_once) 0 k 0 v w
      → WentAtOnce object primitive k v w
  went k v w m =
      let none : m.found ≡ [] = no-more m.found m.few in
      let is : m.before ≡ facts_since v.facts.found m.last v.facts =
      m.before_is ∙ ((λ i. facts_since (v.facts.found ++ none i) m.last v.facts)
      ∙ (λ i. facts_since (append-nil v.facts.found i) m.last v.facts)) in
      let saw : Saw object v (facts_after object.gains (row_of leaves_at_once) k m.word v.facts.has.payload v.facts)
      (object.entries leaves_at_once v.number k v.facts.has.payload) w =
      subst (λ (f : Facts). Saw object v
      (facts_after object.gains (row_of leaves_at_once) k m.word v.facts.has.payload f)
      (object.entries leaves_at_once v.number k v.facts.has.payload) w) is m.saw in
      record {
        word = m.word;
        cell = m.cell;
        called = called-by object v w _ _ saw;
        was = m.was;
        facts_are = saw.facts_are;
      }

-- how a call ends
pub ruleset at_once_ends = (went)

module _ {C S E : Type 0} {g : Ghosts C S E} where
  -- what the pass knew of places it knows after the exchange that missed
  pub missed-place : (k : ℕ) (found : CellState) (p q : Pass C S E g) (at on : Place)
      → HasMissed leaves_at_once k found p q → on ≡ at → KnowsPlace (pass_view p) at → KnowsPlace (pass_view q) on
  missed-place k found p q at on m same knows = knows-at (pass_view q) (pass_view q) at on refl same
      (knows-saw g.object (pass_view p) (pass_view q) _ _ at m.saw knows)
