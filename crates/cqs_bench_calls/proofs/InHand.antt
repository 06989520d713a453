-- A pass that took an item has its element in hand.
use Rattle.std.proofs.Common.{ℕ, List, ◌∷◌, refl, sym, subst, inl}
use Rattle.cqs_pool_object.specs.declared.entries.PoolEntry.{PoolEntry}
use Rattle.cqs_rule_laws.specs.declared.view.View.{View}
use Rattle.cqs_rule_laws.specs.Lists.{Has}
use Rattle.cqs_pool.specs.Answers.{IsInHand}
use Rattle.cqs_pool.specs.Calls.{Rests}

module _ {S : Type 0} where
  pub in_hand : (e : ℕ) (elements waits : List ℕ) (v w : View PoolEntry S) → Rests v (e ∷ elements) waits w
      → IsInHand e w.facts
  in_hand e elements waits v w rests = subst (Has e) (sym rests.elements_are) (inl refl)
