-- A take is what a poll begins with that has no wait yet, and with an item the pass has its element in hand.
use Rattle.std.proofs.Common.{ℕ, List, ◌∷◌, None, Result, Ok, Err, refl, sym, subst, inl}
use Rattle.cqs_pool_object.specs.declared.entries.PoolEntry.{PoolEntry}
use Rattle.cqs_rule_laws.specs.declared.config.AcquireError.{AcquireError}
use Rattle.cqs_rule_laws.specs.declared.carries.Kept.{Kept}
use Rattle.cqs_rule_laws.specs.declared.view.View.{View}
use Rattle.cqs_rule_laws.specs.Lists.{Has}
use Rattle.cqs_pool.specs.Answers.{IsInHand}
use Rattle.cqs_pool.specs.Calls.{Rests}
use Rattle.cqs_pool_values.specs.declared.answers.ItemTaking.{ItemTaking}
use Rattle.cqs_pool_values.specs.declared.answers.ItemTaking.TheVariants.{Took, Later}
use Rattle.cqs_pool_values.specs.Calls.{HasTaken, TakenLeaves}
use Rattle.cqs_waiter.specs.Takes.{ItemBegins}

module _ {T : Type 0} where
  pub take_begins : (v w : View PoolEntry (Kept T)) (answer : Result (ItemTaking T) AcquireError)
      → HasTaken v answer w → TakenLeaves v answer w → ItemBegins v None answer w
  take_begins v w (Ok (Took item)) took leaves = (took, leaves)
  take_begins v w (Ok (Later wait)) took leaves = (took, leaves)
  take_begins v w (Err e) took leaves = (took, leaves)

  pub in-hand : (e : ℕ) (elements waits : List ℕ) (v w : View PoolEntry (Kept T)) → Rests v (e ∷ elements) waits w
      → IsInHand e w.facts
  in-hand e elements waits v w r = subst (Has e) (sym r.elements_are) (inl refl)
