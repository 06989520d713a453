-- Where a pass is alone, every other one is in the middle of nothing.
use Rattle.std.proofs.Common.{◌≡◌, ◌≢◌, ◌⊎◌, ℕ, Some, inl, inr, slice_get, sym, ap, ◌∙◌, arith}
use Rattle.std.proofs.lemmas.Option.{same_Some}
use mathlib.Core.Logic.{dite}
use native.Mathlib.Decide.{ℕ_discrete}
use Rattle.cqs_core.specs.declared.doings.Doing.{Doing}
use Rattle.cqs_core.specs.declared.doings.Doing.TheVariants as doing
use Rattle.cqs_core.specs.declared.entries.Entry.{Entry}
use Rattle.cqs_core.proofs.Places.{get-below}
use Rattle.cqs_rule_laws.specs.declared.view.View.{View}
use Rattle.cqs_rule_laws.specs.Alone.{IsAlone}
use Rattle.cqs_semaphore_client.specs.SemaphoreMade.{primitive_of}

module _ {T : Type 0} where
  pub does-alone : (v : View Entry T) (a : IsAlone primitive_of v) (p : ℕ) (d : Doing)
      → slice_get a.hidden.queue.doing p ≡ Some d → (d ≡ v.facts.doing) ⊎ (d ≡ doing.Idle)
  does-alone v a p d there = dite (ℕ_discrete p v.number)
      (λ (e : p ≡ v.number). inl (same_Some d v.facts.doing
      (sym there ∙ (ap (slice_get a.hidden.queue.doing) e ∙ a.stands.doing))))
      (λ (other : p ≢ v.number).
      let below = get-below a.hidden.queue.doing p d there in
      let long = a.places in
      let r = a.others p other (omega arith) in
      inr (same_Some d doing.Idle (sym there ∙ (r.stands.doing ∙ ap Some r.idle))))
