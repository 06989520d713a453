-- A pass with one wait, or with one element, has none after it; and one that was crowded has what it had.
use Rattle.std.proofs.Common.{◌≡◌, refl, inl, inr, true, false, ℕ, [], ◌∷◌, ◌∙◌, sym, ap, rules, eq-eqb}
use Rattle.cqs_core.specs.declared.doings.Doing.TheVariants as doing
use Rattle.cqs_rule_laws.specs.declared.view.Facts.{Facts}
use Rattle.cqs_rule_laws.specs.Facts.{owes_any}
use Rattle.cqs_rule_laws.specs.Lists.{without}
use Rattle.cqs_rule_laws.specs.declared.view.View.{View}
use Rattle.cqs_rule.specs.Claims.{Crowds}
use Rattle.cqs_rule.specs.Seats.{IsBusy}

pub without-one : (k : ℕ) → without k (k ∷ []) ≡ []
without-one k = rw (eq-eqb k k refl) refl

-- a pass that is idle, has no further resumption and no wait can be met away
pub not-busy : (f : Facts) → f.doing ≡ doing.Idle → f.has.further ≡ 0 → f.waits ≡ [] → IsBusy f → ⊥
not-busy f idle further none (inl owing) =
    let same : owes_any f ≡ false = rw (idle, further) refl in
    let clash : false ≡ true = sym same ∙ owing in absurd (cc)
not-busy f idle further none (inr some) = search (rules, none, some)

-- a call that was refused as crowded left what the pass holds, its elements and its waits
module _ {E S : Type 0} (most : ℕ) (v w : View E S) (crowded : Crowds most v w) where
  pub crowded-held : w.facts.has.held ≡ v.facts.has.held
  crowded-held = ap (λ (u : View E S). u.facts.has.held) crowded.left.is

  pub crowded-slots : w.facts.has.slots ≡ v.facts.has.slots
  crowded-slots = ap (λ (u : View E S). u.facts.has.slots) crowded.left.is

  pub crowded-waits : w.facts.waits ≡ v.facts.waits
  crowded-waits = ap (λ (u : View E S). u.facts.waits) crowded.left.is
