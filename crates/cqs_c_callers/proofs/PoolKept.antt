-- How the elements that a pass has in hand go along through its calls.
use Rattle.std.proofs.Common.{◌≡◌, ◌≢◌, ℕ, ◌+◌, List, [], ◌∷◌, ◌++◌, All, Option, Some, None, length, refl, subst, sym, ap, ◌∙◌, false, inl, inr, arith}
use Rattle.std.specs.Option.{is_some}
use Rattle.std.proofs.lemmas.List.{length-append}
use Rattle.std.proofs.lemmas.List.Elements.{All-push, All-weaker}
use Rattle.cqs_pool_object.specs.declared.entries.PoolEntry.{PoolEntry}
use Rattle.cqs_rule.specs.declared.queue.tokens.Under as token
use Rattle.cqs_rule_laws.specs.declared.view.Facts.{Facts}
use Rattle.cqs_rule_laws.specs.declared.view.View.{View}
use Rattle.cqs_rule_laws.specs.Lists.{Has, without}
use Rattle.cqs_rule_laws.proofs.Lists.{has_left, without_has}
use Rattle.cqs_pool.specs.declared.answers.Placed.{Placed}
use Rattle.cqs_pool.specs.declared.answers.Placed.TheVariants.{Sent, Left, Under}
use Rattle.cqs_pool.specs.Answers.{Ends, IsInHand}
use Rattle.cqs_rule_laws.specs.CallRule.{IsReady}
use Rattle.cqs_pool.specs.Owed.{owed_after}
use Rattle.cqs_pool.specs.declared.element.Element.{Element}
use Rattle.cqs_pool.specs.Elements.{number_of}
use Rattle.cqs_c_callers.specs.PoolCallers.{OwesJust, HasElements}
use Rattle.cqs_c_callers.specs.Tokens.{IsTaken}
use Rattle.cqs_c_callers.proofs.TokenSteps.{apart_more, taken_one, taken_all, taken_apart, taken_others}
use Rattle.cqs_c_callers.proofs.Waits.{all_both, shorter}
use Rattle.cqs_c_callers.proofs.Every.{every_same, every_back, no_more, one_fewer}

-- a caller who has no token of a resumption owes none where its pass is ready
pub owes-none : (f : Facts) (o : Option token.Under) → false ≡ is_some o → IsReady f → OwesJust f o
owes-none f None e ready = ready
owes-none f (Some u) e ready = absurd (cc)

stay_in_hand : (f g : Facts) (xs : List Element) → ((e : ℕ) → Has e f.has.slots → Has e g.has.slots)
    → All (λ x. IsInHand (number_of x) f) xs → All (λ x. IsInHand (number_of x) g) xs
stay_in_hand f g xs keeps =
    All-weaker (λ x. IsInHand (number_of x) f) (λ x. IsInHand (number_of x) g) (λ x has. keeps (number_of x) has) xs

pub elements_same : (f g : Facts) (xs : List Element) → g.has.slots ≡ f.has.slots → HasElements f xs
    → HasElements g xs
elements_same f g xs same h = record {
  has = stay_in_hand f g xs (λ e has. subst (Has e) (sym same) has) h.has;
  apart = h.apart;
  every = every_same xs _ _ same h.every;
}

-- with those of another pass, which has none
pub elements_both : (f g : Facts) (xs : List Element) (others : List ℕ) → g.has.slots ≡ f.has.slots ++ others
    → length others ≡ 0 → HasElements f xs → HasElements g xs
elements_both f g xs others both none h =
    let long : length g.has.slots ≡ length f.has.slots + length others =
    ap length both ∙ length-append f.has.slots others in
    let every = h.every in record {
      has = stay_in_hand f g xs (λ e has. subst (Has e) (sym both) (has_left e f.has.slots others has)) h.has;
      apart = h.apart;
      every = omega arith;
    }

-- an element more, of an element that is new to the pass
pub elements_more : (f g : Facts) (xs : List Element) (x : Element) → g.has.slots ≡ number_of x ∷ f.has.slots
    → (IsInHand (number_of x) f → ⊥) → HasElements f xs → HasElements g (xs ++ x ∷ [])
elements_more f g xs x more new h =
    let old = stay_in_hand f g xs (λ e has. subst (Has e) (sym more) (inr has)) h.has in
    let long : length (xs ++ x ∷ []) ≡ length xs + 1 = length-append xs (x ∷ []) in
    let as_long = ap length more in
    let every = h.every in record {
      has = All-push (λ y. IsInHand (number_of y) g) xs x old (subst (Has (number_of x)) (sym more) (inl refl));
      apart = apart_more number_of xs x h.apart
          (All-weaker (λ y. IsInHand (number_of y) f) (λ y. number_of y ≢ number_of x)
          (λ y has q. new (subst (λ n. Has n f.has.slots) q has)) xs h.has);
      every = omega arith;
    }

-- one less
pub elements_less : (f g : Facts) (number : ℕ) (xs ys : List Element) (x : Element) → IsTaken number_of number xs x ys
    → g.has.slots ≡ without (number_of x) f.has.slots → HasElements f xs → HasElements g ys
elements_less f g number xs ys x t less h =
    let has = All-weaker (λ y. IsInHand (number_of y) f × (number_of y ≢ number_of x)) (λ y. IsInHand (number_of y) g)
    (λ y both. subst (Has (number_of y)) (sym less)
    (without_has (number_of y) (number_of x) f.has.slots both.1 both.0))
    ys
    (all_both (λ y. IsInHand (number_of y) f) (λ y. number_of y ≢ number_of x) ys
    (taken_all number_of number xs ys x t (λ y. IsInHand (number_of y) f) h.has)
    (taken_others number_of number xs ys x t h.apart)) in
    let apart = taken_apart number_of number xs ys x t h.apart in
    let most = no_more number_of ys g.has.slots apart has in
    let fewer = one_fewer number_of number xs ys x t in
    let here = taken_one number_of number xs ys x t (λ y. IsInHand (number_of y) f) h.has in
    let shrunk = shorter (number_of x) f.has.slots here in
    let as_short = ap length less in
    let every = h.every in record {
      has = has;
      apart = apart;
      every = omega arith;
    }

-- one that was taken out is back
pub elements_back : (f g : Facts) (number : ℕ) (xs ys : List Element) (x : Element) → IsTaken number_of number xs x ys
    → g.has.slots ≡ f.has.slots → HasElements f xs → HasElements g (ys ++ x ∷ [])
elements_back f g number xs ys x t same h =
    elements_same f g (ys ++ x ∷ []) same (record {
      has = All-push (λ y. IsInHand (number_of y) f) ys x
          (taken_all number_of number xs ys x t (λ y. IsInHand (number_of y) f) h.has)
          (taken_one number_of number xs ys x t (λ y. IsInHand (number_of y) f) h.has);
      apart = apart_more number_of ys x (taken_apart number_of number xs ys x t h.apart)
          (taken_others number_of number xs ys x t h.apart);
      every = every_back number_of number xs ys x t x (ys ++ x ∷ []) f.has.slots f.has.slots refl refl h.every;
    })

module _ {T : Type 0} where
  -- what the end of one does
  pub ends_owes : (v w : View PoolEntry T) (e : ℕ) (elements waits : List ℕ) (r : Placed) → Ends v e elements waits r w
      → OwesJust w.facts (owed_after r) × (w.facts.has.slots ≡ elements) × (w.facts.waits ≡ waits)
  ends_owes v w e elements waits (Sent k) h = (h.1.ready, h.1.elements_are, h.1.waits_are)
  ends_owes v w e elements waits (Left k) h = (h.1.ready, h.1.elements_are, h.1.waits_are)
  ends_owes v w e elements waits (Under under) h = ((h.owes, h.further), h.elements_are, h.waits_are)
