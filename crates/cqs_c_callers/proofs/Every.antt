-- There are as many tokens as the pass has waits, or elements in hand. It stays so where the pass has the same, one
-- more, or one less.
use Rattle.std.proofs.Common.{◌≡◌, ◌≢◌, ℕ, ◌+◌, ◌<◌, ◌≤◌, List, [], ◌∷◌, ◌++◌, All, length, sym, ap, ◌∙◌, arith}
use Rattle.std.specs.List.{remove}
use Rattle.std.proofs.lemmas.List.{length-append}
use Rattle.std.proofs.lemmas.List.Edits.{length-remove}
use Rattle.std.proofs.lemmas.List.Elements.{All-head, All-tail, All-weaker}
use Rattle.cqs_rule_laws.specs.declared.view.View.{View}
use Rattle.cqs_rule_laws.specs.Inside.{IsInside}
use Rattle.cqs_rule_laws.specs.Lists.{Has, without}
use Rattle.cqs_rule_laws.proofs.Lists.{without_has}
use Rattle.cqs_rule.specs.declared.queue.tokens.Wait.{Wait}
use Rattle.cqs_c_callers.specs.Tokens.{Apart, IsTaken, HasTokens}
use Rattle.cqs_c_callers.proofs.Waits.{all_both, shorter}
use Rattle.cqs_c_callers.proofs.TokenSteps.{index_of, taken_token}

module _ {X : Type 0} (xs : List X) (l m : List ℕ) where
  pub every_same : m ≡ l → length xs ≡ length l → length xs ≡ length m
  every_same same every = every ∙ ap length (sym same)

  pub every_more : (ys : List X) (x : X) (k : ℕ) → ys ≡ xs ++ x ∷ [] → m ≡ l ++ k ∷ [] → length xs ≡ length l
      → length ys ≡ length m
  every_more ys x k more grown every =
      let long : length ys ≡ length xs + 1 = ap length more ∙ length-append xs (x ∷ []) in
      let as_long : length m ≡ length l + 1 = ap length grown ∙ length-append l (k ∷ []) in omega arith

  -- the wait stood once among them
  pub every_less : (ys : List X) (i k : ℕ) → i < length xs → ys ≡ remove xs i → m ≡ without k l
      → length (without k l) + 1 ≡ length l → length xs ≡ length l → length ys ≡ length m
  every_less ys i k low taken less once every =
      let short : length ys + 1 ≡ length xs = ap (λ (zs : List X). length zs + 1) taken ∙ length-remove xs i low in
      let as_short = ap length less in omega arith

module _ {X : Type 0} (index : X → ℕ) where
  -- the numbers that stand in a list are no more than it has, where no two of them are the same
  pub no_more : (xs : List X) (l : List ℕ) → Apart index xs → All (λ x. Has (index x) l) xs → length xs ≤ length l
  no_more [] l apart all = omega arith
  no_more (x ∷ xs) l apart all =
      let k = index x in
      let less = shorter k l (All-head (λ y. Has (index y) l) x xs all) in
      let rest = no_more xs (without k l) apart.1
      (All-weaker (λ y. Has (index y) l × (index y ≢ k)) (λ y. Has (index y) (without k l))
      (λ y both. without_has (index y) k l both.1 both.0) xs
      (all_both (λ y. Has (index y) l) (λ y. index y ≢ k) xs (All-tail (λ y. Has (index y) l) x xs all) apart.0)) in
      omega arith

  module _ (number : ℕ) (xs ys : List X) (x : X) (t : IsTaken index number xs x ys) where
    -- one was taken out of them
    pub one_fewer : length ys + 1 ≡ length xs
    one_fewer = ap (λ (zs : List X). length zs + 1) t.others ∙ length-remove xs t.at t.below

    -- and came back
    pub every_back : (again : X) (zs : List X) (l m : List ℕ) → zs ≡ ys ++ again ∷ [] → m ≡ l → length xs ≡ length l
        → length zs ≡ length m
    every_back again zs l m back same every =
        let fewer = one_fewer in
        let long : length zs ≡ length ys + 1 = ap length back ∙ length-append ys (again ∷ []) in
        let as_long = ap length same in omega arith

-- the one that was taken out was the token of a wait that is over
module _ {X : Type 0} (of : X → Wait) {E S : Type 0} (v : View E S) where
  pub every_over : (number : ℕ) (xs ys : List X) (x : X) (m : List ℕ) → IsTaken (index_of of) number xs x ys
      → IsInside v → HasTokens of v xs → m ≡ without (index_of of x) v.facts.waits → length xs ≡ length v.facts.waits
      → length ys ≡ length m
  every_over number xs ys x m t inside tokens less every =
      let has = taken_token of v number xs ys x t tokens in
      every_less xs v.facts.waits m ys t.at (index_of of x) t.below t.others less (inside.once _ has.open_yet) every
