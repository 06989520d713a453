-- A slot's value of one number is one value, whoever has seen it.
use Rattle.std.proofs.Common.{◌≡◌, ◌⊎◌, ◌∙◌, ℕ, ◌+◌, List, ◌++◌, ap, sym, subst, ⊎_elim, arith, Option, Some, slice_get}
use Rattle.std.proofs.lemmas.Option.{same_Some}
use Rattle.cqs_rule_laws.specs.Given.{IsLastGiven, times_given, values_for}
use Rattle.cqs_rule_laws.specs.Lists.{IsPrefix}
use Rattle.cqs_rule_laws.proofs.Given.{given-append, values-stay}

pub one-value : {E S : Type 0} (gives : E → Option ℕ) (k : ℕ) (x y : S) (before since : List E)
    (handed all : List (ℕ × S))
    → IsLastGiven gives k x before handed → IsLastGiven gives k y (before ++ since) all → times_given gives since k ≡ 0
    → IsPrefix handed all ⊎ IsPrefix all handed → y ≡ x
one-value {E} {S} gives k x y before since handed all first last none one =
    let n = times_given gives before k in
    let same : times_given gives (before ++ since) k ≡ n =
    let sum = given-append gives before since k in omega arith in
    let there : slice_get (values_for k all) n ≡ Some y =
    subst (λ m. slice_get (values_for k all) m ≡ Some y) same last in
    ⊎_elim
    (λ (more : IsPrefix handed all).
    same_Some y x (sym there ∙ values-stay k handed all n x more first))
    (λ (more : IsPrefix all handed).
    same_Some y x (sym (values-stay k all handed n y more there) ∙ first))
    one
