-- How much each pass holds, when one of them has something else.
use Rattle.std.proofs.Common.{◌≡◌, ℕ, List, ap, sym, ◌∙◌, Some, slice_get, get_or, set}
use Rattle.std.proofs.lemmas.Option.{slice_get-map, get_or_from_slice_get}
use Rattle.std.proofs.lemmas.List.{map-set}
use Rattle.std.specs.Prelude.{slice_set}
use Rattle.std.specs.Option.{option_map}
use Rattle.cqs_core.proofs.Places.{set-same}
use Rattle.cqs_rule_laws.specs.declared.view.Has.{Has}
use Rattle.cqs_rule_laws.specs.Held.{held_of}

-- how much the pass holds that has this
pub held-at : (l : List Has) (p : ℕ) (has : Has) → slice_get l p ≡ Some has
    → slice_get (held_of l) p ≡ Some has.held
held-at l p has there =
    slice_get-map (λ (h : Has). h.held) l p ∙ ap (option_map (λ (h : Has). h.held)) there

pub held-is : (l : List Has) (p : ℕ) (has : Has) → slice_get l p ≡ Some has
    → get_or (held_of l) p 0 ≡ has.held
held-is l p has there = get_or_from_slice_get (held_of l) p has.held 0 (held-at l p has there)

-- what all hold where the pass has this now: the pass holds so much, or what it held
pub held-set : (l : List Has) (p : ℕ) (h : Has) (n : ℕ) → h.held ≡ n
    → set (held_of l) p n ≡ held_of (slice_set l p h)
held-set l p h n is = sym (map-set (λ (x : Has). x.held) l p h ∙ ap (λ m. set (held_of l) p m) is)

pub held-kept : (l : List Has) (p : ℕ) (has h : Has) → slice_get l p ≡ Some has → h.held ≡ has.held
    → held_of l ≡ held_of (slice_set l p h)
held-kept l p has h there same =
    sym (set-same (held_of l) p has.held (held-at l p has there)) ∙ held-set l p h has.held same
