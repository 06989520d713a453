-- What all passes of a pool bring and have in hand, as its object and its table have it.
-- This file is a proof, as `PoolIsClient` is: nothing of it has to be read to know what is
-- promised.
use Rattle.std.proofs.Common.{◌≡◌, ◌≢◌, ◌⊎◌, inl, inr, ℕ, suc, ◌+◌, ◌-◌, ◌<◌, ◌≤◌, ◌==◌, true, false, List, [], ◌∷◌, refl, ap, sym, ◌∙◌, subst, arith, Some, slice_get, ne_eqb, eq-eqb, length, get_or, set}
use Rattle.std.specs.List.{sum_by}
use Rattle.std.proofs.lemmas.Bool.{cases_Bool, cases_eq, cases_lt}
use Rattle.std.proofs.lemmas.Option.{slice_get-map, get_or_from_slice_get}
use Rattle.std.proofs.lemmas.List.{map-set}
use Rattle.std.proofs.lemmas.List.Sums.{get_or-le-sum_by}
use Rattle.std.specs.Prelude.{slice_set}
use Rattle.std.specs.Option.{option_map}
use Rattle.cqs_core.specs.Numbered.{IsIn}
use Rattle.cqs_core.specs.QueueSteps.{StepRow, at_counter, at_cell, Gain, nothing, its_own, a_debt, Cost, no_cost, one_owed, one_element}
use Rattle.cqs_core.proofs.Counts.{bit}
use Rattle.cqs_core.proofs.Places.{get-below, set-same}
use Rattle.cqs_pool_object.specs.declared.entries.PoolEntry.{PoolEntry}
use Rattle.cqs_pool_object.specs.PoolEntries.{less, object_after}
use Rattle.cqs_pool_object.specs.PoolObject.{times}
use Rattle.cqs_pool_object.specs.PoolShown.{PoolShape, IsPool, held_times}
use Rattle.cqs_pool_object.specs.PoolSteps.{hold_of, loads_after, holds_after, loads_paid, loads_gained, holds_paid, holds_gained}
use Rattle.cqs_pool_object.proofs.PoolConserved.{conserved-after}
use Rattle.cqs_pool_object.proofs.PoolCounts.{times-cons}
use Rattle.cqs_rule_laws.specs.declared.view.Has.{Has}
use Rattle.cqs_rule_laws.specs.Hidden.{Hidden, has_after, has_gained, has_paid}
use Rattle.cqs_rule_laws.specs.Lists as lists
use Rattle.cqs_pool.specs.Pool.{loads_of, holds_of, pool_shown, ShowsPool, in_hand, HasEach}

-- what the pass brings, and what it has in hand, that has this
load-at : (l : List Has) (p : ℕ) (has : Has) → slice_get l p ≡ Some has
    → slice_get (loads_of l) p ≡ Some has.payload
load-at l p has there =
    slice_get-map (λ (h : Has). h.payload) l p ∙ ap (option_map (λ (h : Has). h.payload)) there

pub load-is : (l : List Has) (p : ℕ) (has : Has) → slice_get l p ≡ Some has
    → get_or (loads_of l) p 0 ≡ has.payload
load-is l p has there =
    get_or_from_slice_get (loads_of l) p has.payload 0 (load-at l p has there)

pub hold-at : (l : List Has) (p : ℕ) (has : Has) → slice_get l p ≡ Some has
    → slice_get (holds_of l) p ≡ Some has.slots
hold-at l p has there =
    slice_get-map (λ (h : Has). h.slots) l p ∙ ap (option_map (λ (h : Has). h.slots)) there

pub hold-is : (l : List Has) (p : ℕ) (has : Has) → slice_get l p ≡ Some has
    → hold_of (holds_of l) p ≡ has.slots
hold-is l p has there = get_or_from_slice_get (holds_of l) p has.slots [] (hold-at l p has there)

-- what all bring and have in hand where the pass has this now
load-set : (l : List Has) (p : ℕ) (h : Has) (n : ℕ) → h.payload ≡ n
    → set (loads_of l) p n ≡ loads_of (slice_set l p h)
load-set l p h n is =
    sym (map-set (λ (x : Has). x.payload) l p h ∙ ap (λ m. set (loads_of l) p m) is)

pub load-kept : (l : List Has) (p : ℕ) (has h : Has) → slice_get l p ≡ Some has
    → h.payload ≡ has.payload
    → loads_of l ≡ loads_of (slice_set l p h)
load-kept l p has h there same =
    sym (set-same (loads_of l) p has.payload (load-at l p has there))
    ∙ load-set l p h has.payload same

pub hold-set : (l : List Has) (p : ℕ) (h : Has) (slots : List ℕ) → h.slots ≡ slots
    → set (holds_of l) p slots ≡ holds_of (slice_set l p h)
hold-set l p h slots is =
    sym (map-set (λ (x : Has). x.slots) l p h ∙ ap (λ m. set (holds_of l) p m) is)

pub hold-kept : (l : List Has) (p : ℕ) (has h : Has) → slice_get l p ≡ Some has
    → h.slots ≡ has.slots
    → holds_of l ≡ holds_of (slice_set l p h)
hold-kept l p has h there same =
    sym (set-same (holds_of l) p has.slots (hold-at l p has there))
    ∙ hold-set l p h has.slots same

-- where an element is in a list once at most, the list without it is the same in both words
none-without : (e : ℕ) (xs : List ℕ) → times e xs ≡ 0 → lists.without e xs ≡ xs
none-without e [] none = refl
none-without e (x ∷ xs) none =
    go (cases_Bool (x == e)) (λ rest. none-without e xs rest) (times-cons e x xs)
  where
    go : (x == e ≡ true) ⊎ (x == e ≡ false) → (times e xs ≡ 0 → lists.without e xs ≡ xs)
        → times e (x ∷ xs) ≡ bit (x == e) + times e xs → lists.without e (x ∷ xs) ≡ x ∷ xs
    go (inl same) rests first = let one : bit (x == e) ≡ 1 = ap bit same in absurd (omega arith)
    go (inr other) rests first = rw other (ap (λ ys. x ∷ ys) (rests (omega arith)))

once-without : (e : ℕ) (xs : List ℕ) → times e xs ≤ 1 → lists.without e xs ≡ less e xs
once-without e [] once = refl
once-without e (x ∷ xs) once =
    go (cases_eq x e) (λ rest. once-without e xs rest) (times-cons e x xs)
  where
    go : (x ≡ e) ⊎ (x ≢ e) → (times e xs ≤ 1 → lists.without e xs ≡ less e xs)
        → times e (x ∷ xs) ≡ bit (x == e) + times e xs
        → lists.without e (x ∷ xs) ≡ less e (x ∷ xs)
    go (inl same) rests first =
        let one : bit (x == e) ≡ 1 = ap bit (eq-eqb x e same) in
        rw (eq-eqb x e same, eq-eqb e x (sym same)) (none-without e xs (omega arith))
    go (inr other) rests first =
        rw (ne_eqb x e other, ne_eqb e x (λ q. other (sym q)))
        (ap (λ ys. x ∷ ys) (rests (omega arith)))

pub has-in : (e : ℕ) (xs : List ℕ) → lists.Has e xs → IsIn e xs
has-in e [] has = absurd has
has-in e (x ∷ xs) (inl is) = record { place = 0; there = ap Some (sym is) }
has-in e (x ∷ xs) (inr later) =
    let rest : IsIn e xs = has-in e xs later in
    record { place = suc rest.place; there = rest.there }

-- no pass has an element in hand twice
pub once-held : (s : PoolShape) (p e : ℕ) → IsPool s → p < length s.holds
    → times e (hold_of s.holds p) ≤ 1
once-held s p e is there =
    let kept = conserved-after s.size s.history is.legal in
    let held = is.shows.held e in
    let own = get_or-le-sum_by (times e) s.holds p [] there in
    go (times e (object_after s.size s.history).held) (kept.each e) (kept.others e) held own
  where
    go : (n : ℕ)
        → (e < s.size → times e (object_after s.size s.history).way + n ≡ 1)
        → (s.size ≤ e → times e (object_after s.size s.history).way + n ≡ 0)
        → n ≡ held_times e s.queue s.payloads s.holds
        → times e (get_or s.holds p []) ≤ sum_by (times e) s.holds
        → times e (hold_of s.holds p) ≤ 1
    go n each others held own = grind arith

-- nor one that is none of the pool's
none-held : (s : PoolShape) (p e : ℕ) → IsPool s → p < length s.holds → s.size ≤ e
    → times e (hold_of s.holds p) ≡ 0
none-held s p e is there above =
    let kept = conserved-after s.size s.history is.legal in
    let held = is.shows.held e in
    let own = get_or-le-sum_by (times e) s.holds p [] there in
    let none = kept.others e above in
    omega arith

pub has-times : (e : ℕ) (xs : List ℕ) → lists.Has e xs → 0 < times e xs
has-times e [] has = absurd has
has-times e (x ∷ xs) (inl same) =
    let first = times-cons e x xs in
    let one : bit (x == e) ≡ 1 = ap bit (eq-eqb x e (sym same)) in
    omega arith
has-times e (x ∷ xs) (inr later) =
    let first = times-cons e x xs in
    let some = has-times e xs later in
    omega arith

-- where no element is twice in a list, its elements are distinct
all-distinct : (xs : List ℕ) → ((e : ℕ) → times e xs ≤ 1) → lists.IsDistinct xs
all-distinct [] once = tt
all-distinct (x ∷ xs) once = (
  λ later.
      let first = times-cons x x xs in
      let one : bit (x == x) ≡ 1 = ap bit (eq-eqb x x refl) in
      let some = has-times x xs later in
      let at = once x in
      absurd (omega arith),
  all-distinct xs (λ e.
      let first = times-cons e x xs in
      let at = once e in
      omega arith),
)

-- an element that a pass has in hand is one of the pool's, and is there once
pub elements-held : (size : ℕ) (c : Hidden) (log : List PoolEntry) (p : ℕ) (has : Has)
    → ShowsPool size c log → slice_get c.has p ≡ Some has → HasEach size has.slots
elements-held size c log p has shows there = record {
  once = all-distinct has.slots once;
  low = λ e mine. low e (has-times e has.slots mine) (cases_lt e size);
}
  where
    s : PoolShape
    s = pool_shown size c log

    at : p < length s.holds
    at = get-below (holds_of c.has) p has.slots (hold-at c.has p has there)

    once : (e : ℕ) → times e has.slots ≤ 1
    once e = subst (λ xs. times e xs ≤ 1) (hold-is c.has p has there)
        (once-held s p e shows.is_pool at)

    low : (e : ℕ) → 0 < times e has.slots → (e < size) ⊎ (size ≤ e) → e < size
    low e some (inl below) = below
    low e some (inr above) =
        let none = none-held s p e shows.is_pool at above in
        let same : times e (hold_of s.holds p) ≡ times e has.slots =
        ap (times e) (hold-is c.has p has there) in
        absurd (omega arith)

-- what all bring and have in hand after a step of this row
pub loads-after : (row : StepRow) (l : List Has) (p payload : ℕ) (has : Has)
    → slice_get l p ≡ Some has
    → loads_after row (loads_of l) p payload
    ≡ loads_of (slice_set l p (has_after in_hand row payload has))
loads-after (at_counter row) l p payload has there = paid row.cost
  where
    paid : (cost : Cost) → loads_paid cost (loads_of l) p payload
        ≡ loads_of (slice_set l p (has_paid cost payload has))
    paid no_cost = load-kept l p has has there refl
    paid one_owed = load-kept l p has (has_paid one_owed payload has) there refl
    paid one_element = load-set l p (has_paid one_element payload has) payload refl
loads-after (at_cell row) l p payload has there = gained row.gain
  where
    gained : (gain : Gain) → loads_gained gain (loads_of l) p payload
        ≡ loads_of (slice_set l p (has_gained in_hand gain payload has))
    gained nothing = load-kept l p has has there refl
    gained its_own = load-kept l p has (has_gained in_hand its_own payload has) there refl
    gained a_debt = load-set l p (has_gained in_hand a_debt payload has) payload refl

pub holds-after : (row : StepRow) (l : List Has) (p payload : ℕ) (has : Has)
    → slice_get l p ≡ Some has
    → times payload has.slots ≤ 1
    → holds_after row (holds_of l) p payload
    ≡ holds_of (slice_set l p (has_after in_hand row payload has))
holds-after (at_counter row) l p payload has there once = paid row.cost
  where
    paid : (cost : Cost) → holds_paid cost (holds_of l) p payload
        ≡ holds_of (slice_set l p (has_paid cost payload has))
    paid no_cost = hold-kept l p has has there refl
    paid one_owed = hold-kept l p has (has_paid one_owed payload has) there refl
    paid one_element =
        hold-set l p (has_paid one_element payload has) (less payload (hold_of (holds_of l) p))
        (once-without payload has.slots once ∙ ap (less payload) (sym (hold-is l p has there)))
holds-after (at_cell row) l p payload has there once = gained row.gain
  where
    gained : (gain : Gain) → holds_gained gain (holds_of l) p payload
        ≡ holds_of (slice_set l p (has_gained in_hand gain payload has))
    gained nothing = hold-kept l p has has there refl
    gained its_own =
        hold-set l p (has_gained in_hand its_own payload has) (payload ∷ hold_of (holds_of l) p)
        (ap (λ xs. payload ∷ xs) (sym (hold-is l p has there)))
    gained a_debt = hold-kept l p has (has_gained in_hand a_debt payload has) there refl
