-- What lies in the slots, and what a pass has in hand, after the calls of the pool below.
use Rattle.std.proofs.Common.{◌≡◌, ◌≢◌, ◌⊎◌, ℕ, ◌+◌, ◌==◌, ◌<◌, ◌≤◌, Bool, true, false, List, [], ◌∷◌, ◌++◌, sym, refl, ap, ◌∙◌, subst, inl, inr, arith, length, slice_get, Option, Some, None, if◌then◌else◌, Result, Ok, Err}
use Rattle.std.specs.Prelude.{IfOk, IsErrOf, OnOk, OnErr}
use Rattle.std.proofs.lemmas.Bool.{cases_lt}
use Rattle.std.proofs.lemmas.List.{length_push}
use Rattle.std.proofs.lemmas.Option.{same_Some}
use mathlib.Core.Logic.{dite}
use native.Mathlib.Decide.{ℕ_discrete}
use Rattle.cqs_core.proofs.Places.{get-below, get-there, get-append_below, get-push_at}
use Rattle.cqs_pool_object.specs.declared.entries.PoolEntry.{PoolEntry}
use Rattle.cqs_rule.specs.declared.queue.tokens.Under as token
use Rattle.cqs_rule_laws.specs.declared.carries.Kept.{Kept}
use Rattle.cqs_rule_laws.specs.declared.config.AcquireError.{AcquireError}
use Rattle.cqs_rule_laws.specs.declared.config.AcquireError.TheVariants.{Worn, Crowded}
use Rattle.cqs_rule_laws.specs.declared.view.Spare.{Spare}
use Rattle.cqs_rule_laws.specs.declared.view.View.{View}
use Rattle.cqs_rule_laws.specs.SegmentSteps.{LeftBy}
use Rattle.cqs_rule_laws.specs.Lists.{Has, IsPrefix, without}
use Rattle.cqs_rule_laws.specs.Slots.{laid_in, handed_in, or_else, LaysNone}
use Rattle.cqs_rule_laws.specs.SlotSteps.{LayIn, LaysValue, Swapped}
use Rattle.cqs_rule_laws.specs.Given.{values_for}
use Rattle.cqs_rule_laws.proofs.Given.{values-append, values-stay, none-handed}
use Rattle.cqs_rule_laws.proofs.Handing.{handed-here, handed-else}
use Rattle.cqs_rule_laws.proofs.Lists.{chosen, passed-by, without_has, prefix-then}
use Rattle.cqs_pool.specs.declared.answers.Placed.{Placed}
use Rattle.cqs_pool.specs.declared.answers.Placed.TheVariants.{Sent, Left, Under}
use Rattle.cqs_pool.specs.declared.answers.PoolLeft.TheVariants.{Cancelled}
use Rattle.cqs_pool.specs.Answers.{Ends, IsCrowded, IsWorn, LeavesPass}
use Rattle.cqs_pool.specs.Pool.{HasEach}
use Rattle.cqs_pool_values.specs.Pools.{IsFilled, AreFilled, HoldsEach, BeginsEach, IsTidy}
use Rattle.cqs_pool_values.specs.Values.{in_slot}

module _ {S : Type 0} where
  -- what was handed in stays handed in, or something after it is
  or-filled : (o p : Option S) (y : S) → p ≡ Some y → (z : S) × (or_else o p ≡ Some z)
  or-filled None p y is = (y, is)
  or-filled (Some z) p y is = (z, refl)

  -- the value handed in last for the element e, with one before it
  abbrev with-first : ℕ → ℕ × S → Option S → Option S
  with-first e x o = or_else o (if x.0 == e then Some x.1 else None)

  some-first : (e : ℕ) (x : ℕ × S) (o p : Option S) (y : S) → ((z : S) → o ≡ Some z → (u : S) × (p ≡ Some u))
      → with-first e x o ≡ Some y → (z : S) × (with-first e x p ≡ Some z)
  some-first e x (Some z) p y on is = let t = on z refl in (t.0, ap (with-first e x) t.1)
  some-first e x None p y on is = or-filled p (if x.0 == e then Some x.1 else None) y is

  some-left : (e : ℕ) (a b : List (ℕ × S)) (y : S) → handed_in a e ≡ Some y → IsFilled e (a ++ b)
  some-left e [] b y is = absurd (cc)
  some-left e (x ∷ xs) b y is =
      some-first e x (handed_in xs e) (handed_in (xs ++ b) e) y (λ z same. some-left e xs b z same) is

  pub filled-more : (e : ℕ) (a all : List (ℕ × S)) → IsFilled e a → IsPrefix a all → IsFilled e all
  filled-more e a all filled more = subst (IsFilled e) (sym more.1) (some-left e a more.0 filled.0 filled.1)

  pub all-filled : (size : ℕ) (a all : List (ℕ × S)) → AreFilled size a → IsPrefix a all → AreFilled size all
  all-filled size a all filled more = λ e low. filled-more e a all (filled e low) more

  -- nothing was laid in two lists, and so in both one after the other
  none-first : (c : Bool) (x : Option S) (o p : Option (Option S)) → (o ≡ None → p ≡ None)
      → (if c then Some x else o) ≡ None → (if c then Some x else p) ≡ None
  none-first true x o p on q = absurd (cc)
  none-first false x o p on q = on q

  pub none-both : (e : ℕ) (a b : List (ℕ × Option S)) → laid_in a e ≡ None → laid_in b e ≡ None
      → laid_in (a ++ b) e ≡ None
  none-both e [] b none none' = none'
  none-both e (x ∷ xs) b none none' =
      none-first (x.0 == e) x.1 (laid_in xs e) (laid_in (xs ++ b) e) (λ q. none-both e xs b q none') none

  -- what was laid into a slot just now lies there
  laid-here : (e : ℕ) (x : Option S) (l : List (ℕ × Option S)) → laid_in ((e, x) ∷ l) e ≡ Some x
  laid-here e x l = chosen e e (Some x) (laid_in l e) refl

  pub laid-swapped : (e : ℕ) (x : Option S) (v w : View PoolEntry S) → Swapped ((e, x) ∷ v.laid) v w
      → laid_in w.laid e ≡ Some x
  laid-swapped e x v w swap = ap (λ (z : View PoolEntry S). laid_in z.laid e) swap.is ∙ laid-here e x v.laid

  -- and if that is a value, one lies there
  pub lays-value : (e : ℕ) (y : S) (v w : View PoolEntry S) → Swapped ((e, Some y) ∷ v.laid) v w
      → IsFilled e v.handed → LaysValue e w
  lays-value e y v w swap filled =
      let more = filled-more e v.handed w.handed filled swap.more in record {
        value = y;
        laid = laid-swapped e (Some y) v w swap;
        last = more.0;
        filled = more.1;
      }

  -- a pass that has an element in hand may open its slot
  pub low-slot : (e size slots : ℕ) (v : View PoolEntry S) → HasEach size v.facts.has.slots → Has e v.facts.has.slots
      → slots ≡ size → e < slots
  low-slot e size slots v known has is = let low = known.low e has in omega arith

  -- a slot in which nothing was laid holds what was handed in
  pub lay-filled : (e : ℕ) (k : Option S) (v w : View PoolEntry S) → LayIn e k v w → laid_in v.laid e ≡ None
      → IsFilled e v.handed → k ≢ None
  lay-filled e k v w lay bare filled none =
      let t = filled-more e v.handed lay.handed filled lay.since in
      absurd (some-none t.0 (sym t.1 ∙ (sym (lay.last bare) ∙ none)))
    where
      some-none : (y : S) → Some y ≡ None → ⊥
      some-none y q = cc

  -- a pass stays tidy that has in hand what it had, and has laid nothing more
  pub tidy-then : (v w : View PoolEntry S) → IsTidy v → LaysNone v.laid w.laid
      → ((e : ℕ) → Has e v.facts.has.slots → Has e w.facts.has.slots) → IsTidy w
  tidy-then v w tidy less more = λ e none. less e (tidy e (λ h. none (more e h)))

  pub tidy-same : (v w : View PoolEntry S) → IsTidy v → LaysNone v.laid w.laid
      → w.facts.has.slots ≡ v.facts.has.slots → IsTidy w
  tidy-same v w tidy less same = tidy-then v w tidy less (λ e h. subst (Has e) (sym same) h)

  -- one that has an element in hand may lay something into its slot
  pub tidy-swapped : (e : ℕ) (x : Option S) (v w : View PoolEntry S) → IsTidy v → Has e v.facts.has.slots
      → Swapped ((e, x) ∷ v.laid) v w → IsTidy w
  tidy-swapped e x v w tidy has swap = λ j none.
      let none' : Has j v.facts.has.slots → ⊥ =
      λ h. none (subst (λ (z : View PoolEntry S). Has j z.facts.has.slots) (sym swap.is) h) in
      let apart : e ≢ j = λ same. none' (subst (λ z. Has z v.facts.has.slots) same has) in
      ap (λ (z : View PoolEntry S). laid_in z.laid j) swap.is
      ∙ (passed-by e j (Some x) (laid_in v.laid j) apart ∙ tidy j none')

  -- a claim leaves what it has in hand, and what it has laid into slots
  pub tidy-left : (v t : View PoolEntry S) (heads : List (ℕ × ℕ)) (spares : List Spare) (duties : List ℕ)
      → IsTidy v → LeftBy heads spares duties v t → IsTidy t
  tidy-left v t heads spares duties tidy left = subst IsTidy (sym left.is) tidy

  -- and stays tidy where it puts the element, and nothing lies there any more
  pub tidy-put : (e : ℕ) (v w : View PoolEntry S) → IsTidy v → LaysNone v.laid w.laid
      → w.facts.has.slots ≡ without e v.facts.has.slots → laid_in w.laid e ≡ None → IsTidy w
  tidy-put e v w tidy less slots off = λ j none. dite (ℕ_discrete j e)
      (λ (same : j ≡ e). ap (laid_in w.laid) same ∙ off)
      (λ (apart : j ≢ e). less j (tidy j (λ h.
      none (subst (Has j) (sym slots) (without_has j e v.facts.has.slots apart h)))))

  -- the elements that a pass has in hand after the end of a put
  pub ends-slots : (v w : View PoolEntry S) (e : ℕ) (elements waits : List ℕ) (a : Placed)
      → Ends v e elements waits a w → w.facts.has.slots ≡ elements
  ends-slots v w e elements waits (Sent k) t = t.1.elements_are
  ends-slots v w e elements waits (Left k) t = t.1.elements_are
  ends-slots v w e elements waits (Under under) t = t.elements_are

  -- after a take that was refused
  pub refused-slots : {A : Type 0} (e : AcquireError) (v w : View PoolEntry S)
      → (IsErrOf {T = A} (Err e) Worn → IsWorn v w) → (IsErrOf {T = A} (Err e) Crowded → IsCrowded v w)
      → w.facts.has.slots ≡ v.facts.has.slots
  refused-slots Worn v w worn crowded = ap (λ f. f.has.slots) (worn refl).facts_are
  refused-slots Crowded v w worn crowded = ap (λ f. f.has.slots) (crowded refl).crowded.facts_are

  pub refused-waits : {A : Type 0} (e : AcquireError) (v w : View PoolEntry S)
      → (IsErrOf {T = A} (Err e) Worn → IsWorn v w) → (IsErrOf {T = A} (Err e) Crowded → IsCrowded v w)
      → w.facts.waits ≡ v.facts.waits
  refused-waits Worn v w worn crowded = ap (λ f. f.waits) (worn refl).facts_are
  refused-waits Crowded v w worn crowded = ap (λ f. f.waits) (crowded refl).crowded.facts_are

  -- and after a cancel that left the line
  pub leaves-slots : (k : ℕ) (v w : View PoolEntry S) (under : Option token.Under)
      → LeavesPass k v (Cancelled under) w → w.facts.has.slots ≡ v.facts.has.slots
  leaves-slots k v w None t = t.elements_are
  leaves-slots k v w (Some under) t = t.2

-- one slot after another is filled
module _ {E S : Type 0} where
  pub swapped-more : (v u w : View E S) → Swapped [] v u → Swapped u.laid u w → Swapped [] v w
  swapped-more v u w first next = record {
    is = next.is ∙ (λ i. record (first.is i) { handed = w.handed; laid = (first.is i).laid });
    more = prefix-then v.handed u.handed w.handed first.more next.more;
  }

pub none-there : {A : Type 0} (e : ℕ) (x : A) → slice_get [] e ≡ Some x → ⊥
none-there e x there = absurd (cc)

module _ {T : Type 0} where
  pub holds-more : (values : List T) (old new : List (ℕ × Kept T)) (slot : ℕ) (y : T) → slot ≡ length values
      → new ≡ old ++ (slot, in_slot y) ∷ [] → HoldsEach values old → HoldsEach (values ++ y ∷ []) new
  holds-more values old new slot y at is holds e x there = ap (λ l. handed_in l e) is ∙ by (cases_lt e (length values))
    where
      by : (e < length values) ⊎ (length values ≤ e) → handed_in (old ++ (slot, in_slot y) ∷ []) e ≡ Some (in_slot x)
      by (inl low) =
          handed-else old slot e (in_slot y) (λ same. absurd (omega arith))
          ∙ holds e x (sym (get-append_below values (y ∷ []) e low) ∙ there)
      by (inr high) =
          let below = get-below (values ++ y ∷ []) e x there in
          let long = length_push values y in
          let here : e ≡ length values = omega arith in
          let same : y ≡ x = same_Some y x (sym (get-push_at values y e here) ∙ there) in
          let slot_is : slot ≡ e = omega arith in
          subst (λ k. handed_in (old ++ (slot, in_slot y) ∷ []) k ≡ Some (in_slot x)) slot_is
          (handed-here old slot (in_slot y) ∙ ap (λ z. Some (in_slot z)) same)

  pub begins-more : (values : List T) (old new : List (ℕ × Kept T)) (slot : ℕ) (y : T) → slot ≡ length values
      → new ≡ old ++ (slot, in_slot y) ∷ [] → handed_in old slot ≡ None → BeginsEach values old
      → BeginsEach (values ++ y ∷ []) new
  begins-more values old new slot y at is empty begins e x there =
      ap (λ l. slice_get (values_for e l) 0) is ∙ by (cases_lt e (length values))
    where
      by : (e < length values) ⊎ (length values ≤ e)
          → slice_get (values_for e (old ++ (slot, in_slot y) ∷ [])) 0 ≡ Some (in_slot x)
      by (inl low) =
          values-stay e old (old ++ (slot, in_slot y) ∷ []) 0 (in_slot x) ((slot, in_slot y) ∷ [], refl)
          (begins e x (sym (get-append_below values (y ∷ []) e low) ∙ there))
      by (inr high) =
          let below = get-below (values ++ y ∷ []) e x there in
          let long = length_push values y in
          let here : e ≡ length values = omega arith in
          let same : y ≡ x = same_Some y x (sym (get-push_at values y e here) ∙ there) in
          let slot_is : slot ≡ e = omega arith in
          subst (λ k. slice_get (values_for k (old ++ (slot, in_slot y) ∷ [])) 0 ≡ Some (in_slot x)) slot_is
          (ap (λ l. slice_get l 0) (values-append slot old ((slot, in_slot y) ∷ [])
          ∙ (ap (λ l. l ++ values_for slot ((slot, in_slot y) ∷ [])) (none-handed slot old empty)
          ∙ chosen slot slot (in_slot y ∷ []) [] refl)) ∙ ap (λ z. Some (in_slot z)) same)

  pub empty-more : (old new : List (ℕ × Kept T)) (slot : ℕ) (y : T) → new ≡ old ++ (slot, in_slot y) ∷ []
      → ((k : ℕ) → slot ≤ k → handed_in old k ≡ None) → (k : ℕ) → slot + 1 ≤ k → handed_in new k ≡ None
  empty-more old new slot y is empty k above =
      ap (λ l. handed_in l k) is
      ∙ (handed-else old slot k (in_slot y) (λ same. absurd (omega arith)) ∙ empty k (omega arith))

  -- so each of so many is filled
  pub all-held : (values : List T) (size : ℕ) (handed : List (ℕ × Kept T)) → size ≡ length values
      → HoldsEach values handed → AreFilled size handed
  all-held values size handed is holds e low =
      let t = get-there values e (omega arith) in (in_slot t.0, holds e t.0 t.1)

-- an error that is given on
pub same-error : {A B : Type 0} (e x : AcquireError) → IsErrOf {T = A} (Err e) x → IsErrOf {T = B} (Err e) x
same-error Worn Worn is = refl
same-error Crowded Crowded is = refl
same-error Worn Crowded is = absurd (cc)
same-error Crowded Worn is = absurd (cc)

-- an answer that is given on
pub if-ok : {A X : Type 0} (r : Result A X) (P Q R : A → Type 0) → ((a : A) → P a → Q a → R a) → IfOk r P → IfOk r Q
    → IfOk r R
if-ok (Ok a) P Q R f p q = f a p q
if-ok (Err e) P Q R f p q = tt

pub by-answer : {A X : Type 0} (r : Result A X) (P Q R U Z : Type 0) → (P → Q → U → Z) → (R → Z) → OnOk r P → OnOk r Q
    → OnOk r U → OnErr r R → Z
by-answer (Ok a) P Q R U Z f g p q u e = f p q u
by-answer (Err e) P Q R U Z f g p q u r = g r
