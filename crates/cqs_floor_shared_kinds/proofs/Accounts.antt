-- How much some callers have of a history: of one that goes on, of two lists of callers, and of all.
use Rattle.std.proofs.Common.{◌≡◌, ◌≢◌, ◌⊎◌, inl, inr, ℕ, ◌+◌, ◌==◌, Bool, true, false, List, [], ◌∷◌, ◌++◌, sum_by, refl, ap, sym, ◌∙◌, subst, arith, eq-eqb, ne_eqb}
use Rattle.std.specs.Bool.{if◌then◌else◌}
use Rattle.std.proofs.lemmas.List.Elements.{filter-append}
use Rattle.std.proofs.lemmas.List.Sums.{sum_by-append, sum_by-cons}
use Rattle.cqs_core.specs.Parts.{Has, part}
use Rattle.cqs_rule_laws.specs.Lists.{IsDistinct}
use Rattle.cqs_floor_shared_kinds.specs.Accounts.{NamesOne, over}

module _ {E : Type 0} (names : ℕ → E → Bool) (f : E → ℕ) where
  -- those who aren't named by what came have what they had
  over-same : (rest : List ℕ) (seen more : List E) → ((n : ℕ) → Has n rest → part names n more ≡ [])
      → over names f rest (seen ++ more) ≡ over names f rest seen
  over-same [] seen more none = refl
  over-same (n ∷ rest) seen more none =
      let here : sum_by f (part names n (seen ++ more)) ≡ sum_by f (part names n seen)
      = ap (sum_by f) (filter-append (names n) seen more)
      ∙ sum_by-append f (part names n seen) (part names n more)
      ∙ (let zero : sum_by f (part names n more) ≡ 0 = ap (sum_by f) (none n (inl refl)) in omega (arith, zero)) in
      let later = over-same rest seen more (λ m has. none m (inr has)) in
      omega (
        arith,
        here,
        later,
        sum_by-cons (λ m. sum_by f (part names m (seen ++ more))) n rest,
        sum_by-cons (λ m. sum_by f (part names m seen)) n rest,
      )

  -- a caller whose entries these are, beside others who aren't named
  pub over-next : (number : ℕ) (rest : List ℕ) (seen more entries : List E) → part names number more ≡ entries
      → ((n : ℕ) → Has n rest → part names n more ≡ [])
      → over names f (number ∷ rest) (seen ++ more) ≡ over names f (number ∷ rest) seen + sum_by f entries
  over-next number rest seen more entries mine none =
      let here : sum_by f (part names number (seen ++ more)) ≡ sum_by f (part names number seen) + sum_by f entries
      = ap (sum_by f) (filter-append (names number) seen more)
      ∙ sum_by-append f (part names number seen) (part names number more)
      ∙ ap (λ es. sum_by f (part names number seen) + sum_by f es) mine in
      omega (
        arith,
        here,
        over-same rest seen more none,
        sum_by-cons (λ m. sum_by f (part names m (seen ++ more))) number rest,
        sum_by-cons (λ m. sum_by f (part names m seen)) number rest,
      )

  -- it is read off their parts alone
  pub over-parts : (own : List ℕ) (h all : List E) → ((n : ℕ) → Has n own → part names n all ≡ part names n h)
      → over names f own all ≡ over names f own h
  over-parts [] h all same = refl
  over-parts (n ∷ own) h all same =
      let here : sum_by f (part names n all) ≡ sum_by f (part names n h) = ap (sum_by f) (same n (inl refl)) in
      omega (
        arith,
        here,
        over-parts own h all (λ m has. same m (inr has)),
        sum_by-cons (λ m. sum_by f (part names m all)) n own,
        sum_by-cons (λ m. sum_by f (part names m h)) n own,
      )

  -- of two lists of callers
  pub over-both : (own others : List ℕ) (h : List E)
      → over names f (own ++ others) h ≡ over names f own h + over names f others h
  over-both own others h = sum_by-append (λ n. sum_by f (part names n h)) own others

  -- an entry counts for the caller that it names
  abbrev share : E → ℕ → ℕ
  share e n = if names n e then f e else 0

  part-cons : (n : ℕ) (e : E) (h : List E) (b : Bool) → names n e ≡ b
      → sum_by f (part names n (e ∷ h)) ≡ share e n + sum_by f (part names n h)
  part-cons n e h true is = rw is (sum_by-cons f e (part names n h))
  part-cons n e h false is = rw is (omega arith)

  over-cons : (own : List ℕ) (e : E) (h : List E)
      → over names f own (e ∷ h) ≡ sum_by (share e) own + over names f own h
  over-cons [] e h = refl
  over-cons (n ∷ own) e h =
      omega (
        arith,
        over-cons own e h,
        part-cons n e h (names n e) refl,
        sum_by-cons (λ m. sum_by f (part names m (e ∷ h))) n own,
        sum_by-cons (share e) n own,
        sum_by-cons (λ m. sum_by f (part names m h)) n own,
      )

  abbrev for_one : ℕ → ℕ → ℕ → ℕ
  for_one x c n = if c == n then x else 0

  none-named : (x c : ℕ) (own : List ℕ) → (Has c own → ⊥) → sum_by (for_one x c) own ≡ 0
  none-named x c [] none = refl
  none-named x c (n ∷ own) none =
      let here : for_one x c n ≡ 0 = ap (λ b. if b then x else 0) (ne_eqb c n (λ same. none (inl same))) in
      omega (arith, here, none-named x c own (λ has. none (inr has)), sum_by-cons (for_one x c) n own)

  one-named : (x c : ℕ) (own : List ℕ) → IsDistinct own → Has c own → sum_by (for_one x c) own ≡ x
  one-named x c [] distinct has = absurd has
  one-named x c (n ∷ own) distinct (inl same) =
      let here : for_one x c n ≡ x = ap (λ b. if b then x else 0) (eq-eqb c n same) in
      let none = none-named x c own (λ has. distinct.0 (subst (λ m. Has m own) same has)) in
      omega (arith, here, none, sum_by-cons (for_one x c) n own)
  one-named x c (n ∷ own) distinct (inr later) =
      let other : c ≢ n = λ same. distinct.0 (subst (λ m. Has m own) same later) in
      let here : for_one x c n ≡ 0 = ap (λ b. if b then x else 0) (ne_eqb c n other) in
      omega (arith, here, one-named x c own distinct.1 later, sum_by-cons (for_one x c) n own)

  nothing-shared : (own : List ℕ) (e : E) → f e ≡ 0 → sum_by (share e) own ≡ 0
  nothing-shared [] e none = refl
  nothing-shared (n ∷ own) e none =
      let here : share e n ≡ 0 = go (names n e) in
      omega (arith, here, nothing-shared own e none, sum_by-cons (share e) n own)
    where
      go : (b : Bool) → (if b then f e else 0) ≡ 0
      go true = none
      go false = refl

  shared-out : (own : List ℕ) (e : E) (c : ℕ) → ((n : ℕ) → names n e ≡ (c == n))
      → sum_by (share e) own ≡ sum_by (for_one (f e) c) own
  shared-out own e c named = ap (λ (g : ℕ → ℕ). sum_by g own) (λ i n. if named n i then f e else 0)

  -- whom an entry names has a part that isn't empty
  has-part : (c : ℕ) (e : E) (h : List E) → names c e ≡ true → part names c (e ∷ h) ≡ [] → ⊥
  has-part c e h named none =
      let full : part names c (e ∷ h) ≡ e ∷ part names c h = rw named refl in
      let clash : e ∷ part names c h ≡ [] = sym full ∙ none in absurd (cc)

  part-tail : (n : ℕ) (e : E) (h : List E) (b : Bool) → names n e ≡ b → part names n (e ∷ h) ≡ []
      → part names n h ≡ []
  part-tail n e h true named none = absurd (has-part n e h named none)
  part-tail n e h false named none = let same : part names n (e ∷ h) ≡ part names n h = rw named refl in sym same ∙ none

  -- where nobody else is named, theirs is all
  pub over-whole : NamesOne names f → (own : List ℕ) → IsDistinct own → (h : List E)
      → ((n : ℕ) → (part names n h ≡ []) ⊎ Has n own) → over names f own h ≡ sum_by f h
  over-whole one own distinct [] whole = empty own
    where
      empty : (ns : List ℕ) → over names f ns [] ≡ 0
      empty [] = refl
      empty (n ∷ ns) = omega (arith, empty ns, sum_by-cons (λ m. sum_by f (part names m [])) n ns)
  over-whole one own distinct (e ∷ h) whole =
      let rest : over names f own h ≡ sum_by f h
      = over-whole one own distinct h (λ n. tail n (whole n)) in
      let here : sum_by (share e) own ≡ f e = head (one e) in
      omega (arith, over-cons own e h, rest, here, sum_by-cons f e h)
    where
      tail : (n : ℕ) → (part names n (e ∷ h) ≡ []) ⊎ Has n own → (part names n h ≡ []) ⊎ Has n own
      tail n (inl none) = inl (part-tail n e h (names n e) refl none)
      tail n (inr has) = inr has

      owner : (c : ℕ) → names c e ≡ true → (part names c (e ∷ h) ≡ []) ⊎ Has c own → Has c own
      owner c named (inl none) = absurd (has-part c e h named none)
      owner c named (inr has) = has

      head : (f e ≡ 0) ⊎ ((c : ℕ) × ((n : ℕ) → names n e ≡ (c == n))) → sum_by (share e) own ≡ f e
      head (inl none) = nothing-shared own e none ∙ sym none
      head (inr (c, named)) =
          shared-out own e c named
          ∙ one-named (f e) c own distinct (owner c (named c ∙ eq-eqb c c refl) (whole c))

module _ {E : Type 0} (names : ℕ → E → Bool) where
  -- a caller that no entry names has nothing of it
  pub over-none : (f : E → ℕ) (n : ℕ) (h : List E) → part names n h ≡ [] → over names f (n ∷ []) h ≡ 0
  over-none f n h none = over-parts names f (n ∷ []) [] h (λ m has. own m has)
    where
      own : (m : ℕ) → Has m (n ∷ []) → part names m h ≡ part names m []
      own m (inl same) = subst (λ k. part names k h ≡ []) (sym same) none
      own m (inr has) = absurd has
