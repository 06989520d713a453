-- The values that were handed in, and the entries that give slots away: what more of either makes of the counts.
use Rattle.std.proofs.Common.{◌≡◌, ◌≢◌, ◌⊎◌, ℕ, zero, suc, ◌+◌, ◌-◌, ◌<◌, ◌≤◌, ◌==◌, List, [], ◌∷◌, ◌++◌, length, sym, refl, ap, ◌∙◌, subst, ⊎_elim, inl, inr, arith, Option, Some, None, slice_get, if◌then◌else◌}
use Rattle.std.proofs.lemmas.List.{length-append, length-set}
use mathlib.Core.Option.{some, none}
use mathlib.Core.Option as maybe
use mathlib.Core.Logic.{dite}
use native.Mathlib.Decide.{ℕ_discrete}
use Rattle.atomic_table.specs.Table.{Act, keeps, takes, gives, chain, homes_after, carried_after}
use Rattle.cqs_rule_laws.specs.declared.view.Has.{Has}
use Rattle.cqs_rule_laws.specs.declared.view.View.{View}
use Rattle.cqs_rule_laws.specs.Given.{values_for, times_given, IsLastGiven, AreTied, IsAware}
use Rattle.cqs_rule_laws.specs.Lists.{IsPrefix}
use Rattle.cqs_rule_laws.specs.Slots.{handed_in, or_else}
use Rattle.cqs_rule_laws.specs.Views.{has_both, has_none, joined, single, cut_off}
use Rattle.cqs_rule_laws.proofs.Lists.{chosen, passed-by}

-- what stands in the front of a list stands there in the whole of it
pub front-get : {A : Type 0} (a b : List A) (n : ℕ) (x : A) → slice_get a n ≡ Some x → slice_get (a ++ b) n ≡ Some x
front-get [] b n x e = absurd (none-some e)
  where
    none-some : None ≡ Some x → ⊥
    none-some q = cc
front-get (y ∷ ys) b zero x e = e
front-get (y ∷ ys) b (suc n) x e = front-get ys b n x e

-- a step leaves as many homes as there were
pub same-homes : {A : Type 0} (homes : List (maybe.Option A)) (cs : List (ℕ × A)) (act : Act A)
    → length (homes_after homes cs act) ≡ length homes
same-homes homes cs keeps = refl
same-homes homes cs (takes k a) = length-set homes k none
same-homes homes [] gives = refl
same-homes homes (c ∷ cs) gives = length-set homes c.0 (some c.1)
same-homes homes cs (chain a b) =
    same-homes (homes_after homes cs a) (carried_after cs a) b ∙ same-homes homes cs a

-- one, for this slot alone
abbrev pub once : ℕ → ℕ → ℕ
once k j = if k == j then 1 else 0

pub once-owned : (k j : ℕ) (Owns : ℕ → Type 0) → Owns k → 0 < once k j → Owns j
once-owned k j Owns owns any = dite (ℕ_discrete k j)
    (λ (same : k ≡ j). subst Owns same owns)
    (λ (apart : k ≢ j). let shut : once k j ≡ 0 = passed-by k j 1 0 apart in absurd (omega arith))

module _ {S : Type 0} (k : ℕ) where
  pub values-append : (a b : List (ℕ × S)) → values_for k (a ++ b) ≡ values_for k a ++ values_for k b
  values-append [] b = refl
  values-append (x ∷ xs) b = dite (ℕ_discrete x.0 k)
      (λ (same : x.0 ≡ k).
      chosen x.0 k (x.1 ∷ values_for k (xs ++ b)) (values_for k (xs ++ b)) same
      ∙ (ap (λ l. x.1 ∷ l) (values-append xs b)
      ∙ ap (λ l. l ++ values_for k b) (sym (chosen x.0 k (x.1 ∷ values_for k xs) (values_for k xs) same))))
      (λ (apart : x.0 ≢ k).
      passed-by x.0 k (x.1 ∷ values_for k (xs ++ b)) (values_for k (xs ++ b)) apart
      ∙ (values-append xs b
      ∙ ap (λ l. l ++ values_for k b) (sym (passed-by x.0 k (x.1 ∷ values_for k xs) (values_for k xs) apart))))

  -- one more for this slot, and one for another
  pub one-more : (l : List (ℕ × S)) (y : S) → length (values_for k (l ++ (k, y) ∷ [])) ≡ length (values_for k l) + 1
  one-more l y = ap length (values-append l ((k, y) ∷ []))
      ∙ (length-append (values_for k l) (values_for k ((k, y) ∷ []))
      ∙ ap (λ z. length (values_for k l) + length z) (chosen k k (y ∷ []) [] refl))

  pub none-more : (l : List (ℕ × S)) (j : ℕ) (y : S) → j ≢ k
      → length (values_for k (l ++ (j, y) ∷ [])) ≡ length (values_for k l)
  none-more l j y apart = ap length (values-append l ((j, y) ∷ []))
      ∙ (length-append (values_for k l) (values_for k ((j, y) ∷ []))
      ∙ (ap (λ z. length (values_for k l) + length z) (passed-by j k (y ∷ []) [] apart) ∙ omega arith))

  some-none : {y : S} → Some y ≡ None → ⊥
  some-none e = cc

  -- no value was handed in
  pub none-handed : (l : List (ℕ × S)) → handed_in l k ≡ None → values_for k l ≡ []
  none-handed [] e = refl
  none-handed (x ∷ xs) e = dite (ℕ_discrete x.0 k)
      (λ (same : x.0 ≡ k). absurd (here (handed_in xs k)
      (ap (or_else (handed_in xs k)) (sym (chosen x.0 k (Some x.1) None same)) ∙ e)))
      (λ (apart : x.0 ≢ k).
      passed-by x.0 k (x.1 ∷ values_for k xs) (values_for k xs) apart
      ∙ none-handed xs (front (handed_in xs k) (if x.0 == k then Some x.1 else None) e))
    where
      here : (o : Option S) → or_else o (Some x.1) ≡ None → ⊥
      here None q = some-none q
      here (Some y) q = some-none q

      front : (o other : Option S) → or_else o other ≡ None → o ≡ None
      front None other q = refl
      front (Some y) other q = absurd (some-none q)

  -- what was handed in last is the last of the values
  pub last-handed : (l : List (ℕ × S)) (y : S) → handed_in l k ≡ Some y
      → (0 < length (values_for k l)) × (slice_get (values_for k l) (length (values_for k l) - 1) ≡ Some y)
  last-handed [] y e = absurd (some-none (sym e))
  last-handed (x ∷ xs) y e = of (handed_in xs k) refl (last-handed xs y)
    where
      Is : List S → Type 0
      Is vs = (0 < length vs) × (slice_get vs (length vs - 1) ≡ Some y)

      longer : (vs : List S) → Is vs → Is (x.1 ∷ vs)
      longer vs h = (
        omega arith,
        subst (λ n. slice_get (x.1 ∷ vs) n ≡ Some y)
            (let some = h.0 in let e : suc (length vs - 1) ≡ length (x.1 ∷ vs) - 1 = omega arith in e) h.1,
      )

      of : (o : Option S) → handed_in xs k ≡ o → (handed_in xs k ≡ Some y → Is (values_for k xs))
          → Is (values_for k (x ∷ xs))
      of (Some z) q rest =
          let found : handed_in xs k ≡ Some y =
          q ∙ (ap (λ o. or_else o (if x.0 == k then Some x.1 else None)) (sym q) ∙ e) in
          let old = rest found in dite (ℕ_discrete x.0 k)
          (λ (same : x.0 ≡ k).
          subst Is (sym (chosen x.0 k (x.1 ∷ values_for k xs) (values_for k xs) same)) (longer (values_for k xs) old))
          (λ (apart : x.0 ≢ k).
          subst Is (sym (passed-by x.0 k (x.1 ∷ values_for k xs) (values_for k xs) apart)) old)
      of None q rest =
          let here : (if x.0 == k then Some x.1 else None) ≡ Some y =
          ap (λ o. or_else o (if x.0 == k then Some x.1 else None)) (sym q) ∙ e in dite (ℕ_discrete x.0 k)
          (λ (same : x.0 ≡ k).
          subst Is (sym (chosen x.0 k (x.1 ∷ values_for k xs) (values_for k xs) same
          ∙ ap (λ l. x.1 ∷ l) (none-handed xs q)))
          (omega arith, sym (chosen x.0 k (Some x.1) None same) ∙ here))
          (λ (apart : x.0 ≢ k). absurd (some-none (sym (sym (passed-by x.0 k (Some x.1) None apart) ∙ here))))

  -- more values don't change those before
  pub values-stay : (a b : List (ℕ × S)) (n : ℕ) (y : S) → IsPrefix a b → slice_get (values_for k a) n ≡ Some y
      → slice_get (values_for k b) n ≡ Some y
  values-stay a b n y more e = ap (λ l. slice_get (values_for k l) n) more.1
      ∙ (ap (λ l. slice_get l n) (values-append a more.0)
      ∙ front-get (values_for k a) (values_for k more.0) n y e)

module _ {E : Type 0} (gives : E → Option ℕ) where
  pub given-append : (a b : List E) (k : ℕ)
      → times_given gives (a ++ b) k ≡ times_given gives a k + times_given gives b k
  given-append [] b k = omega arith
  given-append (x ∷ xs) b k = let q = given-append xs b k in omega arith

  module _ {S : Type 0} where
    -- where values and entries are tied, what was handed in last is of the last entry
    pub last-tied : (slots : ℕ) (log : List E) (handed : List (ℕ × S)) (k : ℕ) (y : S) → k < slots
        → AreTied gives slots (λ j. 0) log handed → handed_in handed k ≡ Some y → IsLastGiven gives k y log handed
    last-tied slots log handed k y low tied e =
        let t = tied k low in
        subst (λ n. slice_get (values_for k handed) n ≡ Some y)
        (let q : length (values_for k handed) - 1 ≡ times_given gives log k = omega arith in q)
        (last-handed k handed y e).1

    -- what the view has seen of either is tied
    abbrev pub IsTiedAt : ℕ → View E S → Type 0
    IsTiedAt slots w = AreTied gives slots (λ j. 0) w.seen w.handed

    -- a value is handed in for a slot for which one was before, ahead of the entry that gives it away
    pub tied-ahead : (slots : ℕ) (log : List E) (seen handed : List (ℕ × S)) (k : ℕ) (y last : S)
        → IsPrefix seen handed → handed_in seen k ≡ Some last → AreTied gives slots (λ j. 0) log handed
        → AreTied gives slots (once k) log (handed ++ (k, y) ∷ [])
    tied-ahead slots log seen handed k y last more filled tied j low = dite (ℕ_discrete k j)
        (λ (same : k ≡ j).
        let some = (last-handed k seen last filled).0 in
        let long : length (values_for k seen) ≤ length (values_for k handed) =
        let whole = ap (λ l. length (values_for k l)) more.1
        ∙ (ap length (values-append k seen more.0) ∙ length-append (values_for k seen) (values_for k more.0)) in
        omega arith in
        let t = tied k (omega arith) in
        let m = one-more k handed y in
        let c = chosen k j 1 0 same in
        let here : length (values_for k (handed ++ (k, y) ∷ [])) - 1 ≡ times_given gives log k + 1 = omega arith in
        subst (λ i. length (values_for i (handed ++ (k, y) ∷ [])) - 1 ≡ times_given gives log i + 1) same here
        ∙ ap (λ n. times_given gives log j + n) (sym c))
        (λ (apart : k ≢ j).
        let t = tied j low in let m = none-more j handed k y apart in
        let c : once k j ≡ 0 = passed-by k j 1 0 apart in omega arith)

    -- the first value of a slot is handed in
    pub tied-first : (slots : ℕ) (log : List E) (handed : List (ℕ × S)) (k : ℕ) (y : S)
        → handed_in handed k ≡ None → AreTied gives slots (λ j. 0) log handed
        → AreTied gives slots (λ j. 0) log (handed ++ (k, y) ∷ [])
    tied-first slots log handed k y empty tied j low = dite (ℕ_discrete k j)
        (λ (same : k ≡ j).
        let none = ap length (none-handed k handed empty) in
        let m = one-more k handed y in
        let t = tied k (omega arith) in
        let here : length (values_for k (handed ++ (k, y) ∷ [])) - 1 ≡ times_given gives log k + 0 = omega arith in
        subst (λ i. length (values_for i (handed ++ (k, y) ∷ [])) - 1 ≡ times_given gives log i + 0) same here)
        (λ (apart : k ≢ j). let t = tied j low in let m = none-more j handed k y apart in omega arith)

    -- the entries come that were awaited
    pub tied-on : (slots : ℕ) (ahead : ℕ → ℕ) (log es : List E) (handed : List (ℕ × S))
        → ((k : ℕ) → k < slots → times_given gives es k ≡ ahead k) → AreTied gives slots ahead log handed
        → AreTied gives slots (λ j. 0) (log ++ es) handed
    tied-on slots ahead log es handed given tied k low =
        let t = tied k low in let g = given k low in let q = given-append log es k in omega arith

  module _ {S : Type 0} (opens : Has → ℕ → Type 0) (slots : ℕ) where
    -- a pass that may open none of the slots that these entries give away
    pub aware-on : (log es : List E) (u : View E S)
        → ((k : ℕ) → k < slots → opens u.facts.has k ⊎ ((1 < u.weight) × opens u.second.has k)
        → times_given gives es k ≡ 0)
        → IsAware gives opens slots log u → IsAware gives opens slots (log ++ es) u
    aware-on log es u shut a = record {
      mine = λ k low o.
          let more : times_given gives log k ≡ times_given gives (log ++ es) k =
          let q = given-append log es k in let z = shut k low (inl o) in omega arith in
          ⊎_elim (λ q. inl (q ∙ more)) (λ q. inr (q.0, q.1 ∙ more)) (a.mine k low o);
      second = λ two k low o.
          let more : times_given gives log k ≡ times_given gives (log ++ es) k =
          let q = given-append log es k in let z = shut k low (inr (two, o)) in omega arith in
          a.second two k low o ∙ more;
    }

    -- a pass that has seen the whole history
    pub aware-whole : (log : List E) (w : View E S) → w.weight ≡ 1 → w.seen ≡ log → IsAware gives opens slots log w
    aware-whole log w one whole = record {
      mine = λ k low o. inl (ap (λ l. times_given gives l k) whole);
      second = λ two. absurd (omega arith);
    }

    pub one-seen : (log : List E) (v : View E S) → v.weight ≡ 1 → IsAware gives opens slots log v → (k : ℕ)
        → k < slots → opens v.facts.has k → times_given gives v.seen k ≡ times_given gives log k
    one-seen log v one a k low o = ⊎_elim (λ q. q) (λ q. let two = q.0 in absurd (omega arith)) (a.mine k low o)

    -- two views become one, which may open the slots of both
    pub aware-joined : (log : List E) (v u : View E S) → v.weight ≡ 1 → u.weight ≡ 1
        → ((k : ℕ) → opens (has_both v.facts.has u.facts.has) k → opens v.facts.has k ⊎ opens u.facts.has k)
        → ((k : ℕ) → opens (has_none u.facts.has) k → ⊥)
        → IsAware gives opens slots log v → IsAware gives opens slots log u
        → IsAware gives opens slots log (joined v u)
    aware-joined log v u one one' parts bare a b = record {
      mine = λ k low o. ⊎_elim (λ p. inl (one-seen log v one a k low p))
          (λ p. inr (omega arith, one-seen log u one' b k low p)) (parts k o);
      second = λ two k low o. absurd (bare k o);
    }

    -- a view of two passes that have seen the same is cut in two
    pub aware-single : (log : List E) (v : View E S) → v.other ≡ v.seen → IsAware gives opens slots log v
        → IsAware gives opens slots log (single v)
    aware-single log v same a = record {
      mine = λ k low o. inl (⊎_elim (λ q. q) (λ q. ap (λ l. times_given gives l k) (sym same) ∙ q.1) (a.mine k low o));
      second = λ two. absurd (omega arith);
    }

    pub aware-cut : (log : List E) (v : View E S) → 1 < v.weight → IsAware gives opens slots log v
        → IsAware gives opens slots log (cut_off v)
    aware-cut log v two a = record {
      mine = λ k low o. inl (a.second two k low o);
      second = λ more. absurd (omega arith);
    }

    -- a view of one pass that has seen what this one has, and may open no more slots
    pub aware-like : (log : List E) (v w : View E S) → v.weight ≡ 1 → w.weight ≡ 1 → w.seen ≡ v.seen
        → ((k : ℕ) → opens w.facts.has k → opens v.facts.has k)
        → IsAware gives opens slots log v → IsAware gives opens slots log w
    aware-like log v w one one' seen less a = record {
      mine = λ k low o. inl (ap (λ l. times_given gives l k) seen ∙ one-seen log v one a k low (less k o));
      second = λ two. absurd (omega arith);
    }
