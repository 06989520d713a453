-- The value slots, where a view is set, cut off or joined, and where other passes step.
use Rattle.std.proofs.Common.{◌≡◌, ◌≢◌, ◌⊎◌, ℕ, ◌<◌, List, [], ◌∷◌, ◌++◌, length, set, replicate, map, sym, refl, ap, ◌∙◌, subst, ⊎_elim, inl, inr, arith, eq-eqb, ne_eqb, Option, Some, None, if◌then◌else◌, zero, suc}
use mathlib.Core.Option.{some, some-ne-none, some-injective}
use mathlib.Core.Option as maybe
use mathlib.Core.Logic.{dite}
use native.Mathlib.Decide.{ℕ_discrete}
use lib.ListN.{get_elem?}
use Rattle.atomic_table.proofs.Lists.{set_else, at_longer}
use Rattle.cqs_rule_laws.specs.declared.view.Has.{Has}
use Rattle.cqs_rule_laws.specs.declared.view.Facts.{Facts}
use Rattle.cqs_rule_laws.specs.declared.view.View.{View}
use Rattle.cqs_rule_laws.specs.Slots.{laid_in, MayOpen, Shelf}
use Rattle.cqs_rule_laws.proofs.Lists.{set_there, one_there, set_all, at_end}

module _ {S : Type 0} where
  -- what was laid, in two lists one after the other
  pub laid-append : (a b : List (ℕ × Option S)) (k : ℕ) (x : Option S) → laid_in (a ++ b) k ≡ Some x
      → (laid_in a k ≡ Some x) ⊎ (laid_in b k ≡ Some x)
  laid-append [] b k x e = inr e
  laid-append (y ∷ ys) b k x e = dite (ℕ_discrete y.0 k)
      (λ (q : y.0 ≡ k).
      let is = eq-eqb y.0 k q in
      inl (ap (λ c. if c then Some y.1 else laid_in ys k) is
      ∙ (sym (ap (λ c. if c then Some y.1 else laid_in (ys ++ b) k) is) ∙ e)))
      (λ (a : y.0 ≢ k).
      let is = ne_eqb y.0 k a in
      ⊎_elim (λ h. inl (ap (λ c. if c then Some y.1 else laid_in ys k) is ∙ h)) inr
      (laid-append ys b k x (sym (ap (λ c. if c then Some y.1 else laid_in (ys ++ b) k) is) ∙ e)))

  pub none-append : (a b : List (ℕ × Option S)) (k : ℕ) → laid_in (a ++ b) k ≡ None
      → (laid_in a k ≡ None) × (laid_in b k ≡ None)
  none-append [] b k e = (refl, e)
  none-append (y ∷ ys) b k e = dite (ℕ_discrete y.0 k)
      (λ (q : y.0 ≡ k). absurd (some-none (sym (ap (λ c. if c then Some y.1 else laid_in (ys ++ b) k)
      (eq-eqb y.0 k q)) ∙ e)))
      (λ (a : y.0 ≢ k).
      let is = ne_eqb y.0 k a in
      let t = none-append ys b k (sym (ap (λ c. if c then Some y.1 else laid_in (ys ++ b) k) is) ∙ e) in
      (ap (λ c. if c then Some y.1 else laid_in ys k) is ∙ t.0, t.1))
    where
      some-none : {x : Option S} → Some x ≡ None → ⊥
      some-none q = cc

-- a slot is open that none is
pub never-open : {E S : Type 0} (v : View E S) (k : ℕ) → v.facts.open_slot ≡ None → v.facts.open_slot ≡ Some k → ⊥
never-open v k shut out = none-some (sym shut ∙ out)
  where
    none-some : None ≡ Some k → ⊥
    none-some e = cc

module _ {E S : Type 0} (opens : Has → ℕ → Type 0) where
  -- a fact of each live view goes back to the views before one was set
  pub back : (views : List (View E S)) (id : ℕ) (v w : View E S) (Q : View E S → Type 0) → get_elem? views id ≡ some v
      → 0 < w.weight → (Q w → Q v)
      → ((j : ℕ) (u : View E S) → get_elem? (set views id w) j ≡ some u → 0 < u.weight → Q u)
      → (j : ℕ) (u : View E S) → get_elem? views j ≡ some u → 0 < u.weight → Q u
  back views id v w Q here live to all j u at alive = dite (ℕ_discrete j id)
      (λ (same : j ≡ id).
      let is : u ≡ v = one_there views id u v (subst (λ i. get_elem? views i ≡ some u) same at) here in
      subst Q (sym is) (to (all id w (set_there views id v w here) live)))
      (λ (apart : j ≢ id). all j u (set_else views id j w apart ∙ at) alive)

  -- At these facts the view keeps the slots that it has laid something into or has out.
  pub record Keeps (v : View E S) (facts : Facts) : Type 0 where
    pub open_slot : facts.open_slot ≡ v.facts.open_slot
    pub laid : (k : ℕ) (x : Option S) → laid_in v.laid k ≡ Some x → opens v.facts.has k → opens facts.has k
    pub out : (k : ℕ) → v.facts.open_slot ≡ Some k → opens v.facts.has k → opens facts.has k

  pub keeps-all : (v : View E S) (facts : Facts) → facts.open_slot ≡ v.facts.open_slot
      → ((k : ℕ) → opens v.facts.has k → opens facts.has k) → Keeps v facts
  keeps-all v facts same all = record { open_slot = same; laid = λ k x is. all k; out = λ k is. all k }

  pub keeps-same : (v : View E S) → Keeps v v.facts
  keeps-same v = keeps-all v v.facts refl (λ k o. o)

  -- A view is set that keeps what was laid, and its slots.
  pub record IsLike (v w : View E S) : Type 0 where
    pub live : 0 < w.weight
    pub laid : w.laid ≡ v.laid
    pub keeps : Keeps v w.facts

  pub shelf-set : (handed : List (ℕ × S)) (live : ℕ) (homes : List (maybe.Option (Option S))) (views : List (View E S))
      (id : ℕ) (v w : View E S) → get_elem? views id ≡ some v → 0 < v.weight → IsLike v w
      → Shelf opens handed live homes views → Shelf opens handed live homes (set views id w)
  shelf-set handed live homes views id v w here alive like s = record {
    lies = s.lies;
    home = λ k low none. s.home k low
        (back views id v w (λ u. u.facts.open_slot ≡ Some k → ⊥) here like.live
        (λ shut out. shut (like.keeps.open_slot ∙ out)) none);
    opened = set_all (λ j u. 0 < u.weight → (k : ℕ) → u.facts.open_slot ≡ Some k → MayOpen opens live u k) views id w
        (λ _ k out. let was = sym like.keeps.open_slot ∙ out in
        ⊎_elim (λ o. inl (like.keeps.out k was o)) inr (s.opened id v here alive k was))
        (λ j u apart at on. s.opened j u at on);
    laid = set_all (λ j u. 0 < u.weight → (k : ℕ) (x : Option S) → laid_in u.laid k ≡ Some x
        → (s.lies k ≡ x) × opens u.facts.has k × (k < length homes)) views id w
        (λ _ k x is. let was = ap (λ l. laid_in l k) (sym like.laid) ∙ is in
        let t = s.laid id v here alive k x was in (t.0, like.keeps.laid k x was t.1, t.2))
        (λ j u apart at on. s.laid j u at on);
    last = λ k none. s.last k
        (back views id v w (λ u. laid_in u.laid k ≡ None) here like.live
        (λ bare. ap (λ l. laid_in l k) (sym like.laid) ∙ bare) none);
  }

  -- the number of live passes changes, where no view has a slot open by being the only one
  pub shelf-live : (handed : List (ℕ × S)) (live live' : ℕ) (homes : List (maybe.Option (Option S)))
      (views : List (View E S))
      → ((j : ℕ) (v : View E S) → get_elem? views j ≡ some v → 0 < v.weight → (k : ℕ) → v.facts.open_slot ≡ Some k
      → live ≡ 1 → ⊥)
      → Shelf opens handed live homes views → Shelf opens handed live' homes views
  shelf-live handed live live' homes views never s = record {
    lies = s.lies;
    home = s.home;
    opened = λ j v at on k out. ⊎_elim inl (λ one. absurd (never j v at on k out one)) (s.opened j v at on k out);
    laid = s.laid;
    last = s.last;
  }

  -- a view is added that has nothing laid and no slot open
  pub shelf-end : (handed : List (ℕ × S)) (live : ℕ) (homes : List (maybe.Option (Option S))) (views : List (View E S))
      (u : View E S) → u.laid ≡ [] → u.facts.open_slot ≡ None
      → Shelf opens handed live homes views → Shelf opens handed live homes (views ++ u ∷ [])
  shelf-end handed live homes views u bare shut s = record {
    lies = s.lies;
    home = λ k low none. s.home k low (λ j v at on. none j v (at_longer views (u ∷ []) j v at) on);
    opened = λ j v at on k out. ⊎_elim
        (λ old. s.opened j v old on k out)
        (λ (new : (j ≡ length views) × (u ≡ v)).
        absurd (none-some k (sym shut ∙ (ap (λ (y : View E S). y.facts.open_slot) new.1 ∙ out))))
        (at_end views u v j at);
    laid = λ j v at on k x is. ⊎_elim
        (λ old. s.laid j v old on k x is)
        (λ (new : (j ≡ length views) × (u ≡ v)).
        absurd (never k x (ap (λ l. laid_in l k) (sym bare) ∙ (ap (λ (y : View E S). laid_in y.laid k) new.1 ∙ is))))
        (at_end views u v j at);
    last = λ k none. s.last k (λ j v at on. none j v (at_longer views (u ∷ []) j v at) on);
  }
    where
      never : (k : ℕ) (x : Option S) → laid_in [] k ≡ Some x → ⊥
      never k x e = cc

      none-some : (k : ℕ) → None ≡ Some k → ⊥
      none-some k e = cc

  -- a view takes in another, which is spent; neither has a slot open
  pub shelf-joined : (handed : List (ℕ × S)) (live : ℕ) (homes : List (maybe.Option (Option S)))
      (views : List (View E S))
      (id other : ℕ) (v u w gone : View E S) → get_elem? views id ≡ some v → get_elem? views other ≡ some u
      → ¬ (other ≡ id) → 0 < v.weight → 0 < u.weight → 0 < w.weight → gone.weight ≡ 0
      → w.laid ≡ v.laid ++ u.laid → w.facts.open_slot ≡ None → u.facts.open_slot ≡ None → v.facts.open_slot ≡ None
      → ((k : ℕ) → opens v.facts.has k ⊎ opens u.facts.has k → opens w.facts.has k)
      → Shelf opens handed live homes views → Shelf opens handed live homes (set (set views id w) other gone)
  shelf-joined handed live homes views id other v u w gone here there apart alive alive' on spent both shut bare open_v
      gets s = record {
        lies = s.lies;
        home = λ k low none. s.home k low
            (was (λ y. y.facts.open_slot ≡ Some k → ⊥) (λ _. (
              λ o. absurd (none-some k (sym open_v ∙ o)),
              λ o. absurd (none-some k (sym bare ∙ o)),
            )) none);
        opened = set_all (λ j y. 0 < y.weight → (k : ℕ) → y.facts.open_slot ≡ Some k → MayOpen opens live y k)
            (set views id w) other gone (λ live. absurd (omega arith))
            (λ j y a at. set_all (λ j y. 0 < y.weight → (k : ℕ) → y.facts.open_slot ≡ Some k → MayOpen opens live y k)
            views id w (λ _ k o. absurd (none-some k (sym shut ∙ o))) (λ i z b e live. s.opened i z e live) j y at);
        laid = set_all (λ j y. 0 < y.weight → (k : ℕ) (x : Option S) → laid_in y.laid k ≡ Some x
            → (s.lies k ≡ x) × opens y.facts.has k × (k < length homes)) (set views id w) other gone
            (λ live. absurd (omega arith))
            (λ j y a at. set_all (λ j y. 0 < y.weight → (k : ℕ) (x : Option S) → laid_in y.laid k ≡ Some x
            → (s.lies k ≡ x) × opens y.facts.has k × (k < length homes)) views id w
            (λ _ k x is. ⊎_elim
            (λ h. let t = s.laid id v here alive k x h in (t.0, gets k (inl t.1), t.2))
            (λ h. let t = s.laid other u there alive' k x h in (t.0, gets k (inr t.1), t.2))
            (laid-append v.laid u.laid k x (ap (λ l. laid_in l k) (sym both) ∙ is)))
            (λ i z b e live. s.laid i z e live) j y at);
        last = λ k none. s.last k
            (was (λ y. laid_in y.laid k ≡ None)
            (λ e. let t = none-append v.laid u.laid k (ap (λ l. laid_in l k) (sym both) ∙ e) in (t.0, t.1)) none);
      }
    where
      none-some : (k : ℕ) → None ≡ Some k → ⊥
      none-some k e = cc

      was : (Q : View E S → Type 0) → (Q w → Q v × Q u)
          → ((j : ℕ) (y : View E S) → get_elem? (set (set views id w) other gone) j ≡ some y → 0 < y.weight → Q y)
          → (j : ℕ) (y : View E S) → get_elem? views j ≡ some y → 0 < y.weight → Q y
      was Q to all j y at live =
          let stays : get_elem? (set (set views id w) other gone) id ≡ some w =
          set_else (set views id w) other id gone (λ e. apart (sym e)) ∙ set_there views id v w here in
          let mine = to (all id w stays on) in
          dite (ℕ_discrete j id)
          (λ (same : j ≡ id).
          subst Q (sym (one_there views id y v (subst (λ i. get_elem? views i ≡ some y) same at) here)) mine.0)
          (λ (a : j ≢ id). dite (ℕ_discrete j other)
          (λ (same : j ≡ other).
          subst Q (sym (one_there views other y u (subst (λ i. get_elem? views i ≡ some y) same at) there)) mine.1)
          (λ (b : j ≢ other).
          all j y (set_else (set views id w) other j gone b ∙ (set_else views id j w a ∙ at)) live))

  -- the slots as they out: all at home, and empty
  pub shelf-opens : (live count : ℕ) (first : View E S) → first.laid ≡ [] → first.facts.open_slot ≡ None
      → Shelf opens [] live (map some (replicate count None)) (first ∷ [])
  shelf-opens live count first bare shut = record {
    lies = λ k. None;
    home = λ k low none. empty count k low;
    opened = λ j v at on k out. absurd (none-some k (sym shut ∙ (ap (λ (y : View E S). y.facts.open_slot)
        (only j v at) ∙ out)));
    laid = λ j v at on k x is. absurd (never k x (ap (λ l. laid_in l k) (sym bare)
        ∙ (ap (λ (y : View E S). laid_in y.laid k) (only j v at) ∙ is)));
    last = λ k none. refl;
  }
    where
      only : (j : ℕ) (v : View E S) → get_elem? (first ∷ []) j ≡ some v → first ≡ v
      only zero v e = some-injective first v e
      only (suc j) v e = absurd (some-ne-none v (sym e))

      row : ℕ → List (Option S)
      row n = replicate n None

      empty : (n k : ℕ) → k < length (map some (row n)) → get_elem? (map some (row n)) k ≡ some (some None)
      empty zero k low = absurd (omega arith)
      empty (suc n) zero low = refl
      empty (suc n) (suc k) low = empty n k (omega arith)

      never : (k : ℕ) (x : Option S) → laid_in [] k ≡ Some x → ⊥
      never k x e = cc

      none-some : (k : ℕ) → None ≡ Some k → ⊥
      none-some k e = cc
