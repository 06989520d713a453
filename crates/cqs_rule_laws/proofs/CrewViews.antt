-- The numbers of the views, where one is changed, cut in two or joined, and what the rule says of the others.
use Rattle.std.proofs.Common.{◌≡◌, ◌≢◌, ◌⊎◌, ℕ, ◌+◌, ◌<◌, ◌≤◌, true, List, [], ◌∷◌, ◌++◌, length, set, sym, refl, ap, ◌∙◌, subst, ⊎_elim, inl, inr, arith}
use mathlib.Core.Option.{some}
use mathlib.Core.Logic.{dite}
use native.Mathlib.Decide.{ℕ_discrete}
use lib.ListN.{get_elem?}
use Rattle.atomic_table.proofs.Lists.{at_set, set_else}
use Rattle.cqs_rule_laws.specs.declared.view.View.{View}
use Rattle.cqs_rule_laws.specs.declared.view.Facts.{Facts}
use Rattle.cqs_rule_laws.specs.Hidden.{Hidden}
use Rattle.cqs_rule_laws.specs.Lists.{Has}
use Rattle.cqs_rule_laws.specs.Views.{WasCrew, all_own, Apart, spent}
use Rattle.cqs_rule_laws.specs.Ruled.{IsKept, Knows, Stands}
use Rattle.cqs_rule_laws.specs.Object.{Object}
use Rattle.cqs_rule_laws.specs.declared.view.Opening.{Opening}
use Rattle.cqs_rule_laws.proofs.Lists.{set_there, one_there, has_append, has_left, has_right, at_end}
use Rattle.cqs_rule_laws.proofs.Advance.{rests-on, second-on}

module _ {E S : Type 0} where
  -- a view is changed: its numbers are some that it had, or some that nobody had
  pub apart-set : (views : List (View E S)) (id : ℕ) (v w : View E S) → Apart views → get_elem? views id ≡ some v
      → ((n : ℕ) → Has n (all_own w)
      → Has n (all_own v) ⊎ ((j : ℕ) (u : View E S) → j ≢ id → get_elem? views j ≡ some u → Has n (all_own u) → ⊥))
      → Apart (set views id w)
  apart-set views id v w old here new a b y z n e f g h =
      ⊎_elim
      (λ (s : (a ≡ id) × (w ≡ y)). ⊎_elim
      (λ (t : (b ≡ id) × (w ≡ z)). s.0 ∙ sym t.0)
      (λ (t : (b ≢ id) × (get_elem? views b ≡ some z)).
      ⊎_elim (λ k. absurd (t.0 (old b id z v n t.1 here h k))) (λ k. absurd (k b z t.0 t.1 h))
      (new n (subst (λ (x : View E S). Has n (all_own x)) (sym s.1) g)))
      (at_set views id b w z f))
      (λ (s : (a ≢ id) × (get_elem? views a ≡ some y)). ⊎_elim
      (λ (t : (b ≡ id) × (w ≡ z)).
      ⊎_elim (λ k. absurd (s.0 (old a id y v n s.1 here g k))) (λ k. absurd (k a y s.0 s.1 g))
      (new n (subst (λ (x : View E S). Has n (all_own x)) (sym t.1) h)))
      (λ (t : (b ≢ id) × (get_elem? views b ≡ some z)). old a b y z n s.1 t.1 g h)
      (at_set views id b w z f))
      (at_set views id a w y e)

  -- a view is cut in two
  pub apart-cut : (views : List (View E S)) (id : ℕ) (v left right : View E S) → Apart views
      → get_elem? views id ≡ some v
      → ((n : ℕ) → Has n (all_own left) → Has n v.own) → ((n : ℕ) → Has n (all_own right) → Has n v.others)
      → ((n : ℕ) → Has n v.own → Has n v.others → ⊥) → Apart (set views id left ++ right ∷ [])
  apart-cut views id v left right old here is_left is_right parted a b y z n e f g h =
      ⊎_elim
      (λ s. ⊎_elim
      (λ t. apart-set views id v left old here (λ m q. inl (has_left m v.own v.others (is_left m q))) a b y z n s t g h)
      (λ (t : (b ≡ length (set views id left)) × (right ≡ z)).
      absurd (never a y s g (is_right n (subst (λ (x : View E S). Has n (all_own x)) (sym t.1) h))))
      (at_end (set views id left) right z b f))
      (λ (s : (a ≡ length (set views id left)) × (right ≡ y)). ⊎_elim
      (λ t. absurd (never b z t h (is_right n (subst (λ (x : View E S). Has n (all_own x)) (sym s.1) g))))
      (λ t. s.0 ∙ sym t.0)
      (at_end (set views id left) right z b f))
      (at_end (set views id left) right y a e)
    where
      never : (j : ℕ) (u : View E S) → get_elem? (set views id left) j ≡ some u → Has n (all_own u) → Has n v.others → ⊥
      never j u q k l = ⊎_elim
          (λ (t : (j ≡ id) × (left ≡ u)).
          parted n (is_left n (subst (λ (x : View E S). Has n (all_own x)) (sym t.1) k)) l)
          (λ (t : (j ≢ id) × (get_elem? views j ≡ some u)).
          t.0 (old j id u v n t.1 here k (has_right n v.own v.others l)))
          (at_set views id j left u q)

  -- the numbers of the view u go over to the view at id
  pub apart-joined : (views : List (View E S)) (id other : ℕ) (v u w : View E S) → Apart views
      → get_elem? views id ≡ some v
      → get_elem? views other ≡ some u → ¬ (other ≡ id) → w.own ≡ v.own → w.others ≡ u.own
      → Apart (set (set views id w) other spent)
  apart-joined views id other v u w old here there apart mine theirs a b y z n e f g h =
      let p = was a y e g in
      let q = was b z f h in
      let same : p.0 ≡ q.0 = old p.0 q.0 p.1 q.1 n p.2 q.2 p.3 q.3 in
      ⊎_elim
      (λ (s : a ≡ p.0). ⊎_elim (λ (t : b ≡ q.0). s ∙ (same ∙ sym t))
      (λ (t : (b ≡ id) × (q.0 ≡ other)). absurd (p.5 (s ∙ (same ∙ t.1)))) q.4)
      (λ (s : (a ≡ id) × (p.0 ≡ other)). ⊎_elim (λ (t : b ≡ q.0). absurd (q.5 (t ∙ (sym same ∙ s.1))))
      (λ (t : (b ≡ id) × (q.0 ≡ other)). s.0 ∙ sym t.0) q.4)
      p.4
    where
      was : (j : ℕ) (x : View E S) → get_elem? (set (set views id w) other spent) j ≡ some x → Has n (all_own x)
          → (i : ℕ) × (o : View E S) × (get_elem? views i ≡ some o) × Has n (all_own o)
          × ((j ≡ i) ⊎ ((j ≡ id) × (i ≡ other))) × (j ≢ other)
      was j x q k = ⊎_elim
          (λ (t : (j ≡ other) × (spent ≡ x)). absurd (subst (λ (o : View E S). Has n (all_own o)) (sym t.1) k))
          (λ (t : (j ≢ other) × (get_elem? (set views id w) j ≡ some x)). ⊎_elim
          (λ (c : (j ≡ id) × (w ≡ x)). ⊎_elim
          (λ l. (id, v, here, has_left n v.own v.others (subst (Has n) mine l), inl c.0, t.0))
          (λ l. (other, u, there, has_left n u.own u.others (subst (Has n) theirs l), inr (c.0, refl), t.0))
          (has_append n w.own w.others (subst (λ (o : View E S). Has n (all_own o)) (sym c.1) k)))
          (λ (c : (j ≢ id) × (get_elem? views j ≡ some x)). (j, x, c.1, k, inl refl, t.0))
          (at_set views id j w x t.1))
          (at_set (set views id w) other j spent x q)

  -- a number that was kept is kept, where the view that is changed keeps its numbers
  pub kept-set : (views : List (View E S)) (id : ℕ) (v w : View E S) (n : ℕ) → get_elem? views id ≡ some v
      → 0 < w.weight
      → (Has n (all_own v) → Has n (all_own w)) → IsKept views n → IsKept (set views id w) n
  kept-set views id v w n here live same old = dite (ℕ_discrete old.place id)
      (λ (at : old.place ≡ id).
      let is : old.view ≡ v = one_there views id old.view v
      (subst (λ j. get_elem? views j ≡ some old.view) at old.there) here in
      record {
        place = id;
        view = w;
        there = set_there views id v w here;
        live = live;
        has = same (subst (λ (x : View E S). Has n (all_own x)) is old.has);
      })
      (λ (apart : old.place ≢ id). record {
        place = old.place;
        view = old.view;
        there = set_else views id old.place w apart ∙ old.there;
        live = old.live;
        has = old.has;
      })

module _ {E S : Type 0} (object : Object E) where
  -- what the rule says of another view stays, where more were made, fewer or more are live, and its numbers stand as
  -- they did
  pub knows-on : (c d : Hidden) (log : List E) (given : List (ℕ × S)) (made live made' live' passes limit cells : ℕ)
      (opening : Opening) (u : View E S)
      → made ≤ made' → ((n : ℕ) (facts : Facts) → Has n (all_own u) → Stands c n facts → Stands d n facts)
      → WasCrew made' live' u.crew → (u.alone ≡ true → live' ≡ live) → d.queue.resumes ≡ c.queue.resumes
      → Knows object c log given made live passes limit cells opening u
      → Knows object d log given made' live' passes limit cells opening u
  knows-on c d log given made live made' live' passes limit cells opening u more stay crew alone resumes k = record {
    sees = k.sees;
    below = λ n h. let b = k.below n h in omega arith;
    light = k.light;
    parted = k.parted;
    own = k.own;
    stands = stay u.number u.facts (has_left u.number u.own u.others k.own) k.stands;
    resting = λ n h other. rests-on c d n (λ f. stay n f (has_left n u.own u.others h)) (k.resting n h other);
    second = λ two. second-on c d u (λ n f h. stay n f (has_right n u.own u.others h)) (k.second two);
    crew = crew;
    alone = λ a.
        let was = k.alone a in
        (alone a ∙ was.0, was.1, was.2, was.3, ap (λ n. n + u.drawn.own) resumes ∙ was.4);
    limit_is = k.limit_is;
    cells_are = k.cells_are;
    passes_are = k.passes_are;
    opening_is = k.opening_is;
    payload_fits = k.payload_fits;
  }
