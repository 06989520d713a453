-- Tenants are dealt, one after the other from the last.
use Rattle.std.proofs.Common.{◌≡◌, ◌≢◌, ◌⊎◌, inl, inr, ℕ, zero, suc, ◌+◌, ◌<◌, ◌≤◌, ◌%◌, List, [], ◌∷◌, ◌++◌, length, set, replicate, slice_get, Some, None, refl, sym, ap, ◌∙◌, subst, arith, append_assoc, append-nil, length-append, mod-lt}
use Rattle.std.proofs.lemmas.Bool.{cases_eq}
use Rattle.cqs_core.proofs.Places.{get-set_here, get-set_else, get-below, get-push_at, get-append_left}
use Rattle.cqs_limiter_workers.specs.declared.works.Post.{Post}
use Rattle.cqs_limiter_workers.specs.Dealing.{IsPost, AreDealt, IsEmpty, AreEmpty, IsSeatedIn}

set-long : {Y : Type 0} (xs : List Y) (i : ℕ) (v : Y) → length (set xs i v) ≡ length xs
set-long [] i v = refl
set-long (z ∷ zs) zero v = refl
set-long (z ∷ zs) (suc i) v = ap suc (set-long zs i v)

repeat-long : {Y : Type 0} (n : ℕ) (y : Y) → length (replicate n y) ≡ n
repeat-long zero y = refl
repeat-long (suc n) y = ap suc (repeat-long n y)

repeat-get : {Y : Type 0} (n t : ℕ) (y : Y) → t < n → slice_get (replicate n y) t ≡ Some y
repeat-get zero t y low = absurd (omega (arith, low))
repeat-get (suc n) zero y low = refl
repeat-get (suc n) (suc t) y low = repeat-get n t y (omega (arith, low))

-- what stands in a list with one more stood there before, or is the last
pub push-last : {Y : Type 0} (xs : List Y) (y : Y) (i : ℕ) (x : Y) → slice_get (xs ++ y ∷ []) i ≡ Some x
    → (slice_get xs i ≡ Some x) ⊎ ((i ≡ length xs) × (x ≡ y))
push-last [] y zero x e = inr (refl, cc)
push-last [] y (suc i) x e = absurd (cc)
push-last (z ∷ zs) y zero x e = inl e
push-last (z ∷ zs) y (suc i) x e = further (push-last zs y i x e)
  where
    further : (slice_get zs i ≡ Some x) ⊎ ((i ≡ length zs) × (x ≡ y))
        → (slice_get zs i ≡ Some x) ⊎ ((suc i ≡ suc (length zs)) × (x ≡ y))
    further (inl was) = inl was
    further (inr last) = inr (ap suc last.0, last.1)

module _ {X : Type 0} where
  -- posts are made one after the other
  pub empty-none : (tenants : ℕ) (posts : List (Post X)) → posts ≡ [] → AreEmpty 0 tenants posts
  empty-none tenants posts none = rw none (record { many = refl; at = λ w post got. absurd (cc) })

  pub empty-push : (workers tenants : ℕ) (posts : List (Post X)) (post : Post X) → AreEmpty workers tenants posts
      → post.worker ≡ workers → post.desks.items ≡ replicate tenants None
      → AreEmpty (workers + 1) tenants (posts ++ post ∷ [])
  empty-push workers tenants posts post are number none = record {
    many = length-append posts (post ∷ []) ∙ ap (λ n. n + 1) are.many;
    at = λ w other got. which w other (push-last posts post w other got);
  }
    where
      which : (w : ℕ) (other : Post X) → (slice_get posts w ≡ Some other) ⊎ ((w ≡ length posts) × (other ≡ post))
          → IsEmpty tenants w other
      which w other (inl was) = are.at w other was
      which w other (inr last) = record {
        worker = ap (λ (p : Post X). p.worker) last.1 ∙ number ∙ sym are.many ∙ sym last.0;
        none = ap (λ (p : Post X). p.desks.items) last.1 ∙ none;
      }

  -- The tenants left are the first ones, and the others are dealt.
  pub record IsDealing (workers : ℕ) (tenants left : List X) (posts : List (Post X)) : Type 0 where
    pub dealt : List X
    pub whole : tenants ≡ left ++ dealt
    pub are : AreDealt workers tenants (length left) posts

  pub dealing-starts : (workers : ℕ) (tenants : List X) (posts : List (Post X))
      → AreEmpty workers (length tenants) posts → IsDealing workers tenants tenants posts
  dealing-starts workers tenants posts are = record {
    dealt = [];
    whole = sym (append-nil tenants);
    are = record {
      many = are.many;
      at = λ w post got. let is = are.at w post got in record {
        worker = is.worker;
        long = ap length is.none ∙ repeat-long (length tenants) None;
        own = λ t x from mine there. let low = get-below tenants t x there in absurd (omega (arith, low, from));
        none = λ t low other.
            ap (λ l. slice_get l t) is.none ∙ repeat-get (length tenants) t None low;
      };
    };
  }

  module _ (workers : ℕ) (tenants left : List X) (x : X) (old new : List (Post X)) (some : 0 < workers)
      (dealing : IsDealing workers tenants (left ++ x ∷ []) old)
      (seated : IsSeatedIn old (length left % workers) (length left) x new) where
    abbrev place : ℕ
    place = length left

    long-one : length (left ++ x ∷ []) ≡ place + 1
    long-one = length-append left (x ∷ [])

    here : slice_get tenants place ≡ Some x
    here = ap (λ l. slice_get l place) dealing.whole
        ∙ get-append_left (left ++ x ∷ []) dealing.dealt place x (get-push_at left x place refl)

    pub dealing-next : IsDealing workers tenants left new
    dealing-next = record {
      dealt = x ∷ dealing.dealt;
      whole = dealing.whole ∙ append_assoc left (x ∷ []) dealing.dealt;
      are = record {
        many = ap length seated.posts ∙ set-long old (place % workers) seated.is ∙ dealing.are.many;
        at = λ w post got. at w post (cases_eq w (place % workers)) (sym (ap (λ l. slice_get l w) seated.posts) ∙ got);
      };
    }
      where
        one : (a b : Post X) → Some a ≡ Some b → a ≡ b
        one a b e = cc e

        same-x : (a b : X) → Some a ≡ Some b → a ≡ b
        same-x a b e = cc e

        was : IsPost workers tenants (length (left ++ x ∷ [])) (place % workers) seated.was
        was = dealing.are.at (place % workers) seated.was seated.there

        low : place < length seated.was.desks.items
        low = let first = get-below tenants place x here in omega (arith, first, was.long)

        own-at : (t : ℕ) (y : X) → (t ≡ place) ⊎ (t ≢ place) → place ≤ t → t % workers ≡ place % workers
            → slice_get tenants t ≡ Some y
            → slice_get (set seated.was.desks.items place (Some x)) t ≡ Some (Some y)
        own-at t y (inl same) from mine there =
            let is : x ≡ y = same-x x y (sym here ∙ sym (ap (slice_get tenants) same) ∙ there) in
            ap (slice_get (set seated.was.desks.items place (Some x))) same
            ∙ get-set_here seated.was.desks.items place None (Some x)
            (was.none place (get-below tenants place x here) (inl (omega (arith, long-one))))
            ∙ ap (λ z. Some (Some z)) is
        own-at t y (inr far) from mine there =
            get-set_else seated.was.desks.items place t (Some x) (λ e. far (sym e))
            ∙ was.own t y (omega (arith, from, far, long-one)) mine there

        none-at : (t : ℕ) → t < length tenants → (t < place) ⊎ (t % workers ≢ place % workers)
            → slice_get (set seated.was.desks.items place (Some x)) t ≡ Some None
        none-at t below (inl before) =
            get-set_else seated.was.desks.items place t (Some x) (λ e. omega (arith, e, before))
            ∙ was.none t below (inl (omega (arith, before, long-one)))
        none-at t below (inr other) =
            get-set_else seated.was.desks.items place t (Some x) (λ e. other (ap (λ n. n % workers) (sym e)))
            ∙ was.none t below (inr other)

        at : (w : ℕ) (post : Post X) → (w ≡ place % workers) ⊎ (w ≢ place % workers)
            → slice_get (set old (place % workers) seated.is) w ≡ Some post → IsPost workers tenants place w post
        at w post (inl same) got =
            let is : seated.is ≡ post = one seated.is post
            (sym (get-set_here old (place % workers) seated.was seated.is seated.there)
            ∙ sym (ap (slice_get (set old (place % workers) seated.is)) same) ∙ got) in
            subst (IsPost workers tenants place w) is (record {
              worker = seated.worker_is ∙ was.worker ∙ sym same;
              long = ap length seated.desks ∙ set-long seated.was.desks.items place (Some x) ∙ was.long;
              own = λ t y from mine there. ap (λ l. slice_get l t) seated.desks
                  ∙ own-at t y (cases_eq t place) from (mine ∙ same) there;
              none = λ t below why. ap (λ l. slice_get l t) seated.desks
                  ∙ none-at t below (other-way t why);
            })
          where
            other-way : (t : ℕ) → (t < place) ⊎ (t % workers ≢ w) → (t < place) ⊎ (t % workers ≢ place % workers)
            other-way t (inl before) = inl before
            other-way t (inr other) = inr (λ e. other (e ∙ sym same))
        at w post (inr far) got =
            let is = dealing.are.at w post
            (sym (get-set_else old (place % workers) w seated.is (λ e. far (sym e))) ∙ got) in
            record {
              worker = is.worker;
              long = is.long;
              own = λ t y from mine there. is.own t y (later t from mine (cases_eq t place)) mine there;
              none = λ t below why. is.none t below (sooner t why);
            }
          where
            later : (t : ℕ) → place ≤ t → t % workers ≡ w → (t ≡ place) ⊎ (t ≢ place) → length (left ++ x ∷ []) ≤ t
            later t from mine (inl same) = absurd (far (sym mine ∙ ap (λ n. n % workers) same))
            later t from mine (inr other) = omega (arith, from, other, long-one)

            sooner : (t : ℕ) → (t < place) ⊎ (t % workers ≢ w)
                → (t < length (left ++ x ∷ [])) ⊎ (t % workers ≢ w)
            sooner t (inl before) = inl (omega (arith, before, long-one))
            sooner t (inr other) = inr other

  -- the worker and the place of the next tenant are there
  module _ (workers : ℕ) (tenants left : List X) (x : X) (old : List (Post X)) (some : 0 < workers)
      (dealing : IsDealing workers tenants (left ++ x ∷ []) old) where
    first-here : slice_get tenants (length left) ≡ Some x
    first-here = ap (λ l. slice_get l (length left)) dealing.whole
        ∙ get-append_left (left ++ x ∷ []) dealing.dealt (length left) x (get-push_at left x (length left) refl)

    pub worker-low : length left % workers < length old
    worker-low =
        let many = dealing.are.many in
        let low = mod-lt (length left) some in
        omega (arith, many, low)

    pub place-low : (post : Post X) → slice_get old (length left % workers) ≡ Some post
        → length left < length post.desks.items
    place-low post got =
        let first = get-below tenants (length left) x first-here in
        let is = dealing.are.at (length left % workers) post got in
        let long = is.long in
        omega (arith, first, long)
