-- Tenants are gathered, one after the other.
use Rattle.std.proofs.Common.{◌≡◌, ◌≢◌, ◌⊎◌, inl, inr, ℕ, zero, suc, ◌+◌, ◌<◌, ◌≤◌, ◌%◌, List, [], ◌∷◌, ◌++◌, length, set, slice_get, Some, None, refl, sym, ap, ◌∙◌, subst, arith, length-append, mod-lt}
use Rattle.std.proofs.lemmas.Bool.{cases_eq}
use Rattle.cqs_core.proofs.Places.{get-set_here, get-set_else}
use Rattle.cqs_limiter_workers.specs.declared.works.Told.{Told}
use Rattle.cqs_limiter_workers.specs.Gathering.{IsWith, AreAllThere, AreGathered, IsTakenFrom}
use Rattle.cqs_limiter_workers.proofs.Dealt.{push-last}

module _ {X : Type 0} where
  -- So many are gathered, and the others stand where they stood.
  pub record IsGathering (first now : List (Told X)) (all : List X) (from tenants : ℕ) : Type 0 where
    pub long : length all ≡ from
    pub many : length now ≡ length first
    pub at : (t : ℕ) (x : X) → slice_get all t ≡ Some x → IsWith first t x
    pub left : AreAllThere now from tenants
    pub same : (t : ℕ) (x : X) → from ≤ t → IsWith now t x → IsWith first t x

  pub gathering-starts : (first : List (Told X)) (all : List X) (tenants : ℕ) → all ≡ [] → AreAllThere first 0 tenants
      → IsGathering first first all 0 tenants
  gathering-starts first all tenants none there = rw none (record {
    long = refl;
    many = refl;
    at = λ t x got. absurd (cc);
    left = there;
    same = λ t x from is. is;
  })

  module _ (first now next : List (Told X)) (all : List X) (from tenants : ℕ) (x : X) (some : 0 < length first)
      (gathering : IsGathering first now all from tenants)
      (taken : IsTakenFrom now (from % length first) from x next) where
    told-one : (a b : Told X) → Some a ≡ Some b → a ≡ b
    told-one a b e = cc e

    set-long : (xs : List (Told X)) (i : ℕ) (v : Told X) → length (set xs i v) ≡ length xs
    set-long [] i v = refl
    set-long (z ∷ zs) zero v = refl
    set-long (z ∷ zs) (suc i) v = ap suc (set-long zs i v)

    next-many : length next ≡ length now
    next-many = ap length taken.hands ∙ set-long now (from % length first) taken.is

    place-is : from % length first ≡ from % length now
    place-is = ap (λ n. from % n) (sym gathering.many)

    here : IsWith now from x
    here = record {
      hand = taken.was;
      hand_is = ap (slice_get now) (sym place-is) ∙ taken.there;
      there = taken.tenant;
    }

    -- another tenant stands where it stood
    kept : (t : ℕ) (y : X) → t ≢ from → IsWith now t y → IsWith next t y
    kept t y other is = go (cases_eq (t % length now) (from % length first))
      where
        go : (t % length now ≡ from % length first) ⊎ (t % length now ≢ from % length first) → IsWith next t y
        go (inl same) =
            let hand : is.hand ≡ taken.was
            = told-one is.hand taken.was (sym is.hand_is ∙ ap (slice_get now) same ∙ taken.there) in
            record {
              hand = taken.is;
              hand_is = ap (λ n. slice_get next (t % n)) next-many ∙ ap (slice_get next) same
                  ∙ ap (λ l. slice_get l (from % length first)) taken.hands
                  ∙ get-set_here now (from % length first) taken.was taken.is taken.there;
              there = ap (λ l. slice_get l t) taken.desks
                  ∙ get-set_else taken.was.desks.items from t None (λ e. other (sym e))
                  ∙ ap (λ (h : Told X). slice_get h.desks.items t) (sym hand) ∙ is.there;
            }
        go (inr far) = record {
          hand = is.hand;
          hand_is = ap (λ n. slice_get next (t % n)) next-many
              ∙ ap (λ l. slice_get l (t % length now)) taken.hands
              ∙ get-set_else now (from % length first) (t % length now) taken.is (λ e. far (sym e))
              ∙ is.hand_is;
          there = is.there;
        }

    back : (t : ℕ) (y : X) → t ≢ from → IsWith next t y → IsWith now t y
    back t y other is = go (cases_eq (t % length now) (from % length first))
      where
        go : (t % length now ≡ from % length first) ⊎ (t % length now ≢ from % length first) → IsWith now t y
        go (inl same) =
            let hand : taken.is ≡ is.hand
            = told-one taken.is is.hand
            (sym (get-set_here now (from % length first) taken.was taken.is taken.there)
            ∙ ap (λ l. slice_get l (from % length first)) (sym taken.hands)
            ∙ ap (slice_get next) (sym same) ∙ ap (λ n. slice_get next (t % n)) (sym next-many)
            ∙ is.hand_is) in
            record {
              hand = taken.was;
              hand_is = ap (slice_get now) same ∙ taken.there;
              there = sym (get-set_else taken.was.desks.items from t None (λ e. other (sym e)))
                  ∙ ap (λ l. slice_get l t) (sym taken.desks)
                  ∙ ap (λ (h : Told X). slice_get h.desks.items t) hand ∙ is.there;
            }
        go (inr far) = record {
          hand = is.hand;
          hand_is = sym (get-set_else now (from % length first) (t % length now) taken.is (λ e. far (sym e)))
              ∙ ap (λ l. slice_get l (t % length now)) (sym taken.hands)
              ∙ ap (λ n. slice_get next (t % n)) (sym next-many) ∙ is.hand_is;
          there = is.there;
        }

    pub gathering-next : IsGathering first next (all ++ x ∷ []) (from + 1) tenants
    gathering-next = record {
      long = length-append all (x ∷ []) ∙ ap (λ n. n + 1) gathering.long;
      many = next-many ∙ gathering.many;
      at = λ t y got. which t y (push-last all x t y got);
      left = λ t later low.
          let is = gathering.left t (omega (arith, later)) low in
          (is.0, kept t is.0 (λ e. omega (arith, e, later)) is.1);
      same = λ t y later is.
          gathering.same t y (omega (arith, later)) (back t y (λ e. omega (arith, e, later)) is);
    }
      where
        which : (t : ℕ) (y : X) → (slice_get all t ≡ Some y) ⊎ ((t ≡ length all) × (y ≡ x)) → IsWith first t y
        which t y (inl was) = gathering.at t y was
        which t y (inr last) =
            let place : from ≡ t = sym gathering.long ∙ sym last.0 in
            subst (λ z. IsWith first t z) (sym last.1)
            (subst (λ n. IsWith first n x) place (gathering.same from x (omega arith) here))

  -- the worker and the tenant are there
  module _ (first now : List (Told X)) (all : List X) (from tenants : ℕ) (some : 0 < length first)
      (gathering : IsGathering first now all from tenants) where
    pub worker-there : from % length first < length now
    worker-there =
        let low = mod-lt from some in
        let many = gathering.many in
        omega (arith, low, many)

    pub tenant-there : from < tenants → (told : Told X) → slice_get now (from % length first) ≡ Some told
        → (x : X) × (slice_get told.desks.items from ≡ Some (Some x))
    tenant-there low told got =
        let is = gathering.left from (omega arith) low in
        let hand : is.1.hand ≡ told = one is.1.hand told
        (sym is.1.hand_is ∙ ap (λ n. slice_get now (from % n)) gathering.many ∙ got) in
        (is.0, ap (λ (h : Told X). slice_get h.desks.items from) (sym hand) ∙ is.1.there)
      where
        one : (a b : Told X) → Some a ≡ Some b → a ≡ b
        one a b e = cc e

  pub gathered : (first now : List (Told X)) (all : List X) (from tenants : ℕ) → from ≡ tenants
      → IsGathering first now all from tenants → AreGathered first tenants all
  gathered first now all from tenants whole gathering = record {
    long = gathering.long ∙ whole;
    at = gathering.at;
  }
