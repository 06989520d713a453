-- What a pass has several of, by number: one is taken out, one comes to them; and the tokens of its waits go along
-- through its calls.
use Rattle.std.proofs.Common.{◌≡◌, ◌≢◌, ℕ, zero, suc, ◌+◌, ◌<◌, List, [], ◌∷◌, ◌++◌, All, length, slice_index_or, sym, ap, ◌∙◌, subst, refl, inl, arith}
use Rattle.std.specs.List.{remove}
use Rattle.std.proofs.lemmas.List.Elements.{All-nil, All-cons, All-head, All-tail, All-get_or, All-push, All-weaker}
use Rattle.cqs_rule_laws.specs.declared.config.Place.{Place}
use Rattle.cqs_rule.specs.declared.queue.tokens.Wait.{Wait}
use Rattle.cqs_rule_laws.specs.declared.view.View.{View}
use Rattle.cqs_rule_laws.specs.Inside.{IsInside}
use Rattle.cqs_rule_laws.specs.Lists.{Has, without}
use Rattle.cqs_rule_laws.specs.Placed.{GoesOn}
use Rattle.cqs_rule.specs.Waits.{place_of, HasWait}
use Rattle.cqs_rule_laws.proofs.Lists.{has_left, has_right, without_has}
use Rattle.cqs_rule.proofs.Places.{has-wait-on}
use Rattle.cqs_c_callers.specs.Tokens.{Apart, IsTaken, HasTokens, wait_index}
use Rattle.cqs_c_callers.proofs.Waits.{all_remove, all_both, stands_once}

module _ {X : Type 0} (index : X → ℕ) where
  -- none of them has the number
  abbrev pub Others : ℕ → List X → Type 0
  Others k xs = All (λ x. index x ≢ k) xs

  apart_without : (xs : List X) (i : ℕ) → Apart index xs → Apart index (remove xs i)
  apart_without [] zero h = tt
  apart_without [] (suc i) h = tt
  apart_without (x ∷ xs) zero h = h.1
  apart_without (x ∷ xs) (suc i) h =
      (all_remove (λ y. index y ≢ index x) xs i h.0, apart_without xs i h.1)

  others_apart : (xs : List X) (i : ℕ) (d : X) → i < length xs → Apart index xs
      → Others (index (slice_index_or xs i d)) (remove xs i)
  others_apart [] i d low h = absurd (omega arith)
  others_apart (x ∷ xs) zero d low h = h.0
  others_apart (x ∷ xs) (suc i) d low h =
      let below : i < length xs = omega arith in
      let at = slice_index_or xs i d in
      All-cons (λ y. index y ≢ index at) x (remove xs i)
      (λ q. All-get_or (λ y. index y ≢ index x) xs i d below h.0 (sym q)) (others_apart xs i d below h.1)

  -- one more, of a number that none of the others has
  pub apart_more : (xs : List X) (x : X) → Apart index xs → Others (index x) xs → Apart index (xs ++ x ∷ [])
  apart_more [] x h other = (All-nil (λ y. index y ≢ index x), tt)
  apart_more (y ∷ ys) x h other = (
    All-push (λ z. index z ≢ index y) ys x h.0
        (λ q. All-head (λ z. index z ≢ index x) y ys other (sym q)),
    apart_more ys x h.1 (All-tail (λ z. index z ≢ index x) y ys other),
  )

  module _ (number : ℕ) (xs ys : List X) (x : X) (t : IsTaken index number xs x ys) where
    -- what holds of all holds of the one that was taken out, and of those that are left
    pub taken_one : (P : X → Type 0) → All P xs → P x
    taken_one P all = subst P (sym t.is) (All-get_or P xs t.at x t.below all)

    pub taken_all : (P : X → Type 0) → All P xs → All P ys
    taken_all P all = subst (All P) (sym t.others) (all_remove P xs t.at all)

    pub taken_apart : Apart index xs → Apart index ys
    taken_apart h = subst (Apart index) (sym t.others) (apart_without xs t.at h)

    -- those have other numbers
    pub taken_others : Apart index xs → Others (index x) ys
    taken_others h =
        subst (λ l. Others (index x) l) (sym t.others)
        (subst (λ y. Others (index y) (remove xs t.at)) (sym t.is) (others_apart xs t.at x t.below h))

    -- not all of them had others before
    pub taken_none : All (λ y. index y ≢ number) xs → ⊥
    taken_none none =
        let other = All-get_or (λ y. index y ≢ number) xs t.at x t.below none in
        other (ap index (sym t.is) ∙ t.number_is)

-- a wait is its own token
abbrev pub the_wait : Wait → Wait
the_wait wait = wait

-- the number of the wait that this is the token of
abbrev pub index_of : {X : Type 0} → (X → Wait) → X → ℕ
index_of of x = wait_index (of x)

module _ {X : Type 0} (of : X → Wait) {E S : Type 0} where
  -- a pass that has all its waits still has its tokens
  pub tokens_stay : (v w : View E S) (xs : List X) → ((wait : Wait) → HasWait v wait → HasWait w wait)
      → HasTokens of v xs → HasTokens of w xs
  tokens_stay v w xs keeps h = record {
    has = All-weaker (λ x. HasWait v (of x)) (λ x. HasWait w (of x)) (λ x has. keeps (of x) has) xs h.has;
    apart = h.apart;
  }

  -- one more, of a number that none of the others has
  pub tokens_more : (v : View E S) (xs : List X) (x : X) → HasWait v (of x) → Others (index_of of) (index_of of x) xs
      → HasTokens of v xs → HasTokens of v (xs ++ x ∷ [])
  tokens_more v xs x has others h = record {
    has = All-push (λ y. HasWait v (of y)) xs x h.has has;
    apart = apart_more (index_of of) xs x h.apart others;
  }

  -- a wait that the pass has now as the last has a number that no earlier one has
  pub new_number : (v w : View E S) (k : ℕ) (xs : List X) → IsInside w → w.facts.waits ≡ v.facts.waits ++ k ∷ []
      → HasTokens of v xs → Others (index_of of) k xs
  new_number v w k xs inside more h =
      let here : Has k w.facts.waits =
      subst (Has k) (sym more) (has_right k v.facts.waits (k ∷ []) (inl refl)) in
      let once = subst (λ (l : List ℕ). length (without k l) + 1 ≡ length l) more (inside.once k here) in
      All-weaker (λ x. HasWait v (of x)) (λ x. index_of of x ≢ k)
      (λ x has q. stands_once k v.facts.waits once (subst (λ n. Has n v.facts.waits) q has.open_yet)) xs h.has

  -- where one was taken out, the pass has its wait
  pub taken_token : (v : View E S) (number : ℕ) (xs ys : List X) (x : X) → IsTaken (index_of of) number xs x ys
      → HasTokens of v xs → HasWait v (of x)
  taken_token v number xs ys x t h = taken_one (index_of of) number xs ys x t (λ y. HasWait v (of y)) h.has

  module _ (v w : View E S) (number : ℕ) (xs ys : List X) (x : X) (t : IsTaken (index_of of) number xs x ys) where
    -- a pass that has all its waits but that one
    pub tokens_others : ((wait : Wait) → wait_index wait ≢ index_of of x → HasWait v wait → HasWait w wait)
        → HasTokens of v xs → HasTokens of w ys
    tokens_others keeps h =
        record {
          has = All-weaker (λ y. HasWait v (of y) × (index_of of y ≢ index_of of x)) (λ y. HasWait w (of y))
              (λ y both. keeps (of y) both.1 both.0) ys
              (all_both (λ y. HasWait v (of y)) (λ y. index_of of y ≢ index_of of x) ys
              (taken_all (index_of of) number xs ys x t (λ y. HasWait v (of y)) h.has)
              (taken_others (index_of of) number xs ys x t h.apart));
          apart = taken_apart (index_of of) number xs ys x t h.apart;
        }

    -- one that has that one, too, whose token comes back
    pub tokens_back : (again : X) → place_of (of again) ≡ place_of (of x) → HasWait w (of again)
        → ((wait : Wait) → wait_index wait ≢ index_of of x → HasWait v wait → HasWait w wait)
        → HasTokens of v xs → HasTokens of w (ys ++ again ∷ [])
    tokens_back again place has keeps h =
        tokens_more w ys again has
        (subst (λ (p : Place). All (λ y. index_of of y ≢ p.index) ys) (sym place)
        (taken_others (index_of of) number xs ys x t h.apart))
        (tokens_others keeps h)

-- the same by the waits that the pass has after a call
module _ {X : Type 0} (of : X → Wait) {E S : Type 0} (v w : View E S) where
  pub same_waits : (xs : List X) → GoesOn v w × (w.facts.waits ≡ v.facts.waits) → HasTokens of v xs
      → HasTokens of w xs
  same_waits xs is = tokens_stay of v w xs
      (λ wait h. has-wait-on v w wait is.0 (subst (Has (wait_index wait)) (sym is.1) h.open_yet) h)

  -- one more, of which there is a token
  pub one_more : (xs : List X) (x : X)
      → GoesOn v w × (w.facts.waits ≡ v.facts.waits ++ index_of of x ∷ []) → IsInside w
      → HasWait w (of x) → HasTokens of v xs → HasTokens of w (xs ++ x ∷ [])
  one_more xs x is inside has h =
      let k = index_of of x in
      tokens_more of w xs x has (new_number of v w k xs inside is.1 h)
      (tokens_stay of v w xs (λ wait old. has-wait-on v w wait is.0
      (subst (Has (wait_index wait)) (sym is.1) (has_left _ v.facts.waits (k ∷ []) old.open_yet)) old) h)

  module _ (number : ℕ) (xs ys : List X) (x : X) (t : IsTaken (index_of of) number xs x ys) where
    -- the one whose token was taken out is over
    pub one_less : GoesOn v w × (w.facts.waits ≡ without (index_of of x) v.facts.waits)
        → HasTokens of v xs → HasTokens of w ys
    one_less is =
        tokens_others of v w number xs ys x t
        (λ wait other old. has-wait-on v w wait is.0
        (subst (Has (wait_index wait)) (sym is.1) (without_has _ (index_of of x) v.facts.waits other old.open_yet)) old)

    -- it goes on, and its token comes back
    pub one_back : (again : X) → GoesOn v w × (w.facts.waits ≡ v.facts.waits)
        → place_of (of again) ≡ place_of (of x) → HasWait w (of again) → HasTokens of v xs
        → HasTokens of w (ys ++ again ∷ [])
    one_back again is place has =
        tokens_back of v w number xs ys x t again place has
        (λ wait other old. has-wait-on v w wait is.0 (subst (Has (wait_index wait)) (sym is.1) old.open_yet) old)

  -- the wait of this number is over, of which there is no token
  pub one_gone : (xs : List X) (k : ℕ) → GoesOn v w × (w.facts.waits ≡ without k v.facts.waits)
      → Others (index_of of) k xs → HasTokens of v xs → HasTokens of w xs
  one_gone xs k is others h = record {
    has = All-weaker (λ x. HasWait v (of x) × (index_of of x ≢ k)) (λ x. HasWait w (of x))
        (λ x both. has-wait-on v w (of x) is.0
        (subst (Has (index_of of x)) (sym is.1) (without_has _ k v.facts.waits both.1 both.0.open_yet)) both.0)
        xs (all_both (λ x. HasWait v (of x)) (λ x. index_of of x ≢ k) xs h.has others);
    apart = h.apart;
  }

  -- one token was taken out, and the pass has all its waits still
  pub one_out : (number : ℕ) (xs ys : List X) (x : X) → IsTaken (index_of of) number xs x ys
      → GoesOn v w × (w.facts.waits ≡ v.facts.waits) → HasTokens of v xs → HasTokens of w ys
  one_out number xs ys x t is =
      tokens_others of v w number xs ys x t
      (λ wait other old. has-wait-on v w wait is.0 (subst (Has (wait_index wait)) (sym is.1) old.open_yet) old)
