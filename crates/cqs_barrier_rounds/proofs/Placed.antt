-- Lists with one element for each round: an element that is read, and a call at one round.
use Rattle.std.proofs.Common.{◌≡◌, ◌≢◌, ℕ, ◌+◌, ◌<◌, ◌≤◌, List, Some, length, set, slice_get, get_or, refl, sym, ap, ◌∙◌, arith}
use Rattle.std.proofs.lemmas.List.{length-set}
use Rattle.std.proofs.lemmas.Option.{same_Some, slice_get-get_or}
use mathlib.Core.Logic.{dite}
use native.Mathlib.Decide.{ℕ_discrete}
use Rattle.cqs_core.proofs.Places.{get-set_here, get-set_else, get-below}
use Rattle.cqs_barrier_rounds.specs.Passes.{AreCalledWithin, AreCalled}

module _ {P : Type 0} where
  -- an element that is read stands there
  pub stands-at : (xs : List P) (i : ℕ) (x : P) → i < length xs → x ≡ get_or xs i x → slice_get xs i ≡ Some x
  stands-at xs i x low is = slice_get-get_or xs i x low ∙ ap Some (sym is)

  -- no call was made yet
  pub called-none : (call : ℕ → P → P → Type 0) (i : ℕ) (ps : List P) → AreCalledWithin call i i ps ps
  called-none call i ps = record {
    many = refl;
    called = λ r p q low high got now. absurd (omega arith);
    before = λ r low. refl;
    behind = λ r high. refl;
  }

  -- one round more was called
  pub called-more : (call : ℕ → P → P → Type 0) (from to from' to' i : ℕ) (ps qs : List P) (p q : P)
      → AreCalledWithin call from to ps qs → slice_get ps i ≡ Some p → slice_get qs i ≡ Some p → call i p q
      → ((r : ℕ) → r ≢ i → from' ≤ r → r < to' → (from ≤ r) × (r < to))
      → ((r : ℕ) → r < from' → (r < from) × (r ≢ i)) → ((r : ℕ) → to' ≤ r → (to ≤ r) × (r ≢ i))
      → AreCalledWithin call from' to' ps (set qs i q)
  called-more call from to from' to' i ps qs p q was there there' called inner before behind = record {
    many = length-set qs i q ∙ was.many;
    called = λ r a b low high got now. dite (ℕ_discrete r i)
        (λ (e : r ≡ i).
        let one : a ≡ p = same_Some a p (sym got ∙ (ap (slice_get ps) e ∙ there)) in
        let two : b ≡ q = same_Some b q (sym now ∙ (ap (slice_get (set qs i q)) e ∙ get-set_here qs i p q there')) in
        rw (e, one, two) called)
        (λ (other : r ≢ i).
        let at = inner r other low high in
        was.called r a b at.0 at.1 got (sym (get-set_else qs i r q (λ e. other (sym e))) ∙ now));
    before = λ r low. let at = before r low in
        get-set_else qs i r q (λ e. at.1 (sym e)) ∙ was.before r at.0;
    behind = λ r high. let at = behind r high in
        get-set_else qs i r q (λ e. at.1 (sym e)) ∙ was.behind r at.0;
  }

  -- the next round of those that go up was called, or of those that go down
  pub called-up : (call : ℕ → P → P → Type 0) (n : ℕ) (ps qs : List P) (p q : P) → AreCalledWithin call 0 n ps qs
      → slice_get qs n ≡ Some p → call n p q → AreCalledWithin call 0 (n + 1) ps (set qs n q)
  called-up call n ps qs p q was there called =
      called-more call 0 n 0 (n + 1) n ps qs p q was (sym (was.behind n (omega arith)) ∙ there) there called
      (λ r other low high. (omega arith, omega arith)) (λ r low. absurd (omega arith))
      (λ r high. (omega arith, λ e. omega arith))

  pub called-down : (call : ℕ → P → P → Type 0) (i n : ℕ) (ps qs : List P) (p q : P)
      → AreCalledWithin call (i + 1) n ps qs → i < n → slice_get qs i ≡ Some p → call i p q
      → AreCalledWithin call i n ps (set qs i q)
  called-down call i n ps qs p q was below there called =
      called-more call (i + 1) n i n i ps qs p q was (sym (was.before i (omega arith)) ∙ there) there called
      (λ r other low high. (omega arith, omega arith)) (λ r low. (omega arith, λ e. omega arith))
      (λ r high. (omega arith, λ e. omega arith))

  -- what follows from the call of each
  pub called-as : (call other : ℕ → P → P → Type 0) (from to : ℕ) (ps qs : List P)
      → ((r : ℕ) (p q : P) → call r p q → other r p q) → AreCalledWithin call from to ps qs
      → AreCalledWithin other from to ps qs
  called-as call other from to ps qs gives was = record {
    many = was.many;
    called = λ r p q low high got now. gives r p q (was.called r p q low high got now);
    before = was.before;
    behind = was.behind;
  }

  -- all were
  pub called-all : (call : ℕ → P → P → Type 0) (n : ℕ) (ps qs : List P) → AreCalledWithin call 0 n ps qs
      → length ps ≤ n → AreCalled call ps qs
  called-all call n ps qs was all = record {
    many = was.many;
    called = λ r p q got now. was.called r p q (omega arith)
        (let low = get-below ps r p got in omega arith) got now;
  }
