-- What is read off a list of which one element is written.
use Rattle.std.proofs.Common.{◌≡◌, ℕ, zero, suc, ◌+◌, ◌<◌, List, [], ◌∷◌, ◌++◌, Option, Some, None, set, slice_get, refl, ap₂, sym, ◌∙◌, arith}
use Rattle.cqs_core.specs.Numbered.{pick_each, cons_option}
use Rattle.cqs_core.proofs.Picked.{AgreeBut, picked-behind}
use Rattle.cqs_core.proofs.Quiet.{picked-none}

-- what is read off a list whose one element is written
module _ {X Y : Type 0} where
  -- the same is read
  pub picked-kept : (f g : ℕ → X → Option Y) (n : ℕ) → AgreeBut f g n → (k : ℕ) (xs : List X) (i : ℕ) (old new : X)
      → n ≡ k + i → slice_get xs i ≡ Some old → f n old ≡ g n new → pick_each g k (set xs i new) ≡ pick_each f k xs
  picked-kept f g n agree k [] i old new at there same = absurd (cc)
  picked-kept f g n agree k (x ∷ xs) zero old new at there same =
      let here : k ≡ n = omega arith in
      let first : x ≡ old = cc in
      let now : g k new ≡ f k x = rw (here, first) (sym same) in
      ap₂ cons_option now (sym (picked-behind f g n agree (suc k) xs (omega arith)))
  picked-kept f g n agree k (x ∷ xs) (suc i) old new at there same =
      ap₂ cons_option (sym (agree.at k x (λ e. omega arith)))
      (picked-kept f g n agree (suc k) xs i old new (omega arith) there same)

  -- the first of it goes
  pub picked-went : (f : ℕ → X → Option Y) (k : ℕ) (xs : List X) (i n : ℕ) (old new : X) (y : Y)
      → n ≡ k + i → slice_get xs i ≡ Some old → f n old ≡ Some y → f n new ≡ None
      → ((j m : ℕ) (x : X) → m ≡ k + j → j < i → slice_get xs j ≡ Some x → f m x ≡ None)
      → pick_each f k xs ≡ y ∷ pick_each f k (set xs i new)
  picked-went f k [] i n old new y at there some none before = absurd (cc)
  picked-went f k (x ∷ xs) zero n old new y at there some none before =
      let here : k ≡ n = omega arith in
      let first : x ≡ old = cc in
      let was : f k x ≡ Some y = rw (here, first) some in
      let now : f k new ≡ None = rw here none in
      rw (was, now) refl
  picked-went f k (x ∷ xs) (suc i) n old new y at there some none before =
      let nothing : f k x ≡ None = before 0 k x (omega arith) (omega arith) refl in
      rw nothing (picked-went f (suc k) xs i n old new y (omega arith) there some none
      (λ j m z is low got. before (suc j) m z (omega arith) (omega arith) got))

  -- one more comes last
  pub picked-came : (f g : ℕ → X → Option Y) (n : ℕ) → AgreeBut f g n → (k : ℕ) (xs : List X) (i : ℕ)
      (old new : X) (y : Y)
      → n ≡ k + i → slice_get xs i ≡ Some old → f n old ≡ None → g n new ≡ Some y
      → ((j m : ℕ) (x : X) → m ≡ k + j → i < j → slice_get xs j ≡ Some x → f m x ≡ None)
      → pick_each g k (set xs i new) ≡ pick_each f k xs ++ y ∷ []
  picked-came f g n agree k [] i old new y at there none some behind = absurd (cc)
  picked-came f g n agree k (x ∷ xs) zero old new y at there none some behind =
      let here : k ≡ n = omega arith in
      let first : x ≡ old = cc in
      let was : f k x ≡ None = rw (here, first) none in
      let now : g k new ≡ Some y = rw here some in
      let nothing : pick_each f (suc k) xs ≡ [] =
      picked-none f (suc k) xs (λ j m z is got. behind (suc j) m z (omega arith) (omega arith) got) in
      rw (was, now, sym (picked-behind f g n agree (suc k) xs (omega arith)), nothing) refl
  picked-came f g n agree k (x ∷ xs) (suc i) old new y at there none some behind =
      let rest = picked-came f g n agree (suc k) xs i old new y (omega arith) there none some
      (λ j m z is low got. behind (suc j) m z (omega arith) (omega arith) got) in
      let same : f k x ≡ g k x = agree.at k x (λ e. omega arith) in
      ap₂ cons_option (sym same) rest ∙ behind-cons (f k x) (pick_each f (suc k) xs) y
    where
      behind-cons : (o : Option Y) (ys : List Y) (y : Y) → cons_option o (ys ++ y ∷ []) ≡ cons_option o ys ++ y ∷ []
      behind-cons None ys y = refl
      behind-cons (Some z) ys y = refl
