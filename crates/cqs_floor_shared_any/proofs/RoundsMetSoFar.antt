-- The rounds of two workers meet from the last on: those that have met so far, and what may meet next.
use Rattle.std.proofs.Common.{◌≡◌, ◌≢◌, ◌⊎◌, inl, inr, ℕ, ◌+◌, ◌<◌, ◌≤◌, List, [], ◌∷◌, ◌++◌, length, set, slice_get, Some, refl, ap, sym, ◌∙◌, subst, arith}
use Rattle.std.proofs.lemmas.Bool.{cases_eq}
use Rattle.std.proofs.lemmas.List.{length-set, length_push}
use Rattle.cqs_core.proofs.Places.{get-append_below, get-below, get-push_at, get-set_else, get-set_here}
use Rattle.cqs_plan.specs.Floor.{size_of}
use Rattle.cqs_floor_shared_any.specs.declared.kinds.round.SharedRound.{SharedRound}
use Rattle.cqs_floor_shared_any.specs.declared.kinds.rounds.SharedRounds.{SharedRounds}
use Rattle.cqs_floor_shared_any.specs.RoundsOne.{CanTakeIn, HasTakenIn, IsRound, view_of}
use Rattle.cqs_floor_shared_any.specs.RoundsShares.{crew_of, name_of, share_rounds, waits_of}
use Rattle.cqs_floor_shared_kinds.specs.ShareCalls.{CanMeet}
use Rattle.cqs_floor_shared_any.proofs.RoundsLists.{map-there, none-counted}

pub same-some : {X : Type 0} {p q : X} → Some p ≡ Some q → p ≡ q
same-some same = cc

-- The last rounds have met; of the given ones those before them are left.
pub record MetSoFar (xs given left ys : List SharedRound) : Type 0 where
  pub many : length ys ≡ length xs
  pub few : length left ≤ length given
  pub first : (i : ℕ) → i < length left → slice_get left i ≡ slice_get given i
  pub called : (i : ℕ) (r g s : SharedRound) → length left ≤ i → slice_get xs i ≡ Some r
      → slice_get given i ≡ Some g → slice_get ys i ≡ Some s → HasTakenIn g r s
  pub before : (i : ℕ) → i < length left → slice_get ys i ≡ slice_get xs i

pub met-none : (xs given : List SharedRound) → length given ≡ length xs → MetSoFar xs given given xs
met-none xs given long = record {
  many = refl;
  few = omega arith;
  first = λ i low. refl;
  called = λ i r g s high there theirs here.
      let low = get-below given i g theirs in absurd (omega (arith, low, high));
  before = λ i low. refl;
}

-- the next one is the last that is left
pub met-next : (xs given left fewer ys : List SharedRound) (g : SharedRound) → MetSoFar xs given left ys
    → left ≡ fewer ++ g ∷ [] → slice_get given (length fewer) ≡ Some g
met-next xs given left fewer ys g was parts =
    let long : length left ≡ length fewer + 1 = ap (λ (l : List SharedRound). length l) parts ∙ length_push fewer g in
    sym (was.first (length fewer) (omega (arith, long)))
    ∙ ap (λ (l : List SharedRound). slice_get l (length fewer)) parts ∙ get-push_at fewer g (length fewer) refl

pub met-old : (xs given left fewer ys : List SharedRound) (g r : SharedRound) → MetSoFar xs given left ys
    → left ≡ fewer ++ g ∷ [] → slice_get ys (length fewer) ≡ Some r → slice_get xs (length fewer) ≡ Some r
met-old xs given left fewer ys g r was parts there =
    let long : length left ≡ length fewer + 1 = ap (λ (l : List SharedRound). length l) parts ∙ length_push fewer g in
    sym (was.before (length fewer) (omega (arith, long))) ∙ there

pub met-more : (xs given left fewer ys : List SharedRound) (g r s : SharedRound) → MetSoFar xs given left ys
    → left ≡ fewer ++ g ∷ [] → slice_get ys (length fewer) ≡ Some r → HasTakenIn g r s
    → MetSoFar xs given fewer (set ys (length fewer) s)
met-more xs given left fewer ys g r s was parts there taken = record {
  many = length-set ys (length fewer) s ∙ was.many;
  few = let few = was.few in omega (arith, long, few);
  first = λ i low.
      sym (get-append_below fewer (g ∷ []) i low) ∙ ap (λ (l : List SharedRound). slice_get l i) (sym parts)
      ∙ was.first i (omega (arith, long, low));
  called = λ i a b c high old theirs now. go i a b c high old theirs now (cases_eq i (length fewer));
  before = λ i low.
      get-set_else ys (length fewer) i s (λ same. absurd (omega (arith, same, low)))
      ∙ was.before i (omega (arith, long, low));
}
  where
    long : length left ≡ length fewer + 1
    long = ap (λ (l : List SharedRound). length l) parts ∙ length_push fewer g

    go : (i : ℕ) (a b c : SharedRound) → length fewer ≤ i → slice_get xs i ≡ Some a → slice_get given i ≡ Some b
        → slice_get (set ys (length fewer) s) i ≡ Some c → (i ≡ length fewer) ⊎ (i ≢ length fewer) → HasTakenIn b a c
    go i a b c high old theirs now (inl same) =
        let one : r ≡ a
        = same-some (sym (met-old xs given left fewer ys g r was parts there) ∙ ap (slice_get xs) (sym same) ∙ old) in
        let two : g ≡ b
        = same-some (sym (met-next xs given left fewer ys g was parts) ∙ ap (slice_get given) (sym same) ∙ theirs) in
        let three : s ≡ c
        = same-some (sym (get-set_here ys (length fewer) r s there)
        ∙ ap (slice_get (set ys (length fewer) s)) (sym same) ∙ now) in
        subst (λ z. HasTakenIn b z c) one (subst (λ z. HasTakenIn z r c) two
        (subst (λ z. HasTakenIn g r z) three taken))
    go i a b c high old theirs now (inr other) =
        was.called i a b c (omega (arith, long, high, other)) old theirs
        (sym (get-set_else ys (length fewer) i s (λ same. other (sym same))) ∙ now)

-- where it may be taken in
pub may-take_in : (x given : SharedRounds) (left fewer ys : List SharedRound) (g r : SharedRound)
    → CanMeet share_rounds given x → MetSoFar x.rounds.items given.rounds.items left ys → left ≡ fewer ++ g ∷ []
    → slice_get ys (length fewer) ≡ Some r → CanTakeIn g r
may-take_in x given left fewer ys g r can was parts there =
    let old = met-old x.rounds.items given.rounds.items left fewer ys g r was parts there in
    let theirs = met-next x.rounds.items given.rounds.items left fewer ys g was parts in
    record {
      parties = size_of (Some can.a.kind);
      crew = crew_of x;
      theirs = crew_of given;
      round = can.funded.each.at (length fewer) r old;
      given_round = subst (λ k. IsRound (size_of (Some k)) (crew_of given) g) can.kind
          (can.given_funded.each.at (length fewer) g theirs);
      same = same-some (
          sym (map-there name_of given.rounds.items (length fewer) g theirs)
          ∙ ap (λ (l : List (List ℕ)). slice_get l (length fewer)) can.family
          ∙ map-there name_of x.rounds.items (length fewer) r old
          );
      waitless = no-waits (view_of g).facts.waits
          (none-counted waits_of given.rounds.items (length fewer) g
          (can.given_funded.waits_are ∙ can.waitless) theirs);
    }
  where
    no-waits : (ws : List ℕ) → length ws ≡ 0 → ws ≡ []
    no-waits [] none = refl
    no-waits (w ∷ ws) none = absurd (omega (arith, none))
