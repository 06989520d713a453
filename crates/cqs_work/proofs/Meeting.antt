-- Floors that meet, one after the other.
use Rattle.std.proofs.Common.{◌≡◌, ◌≢◌, ◌⊎◌, inl, inr, ℕ, zero, suc, ◌<◌, List, [], ◌∷◌, ◌++◌, Some, None, true, length, map, get_or, slice_get, refl, sym, ap, subst, ◌∙◌, arith}
use Rattle.std.proofs.lemmas.Bool.{cases_eq}
use Rattle.std.proofs.lemmas.List.{map-append}
use Rattle.std.proofs.lemmas.Option.{get_or_from_slice_get}
use Rattle.cqs_core.specs.Numbered.{EachAt}
use Rattle.cqs_core.specs.Parts.{Has}
use Rattle.cqs_core.proofs.EachAtLemmas.{EachAt-push}
use Rattle.cqs_core.proofs.Places.{get-append_left, get-below}
use Rattle.cqs_plan.specs.Floor.{wait_of, holds_of}
use Rattle.cqs_floor_shared.specs.Entries.{own_history, is_nothing}
use Rattle.cqs_floor_shared.specs.Shared.{Shared, seen_at}
use Rattle.cqs_floor_shared.specs.Calls.{Meets, HasWait, HaveAllMet, IsAtRest}
use Rattle.cqs_work.specs.Later.{IsUnnamed}
use Rattle.cqs_work.specs.Met.{CanMeet, HaveMet, IsKeptIn}
use Rattle.cqs_work.proofs.Growing.{before-itself, before-through}
use Rattle.cqs_work.proofs.Nothing.{nothing-unnamed}

-- these have met, so far
pub record MetSoFar (first : Shared) (done : List Shared) (g : Shared) : Type 0 where
  pub have : HaveMet first done g
  pub family : g.family ≡ first.family

pub meeting-starts : (first : Shared) (given : List Shared) → CanMeet first given → MetSoFar first [] first
meeting-starts first given can = record {
  have = record {
    first_kept = record { before = λ at. before-itself (seen_at first at); mine = λ at. refl };
    kept = record { at = λ i f got. absurd (cc) };
    number = refl;
    met = can.first_alone;
    floors = refl;
    kinds = refl;
    rest = can.first_rest;
    legal = can.sound.legal;
    named = λ whole at n. named whole at n (cases_eq n first.number);
  };
  family = refl;
}
  where
    -- a floor that stands alone has the number 0, and no entry names another
    named : HaveAllMet first → (at n : ℕ) → (n ≡ first.number) ⊎ (n ≢ first.number)
        → IsUnnamed n (seen_at first at) ⊎ Has n (first.number ∷ first.met)
    named whole at n (inl same) = inr (inl same)
    named whole at n (inr other) =
        let none : length first.met ≡ 0 = ap length can.first_alone in
        let one : first.floors ≡ 1 = omega (arith, whole, none) in
        let zero_is : first.number ≡ 0 = omega (arith, one, can.first_number) in
        inl (can.sound.unnamed at n (omega (arith, one, zero_is, other)))

-- the numbers of these floors
has-of : (done : List Shared) (i : ℕ) (f : Shared) → slice_get done i ≡ Some f → Has f.number (map (λ f. f.number) done)
has-of [] i f got = absurd (cc)
has-of (d ∷ done) zero f got = let same : d ≡ f = cc in inl (ap (λ x. x.number) (sym same))
has-of (d ∷ done) (suc i) f got = inr (has-of done i f got)

pub has-back : (list : List Shared) (n : ℕ) → Has n (map (λ (f : Shared). f.number) list)
    → (f : Shared) × (i : ℕ) × (slice_get list i ≡ Some f) × (n ≡ f.number)
has-back [] n none = absurd none
has-back (f ∷ list) n (inl here) = (f, 0, refl, here)
has-back (f ∷ list) n (inr later) =
    let it = has-back list n later in
    (it.0, suc it.1, it.2, it.3)

-- what was kept is kept by one more meeting
keeps : (f g given k : Shared) → Has f.number (g.number ∷ g.met) → Meets g given k → IsKeptIn g f → IsKeptIn k f
keeps f g given k own meets kept = record {
  before = λ at. before-through (seen_at f at) (seen_at g at) (seen_at k at) (kept.before at) (meets.staying at);
  mine = λ at. meets.mine at f.number own ∙ kept.mine at;
}

pub meets-next : (first g given k : Shared) (done : List Shared) → MetSoFar first done g → given.met ≡ []
    → IsAtRest given.board → Meets g given k → MetSoFar first (done ++ given ∷ []) k
meets-next first g given k done so_far alone rest meets =
    let have = so_far.have in
    let IsSafe : ℕ → Shared → Type 0 = λ i f. IsKeptIn k f in
    let new : IsKeptIn k given = record {
      before = meets.coming;
      mine = λ at. meets.theirs at given.number (inl refl);
    } in
    let old : EachAt IsSafe done = record {
      at = λ i f got. keeps f g given k (inr (rw have.met (has-of done i f got))) meets (have.kept.at i f got);
    } in
    record {
      have = record {
        first_kept = keeps first g given k (inl (sym have.number)) meets have.first_kept;
        kept = EachAt-push IsSafe IsSafe done given new (λ i f got kept. kept) old;
        number = meets.number ∙ have.number;
        met = meets.met ∙ ap (λ l. g.met ++ (given.number ∷ l)) alone ∙ ap (λ l. l ++ given.number ∷ []) have.met
            ∙ sym (map-append (λ (f : Shared). f.number) done (given ∷ []));
        floors = meets.floors ∙ have.floors;
        kinds = meets.kinds ∙ have.kinds;
        rest = record {
          waits = λ job. ap (λ l. get_or l job None) meets.waits ∙ have.rest.waits job;
          holds = λ job. meets.holds job ∙ ap (λ l. l ++ holds_of given.board job) (have.rest.holds job)
              ∙ rest.holds job;
        };
        legal = meets.legal;
        named = λ whole at n. named whole at n (meets.all whole at n);
      };
      family = meets.family ∙ so_far.family;
    }
  where
    named : HaveAllMet k → (at n : ℕ)
        → (is_nothing (own_history n (seen_at k at)) ≡ true) ⊎ Has n (k.number ∷ k.met)
        → IsUnnamed n (seen_at k at) ⊎ Has n (k.number ∷ k.met)
    named whole at n (inl nothing) = inl (nothing-unnamed n (seen_at k at) nothing)
    named whole at n (inr own) = inr own

get-head : (before : List Shared) (x : Shared) (after : List Shared)
    → slice_get (before ++ (x ∷ after)) (length before) ≡ Some x
get-head [] x after = refl
get-head (b ∷ before) x after = get-head before x after

-- the floor that comes next can meet
module _ (first g : Shared) (before : List Shared) (given : Shared) (after all : List Shared)
    (is : before ++ (given ∷ after) ≡ all) (can : CanMeet first all) where
  here : slice_get (before ++ (given ∷ after)) (length before) ≡ Some given
  here = get-head before given after

  pub next-family : MetSoFar first before g → given.family ≡ g.family
  next-family so_far = can.family.at (length before) given (rw (← is) here) ∙ sym so_far.family

  there : (d : Shared) → get_or all (length before) d ≡ given
  there d = ap (λ l. get_or l (length before) d) (sym is)
      ∙ get_or_from_slice_get (before ++ (given ∷ after)) (length before) given d here

  inside : length before < length all
  inside = subst (λ l. length before < length l) is (get-below (before ++ (given ∷ after)) (length before) given here)

  -- its number is that of no floor that has met
  pub next-apart : MetSoFar first before g → (n : ℕ) → Has n (g.number ∷ g.met) → Has n (given.number ∷ given.met) → ⊥
  next-apart so_far n own (inl named) = go own
    where
      other : (i : ℕ) → i < suc (length before)
          → (get_or (first ∷ all) i given).number ≢ (get_or (first ∷ all) (suc (length before)) given).number
      other i earlier = can.apart i (suc (length before)) given (omega (arith, earlier)) (omega (arith, inside))

      at-next : get_or (first ∷ all) (suc (length before)) given ≡ given
      at-next = there given

      go : Has n (g.number ∷ g.met) → ⊥
      go (inl here) =
          other 0 (omega arith) (sym so_far.have.number ∙ sym here ∙ named ∙ ap (λ f. f.number) (sym at-next))
      go (inr later) =
          let found = has-back before n (subst (Has n) so_far.have.met later) in
          let f : Shared = found.0 in
          let i : ℕ = found.1 in
          let below : i < length before = get-below before i f found.2 in
          let got : slice_get all i ≡ Some f
          = ap (λ l. slice_get l i) (sym is) ∙ get-append_left before (given ∷ after) i f found.2 in
          let its : get_or all i given ≡ f = get_or_from_slice_get all i f given got in
          other (suc i) (omega (arith, below)) (ap (λ x. x.number) its ∙ sym found.3 ∙ named
          ∙ ap (λ x. x.number) (sym at-next))
  next-apart so_far n own (inr met) =
      subst (Has n) (can.alone.at (length before) given (ap (λ l. slice_get l (length before)) (sym is) ∙ here)) met

  pub next-alone : given.met ≡ []
  next-alone = can.alone.at (length before) given (rw (← is) here)

  pub next-rest : IsAtRest given.board
  next-rest = can.rest.at (length before) given (rw (← is) here)

  pub next-idle : HasWait given.board → ⊥
  next-idle (job, waits) =
      let none : wait_of given.board job ≡ None = next-rest.waits job in
      absurd (cc (none, waits))

-- the floors that have met, the next one, and the rest
pub split-of : {F : Type 0} (shared : F → Shared) (before : List F) (x : F) (after all : List F)
    → before ++ (x ∷ after) ≡ all → map shared before ++ (shared x ∷ map shared after) ≡ map shared all
split-of shared before x after all is = sym (map-append shared before (x ∷ after)) ∙ ap (map shared) is
