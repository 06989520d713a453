-- Few cells aren't settled: one stands at each place of a slot, and 32 are those of the next segment.
use Rattle.std.proofs.Common.{◌≡◌, ◌⊎◌, ℕ, suc, ◌+◌, ◌*◌, ◌/◌, ◌%◌, ◌<◌, ◌≤◌, Bool, false, List, [], ◌∷◌, length, sym, refl, ap, ◌∙◌, subst, ⊎_elim, inl, inr, arith}
use Rattle.std.proofs.lemmas.Bool.{cases_lt}
use Rattle.cqs_core.specs.Parts.{Has}
use Rattle.cqs_core.proofs.Places.{get-there}
use Rattle.cqs_slots.specs.Lists.{IsDistinct}
use Rattle.cqs_slots.specs.Slots.{Segments, IsSegment}
use Rattle.cqs_slots.specs.Shown.{AreSound, AreCounted}
use Rattle.cqs_slots.specs.Laws.{UnsettledCellsAreFew}
use Rattle.cqs_slots.proofs.Counts.{one-segment}
use Rattle.cqs_slots.proofs.Lists.{few_below}
use Rattle.cqs_slots.proofs.Stands.{stands}

module _ (n : ℕ) (t : Segments) (settled : ℕ → Bool) (duties : ℕ → ℕ) (sound : AreSound n t)
    (counted : AreCounted t settled duties) where
  -- the cell k stands in this slot
  record InSlot (k place : ℕ) : Type 0 where
    slot : ℕ
    low : slot < n
    there : IsSegment (t.slots slot) (k / 32)
    place_is : place ≡ 32 * slot + k % 32

  -- or it is one of the next segment, and has a place behind those of all slots
  record InNext (k place : ℕ) : Type 0 where
    next : k / 32 ≡ t.tail + 1
    place_is : place ≡ 32 * n + k % 32

  abbrev IsAt : ℕ → ℕ → Type 0
  IsAt k place = InSlot k place ⊎ InNext k place

  -- each has a place
  place-of : (k : ℕ) → settled k ≡ false → k / 32 ≤ t.tail + 1 → (place : ℕ) × IsAt k place
  place-of k yet near = ⊎_elim
      (λ (made : k / 32 < t.tail + 1).
      let all = sound.made in
      let home = get-there t.homes (k / 32) (omega arith) in
      let whole : 32 * (k / 32) + k % 32 ≡ k = omega arith in (
        32 * home.0 + k % 32,
        inl (record {
          slot = home.0;
          low = sound.inside (k / 32) home.0 home.1;
          there = stands n t settled duties (k / 32) home.0 (k % 32) sound counted home.1 (omega arith)
              (ap settled whole ∙ yet);
          place_is = refl;
        }),
      ))
      (λ (past : t.tail + 1 ≤ k / 32).
      (32 * n + k % 32, inr (record { next = omega arith; place_is = refl })))
      (cases_lt (k / 32) (t.tail + 1))

  -- below those of one slot more
  place-low : (k place : ℕ) → IsAt k place → place < 32 * n + 32
  place-low k place (inl at) = let low = at.low in let is = at.place_is in omega arith
  place-low k place (inr at) = let is = at.place_is in omega arith

  -- and no two have one place
  one-cell : (k j place : ℕ) → IsAt k place → IsAt j place → k ≡ j
  one-cell k j place (inl a) (inl b) =
      let p = a.place_is in
      let q = b.place_is in
      let same : a.slot ≡ b.slot = omega arith in
      let mine : IsSegment (t.slots b.slot) (k / 32) = subst (λ x. IsSegment (t.slots x) (k / 32)) same a.there in
      let one : k / 32 ≡ j / 32 = one-segment (t.slots b.slot) (k / 32) (j / 32) mine b.there in
      omega arith
  one-cell k j place (inl a) (inr b) =
      let p = a.place_is in let q = b.place_is in let low = a.low in absurd (omega arith)
  one-cell k j place (inr a) (inl b) =
      let p = a.place_is in let q = b.place_is in let low = b.low in absurd (omega arith)
  one-cell k j place (inr a) (inr b) =
      let p = a.place_is in let q = b.place_is in let m = a.next in let o = b.next in omega arith

  -- the places of these cells
  record Places (cells : List ℕ) : Type 0 where
    places : List ℕ
    long : length places ≡ length cells
    once : IsDistinct places
    of : (place : ℕ) → Has place places → (k : ℕ) × Has k cells × IsAt k place

  places-of : (cells : List ℕ) → IsDistinct cells
      → ((k : ℕ) → Has k cells → (settled k ≡ false) × (k / 32 ≤ t.tail + 1)) → Places cells
  places-of [] once yet = record { places = []; long = refl; once = tt; of = λ place h. absurd h }
  places-of (k ∷ ks) once yet =
      let mine = yet k (inl refl) in
      let at = place-of k mine.0 mine.1 in
      let rest = places-of ks once.1 (λ j h. yet j (inr h)) in
      record {
        places = at.0 ∷ rest.places;
        long = ap suc rest.long;
        once = (
          (λ h. let other = rest.of at.0 h in
              once.0 (subst (λ j. Has j ks) (one-cell other.0 k at.0 other.2 at.1) other.1)),
          rest.once,
        );
        of = λ place h. ⊎_elim
            (λ (e : place ≡ at.0). (k, inl refl, subst (IsAt k) (sym e) at.1))
            (λ (later : Has place rest.places). let other = rest.of place later in (other.0, inr other.1, other.2))
            h;
      }

pub few-unsettled : UnsettledCellsAreFew
few-unsettled n t settled duties cells sound counted once yet =
    let all = places-of n t settled duties sound counted cells once yet in
    let few = few_below (32 * n + 32) all.places all.once (λ place h.
    let at = all.of place h in place-low n t settled duties sound counted at.0 place at.2) in
    let long = all.long in
    omega arith
