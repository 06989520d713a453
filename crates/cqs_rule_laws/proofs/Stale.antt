-- A word that was found at the place of a cell, where some cells may be settled, and their segments gone.
use Rattle.std.proofs.Common.{◌≡◌, ◌⊎◌, ℕ, ◌/◌, ◌%◌, ◌<◌, ◌≤◌, ◌^◌, Bool, true, false, List, sym, refl, ap, ◌∙◌, ⊎_elim, inl, inr, arith}
use Rattle.std.specs.Prelude.{slice_index}
use Rattle.cqs_core.specs.declared.cells.CoreState.{CoreState}
use Rattle.cqs_core.specs.declared.cells.CoreState.TheVariants as state
use Rattle.cqs_core.specs.QueueCells.{rank}
use Rattle.cqs_core.specs.QueueUnmade.{UnmadeEmpty}
use Rattle.cqs_words.specs.Cell.{index_in}
use Rattle.cqs_slots.specs.Layout.{slot_cell}
use Rattle.cqs_slots.specs.Slots.{Segments, IsHome}
use Rattle.cqs_slots.specs.Shown.{AreCounted}
use Rattle.cqs_slots.specs.Told.{Knows}
use Rattle.cqs_slots.proofs.Lists.{home-prefix}
use Rattle.cqs_slots.proofs.Stands.{found-is, found-later}
use Rattle.cqs_rule_laws.specs.declared.view.View.{View}
use Rattle.cqs_rule_laws.specs.Hidden.{Hidden, state_in, state_at}
use Rattle.cqs_rule_laws.specs.Placed.{KnowsPlace, place_at, place_word}
use Rattle.cqs_rule_laws.specs.Ruled.{CellsShow, word_of, word_at}
use Rattle.cqs_rule_laws.proofs.CellsStand.{CellAt, cell-at, number-split, place-few, word-number}
use Rattle.cqs_rule_laws.proofs.WordOf.{word_of-injective}

-- a settled cell is final: no exchange goes on from its state
abbrev pub AreFinal : Hidden → (ℕ → Bool) → Type 0
AreFinal c settled = (k : ℕ) → settled k ≡ true → rank (state_at c.queue k) ≡ 4

pub false-or-true : (b : Bool) → (b ≡ false) ⊎ (b ≡ true)
false-or-true false = inl refl
false-or-true true = inr refl

module _ {E S : Type 0} (t : Segments) (c : Hidden) (cells : ℕ) (words : List ℕ) (settled : ℕ → Bool) (duties : ℕ → ℕ)
    (v : View E S) (k word : ℕ) (show : CellsShow t c cells words) (counted : AreCounted t settled duties)
    (knows : Knows t v.segments) (finals : AreFinal c settled) (place : KnowsPlace v (place_at word k)) where
  -- What is found at the place of the number k is of this number, and then the cell's word, or of a later one. So
  -- no word of the number that was written in an earlier life of the slot is found there.
  pub found-there : (index_in (slice_index words word) ≡ k → slice_index words word ≡ word_at c k)
      × (k ≤ index_in (slice_index words word))
  found-there =
      let p = place_word v (place_at word k) place in
      let home : IsHome t.homes (k / 32) p.0 = home-prefix v.segments.homes t.homes (k / 32) p.0 knows.homes p.1 in
      let is = p.3 in
      let split = number-split k in
      let at : slice_index words word ≡ slice_index words (slot_cell p.0 (k % 32)) = ap (slice_index words) is in (
        (λ e. at ∙ (found-is cells t (word_at c) words (k / 32) p.0 (k % 32) show.sound show.shows home
            (place-few k) (ap index_in (sym at) ∙ (e ∙ sym split)) ∙ ap (word_at c) split)),
        (let later = found-later cells t (word_at c) words (k / 32) p.0 (k % 32) show.sound show.shows home
            (place-few k) in
            let same : index_in (slice_index words word) ≡ index_in (slice_index words (slot_cell p.0 (k % 32))) =
            ap index_in at in omega arith),
      )

  -- An exchange that expects a cell of this number from which it may go on finds it only where the segment is there
  -- still: then the cell is so, and stands there. Everywhere else it fails.
  pub stale-fails : (x : CoreState) (payload : ℕ) → payload < 2 ^ 20 → rank x < 4
      → slice_index words word ≡ word_of k x payload
      → (settled k ≡ false) × (state_at c.queue k ≡ x) × (c.payloads k ≡ payload) × CellAt t c words k word
  stale-fails x payload fits low found =
      let number : index_in (slice_index words word) ≡ k = ap index_in found ∙ word-number k x payload fits in
      let is : word_of k (state_at c.queue k) (c.payloads k) ≡ word_of k x payload =
      sym (found-there.0 number) ∙ found in
      let same = word_of-injective k k (state_at c.queue k) x (c.payloads k) payload (show.fits k) fits is in
      let yet : settled k ≡ false = ⊎_elim (λ z. z)
      (λ (z : settled k ≡ true).
      let final = finals k z in
      let at : rank (state_at c.queue k) ≡ rank x = ap rank same.1 in absurd (omega arith))
      (false-or-true (settled k)) in
      (yet, same.1, same.2, cell-at t c cells words settled duties v k word show counted knows yet place)

  -- a cell from which some exchange goes on stands at its place
  pub unfinished-stands : rank (state_at c.queue k) < 4 → CellAt t c words k word
  unfinished-stands low =
      let yet : settled k ≡ false = ⊎_elim (λ z. z)
      (λ (z : settled k ≡ true). let final = finals k z in absurd (omega arith))
      (false-or-true (settled k)) in
      cell-at t c cells words settled duties v k word show counted knows yet place

-- the drawn cells of segments that aren't made are empty
pub unmade-empty : (t : Segments) (c : Hidden) (cells : ℕ) (words : List ℕ) → CellsShow t c cells words
    → UnmadeEmpty c.queue t.tail
unmade-empty t c cells words show = record {
  empty = λ k cell high there.
      let same = word_of-injective k k (state_at c.queue k) state.Empty (c.payloads k) 0 (show.fits k) (omega arith)
      (show.made.unmade k (omega arith)) in
      sym (ap state_in there) ∙ same.1;
}
