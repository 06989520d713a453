-- Where a cell stands among the words of a table, and what a write there leaves. With `CellPlaces` this is all that
-- knows how cells are laid out; the steps on cells go by `CellAt` alone.
use Rattle.std.proofs.Common.{◌≡◌, ◌≢◌, ℕ, ◌+◌, ◌*◌, ◌/◌, ◌%◌, ◌<◌, ◌^◌, Bool, false, List, sym, ap, ◌∙◌, subst, ⊎_elim, arith}
use Rattle.std.specs.Prelude.{slice_index, slice_set}
use Rattle.cqs_core.specs.QueueCells.{IsBare}
use Rattle.cqs_core.specs.declared.cells.CoreState.{CoreState}
use Rattle.cqs_words.specs.Cell.{index_in}
use Rattle.cqs_words.proofs.CellLaws.{state_code-below}
use Rattle.cqs_slots.specs.Layout.{slot_cell}
use Rattle.cqs_slots.specs.Slots.{Segments, IsHome, IsSegment}
use Rattle.cqs_slots.specs.Shown.{Shows, AreCounted}
use Rattle.cqs_slots.specs.Told.{Knows}
use Rattle.cqs_slots.proofs.Lists.{home-prefix}
use Rattle.cqs_slots.proofs.Counts.{one-segment}
use Rattle.cqs_slots.proofs.Stands.{stands}
use Rattle.cqs_slots.proofs.Writes.{written, cells-written}
use Rattle.cqs_rule_laws.specs.declared.view.View.{View}
use Rattle.cqs_rule_laws.specs.Hidden.{Hidden, state_at}
use Rattle.cqs_rule_laws.specs.Layout.{client_place, words_for, IsIdle}
use Rattle.cqs_rule_laws.specs.Placed.{KnowsPlace, place_at, place_word}
use Rattle.cqs_rule_laws.specs.Ruled.{CellsShow, word_of, word_at, shown_state}
use Rattle.cqs_rule_laws.proofs.Cells.{same-or-not}

-- a number is one of its segment
pub number-split : (k : ℕ) → 32 * (k / 32) + k % 32 ≡ k
number-split k = omega arith

pub place-few : (k : ℕ) → k % 32 < 32
place-few k = omega arith

-- the word of a cell has its number
pub word-number : (k : ℕ) (s : CoreState) (payload : ℕ) → payload < 2 ^ 20 → index_in (word_of k s payload) ≡ k
word-number k s payload fits = let low = state_code-below (shown_state s) in omega arith

-- the cell of the number k stands at this word, which is none of the counters', the client's or those between
pub record CellAt (t : Segments) (c : Hidden) (words : List ℕ) (k word : ℕ) : Type 0 where
  pub shows : slice_index words word ≡ word_of k (state_at c.queue k) (c.payloads k)
  pub above : client_place 3 < word
  pub busy : (i : ℕ) → IsIdle i → i ≢ word
  slot : ℕ
  home : IsHome t.homes (k / 32) slot
  seg : IsSegment (t.slots slot) (k / 32)
  is : word ≡ slot_cell slot (k % 32)

-- as long as a cell isn't settled, its segment is where the pass knows the cell to stand
place-stands : {E S : Type 0} (t : Segments) (c : Hidden) (cells : ℕ) (words : List ℕ) (settled : ℕ → Bool)
    (duties : ℕ → ℕ) (v : View E S) (k word : ℕ)
    → CellsShow t c cells words → AreCounted t settled duties → Knows t v.segments → settled k ≡ false
    → KnowsPlace v (place_at word k)
    → (slot : ℕ) × IsHome t.homes (k / 32) slot × IsSegment (t.slots slot) (k / 32)
    × (word ≡ slot_cell slot (k % 32))
place-stands t c cells words settled duties v k word show counted knows yet place =
    let p = place_word v (place_at word k) place in
    let home : IsHome t.homes (k / 32) p.0 = home-prefix v.segments.homes t.homes (k / 32) p.0 knows.homes p.1 in (
      p.0,
      home,
      stands cells t settled duties (k / 32) p.0 (k % 32) show.sound counted home (place-few k)
          (ap settled (number-split k) ∙ yet),
      p.3,
    )

-- the cell of a number that a pass knows the place of, and that isn't settled
pub cell-at : {E S : Type 0} (t : Segments) (c : Hidden) (cells : ℕ) (words : List ℕ) (settled : ℕ → Bool)
    (duties : ℕ → ℕ) (v : View E S) (k word : ℕ)
    → CellsShow t c cells words → AreCounted t settled duties → Knows t v.segments → settled k ≡ false
    → KnowsPlace v (place_at word k) → CellAt t c words k word
cell-at t c cells words settled duties v k word show counted knows yet place =
    let p = place-stands t c cells words settled duties v k word show counted knows yet place in
    let below = show.sound.inside (k / 32) p.0 p.1 in
    let there = (show.shows.each p.0 below).cells (k / 32) (k % 32) p.2 (place-few k) in
    let e = p.3 in
    record {
      shows = ap (slice_index words) p.3 ∙ (there ∙ ap (word_at c) (number-split k));
      above = omega arith;
      busy = λ i idle same. let before = idle.before in omega arith;
      slot = p.0;
      home = p.1;
      seg = p.2;
      is = p.3;
    }

-- the cell is written: all others are as they were
pub set-cell : (t : Segments) (c d : Hidden) (cells : ℕ) (words : List ℕ) (k word x : ℕ) → CellsShow t c cells words
    → CellAt t c words k word
    → ((j : ℕ) → j ≢ k → state_at d.queue j ≡ state_at c.queue j) → ((j : ℕ) → j ≢ k → d.payloads j ≡ c.payloads j)
    → x ≡ word_of k (state_at d.queue k) (d.payloads k) → d.payloads k < 2 ^ 20
    → (IsBare (state_at d.queue k) → d.payloads k ≡ 0) → CellsShow t d cells (slice_set words word x)
set-cell t c d cells words k word x show at states payloads makes fits bare = record {
  shows = subst (λ i. Shows cells t (word_at d) (slice_set words i x)) (sym at.is)
      (written cells t (word_at c) (word_at d) words show.shows show.sound (k / 32) at.slot (k % 32) x
      at.home (place-few k) at.seg (makes ∙ ap (word_at d) (sym (number-split k)))
      (ap index_in makes ∙ (word-number k (state_at d.queue k) (d.payloads k) fits ∙ sym (number-split k)))
      (show.made.numbered (32 * (k / 32) + k % 32)) others);
  sound = show.sound;
  made = cells-written t cells (word_at c) (word_at d) (k / 32) at.slot (k % 32) show.sound at.home
      (place-few k)
      (subst (λ z. index_in (word_at d z) ≡ z) (sym (number-split k))
      (word-number k (state_at d.queue k) (d.payloads k) fits)) others show.made;
  fits = λ j. ⊎_elim
      (λ (q : j ≡ k). subst (λ z. d.payloads z < 2 ^ 20) (sym q) fits)
      (λ (a : j ≢ k). subst (λ z. z < 2 ^ 20) (sym (payloads j a)) (show.fits j))
      (same-or-not j k);
  bare = λ j is. ⊎_elim
      (λ (q : j ≡ k). ap d.payloads q ∙ bare (subst IsBare (ap (state_at d.queue) q) is))
      (λ (a : j ≢ k). payloads j a ∙ show.bare j (subst IsBare (states j a) is))
      (same-or-not j k);
}
  where
    others : (j : ℕ) → j ≢ 32 * (k / 32) + k % 32 → word_at d j ≡ word_at c j
    others j apart =
        let a : j ≢ k = λ e. apart (e ∙ sym (number-split k)) in λ i. word_of j (states j a i) (payloads j a i)

-- two cells that aren't settled don't stand at one word
pub one-number : {E S : Type 0} (t : Segments) (c : Hidden) (cells : ℕ) (words : List ℕ) (settled : ℕ → Bool)
    (duties : ℕ → ℕ) (v : View E S) (word k j : ℕ)
    → CellsShow t c cells words → AreCounted t settled duties → Knows t v.segments
    → settled k ≡ false → settled j ≡ false
    → KnowsPlace v (place_at word k) → KnowsPlace v (place_at word j) → k ≡ j
one-number t c cells words settled duties v word k j show counted knows yet too a b =
    let p = place-stands t c cells words settled duties v k word show counted knows yet a in
    let q = place-stands t c cells words settled duties v j word show counted knows too b in
    let e = p.3 in
    let f = q.3 in
    let g = place-few k in
    let h = place-few j in
    let slot : q.0 ≡ p.0 = omega arith in
    let place : k % 32 ≡ j % 32 = omega arith in
    let same : k / 32 ≡ j / 32 = one-segment (t.slots p.0) (k / 32) (j / 32) p.2
    (subst (λ z. IsSegment (t.slots z) (j / 32)) slot q.2) in
    let m = number-split k in
    let n = number-split j in
    omega arith

module _ {E S : Type 0} (v : View E S) where
  -- a place is one of the table's words
  pub place-low : (k word : ℕ) → KnowsPlace v (place_at word k) → word < words_for v.slots
  place-low k word place =
      let p = place_word v (place_at word k) place in
      let low = p.2 in
      let e = p.3 in
      let few = place-few k in
      omega arith

  -- it is none of the counters', the client's or those between
  pub place-behind : (k word : ℕ) → KnowsPlace v (place_at word k)
      → (client_place 3 < word) × ((i : ℕ) → IsIdle i → i ≢ word)
  place-behind k word place =
      let p = place_word v (place_at word k) place in
      let e = p.3 in
      (omega arith, λ i idle same. let before = idle.before in omega arith)
