-- Where the cell of a number stands.
use Rattle.std.proofs.Common.{◌≡◌, ℕ, ◌+◌, ◌*◌, ◌<◌, ◌≤◌, Bool, true, false, List, sym, ◌∙◌, ⊎_elim, arith}
use Rattle.std.specs.Prelude.{slice_index}
use Rattle.cqs_core.specs.Parts.{Has}
use Rattle.cqs_core.proofs.Places.{get-there}
use Rattle.cqs_words.specs.Cell.{index_in}
use Rattle.cqs_slots.specs.Layout.{slot_cell}
use Rattle.cqs_slots.specs.Slots.{Segments, IsHome}
use Rattle.cqs_slots.specs.Shown.{Shows, AreSound, AreCounted}
use Rattle.cqs_slots.specs.Laws.{CellsOfLeftSegmentsAreSettled, UnsettledCellsStand}
use Rattle.cqs_slots.proofs.Counted.{all-settled}

-- a segment with a cell that isn't settled is in its home
pub stands : UnsettledCellsStand
stands n t settled duties s x j sound counted home few yet = ⊎_elim (λ seg. seg)
    (λ (out : Has s t.outs × (t.counted s ≡ 32)).
    let a = counted.counts s in
    let full : settled (32 * s + j) ≡ true =
    all-settled settled s j (let q = out.1 in omega arith) few in
    let both : false ≡ true = sym yet ∙ full in absurd (cc))
    ((sound.each x (sound.inside s x home)).out s home)

-- so its word is there; and any word of its number that is found there is that of the cell
pub cell-stands : (n : ℕ) (t : Segments) (c : ℕ → ℕ) (settled : ℕ → Bool) (duties : ℕ → ℕ) (words : List ℕ) (s x j : ℕ)
    → AreSound n t → Shows n t c words → AreCounted t settled duties → IsHome t.homes s x → j < 32
    → settled (32 * s + j) ≡ false → slice_index words (slot_cell x j) ≡ c (32 * s + j)
cell-stands n t c settled duties words s x j sound show counted home few yet =
    (show.each x (sound.inside s x home)).cells s j (stands n t settled duties s x j sound counted home few yet) few

pub found-is : (n : ℕ) (t : Segments) (c : ℕ → ℕ) (words : List ℕ) (s x j : ℕ)
    → AreSound n t → Shows n t c words → IsHome t.homes s x → j < 32
    → index_in (slice_index words (slot_cell x j)) ≡ 32 * s + j
    → slice_index words (slot_cell x j) ≡ c (32 * s + j)
found-is n t c words s x j sound show home few is =
    ((show.each x (sound.inside s x home)).since s j home few).same is

-- whatever is found there is of this number or a later one
pub found-later : (n : ℕ) (t : Segments) (c : ℕ → ℕ) (words : List ℕ) (s x j : ℕ)
    → AreSound n t → Shows n t c words → IsHome t.homes s x → j < 32
    → 32 * s + j ≤ index_in (slice_index words (slot_cell x j))
found-later n t c words s x j sound show home few =
    ((show.each x (sound.inside s x home)).since s j home few).later

-- all cells of a segment that is out are settled
pub left-settled : CellsOfLeftSegmentsAreSettled
left-settled n t settled duties s j sound counted out few =
    let low = sound.outs_made s out in
    let made = sound.made in
    let home = get-there t.homes s (omega arith) in
    let slot = sound.each home.0 (sound.inside s home.0 home.1) in
    ⊎_elim (λ seg. absurd (slot.gone s seg out))
    (λ (o : Has s t.outs × (t.counted s ≡ 32)).
    let a = counted.counts s in all-settled settled s j (let q = o.1 in omega arith) few)
    (slot.out s home.1)
