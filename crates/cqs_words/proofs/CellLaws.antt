-- The laws of a cell's word.
use Rattle.std.proofs.Common.{◌≡◌, ℕ, ◌/◌, ◌%◌, ◌^◌, ◌<◌, Some, true, nat_lt, sym, ap, ◌∙◌, refl, lt-ltb, arith, rules}
use Rattle.std.proofs.lemmas.Option.{same_Some}
use Rattle.cqs_words.specs.declared.cell.CellState.{CellState}
use Rattle.cqs_words.specs.declared.cell.CellState.TheVariants.{Empty, Waiter, Value, Taken, Broken, Resumed, Cancelling, Delegated, Cancelled, Refused}
use Rattle.cqs_words.specs.declared.cell.CellWord.{CellWord}
use Rattle.cqs_words.specs.Cell.{state_code, state_of, cell_word, index_in, CellFits, packed_cell, unpacked_cell}
use Rattle.cqs_words.specs.Packing.{IsPacking}
use Rattle.cqs_words.proofs.PackingLaws.{number_of-injective}

-- a state stands at its code's place
pub state_of-state_code : (s : CellState) → state_of (state_code s) ≡ Some s
state_of-state_code Empty = refl
state_of-state_code Waiter = refl
state_of-state_code Value = refl
state_of-state_code Taken = refl
state_of-state_code Broken = refl
state_of-state_code Resumed = refl
state_of-state_code Cancelling = refl
state_of-state_code Delegated = refl
state_of-state_code Cancelled = refl
state_of-state_code Refused = refl

-- there are ten codes
pub state_code-below : (s : CellState) → state_code s < 10
state_code-below Empty = omega arith
state_code-below Waiter = omega arith
state_code-below Value = omega arith
state_code-below Taken = omega arith
state_code-below Broken = omega arith
state_code-below Resumed = omega arith
state_code-below Cancelling = omega arith
state_code-below Delegated = omega arith
state_code-below Cancelled = omega arith
state_code-below Refused = omega arith

-- states with one code are one state
pub state_code-injective : (s t : CellState) → state_code s ≡ state_code t → s ≡ t
state_code-injective s t same =
    same_Some s t (sym (state_of-state_code s) ∙ ap state_of same ∙ state_of-state_code t)

-- Where the code and the payload fit their bits, each part is found in its place.
module _ (index code payload : ℕ) (code_fits : code < 2 ^ 4) (payload_fits : payload < 2 ^ 20) where
  pub index_of-cell_word : cell_word index code payload / 2 ^ 24 ≡ index
  index_of-cell_word = omega arith

  pub index_in-cell_word : index_in (cell_word index code payload) ≡ index
  index_in-cell_word = index_of-cell_word

  pub code_of-cell_word : cell_word index code payload / 2 ^ 20 % 2 ^ 4 ≡ code
  code_of-cell_word = omega arith

  pub payload_of-cell_word : cell_word index code payload % 2 ^ 20 ≡ payload
  payload_of-cell_word = omega arith

-- cell words are equal exactly where their parts are
pub cell_word-injective : (i j c d p q : ℕ) → c < 2 ^ 4 → d < 2 ^ 4 → p < 2 ^ 20 → q < 2 ^ 20
    → cell_word i c p ≡ cell_word j d q → (i ≡ j) × (c ≡ d) × (p ≡ q)
cell_word-injective i j c d p q c_fits d_fits p_fits q_fits same = (omega arith, omega arith, omega arith)

-- cell words with one low half have one code, whatever their indexes and payloads
pub cell_word-low_half : (i j c d p q : ℕ) → c < 2 ^ 4 → d < 2 ^ 4 → p < 2 ^ 20 → q < 2 ^ 20
    → cell_word i c p % 2 ^ 32 ≡ cell_word j d q % 2 ^ 32 → c ≡ d
cell_word-low_half i j c d p q c_fits d_fits p_fits q_fits same = omega arith

pub packed_cell-below : (w : CellWord) → CellFits w → packed_cell w < 2 ^ 64
packed_cell-below w fits = omega (arith, state_code-below w.state)

pub unpacked_cell-packed_cell : (w : CellWord) → CellFits w → unpacked_cell (packed_cell w) ≡ Some w
unpacked_cell-packed_cell w fits =
    let code_fits : state_code w.state < 2 ^ 4 = omega (arith, state_code-below w.state) in
    let within : nat_lt (packed_cell w) (2 ^ 64) ≡ true = lt-ltb _ _ (packed_cell-below w fits) in
    let index = index_of-cell_word w.index (state_code w.state) w.payload code_fits fits.payload in
    let code = code_of-cell_word w.index (state_code w.state) w.payload code_fits fits.payload in
    let payload = payload_of-cell_word w.index (state_code w.state) w.payload code_fits fits.payload in
    rw (within, code, state_of-state_code, index, payload)

pub IsPacking-unpacked_cell : (n : ℕ) (w : CellWord)
    → unpacked_cell n ≡ Some w → IsPacking CellFits packed_cell n w
IsPacking-unpacked_cell n w is = search (rules, state_of-state_code, state_code-below)

pub packed_cell-injective : (v w : CellWord) → CellFits v → CellFits w
    → packed_cell v ≡ packed_cell w → v ≡ w
packed_cell-injective = number_of-injective CellFits packed_cell unpacked_cell unpacked_cell-packed_cell

pub packed_cell-low_half : (v w : CellWord) → CellFits v → CellFits w
    → packed_cell v % 2 ^ 32 ≡ packed_cell w % 2 ^ 32 → v.state ≡ w.state
packed_cell-low_half v w v_fits w_fits same =
    let v_code = state_code-below v.state in
    let w_code = state_code-below w.state in
    let one_code : state_code v.state ≡ state_code w.state = omega arith in
    state_code-injective v.state w.state one_code
