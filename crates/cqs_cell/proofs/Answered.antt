-- The word that was found tells of the cell.
use Rattle.std.proofs.Common.{◌≡◌, ◌≢◌, ◌⊎◌, inl, inr, ℕ, ◌/◌, ◌%◌, ◌^◌, ◌<◌, Bool, true, false, Option, Some, None, sym, refl, ap, ◌∙◌, subst, ⊎_elim, arith, eq-eqb, ne_eqb, if◌then◌else◌}
use Rattle.std.specs.Prelude.{nat_lt}
use Rattle.std.specs.Option.{option_map}
use Rattle.std.proofs.lemmas.Option.{same_Some}
use Rattle.cqs_core.specs.declared.cells.CoreState.TheVariants as state
use Rattle.cqs_core.specs.QueueCells.{rank}
use Rattle.cqs_words.specs.declared.cell.CellState.{CellState}
use Rattle.cqs_words.specs.declared.cell.CellWord.{CellWord}
use Rattle.cqs_words.specs.Cell.{cell_in, index_in, state_of, unpacked_cell}
use Rattle.cqs_words.proofs.CellLaws.{unpacked_cell-packed_cell}
use Rattle.cqs_rule_laws.specs.declared.view.Glimpse.{Glimpse}
use Rattle.cqs_rule_laws.specs.Exchanges.{FoundCell, WatchedCell}
use Rattle.cqs_rule_laws.specs.Ruled.{shown_state, word_of}
use Rattle.cqs_rule_laws.proofs.CellsStand.{word-number}
use Rattle.cqs_cell.specs.Found.{cell_found, cell_gone, Shows}
use Rattle.cqs_cell.specs.Looks.{HasLeft}

-- a word that unpacks to a cell holds its number
unpacked-index : (n : ℕ) (cell : CellWord) → unpacked_cell n ≡ Some cell → cell.index ≡ index_in n
unpacked-index n cell is = by (nat_lt n (2 ^ 64)) (state_of (n / 2 ^ 20 % 2 ^ 4)) is
  where
    by : (b : Bool) (s : Option CellState) → (if b then option_map (cell_in n) s else None) ≡ Some cell
        → cell.index ≡ index_in n
    by true (Some s) e = sym (ap (λ (c : CellWord). c.index) (same_Some _ cell e))
    by true None e = absurd (cc)
    by false s e = absurd (cc)

-- the cell that a glimpse shows
abbrev pub cell_shown : Glimpse → CellWord
cell_shown g = record { index = g.number; state = shown_state g.state; payload = g.payload }

-- its word unpacks to it
unpacks : (n : ℕ) (g : Glimpse) → n ≡ word_of g.number g.state g.payload → g.number < 2 ^ 40 → g.payload < 2 ^ 20
    → unpacked_cell n ≡ Some (cell_shown g)
unpacks n g word low fits =
    ap unpacked_cell word ∙ unpacked_cell-packed_cell (cell_shown g) (record { index = low; payload = fits })

-- and by it that cell is answered
pub its-own : (n : ℕ) (g : Glimpse) → n ≡ word_of g.number g.state g.payload → g.number < 2 ^ 40 → g.payload < 2 ^ 20
    → cell_found g.number (unpacked_cell n) ≡ cell_shown g
its-own n g word low fits =
    ap (cell_found g.number) (unpacks n g word low fits)
    ∙ ap (λ b. if b then cell_shown g else cell_gone g.number) (eq-eqb g.number g.number refl)

shows-own : (n : ℕ) (g : Glimpse) → n ≡ word_of g.number g.state g.payload → g.number < 2 ^ 40 → g.payload < 2 ^ 20
    → Shows n g (cell_found g.number (unpacked_cell n))
shows-own n g word low fits =
    subst (Shows n g) (sym (its-own n g word low fits)) (record { index = refl; state = refl; payload = λ own. refl })

-- by the word of a later number none is
gone : (n k : ℕ) → k < index_in n → cell_found k (unpacked_cell n) ≡ cell_gone k
gone n k later = by (unpacked_cell n) refl
  where
    by : (o : Option CellWord) → unpacked_cell n ≡ o → cell_found k o ≡ cell_gone k
    by None e = refl
    by (Some cell) e =
        let at = unpacked-index n cell e in
        ap (λ b. if b then cell else cell_gone k) (ne_eqb cell.index k (λ same. absurd (omega arith)))

pub shows-found : (n : ℕ) (g : Glimpse) → FoundCell n g → Shows n g (cell_found g.number (unpacked_cell n))
shows-found n g f = ⊎_elim
    (λ (word : n ≡ word_of g.number g.state g.payload). shows-own n g word f.number f.fits)
    (λ (left : (g.state ≡ state.Cancelled) × (g.number < index_in n)).
    subst (Shows n g) (sym (gone n g.number left.1)) (record {
      index = refl;
      state = ap shown_state left.0;
      payload = λ own. let later = left.1 in absurd (omega arith);
    }))
    f.word

pub tells-watched : (n : ℕ) (g : Glimpse) → WatchedCell n g
    → Shows n g (cell_found g.number (unpacked_cell n)) ⊎ HasLeft n g (cell_found g.number (unpacked_cell n))
tells-watched n g f = ⊎_elim
    (λ (word : n ≡ word_of g.number g.state g.payload). inl (shows-own n g word f.number f.fits))
    (λ (left : (rank g.state ≡ 4) × (g.number < index_in n)).
    inr (record { settled = left.0; later = left.1; gone = gone n g.number left.1 }))
    f.word

-- a cell that isn't cancelled was found by its own word
pub word-found : (n : ℕ) (g : Glimpse) → FoundCell n g → g.state ≢ state.Cancelled
    → n ≡ word_of g.number g.state g.payload
word-found n g f other = ⊎_elim (λ word. word)
    (λ (left : (g.state ≡ state.Cancelled) × (g.number < index_in n)). absurd (other left.0)) f.word

-- so the word holds its number
pub number-found : (n : ℕ) (g : Glimpse) → FoundCell n g → g.state ≢ state.Cancelled → index_in n ≡ g.number
number-found n g f other = ap index_in (word-found n g f other) ∙ word-number g.number g.state g.payload f.fits

-- and so was one whose number the word holds
pub word-of-number : (n : ℕ) (g : Glimpse) → FoundCell n g → index_in n ≡ g.number
    → n ≡ word_of g.number g.state g.payload
word-of-number n g f same = ⊎_elim (λ word. word)
    (λ (left : (g.state ≡ state.Cancelled) × (g.number < index_in n)). absurd (omega arith)) f.word

-- what the word unpacks to then
pub unpacks-found : (n : ℕ) (g : Glimpse) → FoundCell n g → g.state ≢ state.Cancelled
    → unpacked_cell n ≡ Some (cell_shown g)
unpacks-found n g f other = unpacks n g (word-found n g f other) f.number f.fits
