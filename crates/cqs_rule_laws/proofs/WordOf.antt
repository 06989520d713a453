-- One word is that of one cell.
use Rattle.std.proofs.Common.{◌≡◌, ℕ, ◌<◌, ◌^◌, sym, refl, ap, ◌∙◌, arith}
use Rattle.cqs_core.specs.declared.cells.CoreState.{CoreState}
use Rattle.cqs_core.specs.declared.cells.CoreState.TheVariants as state
use Rattle.cqs_words.specs.declared.cell.CellState.{CellState}
use Rattle.cqs_words.specs.declared.cell.CellState.TheVariants as shown
use Rattle.cqs_words.specs.Cell.{state_code}
use Rattle.cqs_words.proofs.CellLaws.{state_code-below, state_code-injective, cell_word-injective}
use Rattle.cqs_rule_laws.specs.Ruled.{shown_state, word_of}

-- the state that a word's state stands for
back_state : CellState → CoreState
back_state shown.Empty = state.Empty
back_state shown.Waiter = state.Waiter
back_state shown.Value = state.Value
back_state shown.Taken = state.Taken
back_state shown.Broken = state.Broken
back_state shown.Resumed = state.Resumed
back_state shown.Cancelling = state.Cancelling
back_state shown.Delegated = state.Delegated
back_state shown.Cancelled = state.Cancelled
back_state shown.Refused = state.Refused

back-shown : (s : CoreState) → back_state (shown_state s) ≡ s
unfolding back_state
back-shown state.Empty = refl
back-shown state.Waiter = refl
back-shown state.Value = refl
back-shown state.Taken = refl
back-shown state.Broken = refl
back-shown state.Resumed = refl
back-shown state.Cancelling = refl
back-shown state.Delegated = refl
back-shown state.Cancelled = refl
back-shown state.Refused = refl

-- a word's state is that of one state
pub shown-injective : (s t : CoreState) → shown_state s ≡ shown_state t → s ≡ t
shown-injective s t same = sym (back-shown s) ∙ (ap back_state same ∙ back-shown t)

-- one word is that of one cell
pub word_of-injective : (j k : ℕ) (s t : CoreState) (p q : ℕ) → p < 2 ^ 20 → q < 2 ^ 20 → word_of j s p ≡ word_of k t q
    → (j ≡ k) × (s ≡ t) × (p ≡ q)
word_of-injective j k s t p q p_fits q_fits same =
    let low = state_code-below (shown_state s) in
    let low' = state_code-below (shown_state t) in
    let parts = cell_word-injective j k (state_code (shown_state s)) (state_code (shown_state t)) p q (omega arith)
    (omega arith) p_fits q_fits same in
    let states : shown_state s ≡ shown_state t = state_code-injective (shown_state s) (shown_state t) parts.1 in
    (parts.0, shown-injective s t states, parts.2)
