-- One number of a resumption where waits leave at once: what its load of a hole is, and that it finds one.
use Rattle.std.proofs.Common.{true, ◌≡◌, ℕ, ◌<◌, ◌≤◌, List, [], sym, refl, ap, ◌∙◌, subst, ⊎_elim, arith}
use Rattle.cqs_core.specs.declared.cells.CoreState.{CoreState}
use Rattle.cqs_core.specs.declared.cells.CoreState.TheVariants as state
use Rattle.cqs_core.specs.declared.doings.Doing.TheVariants as doing
use Rattle.cqs_core.specs.QueueCells.{rank}
use Rattle.cqs_core.specs.QueueSound.{IsUnended}
use Rattle.cqs_core.specs.QueueSteps.{row_of, ends_missed}
use Rattle.cqs_words.specs.declared.cell.CellState.{CellState}
use Rattle.cqs_words.specs.declared.cell.CellState.TheVariants as shown
use Rattle.cqs_words.specs.declared.cell.CellWord.{CellWord}
use Rattle.cqs_rule_laws.specs.declared.config.CancelMode.TheVariants.{Simple}
use Rattle.cqs_rule_laws.specs.Manner.{asks, at_once, IsAtOnce, Leaving, mode_for, passes_on}
use Rattle.cqs_rule_laws.specs.declared.view.Glimpse.{Glimpse}
use Rattle.cqs_rule_laws.specs.declared.view.Opening.{Opening}
use Rattle.cqs_rule_laws.specs.declared.view.View.{View}
use Rattle.cqs_rule_laws.specs.Exchanges.{HasCell, SinceLast, IsFoundSince}
use Rattle.cqs_rule_laws.specs.Hidden.{Gains}
use Rattle.cqs_rule_laws.specs.Loads.{misses}
use Rattle.cqs_rule_laws.specs.Object.{Object, Primitive}
use Rattle.cqs_rule_laws.specs.Ruled.{shown_state}
use Rattle.cqs_rule_laws.specs.Saw.{WasFound}
use Rattle.cqs_rule_laws.proofs.CellSteps.{shown-injective}
use Rattle.cqs_cell.specs.Looks.{LooksAt}
use Rattle.cqs_resume.specs.AtOnce.{IsPlain, ShowsPlain}
use Rattle.cqs_rule_laws.specs.Settling.{duties_then}
use Rattle.cqs_cell.proofs.Worked.{worked-looked}
use Rattle.cqs_resume.proofs.OneNumber.{Tried, WorkedBy, IsEndBy, idles, worked-now}

-- a hole ends the resumption
pub end-missed : (gains : Gains) (k : ℕ) → IsEndBy gains (row_of ends_missed) state.Cancelled doing.Idle [] k
end-missed gains k = record {
  finds = refl;
  told = refl;
  facts = λ n payload f. idles f (duties_then true k f.duties) k n;
}

-- what an open ticket's cell is that was tried as neither empty nor with its waiter
tried-rank : (x : CoreState) → IsUnended x → (shown_state x ≡ shown.Empty → ⊥) → (shown_state x ≡ shown.Waiter → ⊥)
    → 2 ≤ rank x
tried-rank state.Empty may empty waiter = absurd (empty refl)
tried-rank state.Waiter may empty waiter = absurd (waiter refl)
tried-rank state.Cancelling may empty waiter = omega arith
tried-rank state.Cancelled may empty waiter = omega arith
tried-rank state.Refused may empty waiter = omega arith
tried-rank state.Value may empty waiter = absurd may
tried-rank state.Taken may empty waiter = absurd may
tried-rank state.Broken may empty waiter = absurd may
tried-rank state.Resumed may empty waiter = absurd may
tried-rank state.Delegated may empty waiter = absurd may

-- one that has come so far is a hole
is-hole : (x : CoreState) → IsUnended x → IsPlain x → 2 ≤ rank x → (shown_state x ≡ shown.Cancelled → ⊥) → ⊥
is-hole state.Cancelled may plain far other = other refl
is-hole state.Empty may plain far other = omega arith
is-hole state.Waiter may plain far other = omega arith
is-hole state.Cancelling may plain far other = plain
is-hole state.Refused may plain far other = plain
is-hole state.Value may plain far other = may
is-hole state.Taken may plain far other = may
is-hole state.Broken may plain far other = may
is-hole state.Resumed may plain far other = may
is-hole state.Delegated may plain far other = may

-- where waits leave at once the mode is simple
pub simple-mode : (l : Leaving) → IsAtOnce l → mode_for l ≡ Simple
simple-mode asks once = absurd once
simple-mode passes_on once = absurd once
simple-mode at_once once = refl

module _ {C E S : Type 0} (object : Object E) (primitive : C → Primitive E S) where
  -- what was found of a cell is plain
  plain-found : (opening : Opening) (g : Glimpse) (es : List E) (w : View E S) → ShowsPlain primitive opening
      → w.opening ≡ opening → WasFound primitive (HasCell g) es w → IsPlain g.state
  plain-found opening g es w plain same found =
      let was = found.was in
      subst IsPlain was.holds.0
      (plain.each was.client was.hidden was.words found.before was.handed (was.opening_is ∙ same) was.shown g.number)

  -- a look at a cell that was found neither empty nor with its waiter finds a hole
  pub looks-missed : (opening : Opening) (k n : ℕ) (state : CellState) (cell : CellWord) (v u w : View E S)
      → ShowsPlain primitive opening → w.opening ≡ opening → Tried object primitive k n state v u
      → (state ≡ shown.Empty → ⊥) → (state ≡ shown.Waiter → ⊥)
      → LooksAt object primitive misses k u cell w → (cell.state ≡ shown.Cancelled → ⊥) → ⊥
  looks-missed opening k n state cell v u w plain same t empty waiter l cancelled =
      let g : Glimpse = l.looked.glimpse in
      let since : IsFoundSince g t.glimpse = subst (SinceLast g) t.last l.looked.since in
      let far : 2 ≤ rank t.glimpse.state =
      tried-rank t.glimpse.state t.may (λ e. empty (sym t.state_is ∙ e)) (λ e. waiter (sym t.state_is ∙ e)) in
      let farther : 2 ≤ rank g.state = ⊎_elim
      (λ (same : (g.state ≡ t.glimpse.state) × (g.payload ≡ t.glimpse.payload)).
      let is : rank g.state ≡ rank t.glimpse.state = ap rank same.0 in omega arith)
      (λ (more : rank t.glimpse.state < rank g.state). omega arith)
      (since.since (l.looked.number ∙ sym t.number)) in
      is-hole g.state l.looked.may (plain-found opening g _ w plain same l.looked.was) farther
      (λ e. cancelled (sym l.shows.state ∙ e))

  -- the load of a hole is the step that ends there
  pub worked-missed : (k : ℕ) (cell : CellWord) (u w : View E S) → (l : LooksAt object primitive misses k u cell w)
      → cell.state ≡ shown.Cancelled → WorkedBy object primitive ends_missed k u w
  worked-missed k cell u w l is =
      worked-now object primitive ends_missed _ k _ u w
      (worked-looked object primitive misses ends_missed _ k cell u w refl l
      (shown-injective l.looked.glimpse.state state.Cancelled (l.shows.state ∙ is)) refl)
