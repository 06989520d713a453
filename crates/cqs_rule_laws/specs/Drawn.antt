-- How many numbers were drawn to resume at, as a pass knows that is alone, and what that says of a
-- cell.
use Rattle.std.specs.Prelude.{◌≡◌, ◌≢◌, ℕ, ◌+◌, ◌-◌, ◌<◌, ◌≤◌, ◌==◌, true, List, [], ◌∷◌, if◌then◌else◌}
use Rattle.cqs_core.specs.declared.cells.CoreState.{CoreState}
use Rattle.cqs_core.specs.declared.cells.CoreState.TheVariants as state
use Rattle.cqs_core.specs.declared.doings.Doing.TheVariants as doing
use Rattle.cqs_rule_laws.specs.declared.view.Sighting.{Sighting}
use Rattle.cqs_rule_laws.specs.declared.view.Sighting.TheVariants.{Cell, Word, Jump}
use Rattle.cqs_rule_laws.specs.declared.view.View.{View}
use Rattle.cqs_rule_laws.specs.Layout.{resumes_place}

-- How many numbers to resume at were drawn by the step that found this: one by a sum on the resume
-- counter, and by a jump that was made all that it passed over.
abbrev pub draws_of : Sighting → ℕ
draws_of (Cell number word) = 0
draws_of (Word place word) = if place == resumes_place then 1 else 0
draws_of (Jump from to word) = if word == from then to - from else 0

-- and by the steps that found these
abbrev pub draws_in : List Sighting → ℕ
draws_in [] = 0
draws_in (x ∷ xs) = draws_of x + draws_in xs

-- So many numbers were drawn to resume at, and no pass is on its way to the cell of the number k:
-- whether a resumption has come there, by the state of the cell.
abbrev pub HasCome : ℕ → ℕ → CoreState → Type 0
HasCome drawn k state.Empty = drawn ≤ k
HasCome drawn k state.Waiter = drawn ≤ k
HasCome drawn k state.Cancelling = drawn ≤ k
HasCome drawn k state.Value = k < drawn
HasCome drawn k state.Taken = k < drawn
HasCome drawn k state.Broken = k < drawn
HasCome drawn k state.Resumed = k < drawn
HasCome drawn k state.Delegated = k < drawn
HasCome drawn k state.Cancelled = Unit {0}
HasCome drawn k state.Refused = Unit {0}

module _ {E S : Type 0} where
  -- So many numbers were drawn to resume at, as the pass of this view knows: those that were when
  -- it was found to be alone, and those that it drew since.
  abbrev pub KnowsDrawn : View E S → ℕ → Type 0
  KnowsDrawn v n = n + v.drawn.own ≡ v.drawn.all + draws_in v.facts.found

  -- A pass that is alone and isn't itself on its way to the cell of the number k knows by what was
  -- drawn whether a resumption has come there, and finds the cell so.
  abbrev pub TellsCome : View E S → ℕ → CoreState → Type 0
  TellsCome v k found =
      v.alone ≡ true → v.facts.doing ≢ doing.Ticket k
      → (drawn : ℕ) × KnowsDrawn v drawn × HasCome drawn k found
