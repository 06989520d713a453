-- A caller of a latch between two calls, and the waits of its pass after each.
use Rattle.std.proofs.Common.{◌≡◌, ℕ, List, Option, Some, None, Result, Ok, Err, false}
use Rattle.std.specs.Option.{is_some}
use Rattle.cqs_rule_laws.specs.declared.config.AcquireError.{AcquireError}
use Rattle.cqs_rule_laws.specs.declared.config.AcquireError.TheVariants as error
use Rattle.cqs_rule_laws.specs.declared.config.CancelMode.{CancelMode}
use Rattle.cqs_rule_laws.specs.declared.config.CancelMode.TheVariants.{Smart, Simple}
use Rattle.cqs_rule_laws.specs.declared.view.Facts.{Facts}
use Rattle.cqs_rule_laws.specs.declared.view.View.{View}
use Rattle.cqs_rule_laws.specs.Lists.{without}
use Rattle.cqs_latch_object.specs.declared.entries.LatchEntry.{LatchEntry}
use Rattle.cqs_latch.specs.declared.answers.Down.{Down}
use Rattle.cqs_latch.specs.declared.answers.Down.TheVariants as down
use Rattle.cqs_latch.specs.declared.answers.LatchLeft.{LatchLeft}
use Rattle.cqs_latch.specs.declared.answers.LatchLeft.TheVariants.{Gone, GoneOwing, TooLate}
use Rattle.cqs_latch.specs.declared.answers.LatchWait.TheVariants.{Passed}
use Rattle.cqs_latch.specs.declared.answers.Owed.{Owed}
use Rattle.cqs_latch.specs.Answers.{HasWaited, Passes, Waits}
use Rattle.cqs_rule_laws.specs.CallRule.{IsReady}
use Rattle.cqs_latch.specs.CountAnswers.{Counts, HasCounted, Finishes, HasFinished}
use Rattle.cqs_latch.specs.LeftAnswers.{HasLeft, LeftSo}
use Rattle.cqs_latch.specs.Waking.{Ending}
use Rattle.cqs_c_latch_callers.specs.LatchCallers.{OwesJust}

-- a caller who has no token of resumptions owes none where its pass is ready
pub owes-none : (f : Facts) (o : Option Owed) → false ≡ is_some o → IsReady f → OwesJust f o
owes-none f None e ready = ready
owes-none f (Some u) e ready = absurd (cc)

module _ {T : Type 0} (v w : View LatchEntry T) where
  -- a wait that was over at once, or refused, left the waits as they were
  passes-waits : (drew : Option ℕ) → Passes v drew w → w.facts.waits ≡ v.facts.waits
  passes-waits None told = told.1.waits_are
  passes-waits (Some k) told = told.3.waits_are

  pub passed-waits : HasWaited v (Ok Passed) w → w.facts.waits ≡ v.facts.waits
  passed-waits told = passes-waits told.0 told.2

  refusal-waits : (drew : Option ℕ) (e : AcquireError) → Waits v drew (Err e) w → w.facts.waits ≡ v.facts.waits
  refusal-waits drew error.Worn told = told.2.waits_are
  refusal-waits drew error.Crowded told = told.2.waits_are

  pub refused-waits : (e : AcquireError) → HasWaited v (Err e) w → w.facts.waits ≡ v.facts.waits
  refused-waits e told = refusal-waits told.0 e told.2

  -- a cancel took its own wait from them
  so-waits : (mode : CancelMode) (k : ℕ) (left : LatchLeft) (ends : List Ending) → LeftSo mode k v left ends w
      → w.facts.waits ≡ without k v.facts.waits
  so-waits Smart k Gone ends told = told.2.waits_are
  so-waits Simple k Gone ends told = told.2.waits_are
  so-waits Smart k (GoneOwing owed) ends told = told.7
  so-waits Simple k (GoneOwing owed) ends told = absurd told
  so-waits Smart k TooLate ends told = told.2.waits_are
  so-waits Simple k TooLate ends told = told.2.waits_are

  pub left-waits : (mode : CancelMode) (k : ℕ) (left : LatchLeft) → HasLeft mode k v left w
      → w.facts.waits ≡ without k v.facts.waits
  left-waits mode k left told = so-waits mode k left told.0 told.2

  -- a count down and the end of what it owes left them as they were
  counts-waits : (answer : Down) (ends : List Ending) → Counts v answer ends w → w.facts.waits ≡ v.facts.waits
  counts-waits down.Already ends told = told.2.waits_are
  counts-waits (down.Left left) ends told = told.3.waits_are
  counts-waits down.Last ends told = told.3.waits_are
  counts-waits (down.LastOwing owed) ends told = told.5.waits_are

  pub counted-waits : (answer : Down) → HasCounted v answer w → w.facts.waits ≡ v.facts.waits
  counted-waits answer told = counts-waits answer told.0 told.2

  finishes-waits : (owed : Owed) (answer : Result (Unit {0}) Owed) (ends : List Ending) → Finishes owed v answer ends w
      → w.facts.waits ≡ v.facts.waits
  finishes-waits owed (Ok done) ends told = told.7.waits_are
  finishes-waits owed (Err again) ends told = told.0.waits_are

  pub finished-waits : (owed : Owed) (answer : Result (Unit {0}) Owed) → HasFinished owed v answer w
      → w.facts.waits ≡ v.facts.waits
  finished-waits owed answer told = finishes-waits owed answer told.0 told.2
