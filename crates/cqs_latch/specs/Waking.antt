-- The resumptions of a latch: how each ended, with which entries, and what they leave of the pass.
use Rattle.std.specs.Prelude.{◌≡◌, ◌⊎◌, ℕ, ◌+◌, ◌<◌, ◌≤◌, List, [], ◌∷◌, ◌++◌, length, Option, Some, None}
use Rattle.cqs_core.specs.declared.cells.CoreState.TheVariants as state
use Rattle.cqs_core.specs.QueueSteps.{begins}
use Rattle.cqs_latch_object.specs.declared.entries.LatchEntry.{LatchEntry}
use Rattle.cqs_latch_object.specs.declared.entries.LatchEntry.TheVariants as entry
use Rattle.cqs_resume.specs.declared.at_once.EndedAtOnce.{EndedAtOnce}
use Rattle.cqs_resume.specs.declared.at_once.EndedAtOnce.TheVariants as once
use Rattle.cqs_resume.specs.declared.resumed.Resumed.{Resumed}
use Rattle.cqs_resume.specs.declared.resumed.Resumed.TheVariants as resumed
use Rattle.cqs_resume.specs.AtOnce.{BegunAtOnce, DrewAndMet, FinishedAtOnce, FinishedOrHeld, MeetsOrHolds}
use Rattle.cqs_resume.specs.Begins.{Begun, BegunSo}
use Rattle.cqs_resume.specs.Resumes.{GoesOn, Resumes, most_passed_over}
use Rattle.cqs_rule.specs.declared.queue.tokens.Under.{Under}
use Rattle.cqs_rule_laws.specs.declared.view.View.{View}
use Rattle.cqs_rule_laws.specs.Causes.{PassedOver}
use Rattle.cqs_rule.specs.Claims.{WantsSlot}
use Rattle.cqs_rule.specs.Owed.{under_payload, under_ticket, under_reached}
use Rattle.cqs_latch.specs.declared.answers.Owed.{Owed}
use Rattle.cqs_latch.specs.Causes.{primitive_of, CellWas}
use Rattle.cqs_latch.specs.Latch.{latch_object}
use Rattle.cqs_latch.specs.Owed.{owed_under, owed_further}

-- The waiter of this number was served; the value was left at this number, for its suspend or for
-- its canceller; the waiter of this number had been refused to leave, and the resumption ended
-- there; or that waiter had left at once, and it ended there.
pub data Ending : Type 0 where
  served_at : (number : ℕ) → Ending
  left_at : (number : ℕ) → Ending
  refused_at : (number : ℕ) → Ending
  missed_at : (number : ℕ) → Ending

-- the number at which it ended
abbrev pub ending_number : Ending → ℕ
ending_number (served_at k) = k
ending_number (left_at k) = k
ending_number (refused_at k) = k
ending_number (missed_at k) = k

-- the resumption that a call hands back
abbrev pub handed_back : Resumed → Option Under
handed_back (resumed.Served k) = None
handed_back (resumed.Left k) = None
handed_back (resumed.Refused k) = None
handed_back (resumed.Under under) = Some under

abbrev pub handed_back_at_once : EndedAtOnce → Option Under
handed_back_at_once (once.Served k) = None
handed_back_at_once (once.Left k) = None
handed_back_at_once (once.Missed k) = None
handed_back_at_once (once.Under under) = Some under

-- The number that was drawn last for the resumptions of a pass, at first this, never falls; and
-- where one is handed back without a ticket, it has grown.
abbrev pub HasGrown : {T : Type 0} → ℕ → Option Under → View LatchEntry T → Type 0
HasGrown reached None w = reached ≤ w.facts.reached
HasGrown reached (Some under) w = under_ticket under ≡ None → reached < under_reached under

abbrev pub ending_entries : Ending → List LatchEntry
ending_entries (served_at k) = entry.Deliver k ∷ []
ending_entries (left_at k) = []
ending_entries (refused_at k) = []
ending_entries (missed_at k) = entry.Miss k ∷ []

-- those of resumptions that ended one after the other
abbrev pub woken_entries : List Ending → List LatchEntry
woken_entries [] = []
woken_entries (e ∷ es) = ending_entries e ++ woken_entries es

module _ {T : Type 0} where
  -- it ended so by the state that the cell was found in last
  abbrev pub EndsSo : Ending → View LatchEntry T → Type 0
  EndsSo (served_at k) w = CellWas state.Waiter k (entry.Deliver k ∷ []) w
  EndsSo (left_at k) w = CellWas state.Empty k [] w ⊎ CellWas state.Cancelling k [] w
  EndsSo (refused_at k) w = CellWas state.Refused k [] w
  EndsSo (missed_at k) w = CellWas state.Cancelled k (entry.Miss k ∷ []) w

  -- the next of the resumptions was begun, and ended so
  abbrev pub NextEnded : Ending → View LatchEntry T → View LatchEntry T → Type 0
  NextEnded (served_at k) v w =
      Begun latch_object primitive_of 0 v (resumed.Served k) w
      ⊎ BegunAtOnce latch_object primitive_of 0 v (once.Served k) w
  NextEnded (left_at k) v w =
      Begun latch_object primitive_of 0 v (resumed.Left k) w
      ⊎ BegunAtOnce latch_object primitive_of 0 v (once.Left k) w
  NextEnded (refused_at k) v w = Begun latch_object primitive_of 0 v (resumed.Refused k) w
  NextEnded (missed_at k) v w = BegunAtOnce latch_object primitive_of 0 v (once.Missed k) w

  -- why a call handed it back: it passed over as many numbers as one call may; or there was no slot
  -- for the segment of the number whose ticket it has
  abbrev pub IsHandedFor : Under → View LatchEntry T → View LatchEntry T → Type 0
  IsHandedFor under v w =
      ((under_ticket under ≡ None) × PassedOver most_passed_over v w) ⊎ WantsSlot under v w

  -- it was begun, in smart mode or in simple mode, and handed back
  abbrev pub NextHanded : Under → View LatchEntry T → View LatchEntry T → Type 0
  NextHanded under v w =
      BegunSo latch_object primitive_of 0 v (resumed.Under under) w
      ⊎ DrewAndMet latch_object primitive_of begins (MeetsOrHolds latch_object primitive_of) 0 v
      (once.Under under) w

  abbrev pub Next : View LatchEntry T → Option Under → View LatchEntry T → Type 0
  Next v None w = (e : Ending) × NextEnded e v w
  Next v (Some under) w = NextHanded under v w

  -- one that had been handed back went on, and ended so
  abbrev pub OnEnded : Under → Ending → View LatchEntry T → View LatchEntry T → Type 0
  OnEnded under (served_at k) v w =
      Resumes latch_object primitive_of most_passed_over (under_ticket under)
      (under_payload under) v (resumed.Served k) w
      ⊎ FinishedAtOnce latch_object primitive_of (under_ticket under) (under_payload under) v
      (once.Served k) w
  OnEnded under (left_at k) v w =
      Resumes latch_object primitive_of most_passed_over (under_ticket under)
      (under_payload under) v (resumed.Left k) w
      ⊎ FinishedAtOnce latch_object primitive_of (under_ticket under) (under_payload under) v
      (once.Left k) w
  OnEnded under (refused_at k) v w =
      Resumes latch_object primitive_of most_passed_over (under_ticket under)
      (under_payload under) v (resumed.Refused k) w
  OnEnded under (missed_at k) v w =
      FinishedAtOnce latch_object primitive_of (under_ticket under) (under_payload under) v
      (once.Missed k) w

  -- or was handed back again
  abbrev pub OnHanded : Under → Under → View LatchEntry T → View LatchEntry T → Type 0
  OnHanded under again v w =
      GoesOn latch_object primitive_of most_passed_over (under_ticket under)
      (under_payload under) v (resumed.Under again) w
      ⊎ FinishedOrHeld latch_object primitive_of (under_ticket under) (under_payload under) v
      (once.Under again) w

  abbrev pub On : Under → View LatchEntry T → Option Under → View LatchEntry T → Type 0
  On under v None w = (e : Ending) × OnEnded under e v w
  On under v (Some again) w = OnHanded under again v w

  -- so the resumptions were begun one after the other, and ended
  abbrev pub Woke : List Ending → View LatchEntry T → View LatchEntry T → Type 0
  Woke [] v w = w ≡ v
  Woke (e ∷ es) v w = (u : View LatchEntry T) × NextEnded e v u × Woke es u w

  -- as many as this ended; or one was handed back, and those after it weren't begun
  abbrev pub Wakes : ℕ → View LatchEntry T → Option Owed → View LatchEntry T → Type 0
  Wakes many v None w = (ends : List Ending) × (length ends ≡ many) × Woke ends v w
  Wakes many v (Some owed) w =
      (ends : List Ending) × (u : View LatchEntry T)
      × (length ends + 1 + owed_further owed ≡ many) × Woke ends v u
      × NextHanded (owed_under owed) u w
