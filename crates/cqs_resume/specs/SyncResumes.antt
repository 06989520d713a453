-- What a resume of a synchronous queue answers: exactly the state in which its last cell was found,
-- and what became of the value that it left there.
use Rattle.std.specs.Prelude.{◌≡◌, ◌⊎◌, ℕ, ◌<◌, ◌≤◌, List, [], ◌∷◌, ◌++◌, Option, Some}
use Rattle.cqs_core.specs.declared.cells.CoreState.TheVariants as state
use Rattle.cqs_core.specs.declared.doings.Doing.TheVariants as doing
use Rattle.cqs_core.specs.QueueSteps.{reaches, serves, ends_refused, in_sync, leaves_watched}
use Rattle.cqs_rule_laws.specs.declared.client.ClientWords.{Ghosts}
use Rattle.cqs_rule.specs.declared.queue.Pass.{Pass}
use Rattle.cqs_rule.specs.declared.queue.tokens.Under as token
use Rattle.cqs_rule_laws.specs.declared.view.Facts.{Facts}
use Rattle.cqs_rule_laws.specs.declared.view.View.{View}
use Rattle.cqs_rule_laws.specs.Called.{Called}
use Rattle.cqs_rule_laws.specs.Exchanges.{HasCell}
use Rattle.cqs_rule_laws.specs.Object.{Object, Primitive}
use Rattle.cqs_rule_laws.specs.Saw.{WasFound}
use Rattle.cqs_rule.specs.Owed.{HasUnder, under_payload, under_reached, under_ticket}
use Rattle.cqs_rule.specs.Passes.{pass_view}
use Rattle.cqs_resume.specs.declared.resumed.Resumed.TheVariants as resumed
use Rattle.cqs_resume.specs.declared.sync_resumed.SyncResumed.{SyncResumed}
use Rattle.cqs_resume.specs.declared.sync_resumed.SyncResumed.TheVariants.{Served, Refused, Broke, Handling, Under}
use Rattle.cqs_resume.specs.Resumes.{AreLeapt, AreOver, CameTo, Ended, Held, Stopped}
use Rattle.cqs_resume.specs.Rounds.{Round, cell_in, draw_entries, drawn_in, facts_after_rounds, IsFoundIn, IsOpenedWith, numbers, over_entries}
use Rattle.cqs_resume.specs.Watching.{HasBroken, SawTaken}

-- A pass at these facts that keeps the ticket of k after these rounds, and found last that the cell
-- of k has a canceller in it.
abbrev pub facts_handling : ℕ → List Round → Round → Facts → Facts
facts_handling k over last f =
    record (facts_after_rounds reaches k (doing.Ticket k) (numbers over) (over ++ last ∷ []) f)
    { last = Some (cell_in state.Cancelling last) }

module _ {C E S : Type 0} (object : Object E) (primitive : C → Primitive E S) where
  -- The resume left its value in the cell of the number k, which it found empty, and the pass was
  -- at this then. Of what it watched there this holds.
  pub record LeftThen (Then : View E S → View E S → Type 0) (most : ℕ) (ticket : Option ℕ)
      (payload k : ℕ)
      (v w : View E S) : Type 0 where
    pub from : View E S
    pub left : CameTo object primitive (doing.Watching k) (in_sync leaves_watched) state.Empty most
        ticket payload k v from
    pub then : Then from w

  -- It came to the number k and found its canceller in the cell, by an exchange that wasn't made.
  -- The canceller is to end before the resumption goes on: the pass keeps the ticket, and has what
  -- it had. It passed over the numbers before, fewer than `most` of which it drew.
  pub record Handled (most : ℕ) (ticket : Option ℕ) (payload k : ℕ) (under : token.Under)
      (v w : View E S) : Type 0 where
    pub over : List Round
    pub last : Round
    pub number : last.number ≡ k
    pub opens : IsOpenedWith ticket (over ++ last ∷ [])
    pub few : drawn_in over < most
    pub are_over : AreOver primitive w over
    pub are_leapt : AreLeapt primitive w (over ++ last ∷ [])
    pub found : IsFoundIn state.Cancelling last
    pub was : WasFound primitive (HasCell (cell_in state.Cancelling last)) [] w
    pub called : Called object v
        (over_entries object v.number payload over
        ++ draw_entries object v.number payload last.drawn last.number)
        [] w
    pub facts_are : w.facts ≡ facts_handling k over last v.facts
    pub payload_is : under_payload under ≡ payload
    pub ticket_is : under_ticket under ≡ Some k
    pub has : HasUnder w.facts under
    pub reached : v.facts.reached ≤ under_reached under

  -- In an ample table a resume ends, or waits for a canceller to end, or is handed back once it
  -- has passed over as many numbers. It is served where it finds the waiter, and where the value
  -- is taken that it left.
  abbrev pub SyncResumes : ℕ → Option ℕ → ℕ → View E S → SyncResumed → View E S → Type 0
  SyncResumes most ticket payload v (Served k) w =
      Ended object primitive serves state.Waiter most ticket payload k v w
      ⊎ LeftThen (SawTaken object primitive k) most ticket payload k v w
  SyncResumes most ticket payload v (Refused k) w =
      Ended object primitive ends_refused state.Refused most ticket payload k v w
  SyncResumes most ticket payload v (Broke k) w =
      LeftThen (HasBroken object primitive k) most ticket payload k v w
  SyncResumes most ticket payload v (Handling k under) w =
      Handled most ticket payload k under v w
  SyncResumes most ticket payload v (Under under) w =
      Stopped object primitive most ticket payload under v w

  -- it was handed back for want of a slot, as in a queue that isn't synchronous
  abbrev pub SyncHeld : ℕ → ℕ → View E S → SyncResumed → View E S → Type 0
  SyncHeld most payload v (Under under) w =
      Held object primitive most payload v (resumed.Under under) w
  SyncHeld most payload v (Served k) w = ⊥
  SyncHeld most payload v (Refused k) w = ⊥
  SyncHeld most payload v (Broke k) w = ⊥
  SyncHeld most payload v (Handling k under) w = ⊥

  -- In any table it may be handed back for want of a slot too.
  abbrev pub SyncGoesOn : ℕ → Option ℕ → ℕ → View E S → SyncResumed → View E S → Type 0
  SyncGoesOn most ticket payload v result w =
      SyncResumes most ticket payload v result w ⊎ SyncHeld most payload v result w

module _ {C S E : Type 0} {g : Ghosts C S E} where
  -- a resumption of this payload went on, by at most so many numbers that it passed over, from an
  -- open ticket or none
  abbrev pub HasSyncResumed : ℕ → Option ℕ → ℕ → Pass C S E g → SyncResumed → Pass C S E g
      → Type 0
  HasSyncResumed most ticket payload p result p' =
      SyncResumes g.object g.primitive most ticket payload (pass_view p) result (pass_view p')

  abbrev pub HasSyncGoneOn : ℕ → Option ℕ → ℕ → Pass C S E g → SyncResumed → Pass C S E g
      → Type 0
  HasSyncGoneOn most ticket payload p result p' =
      SyncGoesOn g.object g.primitive most ticket payload (pass_view p) result (pass_view p')

-- Where the resumption was handed back, the last number that was drawn for it is greater than this;
-- where a canceller is to end first, it is no less.
abbrev pub IsSyncFurther : ℕ → SyncResumed → Type 0
IsSyncFurther reached (Served k) = Unit {0}
IsSyncFurther reached (Refused k) = Unit {0}
IsSyncFurther reached (Broke k) = Unit {0}
IsSyncFurther reached (Handling k under) = reached ≤ under_reached under
IsSyncFurther reached (Under under) = reached < under_reached under
