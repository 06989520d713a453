-- What becomes of one number in a synchronous queue: the resume ends at its cell, leaves it to its
-- canceller, or passes over it.
use Rattle.std.specs.Prelude.{◌≡◌, ◌⊎◌, ℕ, ◌+◌, ◌≤◌, List, [], ◌∷◌, ◌++◌, length, Some, Result, Ok, Err}
use Rattle.cqs_core.specs.declared.cells.CoreState.TheVariants as state
use Rattle.cqs_core.specs.declared.doings.Doing.TheVariants as doing
use Rattle.cqs_core.specs.QueueSteps.{reaches, serves, passes_over, ends_refused, in_sync, leaves_watched}
use Rattle.cqs_rule_laws.specs.declared.client.ClientWords.{Ghosts}
use Rattle.cqs_rule.specs.declared.queue.Pass.{Pass}
use Rattle.cqs_rule.specs.declared.queue.tokens.Under as token
use Rattle.cqs_rule_laws.specs.declared.view.Facts.{Facts}
use Rattle.cqs_rule_laws.specs.declared.view.Sighting.{Sighting}
use Rattle.cqs_rule_laws.specs.declared.view.Sighting.TheVariants.{Cell}
use Rattle.cqs_rule_laws.specs.declared.view.Spare.{Spare}
use Rattle.cqs_rule_laws.specs.declared.view.View.{View}
use Rattle.cqs_rule_laws.specs.Exchanges.{FoundCell, HasCell}
use Rattle.cqs_rule_laws.specs.Jumped.{AreOut}
use Rattle.cqs_rule_laws.specs.Object.{Object, Primitive}
use Rattle.cqs_rule_laws.specs.Saw.{Saw, WasFound}
use Rattle.cqs_rule.specs.Owed.{HasUnder, under_payload, under_reached, under_ticket}
use Rattle.cqs_rule.specs.Passes.{pass_view}
use Rattle.cqs_find.specs.Finds.{IsSearch}
use Rattle.cqs_resume.specs.Meets.{facts_met, cell_of, HeldBack, Met}
use Rattle.cqs_resume.specs.Watching.{HasBroken, SawTaken}
use Rattle.cqs_resume.specs.declared.sync_resumed.SyncResumed.{SyncResumed}
use Rattle.cqs_resume.specs.declared.sync_resumed.SyncResumed.TheVariants.{Served, Refused, Broke, Handling, Under}

-- A pass at these facts that keeps the ticket of k, whose cell it found last to have a canceller in
-- it, by this word and with this payload. It found these heads and has these slots spare.
abbrev pub facts_kept : ℕ → List Sighting → ℕ → ℕ → List (ℕ × ℕ) → List Spare → Facts → Facts
facts_kept k tried word left heads spares f =
    record (facts_met reaches k (doing.Ticket k) [] (tried ++ Cell k word ∷ []) heads spares f)
    { last = Some (cell_of k state.Cancelling left) }

module _ {C E S : Type 0} (object : Object E) (primitive : C → Primitive E S) where
  -- The value was left in the empty cell of the number k, and the pass was at this then. Of what it
  -- watched there this holds.
  pub record MetThen (Then : View E S → View E S → Type 0) (payload k : ℕ) (v w : View E S)
      : Type 0 where
    pub from : View E S
    pub met : Met object primitive (in_sync leaves_watched) state.Empty (doing.Watching k) []
        payload k v from
    pub then : Then from w

  -- An exchange found the cell of the number k with its canceller, after a search for it and at
  -- most four others that weren't made either. The pass keeps the ticket, and owes the resumption.
  pub record MetCanceller (payload k : ℕ) (v : View E S) (under : token.Under) (w : View E S)
      : Type 0 where
    pub tried : List Sighting
    pub heads : List (ℕ × ℕ)
    pub few : length tried ≤ 4
    pub spares : List Spare
    pub search : IsSearch k v heads spares
    pub word : ℕ
    pub left : ℕ
    pub cell : FoundCell word (cell_of k state.Cancelling left)
    pub saw : Saw object v (facts_kept k tried word left heads spares v.facts) [] w
    pub was : WasFound primitive (HasCell (cell_of k state.Cancelling left)) [] w
    pub payload_is : under_payload under ≡ payload
    pub ticket_is : under_ticket under ≡ Some k
    pub reached_is : under_reached under ≡ v.facts.reached
    pub has : HasUnder w.facts under

  -- The number was passed over, and all from there to the next one that is answered were taken out;
  -- or the resume ended there, by the state that the cell was found in and what became of a value
  -- that it left; or it was handed back.
  abbrev pub SyncMeets : ℕ → ℕ → View E S → Result SyncResumed ℕ → View E S → Type 0
  SyncMeets payload k v (Err next) w =
      Met object primitive passes_over state.Cancelled doing.Owes (k ∷ []) payload k v w
      × AreOut (k + 1) next w
  SyncMeets payload k v (Ok (Served n)) w =
      (n ≡ k) × (Met object primitive serves state.Waiter doing.Idle [] payload k v w
      ⊎ MetThen (SawTaken object primitive k) payload k v w)
  SyncMeets payload k v (Ok (Refused n)) w =
      (n ≡ k) × Met object primitive ends_refused state.Refused doing.Idle [] payload k v w
  SyncMeets payload k v (Ok (Broke n)) w =
      (n ≡ k) × MetThen (HasBroken object primitive k) payload k v w
  SyncMeets payload k v (Ok (Handling n under)) w = (n ≡ k) × MetCanceller payload k v under w
  SyncMeets payload k v (Ok (Under under)) w = HeldBack object primitive payload k v under w

module _ {C S E : Type 0} {g : Ghosts C S E} where
  abbrev pub HasSyncMet : ℕ → ℕ → Pass C S E g → Result SyncResumed ℕ → Pass C S E g → Type 0
  HasSyncMet payload k p result p' =
      SyncMeets g.object g.primitive payload k (pass_view p) result (pass_view p')
