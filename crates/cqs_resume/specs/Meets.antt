-- What becomes of one number: the resume ends at its cell, or passes over it.
use Rattle.std.specs.Prelude.{◌≡◌, ◌⊎◌, ℕ, ◌+◌, ◌≤◌, List, [], ◌∷◌, ◌++◌, length, Some, None, Result, Ok, Err}
use Rattle.cqs_core.specs.declared.cells.CoreState.{CoreState}
use Rattle.cqs_core.specs.declared.cells.CoreState.TheVariants as state
use Rattle.cqs_core.specs.declared.doings.Doing.{Doing}
use Rattle.cqs_core.specs.declared.doings.Doing.TheVariants as doing
use Rattle.cqs_core.specs.QueueSteps.{QueueStep, serves, leaves, delegates, passes_over, ends_refused}
use Rattle.cqs_rule_laws.specs.declared.client.ClientWords.{Ghosts}
use Rattle.cqs_rule.specs.declared.queue.Pass.{Pass}
use Rattle.cqs_rule_laws.specs.declared.view.Facts.{Facts}
use Rattle.cqs_rule_laws.specs.declared.view.Glimpse.{Glimpse}
use Rattle.cqs_rule_laws.specs.declared.view.Sighting.{Sighting}
use Rattle.cqs_rule_laws.specs.declared.view.Spare.{Spare}
use Rattle.cqs_rule_laws.specs.declared.view.Sighting.TheVariants.{Cell}
use Rattle.cqs_rule_laws.specs.declared.view.View.{View}
use Rattle.cqs_rule_laws.specs.Exchanges.{FoundCell, HasCell}
use Rattle.cqs_rule_laws.specs.Jumped.{AreOut}
use Rattle.cqs_rule_laws.specs.Object.{Object, Primitive}
use Rattle.cqs_rule.specs.declared.queue.tokens.Under as token
use Rattle.cqs_rule.specs.Owed.{HasUnder, under_payload, under_reached, under_ticket}
use Rattle.cqs_rule.specs.Passes.{pass_view}
use Rattle.cqs_rule_laws.specs.Saw.{Saw, WasFound}
use Rattle.cqs_find.specs.Finds.{IsCrowded, IsSearch, Searched}
use Rattle.cqs_rule.specs.Counting.{counted_after}
use Rattle.cqs_resume.specs.Counting.{duties_after, looked_after, settles_at}
use Rattle.cqs_resume.specs.declared.resumed.Resumed.{Resumed}
use Rattle.cqs_resume.specs.declared.resumed.Resumed.TheVariants.{Served, Left, Refused, Under}

-- the pass is at this after the step s at the number k, has passed over these numbers besides,
-- found these words and heads, and has these slots spare
abbrev pub facts_met : QueueStep → ℕ → Doing → List ℕ → List Sighting → List (ℕ × ℕ) → List Spare
    → Facts → Facts
facts_met s k at over found heads spares f = record f {
  spare_slots = spares;
  doing = at;
  last = None;
  looked = looked_after s f.looked;
  passed = f.passed ++ over;
  duties = duties_after s k f.duties;
  heads = f.heads ++ heads;
  found = f.found ++ found;
}

-- the cell of the number k in this state, with this payload
abbrev pub cell_of : ℕ → CoreState → ℕ → Glimpse
cell_of k state payload = record { number = k; state = state; payload = payload }

module _ {C E S : Type 0} (object : Object E) (primitive : C → Primitive E S) where
  -- The step s was made at the cell of the number k, which it found in this state, after a search
  -- for it and at most four exchanges that weren't made. If it settled the cell, that is counted,
  -- and by that at most one head was found.
  pub record Met (s : QueueStep) (state : CoreState) (at : Doing) (over : List ℕ) (payload k : ℕ)
      (v w : View E S) : Type 0 where
    pub tried : List Sighting
    pub heads : List (ℕ × ℕ)
    pub few : length tried ≤ 4
    pub spares : List Spare
    pub search : IsSearch k v heads spares
    pub word : ℕ
    pub left : ℕ
    pub cell : FoundCell word (cell_of k state left)
    pub counted : List (ℕ × ℕ)
    pub few_counted : length counted ≤ 1
    pub saw : Saw object v (counted_after (settles_at s) counted
        (facts_met s k at over (tried ++ Cell k word ∷ []) heads spares v.facts))
        (object.entries s v.number k payload) w
    pub was : WasFound primitive (HasCell (cell_of k state left))
        (object.entries s v.number k payload) w

  -- The number's segment isn't made, and there was no slot for it. The pass keeps the ticket, and
  -- owes the resumption.
  pub record HeldBack (payload k : ℕ) (v : View E S) (under : token.Under) (w : View E S) : Type 0
    where
      pub crowded : IsCrowded k v w
      pub searched : Searched object k v w
      pub payload_is : under_payload under ≡ payload
      pub ticket_is : under_ticket under ≡ Some k
      pub reached_is : under_reached under ≡ v.facts.reached
      pub has : HasUnder w.facts under

  -- The number was passed over, and all from there to the next one that is answered were taken out;
  -- or the resume ended there, by the state that the cell was found in; or it was handed back.
  abbrev pub Meets : ℕ → ℕ → View E S → Result Resumed ℕ → View E S → Type 0
  Meets payload k v (Err next) w =
      Met passes_over state.Cancelled doing.Owes (k ∷ []) payload k v w × AreOut (k + 1) next w
  Meets payload k v (Ok (Served n)) w =
      (n ≡ k) × Met serves state.Waiter doing.Idle [] payload k v w
  Meets payload k v (Ok (Left n)) w =
      (n ≡ k) × (Met leaves state.Empty doing.Idle [] payload k v w
      ⊎ Met delegates state.Cancelling doing.Idle [] payload k v w)
  Meets payload k v (Ok (Refused n)) w =
      (n ≡ k) × Met ends_refused state.Refused doing.Idle [] payload k v w
  Meets payload k v (Ok (Under under)) w = HeldBack payload k v under w

module _ {C S E : Type 0} {g : Ghosts C S E} where
  abbrev pub HasMet : ℕ → ℕ → Pass C S E g → Result Resumed ℕ → Pass C S E g → Type 0
  HasMet payload k p result p' =
      Meets g.object g.primitive payload k (pass_view p) result (pass_view p')
