-- What the queue calls back: whether a waiter leaves the line, and where a resumption ended that
-- found it refused.
use Rattle.std.specs.Prelude.{◌≡◌, ◌⊎◌, ℕ, Bool, true, List, [], ◌∷◌, ◌++◌}
use Rattle.cqs_core.specs.declared.cells.CoreState.TheVariants as state
use Rattle.cqs_core.specs.declared.doings.Doing.TheVariants as doing
use Rattle.cqs_rule_laws.specs.declared.client.ClientWords.{Ghosts}
use Rattle.cqs_rule.specs.declared.queue.Pass.{Pass}
use Rattle.cqs_rule.specs.declared.queue.Queue.{Queue}
use Rattle.cqs_rule_laws.specs.declared.view.Facts.{Facts}
use Rattle.cqs_rule_laws.specs.declared.view.Sighting.{Sighting}
use Rattle.cqs_rule_laws.specs.declared.view.Sighting.TheVariants.{Cell}
use Rattle.cqs_rule_laws.specs.declared.view.View.{View}
use Rattle.cqs_rule_laws.specs.Events.{Event, Moved, moment, in_any_case}
use Rattle.cqs_rule_laws.specs.Exchanges.{FoundCell}
use Rattle.cqs_rule_laws.specs.Layout.{client_place}
use Rattle.cqs_rule_laws.specs.Manner.{Manner, Asks}
use Rattle.cqs_rule_laws.specs.Object.{Object, Primitive}
use Rattle.cqs_rule.specs.Passes.{pass_view, client_of}

-- How a client is asked whether a waiter leaves the line: by one step on this word of its own,
-- which shows this event; not at all, since resumes pass on in any case, which is decided as the
-- leaving begins; or by itself, in calls of its own that may have to be made again.
pub data Asking (E : Type 0) : Type 0 where
  by_step : (word : ℕ) (event : Event E) → Asking E
  as_it_begins : Asking E
  by_itself : Asking E

-- the queue asks it, by a step
abbrev pub IsAsked : {E : Type 0} → Asking E → Type 0
IsAsked (by_step word event) = Unit {0}
IsAsked as_it_begins = ⊥
IsAsked by_itself = ⊥

-- a pass at these facts may ask for the waiter of the number k
abbrev pub MayAsk : {E : Type 0} → Asking E → Manner → Facts → ℕ → Type 0
MayAsk (by_step word event) manner facts k = Asks manner.leaving × (facts.doing ≡ doing.Leaving k)
MayAsk as_it_begins manner facts k = facts.doing ≡ doing.Decided k true
MayAsk by_itself manner facts k = facts.doing ≡ doing.Leaving k

module _ {C E S : Type 0} (object : Object E) (primitive : C → Primitive E S) where
  -- The client was asked for the waiter of the number k, by the one step, and what that found
  -- decides so.
  pub record Answered (word : ℕ) (event : Event E) (k : ℕ) (answer : Bool) (v w : View E S)
      : Type 0 where
    pub found : ℕ
    pub moved : Moved object primitive event in_any_case (client_place word) v found w
    pub decided : event.doing (moment v.opening v.number v.facts in_any_case found)
        ≡ doing.Decided k answer

  -- Else no step was made.
  abbrev pub AnsweredBy : Asking E → ℕ → Bool → View E S → View E S → Type 0
  AnsweredBy (by_step word event) k answer v w = Answered word event k answer v w
  AnsweredBy as_it_begins k answer v w = (answer ≡ true) × (w ≡ v)
  AnsweredBy by_itself k answer v w = w ≡ v

module _ {C S E : Type 0} {g : Ghosts C S E} where
  -- the pass has begun to leave the wait of the number k, and may ask
  abbrev pub HasBegun : Asking E → Queue C S E → Pass C S E g → ℕ → Type 0
  HasBegun asking q p k = MayAsk asking (g.primitive (client_of q)).manner (pass_view p).facts k

  -- it asked, and was answered so
  abbrev pub HasAnswered : Asking E → ℕ → Bool → Pass C S E g → Pass C S E g → Type 0
  HasAnswered asking k answer p p' =
      AnsweredBy g.object g.primitive asking k answer (pass_view p) (pass_view p')

-- A resumption of this payload has just ended at a cell whose waiter was refused: its resume found
-- the cell so, or the canceller found there what was left to it.
pub record EndedRefused (facts : Facts) (payload : ℕ) : Type 0 where
  pub idle : facts.doing ≡ doing.Idle
  pub number : ℕ
  pub word : ℕ
  pub before : List Sighting
  pub last : facts.found ≡ before ++ Cell number word ∷ []
  pub cell : ((left : ℕ)
      × FoundCell word (record { number = number; state = state.Refused; payload = left })
      × (facts.has.payload ≡ payload))
      ⊎ FoundCell word (record { number = number; state = state.Delegated; payload = payload })
