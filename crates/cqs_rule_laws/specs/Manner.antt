-- How the passes of a client use the queue: which of its steps they make.
use Rattle.std.specs.Prelude.{◌≡◌, Bool, true, false}
use Rattle.cqs_rule_laws.specs.declared.config.CancelMode.{CancelMode}
use Rattle.cqs_rule_laws.specs.declared.config.CancelMode.TheVariants.{Smart, Simple}
use Rattle.cqs_core.specs.QueueSteps as maker
use Rattle.cqs_core.specs.QueueSteps.{QueueStep, Makers, card_of}

-- How a wait leaves: its client is asked, in steps of its own; or resumes pass on in any case; or
-- at once, and the resume that comes ends there.
pub data Leaving : Type 0 where
  asks : Leaving
  passes_on : Leaving
  at_once : Leaving

-- What pays for a resumption beside the pass that owes it: nothing; what is owed further; an
-- element that the pass has.
pub data Source : Type 0 where
  owed : Source
  owed_further : Source
  elements : Source

pub record Manner : Type 0 where
  pub leaving : Leaving
  -- a pass draws from the door, or as it is idle
  pub has_door : Bool
  pub source : Source
  -- its resumes watch the values that they leave
  pub watches : Bool

-- a wait leaves by asking its client
abbrev pub Asks : Leaving → Type 0
Asks asks = Unit {0}
Asks passes_on = ⊥
Asks at_once = ⊥

abbrev pub PassesOn : Leaving → Type 0
PassesOn asks = ⊥
PassesOn passes_on = Unit {0}
PassesOn at_once = ⊥

abbrev pub IsAtOnce : Leaving → Type 0
IsAtOnce asks = ⊥
IsAtOnce passes_on = ⊥
IsAtOnce at_once = Unit {0}

-- the mode of a queue whose waits leave so
abbrev pub mode_for : Leaving → CancelMode
mode_for asks = Smart
mode_for passes_on = Smart
mode_for at_once = Simple

-- in smart mode resumes pass over the cells of those who left
abbrev pub IsSmart : Leaving → Type 0
IsSmart asks = Unit {0}
IsSmart passes_on = Unit {0}
IsSmart at_once = ⊥

abbrev pub OwesFurther : Source → Type 0
OwesFurther owed = ⊥
OwesFurther owed_further = Unit {0}
OwesFurther elements = ⊥

abbrev pub HasElements : Source → Type 0
HasElements owed = ⊥
HasElements owed_further = ⊥
HasElements elements = Unit {0}

-- a client of this manner is one of these
abbrev pub IsOneOf : Manner → Makers → Type 0
IsOneOf m maker.each_client = Unit {0}
IsOneOf m maker.without_door = m.has_door ≡ false
IsOneOf m maker.with_debts = OwesFurther m.source
IsOneOf m maker.with_elements = HasElements m.source
IsOneOf m maker.in_smart_mode = IsSmart m.leaving
IsOneOf m maker.who_ask = Asks m.leaving
IsOneOf m maker.who_pass_on = PassesOn m.leaving
IsOneOf m maker.who_leave_at_once = IsAtOnce m.leaving
IsOneOf m maker.who_leave = m.watches ≡ false
IsOneOf m maker.who_delegate = IsSmart m.leaving × (m.watches ≡ false)
IsOneOf m maker.who_watch = m.watches ≡ true

-- the steps that a client of this manner makes
abbrev pub Suits : Manner → QueueStep → Type 0
Suits m s = IsOneOf m (card_of s).makers
