-- When a future may be polled that waits for a permit or for what comes with one, and what may come
-- of it. Which passes are ready for a call of its object (`mine`), when one has a wait (`has`), and
-- what its calls gave (`arrives`, `pends`, `cancels`), each kind of future says.
use Rattle.std.specs.Prelude.{◌≡◌, Option, Some, None}

-- P is its pass, and W the token of a wait.
module _ {P W : Type 0} where
  -- The pass is ready, and has the wait, if there is one. A future that was ready has no pass any
  -- more, and may be polled.
  abbrev pub CanPoll : (P → Type 0) → (P → W → Type 0) → Option P → Option W → Type 0
  CanPoll mine has None wait = Unit {0}
  CanPoll mine has (Some p) None = mine p
  CanPoll mine has (Some p) (Some wait) = mine p × has p wait

  -- what may come of it: the pass again, and what was waited for or a refusal
  abbrev pub Gives : {X : Type 0} → (P → Type 0) → (P → Option W → X → P → Type 0) → Option P
      → Option W → P → X → Type 0
  Gives mine arrives None wait after got = ⊥
  Gives mine arrives (Some p) wait after got = mine after × arrives p wait got after

  -- the look of a poll was pending
  abbrev pub LookPended : (P → Option W → W → P → Type 0) → Option P → Option W
      → Option P → Option W → Type 0
  LookPended pends (Some p) wait (Some after) (Some again) = pends p wait again after
  LookPended pends (Some p) wait (Some after) None = ⊥
  LookPended pends (Some p) wait None again = ⊥
  LookPended pends None wait after again = ⊥

  -- the wait was given up, if there was one, by a cancel that did so
  abbrev pub GivesUp : {A : Type 0} → (P → W → A → P → Type 0) → P → Option W → P
      → Option A → Type 0
  GivesUp cancels p None after None = after ≡ p
  GivesUp cancels p (Some wait) after (Some answer) = cancels p wait answer after
  GivesUp cancels p None after (Some answer) = ⊥
  GivesUp cancels p (Some wait) after None = ⊥
