-- What a client tells the rule of itself.
use Rattle.std.specs.Prelude.{ℕ, Bool, List, Option}
use Rattle.cqs_core.specs.QueueSteps.{QueueStep}
use Rattle.cqs_rule_laws.specs.declared.view.Has.{Has}
use Rattle.cqs_rule_laws.specs.declared.view.Opening.{Opening}
use Rattle.cqs_rule_laws.specs.Hidden.{Hidden, Gains}
use Rattle.cqs_rule_laws.specs.Manner.{Manner}

-- Its object, the same for each table of its kind.
pub record Object (E : Type 0) : Type 1 where
  -- does the entry name this pass
  pub names : ℕ → E → Bool
  -- the histories that an object allows which opened so
  pub legal : Opening → List E → Type 0
  -- the entries of a step of the queue, by the pass, the number and the payload
  pub entries : QueueStep → ℕ → ℕ → ℕ → List E
  pub gains : Gains
  -- the value slot that an entry gives away, if it gives one away
  pub gives : E → Option ℕ
  -- the most that one pass holds, by what the object opened with
  pub most : Opening → ℕ
  -- what holds of all that one pass has, by what the object opened with
  pub knows : Opening → Has → Type 0

-- What one client of that kind is made with.
pub record Primitive (E S : Type 0) : Type 1 where
  pub opening : Opening
  -- its words, the history and the values handed in go with what is hidden
  pub shows : Hidden → List ℕ → List E → List (ℕ × S) → Type 0
  pub manner : Manner
  -- the opening values of its words
  pub words : List ℕ
  -- the largest limit of a queue that it is made with
  pub most_limit : ℕ
  -- how many values stand in cells at first, and what the first pass holds
  pub values : ℕ
  pub held : ℕ
  -- a pass that has this may open the value slot of this number
  pub opens : Has → ℕ → Type 0
