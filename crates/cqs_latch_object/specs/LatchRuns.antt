-- Runs of a latch: steps of the queue and of its words, by any of its passes, one after the other.
use Rattle.std.specs.Prelude.{ℕ, ◌<◌, ◌==◌, Bool, List, [], ◌∷◌, replicate, Option, pos}
use Rattle.cqs_core.specs.declared.cells.CoreCell.{CoreCell}
use Rattle.cqs_core.specs.QueueOpening.{opened_queue}
use Rattle.cqs_core.specs.QueueSteps.{QueueStep, row_of, IsOpenStep}
use Rattle.cqs_latch_object.specs.LatchShown.{LatchShape, IsLatchCore}
use Rattle.cqs_latch_object.specs.LatchSteps.{IsLatchStep, cost_of, IsPaid, after_queue_step}
use Rattle.cqs_latch_object.specs.LatchWords.{WordStep, IsOpenWord, after_word_step}

-- a latch as it is made
abbrev pub first_shape : Bool → ℕ → ℕ → LatchShape
first_shape simple size passes = record {
  simple = simple;
  size = size;
  count = pos size;
  word = 0;
  done = size == 0;
  owed = replicate passes 0;
  history = [];
  queue = opened_queue 0 passes;
}

pub data Step : Type 0 where
  on_queue : (step : QueueStep) (pass number : ℕ) (found : Option CoreCell) → Step
  on_words : (step : WordStep) (pass : ℕ) → Step

-- where a step may be made
abbrev pub MayMake : LatchShape → Step → Type 0
MayMake s (on_queue step p k found) =
    IsLatchStep s.simple step × IsOpenStep s.queue step p k found
    × IsPaid (cost_of (row_of step)) s.owed p
MayMake s (on_words w p) = IsOpenWord s w p

abbrev pub after_step : LatchShape → Step → LatchShape
after_step s (on_queue step p k found) = after_queue_step s step p k found
after_step s (on_words w p) = after_word_step s w p

-- where each may be made, one after the other; and the latch after them
abbrev pub MayRun : LatchShape → List Step → Type 0
MayRun s [] = Unit {0}
MayRun s (t ∷ steps) = MayMake s t × MayRun (after_step s t) steps

abbrev pub run : LatchShape → List Step → LatchShape
run s [] = s
run s (t ∷ steps) = run (after_step s t) steps

-- the law of the latch: whatever steps are made from the opening, by however many passes, its
-- history is legal, and it shows the object after it
abbrev pub EveryRunIsLegal : Type 0
EveryRunIsLegal =
    (simple : Bool) (size passes : ℕ) → 0 < passes → (steps : List Step)
    → MayRun (first_shape simple size passes) steps
    → IsLatchCore (run (first_shape simple size passes) steps)
