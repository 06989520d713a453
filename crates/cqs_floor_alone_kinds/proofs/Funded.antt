-- A core that has room for all that can still come has it after each call.
use Rattle.std.proofs.Common.{◌≡◌, ℕ, ◌+◌, ◌*◌, ◌≤◌, ◌∙◌, arith}
use Rattle.std.specs.Prelude.{slice_index}
use Rattle.cqs_core.specs.declared.calls.Call.{Call}
use Rattle.cqs_core.specs.declared.calls.Reply.{Reply}
use Rattle.cqs_core.specs.SemaphoreAnswers.{Room}
use Rattle.cqs_core.specs.Resting.{IsResting}
use Rattle.cqs_floor_alone_kinds.specs.SoleCore.{HasMade, IsFunded, IsReady}
use Rattle.cqs_floor_alone_kinds.proofs.SoleCells.{sole-rests}

pub funded-next : (core after : Room) (c : Call) (answer : Reply) (size r w h s v i : ℕ)
    → IsFunded core size r w h
    → HasMade core c answer after → after.shape.queue.suspends + s ≤ core.shape.queue.suspends + r
    → 9 * s + 6 * v + 3 * i + 3 ≤ 9 * r + 6 * w + 3 * h → slice_index after.shape.held 0 ≡ i
    → IsFunded after size s v i
funded-next core after c answer size r w h s v i funded made numbers less holds = record {
  sole = made.sole;
  permits = made.call.permits ∙ funded.permits;
  numbers = omega (arith, funded.numbers, numbers);
  spare = omega (arith, funded.spare, made.spare, less);
  holds = holds;
}

pub funded-rests : (core : Room) (size r w h : ℕ) → IsFunded core size r w h → IsResting core.shape
funded-rests core size r w h funded = sole-rests core.shape funded.sole (omega (arith, funded.numbers))

-- one more call can be made
pub funded-ready : (core : Room) (size r w h : ℕ) → IsFunded core size r w h
    → 3 ≤ 9 * r + 6 * w + 3 * h → IsReady core
funded-ready core size r w h funded some = record {
  sole = funded.sole;
  numbers = omega (arith, funded.numbers);
  room = omega (arith, funded.spare, some);
}
