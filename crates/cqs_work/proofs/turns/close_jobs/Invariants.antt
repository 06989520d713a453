use Rattle.cqs_work.specs.Hands.{at_hand}
use Rattle.cqs_work.proofs.Closing.{ClosingOn}
use Rattle.cqs_work.proofs.turns.close_jobs.Given as goal

abbrev pub invariant-loop-place : goal.invariant-loop-place
invariant-loop-place g l =
    ClosingOn l.plan l.place (at_hand g.F.SharedFloor.shared g.G.Gate.begun g.G.Gate.ended l.initial.clerk)
    (at_hand g.F.SharedFloor.shared g.G.Gate.begun g.G.Gate.ended l.clerk)
    l.initial.states l.states
