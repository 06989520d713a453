use Rattle.cqs_work.specs.Hands.{at_hand}
use Rattle.cqs_work.specs.Stages.{stages_of}
use Rattle.cqs_work.specs.Works.{RunsOn}
use Rattle.cqs_work.proofs.Turning.{TurningOn}
use Rattle.cqs_work.proofs.turns.one_turn.Given as goal

abbrev pub invariant-loop-place : goal.invariant-loop-place
invariant-loop-place g l = record {
  on : TurningOn l.plan l.turn l.place (at_hand g.F.SharedFloor.shared g.G.Gate.begun g.G.Gate.ended l.initial.clerk)
      (at_hand g.F.SharedFloor.shared g.G.Gate.begun g.G.Gate.ended l.clerk) (stages_of l.initial.states)
      (stages_of l.states);
  runs : RunsOn l.plan (g.F.SharedFloor.shared l.clerk.floor) l.states;
}
