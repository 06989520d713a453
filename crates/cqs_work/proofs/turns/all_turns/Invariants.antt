use Rattle.cqs_work.specs.Courses.{Went}
use Rattle.cqs_work.specs.Hands.{at_hand}
use Rattle.cqs_work.specs.Heard.{Hears}
use Rattle.cqs_work.specs.Stages.{stages_of}
use Rattle.cqs_work.specs.Works.{machine_so, turns_of, RunsOn}
use Rattle.cqs_work.proofs.turns.all_turns.Given as goal

abbrev pub invariant-loop-turn : goal.invariant-loop-turn
invariant-loop-turn g l = record {
  heard : Hears (at_hand g.F.SharedFloor.shared g.G.Gate.begun g.G.Gate.ended l.initial.clerk)
      (at_hand g.F.SharedFloor.shared g.G.Gate.begun g.G.Gate.ended l.clerk)
      (turns_of l.plan l.turn (stages_of l.initial.states)) (machine_so (stages_of l.states));
  runs : RunsOn l.plan (g.F.SharedFloor.shared l.clerk.floor) l.states;
  went : Went l.plan (at_hand g.F.SharedFloor.shared g.G.Gate.begun g.G.Gate.ended l.initial.clerk)
      (stages_of l.initial.states) (at_hand g.F.SharedFloor.shared g.G.Gate.begun g.G.Gate.ended l.clerk)
      (stages_of l.states);
}
