use Rattle.cqs_work.specs.Stages.{stages_of}
use Rattle.cqs_work.specs.Works.{turns_of}
use Rattle.cqs_work.proofs.Coursing.{went-none, went-then}
use Rattle.cqs_work.proofs.HeardLemmas.{hears-none}
use Rattle.cqs_work.proofs.Turning.{next-turn}
use Rattle.cqs_work.proofs.turns.all_turns.Goals as goal

pub loop-turn-init : goal.loop-turn-init
loop-turn-init g c = record {
  heard = hears-none _ (turns_of c.args.plan.now 0 (stages_of c.args.states.now));
  runs = c.requires.runs;
  went = went-none c.args.plan.now _ (stages_of c.args.states.now);
}

pub loop-turn-preserved : goal.loop-turn-preserved
loop-turn-preserved g c = record {
  heard = next-turn c.args.plan.now c.loop-turn.turn _ _ _ _ _ _ c.loop-turn.invariant.heard
      c.in_ok-one_turn.ensures.heard;
  runs = c.in_ok-one_turn.ensures.runs;
  went = went-then c.args.plan.now _ _ _ _ _ _ c.loop-turn.invariant.heard.later c.loop-turn.invariant.went
      c.in_ok-one_turn.ensures.went;
}
