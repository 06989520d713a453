use Rattle.std.proofs.Common.{[], refl, ◌∙◌}
use Rattle.cqs_latch.specs.Latch.{latch_object}
use Rattle.cqs_rule.specs.Passes.{pass_view}
use Rattle.cqs_floor_shared_any.proofs.LatchCalls.{finished-on, finished-waits}
use Rattle.cqs_floor_shared_kinds.proofs.Runs.{went-none, went-then}
use Rattle.cqs_floor_shared_any.proofs.kinds.latch.finish.Goals as goal

pub returns-in-Ok-clause-went : goal.returns-in-Ok-clause-went
returns-in-Ok-clause-went g c =
    went-then latch_object _ _ _ [] [] c.loop.invariant.went
    (finished-on c.loop.owed (pass_view c.loop.pass) (pass_view c.finish.new.pass) c.finish.result
    c.finish.ensures.finished)

pub loop-preserved : goal.loop-preserved
loop-preserved g c = record {
  mine = c.finish.ensures.belongs;
  owes = c.in-Err.ensures.owes;
  went = went-then latch_object _ _ _ [] [] c.loop.invariant.went
      (finished-on c.loop.owed (pass_view c.loop.pass) (pass_view c.finish.new.pass) c.finish.result
      c.finish.ensures.finished);
  waits = finished-waits c.loop.owed c.in-Err.again (pass_view c.loop.pass) (pass_view c.finish.new.pass)
      c.in-Err.ensures.finished
      ∙ c.loop.invariant.waits;
}

pub loop-init : goal.loop-init
loop-init g c = record {
  mine = c.requires.mine;
  owes = c.requires.owes;
  went = went-none latch_object (pass_view c.args.pass.now) c.requires.mine.live.legal;
  waits = refl;
}
