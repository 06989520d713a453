use Rattle.std.proofs.Common.{◌∙◌}
use Rattle.cqs_rule.specs.Passes.{pass_view}
use Rattle.cqs_floor_alone_kinds.proofs.LatchEnding.{ending-begins, ending-ends, ending-goes_on}
use Rattle.cqs_floor_alone_kinds.proofs.latch_sole.finish.Goals as goal

pub loop-again-init : goal.loop-again-init
loop-again-init c = record {
  mine = c.requires.mine;
  owes = c.requires.owes;
  ending = ending-begins (pass_view c.args.pass.now);
  reached = c.reached-reached.ensures;
}

pub loop-again-preserved : goal.loop-again-preserved
loop-again-preserved c =
    let l = c.loop-again.invariant in record {
      mine = c.finish.ensures.belongs;
      owes = c.in-Err.ensures.owes;
      ending = ending-goes_on c.loop-again.owed c.in-Err.again (pass_view c.args.pass.now)
          (pass_view c.loop-again.pass) (pass_view c.finish.new.pass) l.ending c.in-Err.ensures.finished
          (c.in-Err.ensures.alone_in_order (l.ending.same.alone ∙ c.requires.alone) c.requires.smart);
      reached = c.reached-reached-in-Err.ensures;
    }

pub returns-in-Ok-clause-served : goal.returns-in-Ok-clause-served
returns-in-Ok-clause-served c =
    let l = c.loop-again.invariant in
    let alone = l.ending.same.alone ∙ c.requires.alone in
    ending-ends c.loop-again.owed (pass_view c.args.pass.now) (pass_view c.loop-again.pass)
    (pass_view c.finish.new.pass) l.ending c.in-Ok.ensures.finished
    (c.in-Ok.ensures.alone_in_order alone c.requires.smart) (c.in-Ok.ensures.alone alone)
