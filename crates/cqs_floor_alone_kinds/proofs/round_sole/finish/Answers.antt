use Rattle.std.proofs.Common.{◌∙◌}
use Rattle.cqs_rule.specs.Passes.{pass_view}
use Rattle.cqs_floor_alone_kinds.proofs.RoundEnding.{ending-begins, ending-ends, ending-goes_on}
use Rattle.cqs_floor_alone_kinds.proofs.round_sole.finish.Goals as goal

pub loop-again-init : goal.loop-again-init
loop-again-init c = record {
  mine = c.requires.mine;
  owes = c.requires.owes;
  ending = ending-begins (pass_view c.args.pass.now);
  reached = c.reached-reached.ensures;
}

pub loop-again-preserved : goal.loop-again-preserved
loop-again-preserved c =
    let l = c.loop-again.invariant in
    let how = rw c.in-Err.is at c.finish.ensures.finished in
    let plain = (rw c.in-Err.is at c.finish.ensures.alone) (l.ending.same.alone ∙ c.requires.alone) in
    let (ks, f, back, owes) = how in record {
      mine = c.finish.ensures.belongs;
      owes = owes;
      ending = ending-goes_on c.in-Err.again (pass_view c.args.pass.now) (pass_view c.loop-again.pass)
          (pass_view c.finish.new.pass) l.ending c.requires.alone how plain;
      reached = c.reached-reached-in-Err.ensures;
    }

pub returns-in-Ok-clause-served : goal.returns-in-Ok-clause-served
returns-in-Ok-clause-served c =
    let l = c.loop-again.invariant in
    let how = rw c.in-Ok.is at c.finish.ensures.finished in
    let plain = (rw c.in-Ok.is at c.finish.ensures.alone) (l.ending.same.alone ∙ c.requires.alone) in
    ending-ends (pass_view c.args.pass.now) (pass_view c.loop-again.pass) (pass_view c.finish.new.pass) l.ending
    c.requires.alone how plain
