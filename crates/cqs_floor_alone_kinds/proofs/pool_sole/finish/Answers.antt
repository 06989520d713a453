use Rattle.cqs_rule.specs.Passes.{pass_view}
use Rattle.cqs_floor_alone_kinds.proofs.PoolPlaced.{ends-free, ends-on, ends-sent}
use Rattle.cqs_floor_alone_kinds.proofs.pool_sole.finish.Goals as goal

pub returns-in-Sent-clause-ended : goal.returns-in-Sent-clause-ended
returns-in-Sent-clause-ended c =
    let l = c.loop-number in
    let ending = l.invariant.ending in
    ends-sent _ (pass_view c.args.pass.now) (pass_view l.pass) (pass_view c.finish.new.pass) l.under ending
    c.in-Sent.number c.in-Sent.ensures.called c.in-Sent.ensures.ends (c.in-Sent.ensures.alone ending.alone ending.can)

pub returns-in-Left-clause-ended : goal.returns-in-Left-clause-ended
returns-in-Left-clause-ended c =
    let l = c.loop-number in
    let ending = l.invariant.ending in
    ends-free _ (pass_view c.args.pass.now) (pass_view l.pass) (pass_view c.finish.new.pass) l.under ending
    c.in-Left.field-0 c.in-Left.ensures.called c.in-Left.ensures.ends (c.in-Left.ensures.alone ending.alone ending.can)

pub loop-number-preserved : goal.loop-number-preserved
loop-number-preserved c =
    let l = c.loop-number in
    let ending = l.invariant.ending in record {
      mine = c.finish.ensures.belongs;
      ending = ends-on _ (pass_view c.args.pass.now) (pass_view l.pass) (pass_view c.finish.new.pass) l.under ending
          c.in-Under.next c.in-Under.ensures.called c.in-Under.ensures.ends
          (c.in-Under.ensures.alone ending.alone ending.can);
      reached = c.reached-reached-in-Under.ensures;
    }
