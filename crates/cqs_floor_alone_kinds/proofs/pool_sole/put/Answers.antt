use Rattle.std.proofs.Common.{subst}
use Rattle.cqs_rule.specs.Passes.{pass_view}
use Rattle.cqs_floor_alone_kinds.specs.PoolEnds.{HasEnded}
use Rattle.cqs_floor_alone_kinds.proofs.PoolPlaced.{placed-then}
use Rattle.cqs_floor_alone_kinds.proofs.pool_sole.put.Goals as goal

pub returns-in-Ok-Under-clause-placed : goal.returns-in-Ok-Under-clause-placed
returns-in-Ok-Under-clause-placed c =
    let v = pass_view c.args.pass.now in
    let w = pass_view c.put.new.pass in
    let x = pass_view c.finish.new.pass in
    let put = c.in-Ok-Under in
    let ends = rw put.field-0-is at put.ensures.ends in
    placed-then _ c.finish.result v w x c.requires.alone (rw put.field-0-is at put.ensures.called)
    ends.elements_are ends.waits_are
    (subst (λ e. HasEnded e c.finish.result w x) ends.brings c.finish.ensures.ended)
