use Rattle.std.proofs.Common.{arith}
use Rattle.cqs_check.proofs.Going.{going-next, next-fits}
use Rattle.cqs_check.proofs.counts.Counts.before.Goals as goal

pub overflow_add-total : goal.overflow_add-total
overflow_add-total c =
    let fits = next-fits c.args.self.now _ _ _ _ _ c.requires.tree c.requires.low c.levels.invariant
    c.levels-test.true c.beside-total.ensures in
    omega (arith, fits, c.levels.auto.total-fits)

pub levels-preserved : goal.levels-preserved
levels-preserved c = going-next c.args.self.now _ _ _ _ _ c.requires.tree c.levels.invariant c.levels-test.true
    c.beside-total.ensures
