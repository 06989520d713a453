use Rattle.std.proofs.Common.{None, refl, arith}
use Rattle.cqs_rule.specs.Passes.{pass_view}
use Rattle.cqs_resume.proofs.Leaping.{leapt-by}
use Rattle.cqs_resume.proofs.jumping.leap.Goals as goal

pub returns-then-from-to-clause-leapt : goal.returns-then-from-to-clause-leapt
returns-then-from-to-clause-leapt g c =
    leapt-by g.C.ClientWords.object g.C.ClientWords.primitive c.args.from c.args.to c.jump.result
    (pass_view c.args.pass.now) (pass_view c.jump.new.pass) c.if-from-to.true c.jump.ensures.jumped
    c.jump.ensures.missed

pub returns-else-from-to-clause-leapt : goal.returns-else-from-to-clause-leapt
returns-else-from-to-clause-leapt g c =
    let none = c.if-from-to.false in (None, refl, omega arith)
