use Rattle.std.proofs.Common.{arith, refl}
use Rattle.cqs_check.proofs.Judgments.{some-in_line}
use Rattle.cqs_check.proofs.Collects.{drops-out}
use Rattle.cqs_check.proofs.judge.Judge.drop_out.Goals as goal

pub returns : goal.returns
returns c =
    let line = some-in_line c.args.self.now _ _ c.requires.judge c.requires.stands in
    drops-out c.args.self.now _ c.args.caller c.args.wait c.requires.judge c.requires.stands c.take_out.ensures refl
    refl refl (omega (arith, line)) refl refl

pub overflow_sub-self : goal.overflow_sub-self
overflow_sub-self c =
    let line = some-in_line c.args.self.now _ _ c.requires.judge c.requires.stands in omega (arith, line)
