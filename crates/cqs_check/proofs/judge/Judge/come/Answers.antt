use Rattle.std.proofs.Common.{arith, refl}
use Rattle.cqs_check.proofs.Judgments.{come-judged}
use Rattle.cqs_check.proofs.judge.Judge.come.Goals as goal

pub returns : goal.returns
returns c =
    come-judged c.args.self.now _ c.args.caller c.requires.judge
    (omega (arith, c.if-self-gt0.false)) c.in_ok-come.ensures.ok refl refl refl refl refl refl
