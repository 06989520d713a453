use Rattle.std.proofs.Common.{arith, refl}
use Rattle.cqs_check.proofs.Breaks.{wait-spoiled}
use Rattle.cqs_check.proofs.Judgments.{among-there, among-some, some-in_line}
use Rattle.cqs_check.proofs.judge.Judge.spoil_wait.Goals as goal

pub take_out-requires-clause-stands : goal.take_out-requires-clause-stands
take_out-requires-clause-stands c =
    let there = among-there c.args.self.now.table _ _ _ c.requires.among in rw there refl

pub returns : goal.returns
returns c =
    let there = among-there c.args.self.now.table _ _ _ c.requires.among in
    let way = among-some c.args.self.now.table _ _ _ c.requires.among in
    let line = some-in_line c.args.self.now _ _ c.requires.judge there in
    wait-spoiled c.args.self.now _ c.args.wait c.args.owner c.requires.judge c.requires.among c.take_out.ensures
    c.in_ok-add_drawn.ensures.set c.in_ok-add_drawn.ensures.early refl (omega (arith, way)) refl
    (omega (arith, line)) refl
