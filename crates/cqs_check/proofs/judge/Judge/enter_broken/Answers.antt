use Rattle.std.proofs.Common.{refl}
use Rattle.cqs_check.proofs.Breaks.{broken-entered, early-there}
use Rattle.cqs_check.proofs.judge.Judge.enter_broken.Goals as goal

pub draw-requires-clause-early : goal.draw-requires-clause-early
draw-requires-clause-early c =
    early-there c.args.self.now c.args.wait c.requires.judge c.requires.next c.requires.broken

pub returns : goal.returns
returns c =
    broken-entered c.args.self.now _ c.args.caller c.args.wait c.requires.judge c.requires.next c.requires.there
    c.requires.broken c.pass_over.ensures c.go.ensures c.draw.ensures.set c.draw.ensures.early refl refl refl refl
