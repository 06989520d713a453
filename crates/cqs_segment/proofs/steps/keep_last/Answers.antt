use Rattle.cqs_rule_laws.proofs.Retiring.{keeps-last}
use Rattle.cqs_segment.proofs.steps.keep_last.Goals as goal

pub load_at-word-requires-clause-allowed : goal.load_at-word-requires-clause-allowed
load_at-word-requires-clause-allowed g c =
    let C = g.C.ClientWords in
    let k = c.args.words.now.key in
    keeps-last C.object (C.primitive k.client) k.passes k.limit _ _ _ c.requires.walker.one

pub returns-clause-bare : goal.returns-clause-bare
returns-clause-bare g c = c.load_at-word.ensures.told.1
