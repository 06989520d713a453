use Rattle.cqs_rule_laws.proofs.SegmentSteps.{loads-tail}
use Rattle.cqs_segment.proofs.steps.load_tail.Goals as goal

pub load_at-word-requires-clause-allowed : goal.load_at-word-requires-clause-allowed
load_at-word-requires-clause-allowed g c =
    let C = g.C.ClientWords in
    let k = c.args.words.now.key in
    loads-tail C.object (C.primitive k.client) k.passes k.limit (g.met.C.ClientWords.keeps k.client) _ _ _
    c.requires.walker.one

pub returns-clause-bare : goal.returns-clause-bare
returns-clause-bare g c = c.load_at-word.ensures.told.1
