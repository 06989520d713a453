use Rattle.cqs_segment.proofs.Allowed.{head-allowed}
use Rattle.cqs_segment.proofs.steps.load_head.Goals as goal

pub load_at-requires-clause-allowed : goal.load_at-requires-clause-allowed
load_at-requires-clause-allowed g c =
    let C = g.C.ClientWords in
    let k = c.args.words.now.key in
    head-allowed C.object (C.primitive k.client) k.passes k.limit _ _ _ (g.met.C.ClientWords.keeps k.client) _
    c.args.slot c.head_at.ensures
    c.requires.walker.one c.requires.low

pub returns-clause-loaded : goal.returns-clause-loaded
returns-clause-loaded g c = c.load_at.ensures.told.0 c.args.slot c.head_at.ensures

pub returns-clause-bare : goal.returns-clause-bare
returns-clause-bare g c = c.load_at.ensures.told.1
