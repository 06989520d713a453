use Rattle.cqs_segment.proofs.Allowed.{see-allowed}
use Rattle.cqs_segment.proofs.steps.see_head.Goals as goal

pub load_at-requires-clause-allowed : goal.load_at-requires-clause-allowed
load_at-requires-clause-allowed g c =
    let C = g.C.ClientWords in
    let k = c.args.words.now.key in
    see-allowed C.object (C.primitive k.client) k.passes k.limit _ _ _ _ c.args.slot c.head_at.ensures
    c.requires.walker.one c.requires.low

pub returns-clause-seen : goal.returns-clause-seen
returns-clause-seen g c = c.load_at.ensures.told.0 c.args.slot c.head_at.ensures

pub returns-clause-bare : goal.returns-clause-bare
returns-clause-bare g c = c.load_at.ensures.told.1
