use Rattle.std.proofs.Common.{refl}
use Rattle.cqs_segment.proofs.Allowed.{number-allowed}
use Rattle.cqs_segment.proofs.steps.reset_count.Goals as goal

pub store_at-requires-clause-allowed : goal.store_at-requires-clause-allowed
store_at-requires-clause-allowed g c =
    let C = g.C.ClientWords in
    let k = c.args.words.now.key in
    number-allowed C.object (C.primitive k.client) k.passes k.limit _ _ _ _ _ c.args.slot c.args.after
    c.count_at.ensures refl c.requires.walker.one c.requires.last

pub returns-clause-reset : goal.returns-clause-reset
returns-clause-reset g c = c.store_at.ensures.told.0 c.args.slot c.args.after 33 c.requires.last

pub returns-clause-bare : goal.returns-clause-bare
returns-clause-bare g c = c.store_at.ensures.told.1
