use Rattle.std.proofs.Common.{refl}
use Rattle.cqs_segment.proofs.Allowed.{add-allowed}
use Rattle.cqs_segment.proofs.steps.add_count.Goals as goal

pub add_at-requires-clause-allowed : goal.add_at-requires-clause-allowed
add_at-requires-clause-allowed g c =
    let C = g.C.ClientWords in
    let k = c.args.words.now.key in
    add-allowed C.object (C.primitive k.client) k.passes k.limit _ _ _ _ _ c.args.slot c.args.id c.count_at.ensures
    refl c.requires.walker.one c.requires.last c.requires.home

pub returns-clause-counted : goal.returns-clause-counted
returns-clause-counted g c = c.add_at.ensures.told.0 c.args.id c.requires.last

pub returns-clause-bare : goal.returns-clause-bare
returns-clause-bare g c = c.add_at.ensures.told.1
