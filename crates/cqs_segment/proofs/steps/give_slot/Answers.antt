use Rattle.std.proofs.Common.{refl}
use Rattle.cqs_segment.proofs.Allowed.{back-allowed}
use Rattle.cqs_segment.proofs.steps.give_slot.Goals as goal

pub add_at-requires-clause-allowed : goal.add_at-requires-clause-allowed
add_at-requires-clause-allowed g c =
    let C = g.C.ClientWords in
    let k = c.args.words.now.key in
    let last = c.requires.last in
    back-allowed C.object (C.primitive k.client) k.passes k.limit _ _ _ _ _ c.args.slot last.0 last.1
    c.head_at.ensures refl c.requires.walker.one last.2

pub returns-clause-given : goal.returns-clause-given
returns-clause-given g c = c.add_at.ensures.told.0

pub returns-clause-bare : goal.returns-clause-bare
returns-clause-bare g c = c.add_at.ensures.told.1
