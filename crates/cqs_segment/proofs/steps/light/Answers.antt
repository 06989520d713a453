use Rattle.cqs_segment.proofs.Allowed.{light-allowed}
use Rattle.cqs_segment.proofs.steps.light.Goals as goal

pub exchange_at-requires-clause-allowed : goal.exchange_at-requires-clause-allowed
exchange_at-requires-clause-allowed g c =
    let C = g.C.ClientWords in
    let k = c.args.words.now.key in
    light-allowed C.object (C.primitive k.client) k.passes k.limit _ _ _ _ _ _ c.args.made.slot c.args.made.id
    c.args.id c.head_at.ensures c.pack-claimed.ensures.value
    c.pack-live.ensures.value c.requires.walker.one c.requires.home c.requires.kept c.requires.earlier

pub returns-clause-lit : goal.returns-clause-lit
returns-clause-lit g c = c.exchange_at.ensures.told.0 c.args.made.id c.pack-live.ensures.value

pub returns-clause-bare : goal.returns-clause-bare
returns-clause-bare g c = c.exchange_at.ensures.told.1
