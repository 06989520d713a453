use Rattle.cqs_segment.proofs.Allowed.{claim-allowed}
use Rattle.cqs_segment.proofs.steps.claim_slot.Goals as goal

pub exchange_at-requires-clause-allowed : goal.exchange_at-requires-clause-allowed
exchange_at-requires-clause-allowed g c =
    let C = g.C.ClientWords in
    let k = c.args.words.now.key in
    claim-allowed C.object (C.primitive k.client) k.passes k.limit _ _ _ _ _ _ c.args.slot c.args.id c.head_at.ensures
    c.pack-free.ensures.value c.pack-claimed.ensures.value
    c.requires.walker.one c.requires.low

pub returns-clause-claimed : goal.returns-clause-claimed
returns-clause-claimed g c =
    c.exchange_at.ensures.told.0 c.args.slot c.args.id c.head_at.ensures c.pack-free.ensures.value

pub returns-clause-bare : goal.returns-clause-bare
returns-clause-bare g c = c.exchange_at.ensures.told.1
