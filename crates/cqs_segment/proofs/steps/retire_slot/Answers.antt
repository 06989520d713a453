use Rattle.cqs_segment.proofs.Allowed.{retire-allowed}
use Rattle.cqs_segment.proofs.steps.retire_slot.Goals as goal

pub exchange_at-requires-clause-allowed : goal.exchange_at-requires-clause-allowed
exchange_at-requires-clause-allowed g c =
    let C = g.C.ClientWords in
    let k = c.args.words.now.key in
    retire-allowed C.object (C.primitive k.client) k.passes k.limit _ _ _ _ _ _ c.args.slot c.args.id
    c.head_at.ensures c.pack-live.ensures.value c.pack-free.ensures.value
    c.requires.walker.one c.requires.home c.requires.early c.requires.full

pub returns-clause-retired : goal.returns-clause-retired
returns-clause-retired g c =
    c.exchange_at.ensures.told.0 c.args.slot c.args.id c.head_at.ensures c.pack-live.ensures.value

pub returns-clause-bare : goal.returns-clause-bare
returns-clause-bare g c = c.exchange_at.ensures.told.1
