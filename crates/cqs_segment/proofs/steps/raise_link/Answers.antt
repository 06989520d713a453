use Rattle.std.proofs.Common.{subst}
use Rattle.cqs_rule_laws.specs.SegmentSteps.{LinkRaised}
use Rattle.cqs_segment.proofs.Allowed.{raise-allowed}
use Rattle.cqs_segment.proofs.steps.raise_link.Goals as goal

pub max_at-requires-clause-allowed : goal.max_at-requires-clause-allowed
max_at-requires-clause-allowed g c =
    let C = g.C.ClientWords in
    let k = c.args.words.now.key in
    raise-allowed C.object (C.primitive k.client) k.passes k.limit _ _ _ _ _ c.args.from.id c.args.from.slot
    c.args.to.id c.args.to.slot c.link_at.ensures c.pack.ensures.value c.requires.walker.one c.requires.from
    c.requires.to c.requires.passed

pub returns-clause-raised : goal.returns-clause-raised
returns-clause-raised g c =
    subst (λ n. LinkRaised c.args.from.slot n c.args.seat.now.me.0 c.max_at.new.seat.me.0) c.pack.ensures.value
    (c.max_at.ensures.told.0 c.args.from.slot c.link_at.ensures)

pub returns-clause-bare : goal.returns-clause-bare
returns-clause-bare g c = c.max_at.ensures.told.1
