use Rattle.std.proofs.Common.{refl, sym, subst}
use Rattle.cqs_rule_laws.specs.SegmentSteps.{Began}
use Rattle.cqs_segment.specs.Walks.{but_last}
use Rattle.cqs_segment.proofs.Allowed.{begin-allowed}
use Rattle.cqs_segment.proofs.steps.begin.Goals as goal

pub load_at-word-requires-clause-allowed : goal.load_at-word-requires-clause-allowed
load_at-word-requires-clause-allowed g c =
    let C = g.C.ClientWords in
    let k = c.args.words.now.key in
    let last = c.requires.last in
    begin-allowed C.object (C.primitive k.client) k.passes k.limit _ _ _ _ c.args.slot last.0 last.1 refl
    c.requires.walker.one last.2

pub returns-clause-bare : goal.returns-clause-bare
returns-clause-bare g c = c.load_at-word.ensures.told.1

pub returns-clause-began : goal.returns-clause-began
returns-clause-began g c =
    let v = c.args.seat.now.me.0 in
    let last = c.requires.last in
    subst (λ n. Began (but_last v.facts.spare_slots) c.args.slot v n c.load_at-word.new.seat.me.0)
    (sym c.in-Some.ensures.packing.number) (c.load_at-word.ensures.told.0 c.args.slot last.0 last.1 last.2)
