use Rattle.std.proofs.Common.{sym, subst}
use Rattle.cqs_rule_laws.specs.SegmentSteps.{LinkLoaded}
use Rattle.cqs_segment.proofs.Allowed.{link-allowed}
use Rattle.cqs_segment.proofs.steps.load_link.Goals as goal

pub load_at-word-requires-clause-allowed : goal.load_at-word-requires-clause-allowed
load_at-word-requires-clause-allowed g c =
    let C = g.C.ClientWords in
    let k = c.args.words.now.key in
    link-allowed C.object (C.primitive k.client) k.passes k.limit _ _ _ (g.met.C.ClientWords.keeps k.client) _
    c.args.slot c.link_at.ensures c.requires.walker.one c.requires.low

pub returns-clause-loaded : goal.returns-clause-loaded
returns-clause-loaded g c =
    subst (λ n. LinkLoaded c.args.slot c.args.seat.now.me.0 n c.load_at-word.new.seat.me.0)
    (sym c.in-Some.ensures.packing.number) (c.load_at-word.ensures.told.0 c.args.slot c.link_at.ensures)

pub returns-clause-bare : goal.returns-clause-bare
returns-clause-bare g c = c.load_at-word.ensures.told.1

pub unreachable-requires : goal.unreachable-requires
unreachable-requires g c =
    let f = (c.load_at-word.ensures.told.0 c.args.slot c.link_at.ensures).found in
    c.in-None.ensures.no_packing (record { id = f.id; slot = f.slot })
    (record { fits = record { id = f.id_fits; slot = f.slot_fits }; number = sym f.word })
