use Rattle.std.proofs.Common.{arith}
use Rattle.cqs_segment.proofs.Extensions.{home-then}
use Rattle.cqs_segment.proofs.Walks.{look-then}
use Rattle.cqs_segment.proofs.extending.make_live.Goals as goal

pub light-requires-clause-home : goal.light-requires-clause-home
light-requires-clause-home g c =
    home-then c.args.seat.now.me.0 c.load_head.new.seat.me.0 c.args.made.id c.args.made.slot
    c.load_head.ensures.loaded.went.segments c.requires.home

pub light-requires-clause-kept : goal.light-requires-clause-kept
light-requires-clause-kept g c =
    let lower = c.if-id-made.true in
    c.load_head.ensures.loaded.found.young c.args.made.id c.in-Some.id c.requires.home c.in-Some.ensures.claimed.1
    (omega arith)

pub returns-then-id-made-clause-looked : goal.returns-then-id-made-clause-looked
returns-then-id-made-clause-looked g c =
    let u = c.args.seat.now.me.0 in
    look-then u c.load_head.new.seat.me.0 c.light.new.seat.me.0 u.facts.spare_slots u.facts.duties
    _ (_, c.load_head.ensures.loaded.went) c.light.ensures.lit.went

-- the head isn't claimed any more
pub returns-in_default-clause-lit : goal.returns-in_default-clause-lit
returns-in_default-clause-lit g c =
    let fits = c.requires.fits.id in
    c.load_head.ensures.loaded.found.lit c.args.made.id c.requires.home
    (λ i e lower. c.in_default.ensures.other i (omega arith) e)
