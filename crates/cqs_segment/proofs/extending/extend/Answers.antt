use Rattle.std.proofs.Common.{◌≢◌, inl, inr, refl, sym, ap, subst, arith}
use Rattle.cqs_words.specs.Segment.{packed_tail, TailFits}
use Rattle.cqs_slots.specs.Told.{TailFound}
use Rattle.cqs_slots.proofs.Loads.{sees-then}
use Rattle.cqs_rule_laws.specs.SegmentSteps.{retiring_too}
use Rattle.cqs_segment.specs.Walks.{but_last}
use Rattle.cqs_segment.proofs.Extensions.{begun-home, compared-other, compared-same, ends-lit, extension-made, extension-missed, home-lit, home-reset, home-then, last-before, left-lit, one-tail, start-ends}
use Rattle.cqs_segment.proofs.Walks.{and-looked}
use Rattle.cqs_segment.proofs.extending.extend.Goals as goal

pub reset-requires-clause-last : goal.reset-requires-clause-last
reset-requires-clause-last g c =
    let u = c.args.seat.now.me.0 in
    let v = c.begin-tail.new.seat.me.0 in
    start-ends u v v v c.args.slot c.begin-tail.result c.args.after c.begin-tail.ensures.fits
    (compared-same c.begin-tail.result c.args.after c.if-ne.ensures) c.begin-tail.ensures.began

pub make_live-requires-clause-home : goal.make_live-requires-clause-home
make_live-requires-clause-home g c =
    let u = c.args.seat.now.me.0 in
    let v = c.begin-tail.new.seat.me.0 in
    let w = c.reset.new.seat.me.0 in
    home-reset u v w w c.args.slot c.begin-tail.result c.args.after c.begin-tail.ensures.fits
    (compared-same c.begin-tail.result c.args.after c.if-ne.ensures) c.begin-tail.ensures.began c.reset.ensures.reset

pub swap_tail-found-requires-clause-home : goal.swap_tail-found-requires-clause-home
swap_tail-found-requires-clause-home g c =
    let u = c.args.seat.now.me.0 in
    let v = c.begin-tail.new.seat.me.0 in
    let w = c.reset.new.seat.me.0 in
    let z = c.make_live.new.seat.me.0 in
    home-lit u v w z c.args.slot c.begin-tail.result c.args.after c.begin-tail.ensures.fits
    (compared-same c.begin-tail.result c.args.after c.if-ne.ensures) c.begin-tail.ensures.began c.reset.ensures.reset
    c.make_live.ensures.looked

pub swap_tail-found-requires-clause-last : goal.swap_tail-found-requires-clause-last
swap_tail-found-requires-clause-last g c =
    let u = c.args.seat.now.me.0 in
    let v = c.begin-tail.new.seat.me.0 in
    let w = c.reset.new.seat.me.0 in
    let z = c.make_live.new.seat.me.0 in
    ends-lit u v w z c.args.slot c.begin-tail.result c.args.after c.begin-tail.ensures.fits
    (compared-same c.begin-tail.result c.args.after c.if-ne.ensures) c.begin-tail.ensures.began c.reset.ensures.reset
    c.make_live.ensures.looked

pub returns-then-ne-clause-extends : goal.returns-then-ne-clause-extends
returns-then-ne-clause-extends g c =
    let u = c.args.seat.now.me.0 in
    let v = c.begin-tail.new.seat.me.0 in
    let tail = c.begin-tail.result in
    let began = c.begin-tail.ensures.began in
    let start = begun-home u v (but_last u.facts.spare_slots) c.args.slot tail c.begin-tail.ensures.fits began in (
      compared-other tail c.args.after c.if-ne.ensures,
      subst (λ z. TailFound z (packed_tail tail) v.segments) (sym (ap (λ z. z.slots) began.went.is))
          began.found,
      inl start.3,
      c.begin-tail.ensures.fits,
    )

pub returns-then-ne-2-clause-extends : goal.returns-then-ne-2-clause-extends
returns-then-ne-2-clause-extends g c =
    let u = c.args.seat.now.me.0 in
    let v = c.begin-tail.new.seat.me.0 in
    let w = c.reset.new.seat.me.0 in
    let z = c.make_live.new.seat.me.0 in
    let y = c.swap_tail-found.new.seat.me.0 in
    let found = c.swap_tail-found.result in
    let left = left-lit u v w z c.args.slot c.begin-tail.result c.args.after c.begin-tail.ensures.fits
    (compared-same c.begin-tail.result c.args.after c.if-ne.ensures) c.begin-tail.ensures.began c.reset.ensures.reset
    c.make_live.ensures.looked in
    let other = compared-other found c.args.after c.if-ne-2.ensures in
    let different : packed_tail found ≢ packed_tail c.args.after =
    λ e. other (one-tail found c.args.after c.swap_tail-found.ensures.fits
    (subst TailFits (compared-same c.begin-tail.result c.args.after c.if-ne.ensures) c.begin-tail.ensures.fits) e) in
    let missed = extension-missed u z (but_last u.facts.spare_slots) c.args.slot c.args.after.id
    c.args.after.slot u.facts.duties (packed_tail found) y left c.swap_tail-found.ensures.extended different in
    let up = (c.swap_tail-found.ensures.extended.missed different).segments.lit in
    let lit = c.make_live.ensures.lit in
    (other, missed.0, inr (missed.1, omega arith), c.swap_tail-found.ensures.fits)

pub returns-clause-extends : goal.returns-clause-extends
returns-clause-extends g c =
    let u = c.args.seat.now.me.0 in
    let v = c.begin-tail.new.seat.me.0 in
    let w = c.reset.new.seat.me.0 in
    let z = c.make_live.new.seat.me.0 in
    let y = c.swap_tail-found.new.seat.me.0 in
    let last = c.make_live-2.new.seat.me.0 in
    let found = c.swap_tail-found.result in
    let left = left-lit u v w z c.args.slot c.begin-tail.result c.args.after c.begin-tail.ensures.fits
    (compared-same c.begin-tail.result c.args.after c.if-ne.ensures) c.begin-tail.ensures.began c.reset.ensures.reset
    c.make_live.ensures.looked in
    let is = ap packed_tail (compared-same found c.args.after c.if-ne-2.ensures) in
    let made = extension-made u z (but_last u.facts.spare_slots) c.args.slot c.args.after.id
    c.args.after.slot u.facts.duties (packed_tail found) y left c.swap_tail-found.ensures.extended is in
    let end = and-looked (retiring_too c.args.after.id u) y last (but_last u.facts.spare_slots) u.facts.duties made
    c.make_live-2.ensures.looked in (
      refl,
      record {
        home = home-then y last _ _ c.make_live-2.ensures.looked.1.segments
            (c.swap_tail-found.ensures.extended.home is);
        lit = c.make_live-2.ensures.lit;
      },
      last-before u v w z c.args.slot c.begin-tail.result c.args.after c.begin-tail.ensures.fits
          (compared-same c.begin-tail.result c.args.after c.if-ne.ensures) c.begin-tail.ensures.began
          c.reset.ensures.reset c.make_live.ensures.looked last end.0 _ _ _
          (sees-then z.segments y.segments last.segments (c.swap_tail-found.ensures.extended.made is).segments
          c.make_live-2.ensures.looked.1.segments) end.1,
      end,
    )
