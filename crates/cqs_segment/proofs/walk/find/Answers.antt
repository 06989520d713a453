use Rattle.std.proofs.Common.{ap, arith}
use Rattle.std.proofs.lemmas.Option.{IfSome_then}
use Rattle.cqs_core.proofs.Places.{get-there}
use Rattle.cqs_slots.proofs.Lists.{home-prefix}
use Rattle.cqs_segment.proofs.Linked.{placed-on}
use Rattle.cqs_segment.proofs.Walks.{longer, own-then}
use Rattle.cqs_segment.proofs.walk.find.Goals as goal

pub guess-first-requires-clause-near : goal.guess-first-requires-clause-near
guess-first-requires-clause-near g c =
    IfSome_then c.args.near c.requires.near (λ at placed. placed-on c.args.seat.now.me.0
    c.load_tail-last.new.seat.me.0 _ _ _ at c.load_tail-last.ensures.loaded.went placed)

pub guess-first-requires-clause-own : goal.guess-first-requires-clause-own
guess-first-requires-clause-own g c =
    own-then _ _ _ _ _ c.load_tail-last.ensures.loaded.went c.load_tail-last.ensures.loaded.stands

pub returns-in-Err-clause-finds : goal.returns-in-Err-clause-finds
returns-in-Err-clause-finds g c =
    let u = c.load_tail-last.new.seat.me.0 in
    let v = c.guess-first.new.seat.me.0 in
    let w = c.search.new.seat.me.0 in
    let f = c.load_tail-last.ensures.loaded.found in
    let more = c.guess-first.ensures.looked.segments in
    let later = c.search.ensures.looked.2.segments in
    let long = longer u v more in
    let longest = longer v w later in
    let next = c.in-Err.ensures.nearest in
    let then = next.1 in
    let all = c.requires.all in
    let same = ap (λ z. z.slots) c.load_tail-last.ensures.loaded.went.is in
    let fits = c.load_tail-last.ensures.fits.id in
    let slot_fits = f.slot_fits in
    let mine = c.load_tail-last.ensures.fits.slot in
    let word = f.word in
    let last = f.last in (
      λ j above below.
          let home = get-there u.segments.homes j (omega arith) in
          let low = f.inside j home.0 home.1 in
          c.in-Err.ensures.none j home.0 above below
          (home-prefix u.segments.homes v.segments.homes j home.0 more.homes home.1) (omega arith) (omega arith),
      next.0,
      omega arith,
      omega arith,
    )

pub returns-then-id-last-clause-own : goal.returns-then-id-last-clause-own
returns-then-id-last-clause-own g c =
    own-then _ _ _ _ _ c.load_tail-last.ensures.loaded.went c.load_tail-last.ensures.loaded.stands

pub returns-then-id-last-2-clause-own : goal.returns-then-id-last-2-clause-own
returns-then-id-last-2-clause-own g c =
    own-then _ _ _ _ _ c.load_tail-last.ensures.loaded.went c.load_tail-last.ensures.loaded.stands
