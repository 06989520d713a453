use Rattle.std.proofs.Common.{sym, ◌∙◌, arith}
use Rattle.cqs_core.proofs.Places.{get-below}
use Rattle.cqs_segment.proofs.Extensions.{home-then}
use Rattle.cqs_segment.proofs.Leavings.{early-done, gone-done, kept-done, out-done}
use Rattle.cqs_segment.proofs.Walks.{longer}
use Rattle.cqs_segment.proofs.leaving.retire.Goals as goal

pub returns-then-keep_last-id-clause-retires : goal.returns-then-keep_last-id-clause-retires
returns-then-keep_last-id-clause-retires g c =
    let u = c.args.seat.now.me.0 in
    let v = c.keep_last.new.seat.me.0 in
    kept-done u v c.args.slot c.args.id c.keep_last.result c.keep_last.ensures.kept c.keep_last.ensures.fits
    c.if-keep_last-id.true

pub returns-then-counted-lt-CELLS-clause-retires : goal.returns-then-counted-lt-CELLS-clause-retires
returns-then-counted-lt-CELLS-clause-retires g c =
    let u = c.args.seat.now.me.0 in
    let v = c.keep_last.new.seat.me.0 in
    let w = c.load_count-counted.new.seat.me.0 in
    early-done u v c.args.slot c.args.id c.keep_last.result c.keep_last.ensures.kept w c.load_count-counted.result
    c.requires.home c.load_count-counted.ensures.loaded c.if-counted-lt-CELLS.true

pub retire_slot-requires-clause-home : goal.retire_slot-requires-clause-home
retire_slot-requires-clause-home g c =
    let u = c.args.seat.now.me.0 in
    let v = c.keep_last.new.seat.me.0 in
    let w = c.load_count-counted.new.seat.me.0 in
    home-then v w c.args.id c.args.slot c.load_count-counted.ensures.loaded.went.segments
    (home-then u v c.args.id c.args.slot c.keep_last.ensures.kept.went.segments c.requires.home)

pub retire_slot-requires-clause-early : goal.retire_slot-requires-clause-early
retire_slot-requires-clause-early g c =
    let u = c.args.seat.now.me.0 in
    let v = c.keep_last.new.seat.me.0 in
    let w = c.load_count-counted.new.seat.me.0 in
    let f = c.keep_last.ensures.kept.found in
    let home = home-then u v c.args.id c.args.slot c.keep_last.ensures.kept.went.segments c.requires.home in
    let below = get-below v.segments.homes c.args.id c.args.slot home in
    let last = f.last in
    let word = f.word in
    let fits = f.slot_fits in
    let here = c.keep_last.ensures.fits.slot in
    let other = c.if-keep_last-id.false in
    let long = longer v w c.load_count-counted.ensures.loaded.went.segments in
    omega arith

pub retire_slot-requires-clause-full : goal.retire_slot-requires-clause-full
retire_slot-requires-clause-full g c =
    let u = c.args.seat.now.me.0 in
    let v = c.keep_last.new.seat.me.0 in
    let home = home-then u v c.args.id c.args.slot c.keep_last.ensures.kept.went.segments c.requires.home in
    c.load_count-counted.ensures.loaded.found.full c.args.id home c.if-counted-lt-CELLS.false

pub returns-then-retire_slot-pack-clause-retires : goal.returns-then-retire_slot-pack-clause-retires
returns-then-retire_slot-pack-clause-retires g c =
    let u = c.args.seat.now.me.0 in
    let v = c.keep_last.new.seat.me.0 in
    let w = c.load_count-counted.new.seat.me.0 in
    let z = c.retire_slot.new.seat.me.0 in
    out-done u v c.args.slot c.args.id c.keep_last.result c.keep_last.ensures.kept w c.load_count-counted.result
    c.requires.home c.load_count-counted.ensures.loaded z c.retire_slot.result c.retire_slot.ensures.retired
    (c.if-retire_slot-pack.true ∙ c.pack.ensures.value)

pub returns-else-retire_slot-pack-clause-retires : goal.returns-else-retire_slot-pack-clause-retires
returns-else-retire_slot-pack-clause-retires g c =
    let u = c.args.seat.now.me.0 in
    let v = c.keep_last.new.seat.me.0 in
    let w = c.load_count-counted.new.seat.me.0 in
    let z = c.retire_slot.new.seat.me.0 in
    gone-done u v c.args.slot c.args.id c.keep_last.result c.keep_last.ensures.kept w c.load_count-counted.result
    c.requires.home c.load_count-counted.ensures.loaded z c.retire_slot.result c.retire_slot.ensures.retired
    (λ e. c.if-retire_slot-pack.false (e ∙ sym c.pack.ensures.value))
