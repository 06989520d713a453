use Rattle.std.proofs.Common.{◌≡◌, ◌/◌, arith}
use Rattle.cqs_slots.proofs.Lists.{has_prefix}
use Rattle.cqs_rule.specs.Passes.{pass_view}
use Rattle.cqs_find.proofs.Numbers.{homes-grow}
use Rattle.cqs_find.proofs.passed.place_after.Goals as goal

pub overflow_mul-result : goal.overflow_mul-result
overflow_mul-result g c =
    let fits = c.last_segment-last.ensures.fits.slot in record { fits = omega arith }

pub overflow_add-result : goal.overflow_add-result
overflow_add-result g c =
    let fits = c.last_segment-last.ensures.fits.slot in record { fits = omega arith }

pub overflow_add-result-2 : goal.overflow_add-result-2
overflow_add-result-2 g c =
    let fits = c.last_segment-last.ensures.fits.slot in record { fits = omega arith }

pub returns-clause-gone : goal.returns-clause-gone
returns-clause-gone g c =
    let v = pass_view c.args.pass.now in
    let w = pass_view c.last_segment-last.new.pass in
    let last = c.last_segment-last.result in
    let f = c.last_segment-last.ensures.found in
    let more = c.last_segment-last.ensures.stayed.segments in
    let i = f.id_fits in
    let s = f.slot_fits in
    let t = c.last_segment-last.ensures.fits.slot in
    let word = f.word in
    let id : f.id ≡ last.id = omega arith in
    let slot : f.slot ≡ last.slot = omega arith in
    let long = homes-grow v w more in
    let length_is = f.last in
    let low = f.low in
    let before = c.requires.before in record {
      out = has_prefix (c.args.index / 32) v.segments.outs w.segments.outs more.outs c.requires.out;
      later = f.id;
      after = omega arith;
      slot = f.slot;
      home = f.home;
      low = f.low;
      word = omega arith;
    }
