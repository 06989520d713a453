use Rattle.std.proofs.Common.{arith}
use Rattle.cqs_segment.proofs.walk.last.Goals as goal

pub returns-clause-near : goal.returns-clause-near
returns-clause-near g c = λ k own.
    let loaded = c.load_tail.ensures.loaded in
    let fits = c.load_tail.ensures.fits.slot in
    let word = loaded.found.word in
    let slot = loaded.found.slot_fits in
    let near = loaded.near k own in omega arith
