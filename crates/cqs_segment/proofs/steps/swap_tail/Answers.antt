use Rattle.std.proofs.Common.{refl, sym, arith}
use mathlib.Core.Logic.{dite}
use native.Mathlib.Decide.{ℕ_discrete}
use Rattle.cqs_words.specs.Segment.{segment_word}
use Rattle.cqs_segment.proofs.Allowed.{extend-allowed}
use Rattle.cqs_segment.proofs.steps.swap_tail.Goals as goal

pub exchange_at-word-requires-clause-allowed : goal.exchange_at-word-requires-clause-allowed
exchange_at-word-requires-clause-allowed g c =
    let C = g.C.ClientWords in
    let k = c.args.words.now.key in
    let next = c.requires.next in
    let fits = c.requires.made.id in
    let new = c.pack-2.ensures.value in
    extend-allowed C.object (C.primitive k.client) k.passes k.limit _ _ _ _ _ _ c.args.made.slot c.args.after.id
    c.args.after.slot refl c.pack.ensures.value (omega arith)
    c.requires.walker.one c.requires.last c.requires.home c.requires.lit (omega arith)

pub returns-clause-bare : goal.returns-clause-bare
returns-clause-bare g c = c.exchange_at-word.ensures.told.1

pub unreachable-requires : goal.unreachable-requires
unreachable-requires g c =
    let t = c.exchange_at-word.ensures.told.0 c.args.made.slot c.args.after.id c.args.after.slot c.requires.last
    c.pack.ensures.value in
    let none = c.in-None.ensures.no_packing in
    dite (ℕ_discrete c.exchange_at-word.result (segment_word c.args.after.id c.args.after.slot))
    (λ e. none c.args.after (record { fits = c.requires.after; number = sym e }))
    (λ d. let f = t.found d in none (record { id = f.id; slot = f.slot })
    (record { fits = record { id = f.id_fits; slot = f.slot_fits }; number = sym f.word }))
