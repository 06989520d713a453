use Rattle.std.proofs.Common.{◌≡◌, ◌+◌, ◌++◌, take, drop, refl, ap, ◌∙◌, sym, arith}
use Rattle.std.proofs.lemmas.Grind.{common_steps}
use Rattle.cqs_cli_streams.specs.InMemory.{PlainSource}
use Rattle.cqs_cli_streams.proofs.StreamLemmas.{left_splits}
use Rattle.cqs_cli_streams.proofs.streams.sure_source.SureSourceSource.read.Goals as goal

pub returns-clause-next : goal.returns-clause-next
returns-clause-next c =
    let bytes = c.self.inside.bytes.items in
    let place = c.self.inside.place in
    let count = c.min-count.result in
    let buffer = c.copy_from_slice.new.self ++ drop count c.args.buffer.now in
    let copied : take count buffer ≡ take count (drop place bytes) = grind (arith, common_steps) in
    let view = ap (λ (source : PlainSource). source.left) (sym c.self.view_is) in (
      drop (place + count) bytes,
      view ∙ left_splits bytes place count
          ∙ ap (λ xs. xs ++ drop (place + count) bytes) (sym copied),
      refl,
    )
