use Rattle.std.proofs.Common.{◌≡◌, ◌+◌, ◌*◌, ap, ◌∙◌, arith}
use Rattle.cqs_words.specs.declared.cell.CellState.TheVariants.{Empty}
use Rattle.cqs_words.specs.Cell.{packed_cell}
use Rattle.cqs_segment.proofs.Allowed.{cell-allowed}
use Rattle.cqs_segment.proofs.steps.reset_cell.Goals as goal

pub store_at-requires-clause-allowed : goal.store_at-requires-clause-allowed
store_at-requires-clause-allowed g c =
    let C = g.C.ClientWords in
    let k = c.args.words.now.key in
    let from = c.from.ensures in
    let is : c.pack-empty.result ≡ packed_cell (record {
      index = 32 * (c.args.after + 1) + c.from.result;
      state
          = Empty;
      payload = 0;
    }) =
    c.pack-empty.ensures.value ∙ ap packed_cell c.bare.ensures in
    cell-allowed C.object (C.primitive k.client) k.passes k.limit _ _ _ _ _ c.args.slot c.args.after c.args.cell
    c.cell_at.ensures (omega arith) c.requires.cell
    c.requires.walker.one c.requires.last

pub returns-clause-reset : goal.returns-clause-reset
returns-clause-reset g c = c.store_at.ensures.told.0 c.args.slot c.args.after (c.args.cell + 1) c.requires.last

pub returns-clause-bare : goal.returns-clause-bare
returns-clause-bare g c = c.store_at.ensures.told.1
