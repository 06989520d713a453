use Rattle.cqs_cell.proofs.Crossing.{crossing-of}
use Rattle.cqs_cell.proofs.Made.{made-by, missed-by}
use Rattle.cqs_cell.proofs.cross.exchange.Goals as goal

pub swap_table-found-requires-clause-cell : goal.swap_table-found-requires-clause-cell
swap_table-found-requires-clause-cell g c = crossing-of _ _ _ _ _ g.K.Kind.step c.requires.cell

pub returns-then-found-expected-clause-made : goal.returns-then-found-expected-clause-made
returns-then-found-expected-clause-made g c =
    let C = g.C.ClientWords in
    made-by C.object C.primitive g.K.Kind.step _ _ _ _ _ _ _ c.requires.cell c.swap_table-found.ensures.crossed
    c.if-found-expected.true c.args.pass.now.counted

pub returns-else-found-expected-clause-missed : goal.returns-else-found-expected-clause-missed
returns-else-found-expected-clause-missed g c =
    let C = g.C.ClientWords in
    missed-by C.object C.primitive g.K.Kind.step _ _ _ _ _ _ _ c.requires.cell
    c.swap_table-found.ensures.crossed c.if-found-expected.false c.args.pass.now.counted
