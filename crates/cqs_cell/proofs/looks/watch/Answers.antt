use Rattle.cqs_cell.proofs.Looking.{watches-at}
use Rattle.cqs_cell.proofs.looks.watch.Goals as goal

pub load_table-requires-clause-load : goal.load_table-requires-clause-load
load_table-requires-clause-load g c = (c.args.at.index, c.requires.place)

pub returns-clause-watched : goal.returns-clause-watched
returns-clause-watched g c =
    let C = g.C.ClientWords in
    watches-at C.object C.primitive c.args.at _ _ _ _ c.cell_found.ensures c.requires.place c.requires.number
    c.load_table.ensures.saw
