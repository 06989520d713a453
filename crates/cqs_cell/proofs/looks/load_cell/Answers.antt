use Rattle.cqs_cell.proofs.Looking.{looked-at, may-load}
use Rattle.cqs_cell.proofs.looks.load_cell.Goals as goal

pub load_table-requires-clause-load : goal.load_table-requires-clause-load
load_table-requires-clause-load g c = may-load g.L.Load.load _ c.args.at c.requires.place c.requires.may

pub returns-clause-loaded : goal.returns-clause-loaded
returns-clause-loaded g c =
    let C = g.C.ClientWords in
    looked-at C.object C.primitive g.L.Load.load _ _ c.args.at _ c.requires.place c.requires.may
    c.args.pass.now.counted c.load_table.ensures.saw
