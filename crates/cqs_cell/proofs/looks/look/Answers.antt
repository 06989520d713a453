use Rattle.cqs_cell.proofs.Looking.{looks-at}
use Rattle.cqs_cell.proofs.looks.look.Goals as goal

pub returns-clause-looks : goal.returns-clause-looks
returns-clause-looks g c =
    let C = g.C.ClientWords in
    looks-at C.object C.primitive g.L.Load.load c.args.at.index _ _ _ _ c.cell_found.ensures
    c.load_cell.ensures.loaded
