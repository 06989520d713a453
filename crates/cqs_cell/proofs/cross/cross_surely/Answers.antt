use Rattle.cqs_cell.proofs.Made.{sure-by}
use Rattle.cqs_cell.proofs.cross.cross_surely.Goals as goal

pub unreachable-requires : goal.unreachable-requires
unreachable-requires g c =
    let C = g.C.ClientWords in
    sure-by C.object C.primitive g.K.Kind.step c.args.at _ _ _ _ c.requires.sure c.requires.last c.in-Err.ensures.missed
