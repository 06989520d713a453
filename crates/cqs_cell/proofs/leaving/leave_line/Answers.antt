use Rattle.std.proofs.Common.{◌<◌, arith}
use Rattle.cqs_cell.proofs.leaving.leave_line.Goals as goal

pub cross-requires-clause-index : goal.cross-requires-clause-index
cross-requires-clause-index g c =
    let p = c.args.pass.now in
    let low : c.args.at.index < p.seat.me.0.cells = p.inside.waits c.args.at.index c.requires.wait in
    let few = p.few_cells in
    omega arith
