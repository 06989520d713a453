use Rattle.cqs_core.proofs.BrokenCells.{every-broken-cell-was-broken-once}
use Rattle.cqs_core.proofs.law.broken_cells_were_broken_once.Goals as goal

pub returns : goal.returns
returns c = every-broken-cell-was-broken-once
