-- The two joins make the number of the cell, and that is unpacked to the cell.
use Rattle.std.proofs.Common.{◌≡◌, arith}
use Rattle.cqs_words.specs.Cell.{packed_cell}
use Rattle.cqs_words.proofs.CellLaws.{unpacked_cell-packed_cell}
use Rattle.cqs_words.proofs.cell.CellWord.pack.Goals as goal

pub returns-clause-back : goal.returns-clause-back
returns-clause-back c =
    let value : c.join.result ≡ packed_cell c.args.self = omega arith in
    rw value (unpacked_cell-packed_cell c.args.self c.requires)
