-- The number is the packing of what it is unpacked to, and where it is unpacked to nothing it packs no cell.
use Rattle.std.proofs.Common.{sym, rules}
use Rattle.cqs_words.specs.Cell.{CellFits, packed_cell, unpacked_cell}
use Rattle.cqs_words.proofs.CellLaws.{unpacked_cell-packed_cell, IsPacking-unpacked_cell}
use Rattle.cqs_words.proofs.PackingLaws.{no_packing}
use Rattle.cqs_words.proofs.cell.CellWord.unpack.Goals as goal

pub returns-clause-value : goal.returns-clause-value
returns-clause-value c = search rules

pub returns-clause-packing : goal.returns-clause-packing
returns-clause-packing c = IsPacking-unpacked_cell c.args.word _ (sym (returns-clause-value c))

pub returns-in_err-state-clause-value : goal.returns-in_err-state-clause-value
returns-in_err-state-clause-value c = search rules

pub returns-in_err-state-clause-no_packing : goal.returns-in_err-state-clause-no_packing
returns-in_err-state-clause-no_packing c =
    no_packing CellFits packed_cell unpacked_cell unpacked_cell-packed_cell
    c.args.word c.from_residual.result (returns-in_err-state-clause-value c)
