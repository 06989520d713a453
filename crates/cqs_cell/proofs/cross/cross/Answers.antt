use Rattle.cqs_core.specs.QueueSteps.{row_of}
use Rattle.cqs_cell.proofs.Crossing.{crosses-by}
use Rattle.cqs_cell.proofs.cross.cross.Goals as goal

pub exchange-requires-clause-cell : goal.exchange-requires-clause-cell
exchange-requires-clause-cell g c =
    let r = c.requires in
    crosses-by _ c.args.at c.args.found c.args.made c.args.payload c.args.left _ _ (row_of g.K.Kind.step) r.works r.owns
    r.looked r.place r.payload r.fits r.finds r.makes r.leaves c.pack.ensures.value c.pack-2.ensures.value
