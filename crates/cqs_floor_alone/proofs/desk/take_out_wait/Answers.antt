use Rattle.std.proofs.lemmas.List.{map-set}
use Rattle.cqs_floor_alone_kinds.specs.declared.waits.WaitSlot.TheVariants.{Free}
use Rattle.cqs_floor_alone_kinds.specs.Waits.{slot_wait}
use Rattle.cqs_floor_alone.proofs.desk.take_out_wait.Goals as goal

pub returns : goal.returns
returns c = map-set slot_wait c.args.waits.now.items c.args.job Free
