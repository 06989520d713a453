use Rattle.std.proofs.Common.{arith}
use Rattle.cqs_check.proofs.Times.{door-few}
use Rattle.cqs_check.proofs.door.Door.come.Goals as goal

pub overflow_add-many : goal.overflow_add-many
overflow_add-many c = omega (
  arith,
  door-few c.args.self.now c.args.caller
      c.requires.sound,
  c.many-many.ensures,
  c.requires.few,
)
