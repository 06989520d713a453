use Rattle.std.proofs.Common.{refl}
use Rattle.cqs_floor_shared_any.proofs.kinds.round.SharedRound.split.Goals as goal

pub returns-in-Ok : goal.returns-in-Ok
returns-in-Ok c = record {
  same_one = refl;
  mine = rw c.deref.ensures at c.in-Ok.ensures.belongs;
  same_over = refl;
  gave = c.in-Ok.ensures.gave;
  shared = c.in_ok-barrier.ensures;
  made_mine = rw c.deref.ensures at c.in-Ok.ensures.new_belongs;
  made_over = refl;
  came = c.in-Ok.ensures.came;
}
