use Rattle.std.proofs.Common.{◌≡◌, length}
use Rattle.cqs_floor_alone.specs.Opening.{AreOpened}
use Rattle.cqs_floor_alone.proofs.opening.open_soles.Given as goal

abbrev pub invariant-loop-at : goal.invariant-loop-at
invariant-loop-at g l = record {
  long : length l.soles.items ≡ l.at;
  opened : AreOpened g.S.SoleResource.store l.resources l.room l.soles.items;
}
