use Rattle.std.proofs.Common.{◌≡◌, ◌⊎◌, ◌<◌, false, true, length}
use Rattle.cqs_barrier_rounds.specs.Rounds.{AreAmple, AreMine, AreOpened, is_config_for}
use Rattle.cqs_barrier_rounds.proofs.opening.open.Given as goal

-- so many barriers stand, each with its first pass; and where one does, what was asked is in range
abbrev pub invariant-loop-round : goal.invariant-loop-round
invariant-loop-round l = record {
  long : length l.barriers.items ≡ l._round;
  mine : AreMine l.barriers.items l.passes.items;
  opened : AreOpened l.config l.parties l.barriers.items l.passes.items;
  ample : l.ample ≡ true → AreAmple l.barriers.items;
  in_range : 0 < l._round → (l.parties ≡ 0) ⊎ (32 < l.parties) ⊎ (is_config_for l.ample l.config ≡ false) → ⊥;
}
