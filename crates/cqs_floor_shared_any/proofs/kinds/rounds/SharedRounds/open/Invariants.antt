use Rattle.std.proofs.Common.{◌≡◌, length}
use Rattle.cqs_core.specs.Numbered.{EachAt}
use Rattle.cqs_floor_shared_any.specs.RoundsOne.{IsOpenedRound}
use Rattle.cqs_floor_shared_any.proofs.kinds.rounds.SharedRounds.open.Given as goal

abbrev pub invariant-loop-round : goal.invariant-loop-round
invariant-loop-round l = record {
  long : length l.made.items ≡ l._round;
  each : EachAt (λ round r. IsOpenedRound l.parties l.workers l.arrivals r) l.made.items;
}
