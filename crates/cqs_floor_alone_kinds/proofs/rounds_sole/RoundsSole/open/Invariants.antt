use Rattle.std.proofs.Common.{◌≡◌, length}
use Rattle.cqs_core.specs.Numbered.{EachAt}
use Rattle.cqs_floor_alone_kinds.specs.SoleRound.{IsOpenedRound}
use Rattle.cqs_floor_alone_kinds.proofs.rounds_sole.RoundsSole.open.Given as goal

abbrev pub invariant-loop-round : goal.invariant-loop-round
invariant-loop-round l = record {
  long : length l.made.items ≡ l._round;
  each : EachAt (λ round r. IsOpenedRound l.parties l.arrivals r) l.made.items;
}
