use Rattle.std.proofs.Common.{◌≡◌, true}
use Rattle.cqs_rule.specs.Passes.{pass_view}
use Rattle.cqs_barrier_rounds.specs.Passes.{AreCalledWithin}
use Rattle.cqs_barrier_rounds.specs.Rounds.{AreMine, barriers_of}
use Rattle.cqs_barrier_rounds.specs.Seats.{HasAsked}
use Rattle.cqs_barrier_rounds.proofs.Below.{BelowIs}
use Rattle.cqs_barrier_rounds.proofs.rounds.Rounds.sole.Given as goal

-- the passes of the first rounds have asked, and it is known whether all of them are alone
abbrev pub invariant-loop-round : goal.invariant-loop-round
invariant-loop-round l = record {
  mine : AreMine (barriers_of l.self) l.pass.passes.items;
  asked : AreCalledWithin (λ r p q. HasAsked p q) 0 l.round l.fn.pass.passes.items l.pass.passes.items;
  alone : l.sole ≡ true → BelowIs (λ p. (pass_view p).alone ≡ true) l.round l.pass.passes.items;
  sole : BelowIs (λ p. (pass_view p).alone ≡ true) l.round l.pass.passes.items → l.sole ≡ true;
}
