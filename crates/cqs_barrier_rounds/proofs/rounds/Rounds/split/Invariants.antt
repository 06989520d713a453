use Rattle.std.proofs.Common.{◌≡◌, ◌<◌, length}
use Rattle.std.specs.Vec.{vec_capacity}
use Rattle.cqs_rule.specs.Passes.{pass_view, passes_of}
use Rattle.cqs_rule_laws.specs.Views.{made_in}
use Rattle.cqs_barrier_rounds.specs.Passes.{AreCalledWithin}
use Rattle.cqs_barrier_rounds.specs.Rounds.{AreMine, barriers_of, rounds_in}
use Rattle.cqs_barrier_rounds.specs.Seats.{AreFor, HasSplit}
use Rattle.cqs_barrier_rounds.proofs.Pairs.{PairsBelow}
use Rattle.cqs_barrier_rounds.proofs.rounds.Rounds.split.Given as goal

-- a pass was made in each of the first rounds, where there was room for it
abbrev pub invariant-loop-round : goal.invariant-loop-round
invariant-loop-round l = record {
  mine : AreMine (barriers_of l.self) l.pass.passes.items;
  long : length l.made.items ≡ l.round;
  reserved : vec_capacity l.made ≡ rounds_in l.self;
  made_for : AreFor (barriers_of l.self) l.made.items;
  split : AreCalledWithin (HasSplit l.gives l.made.items) 0 l.round l.fn.pass.passes.items l.pass.passes.items;
  room : PairsBelow (λ b q. made_in (pass_view q).crew < passes_of b.queue) l.round (barriers_of l.self)
      l.pass.passes.items;
}
