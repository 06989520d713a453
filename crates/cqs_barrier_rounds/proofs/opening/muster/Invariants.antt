use Rattle.std.proofs.Common.{◌≡◌, length}
use Rattle.std.specs.List.{All}
use Rattle.cqs_barrier_rounds.specs.Members.{round_of}
use Rattle.cqs_barrier_rounds.proofs.opening.muster.Given as goal

abbrev pub invariant-loop-party : goal.invariant-loop-party
invariant-loop-party l = record {
  long : length l.members.items ≡ l._party;
  first : All (λ member. round_of member ≡ 0) l.members.items;
}
