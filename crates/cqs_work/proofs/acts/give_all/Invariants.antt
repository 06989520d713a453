use Rattle.cqs_work.specs.Hands.{at_hand}
use Rattle.cqs_work.proofs.Giving.{GivingOn}
use Rattle.cqs_work.proofs.acts.give_all.Given as goal

abbrev pub invariant-loop-at : goal.invariant-loop-at
invariant-loop-at g l =
    GivingOn l.actor (at_hand g.F.SharedFloor.shared g.G.Gate.begun g.G.Gate.ended l.initial.clerk) l.at-items
    l.at-index
    (at_hand g.F.SharedFloor.shared g.G.Gate.begun g.G.Gate.ended l.clerk)
