use Rattle.std.proofs.Common.{◌-◌}
use Rattle.cqs_rule.specs.Passes.{IsOf}
use Rattle.cqs_rule_laws.specs.Views.{crew_turn}
use Rattle.cqs_rule_laws.proofs.Tries.{Tries}
use Rattle.cqs_rule.proofs.queue.Queue.split.Given as goal

abbrev pub invariant-loop-pass : goal.invariant-loop-pass
invariant-loop-pass g l =
    let C = g.C.ClientWords in IsOf l.self l.pass × Tries C.object l.fn.pass.seat.me.0 l.pass.seat.me.0 l.saw

abbrev pub decreases-loop-pass : goal.decreases-loop-pass
decreases-loop-pass g l = 8589934592 - crew_turn l.saw

abbrev pub ghosts-make : goal.ghosts-make
ghosts-make g a = record { gives = a.gives }
