use Rattle.std.proofs.Common.{length}
use Rattle.cqs_segment.specs.Walks.{Left}
use Rattle.cqs_rule.specs.Passes.{IsOf, pass_view}
use Rattle.cqs_rule.specs.Segments.{spares_of}
use Rattle.cqs_rule.proofs.queue.Queue.give_all_back.Given as goal

-- what the pass has spare still is all that it has besides
abbrev pub invariant-loop-pass : goal.invariant-loop-pass
invariant-loop-pass g l =
    IsOf l.self l.pass
    × Left (spares_of l.pass) (pass_view l.initial.pass).facts.duties (pass_view l.initial.pass) (pass_view l.pass)

abbrev pub decreases-loop-pass : goal.decreases-loop-pass
decreases-loop-pass g l = length (spares_of l.pass)
