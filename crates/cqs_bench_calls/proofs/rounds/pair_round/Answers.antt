use Rattle.std.proofs.Common.{ap, subst, sym}
use Rattle.cqs_rule.specs.Passes.{pass_view, IsOf}
use Rattle.cqs_rule.proofs.Places.{knows-at}
use Rattle.cqs_bench_calls.proofs.rounds.pair_round.Goals as goal

pub spend_wait-at-requires-clause-has : goal.spend_wait-at-requires-clause-has
spend_wait-at-requires-clause-has c = c.release.ensures.waits.each c.in-Some.wait c.in-Some.ensures.waits

pub look_for_grant-requires-clause-place : goal.look_for_grant-requires-clause-place
look_for_grant-requires-clause-place c =
    knows-at (pass_view c.release.new.pass) (pass_view c.spend_wait-at.new.pass) _ _
    (ap pass_view c.spend_wait-at.ensures.same) c.spend_wait-at.ensures.place
    (c.release.ensures.waits.each c.in-Some.wait c.in-Some.ensures.waits).place

pub look_for_grant-requires-clause-belongs : goal.look_for_grant-requires-clause-belongs
look_for_grant-requires-clause-belongs c =
    subst (λ p. IsOf c.args.queue.now p) (sym c.spend_wait-at.ensures.same) c.release.ensures.belongs
