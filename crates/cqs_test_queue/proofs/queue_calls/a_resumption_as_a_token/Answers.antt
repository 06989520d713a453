use Rattle.std.proofs.Common.{subst, sym}
use Rattle.cqs_rule.specs.Passes.{IsOf}
use Rattle.cqs_test_queue.proofs.queue_calls.a_resumption_as_a_token.Goals as goal

pub under_of-under-requires-clause-owes : goal.under_of-under-requires-clause-owes
under_of-under-requires-clause-owes g c = record { doing = c.owe.ensures.owes; owed = c.owe.ensures.payload }

pub spend_under-requires-clause-belongs : goal.spend_under-requires-clause-belongs
spend_under-requires-clause-belongs g c =
    subst (λ p. IsOf c.in_ok-queue.queue p) (sym c.under_of-under.ensures.same) c.owe.ensures.belongs

pub under_of-under-requires-clause-reached : goal.under_of-under-requires-clause-reached
under_of-under-requires-clause-reached g c = sym c.owe.ensures.reached
