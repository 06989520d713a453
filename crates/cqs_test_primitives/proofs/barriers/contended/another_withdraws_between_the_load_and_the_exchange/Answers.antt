use Rattle.std.proofs.Common.{ap, refl, subst, sym}
use Rattle.cqs_rule_laws.specs.declared.view.Facts.{Facts}
use Rattle.cqs_rule.specs.Passes.{pass_view}
use Rattle.cqs_rule_laws.specs.Placed.{KnowsPlace}
use Rattle.cqs_rule.specs.Waits.{place_of}
use Rattle.cqs_rule.proofs.Places.{knows-saw}
use Rattle.cqs_barrier.specs.Barrier.{barrier_object}
use Rattle.cqs_barrier.specs.Waits.{wait_in}
use Rattle.cqs_barrier.specs.Word.{is_over}
use Rattle.cqs_barrier.proofs.LeaveSteps.{looked}
use Rattle.cqs_test_primitives.proofs.barriers.contended.another_withdraws_between_the_load_and_the_exchange.Goals as goal

pub begin_cancel-requires-clause-belongs : goal.begin_cancel-requires-clause-belongs
begin_cancel-requires-clause-belongs g c =
    rw c.queue.ensures (rw c.spend_wait-at.ensures.same c.in-Ok-Later.ensures.belongs)

pub leave_from-requires-clause-place : goal.leave_from-requires-clause-place
leave_from-requires-clause-place g c = λ κs.
    let at = c.spend_wait-at in
    let has = (rw c.in-Ok-Later.field-0-is at c.in-Ok-Later.ensures.arrived).1 in
    let here = subst (λ q. KnowsPlace (pass_view q) (place_of (wait_in c.in-Ok-Later.wait))) (sym at.ensures.same)
    has.place in
    let knows = subst (λ p. KnowsPlace (pass_view at.new.pass) p) (sym at.ensures.place) here in
    knows-saw barrier_object _ _ _ _ at.result c.look_to_leave-loaded.ensures.saw.saw
    (knows-saw barrier_object _ _ _ _ at.result c.in-Ok-begin_cancel.ensures.made.saw knows)

pub leave_again-requires-clause-has : goal.leave_again-requires-clause-has
leave_again-requires-clause-has g c = λ κs.
    let n = c.look_to_leave-loaded.result in
    let v = pass_view c.begin_cancel.new.pass in
    let leaving = ap (λ (f : Facts). f.doing) c.in-Ok-begin_cancel.ensures.made.saw.facts_are in
    let l = looked (is_over n) c.spend_wait-at.result.index n v (pass_view c.look_to_leave-loaded.new.pass) leaving
    c.look_to_leave-loaded.ensures.saw refl in
    (rw c.in-Contended.is at c.leave_from.ensures.leaves v l).1.still

pub look_to_leave-loaded-requires-clause-belongs : goal.look_to_leave-loaded-requires-clause-belongs
look_to_leave-loaded-requires-clause-belongs g c =
    rw c.queue-2.ensures (rw c.queue.ensures at c.in-Ok-begin_cancel.ensures.belongs)
