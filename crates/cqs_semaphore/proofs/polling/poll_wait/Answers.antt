use Rattle.std.proofs.Common.{◌∷◌, [], Some, sym, refl, ap, ◌∙◌, subst}
use Rattle.cqs_core.specs.declared.entries.Entry.TheVariants as entry
use Rattle.cqs_rule.specs.Passes.{pass_view, IsOf}
use Rattle.cqs_semaphore_client.specs.Semaphore.{semaphore_object}
use Rattle.cqs_rule.specs.Waits.{place_of}
use Rattle.cqs_rule.proofs.Places.{knows-at, knows-saw}
use Rattle.cqs_semaphore.specs.Answers.{IsPolled}
use Rattle.cqs_semaphore.specs.Calls.{CallRule}
use Rattle.cqs_semaphore.proofs.AloneSteps.{plain-granted, plain-pending}
use Rattle.cqs_core.specs.declared.cells.CoreState.TheVariants as state
use Rattle.cqs_rule_laws.proofs.Rules.{call-rule_own}
use Rattle.cqs_cell.proofs.Polls.{found-so, pending-called, pending-cell, pending-rests, granted-called, granted-cell, granted-rests}
use Rattle.cqs_semaphore_client.specs.SemaphoreMade.{primitive_of}
use Rattle.cqs_semaphore.proofs.polling.poll_wait.Goals as goal

pub look_for_grant-requires-clause-belongs : goal.look_for_grant-requires-clause-belongs
look_for_grant-requires-clause-belongs g c =
    subst (λ p. IsOf c.args.queue.now p) (sym c.spend_wait-at.ensures.same) c.requires.belongs

pub wait_of-requires-clause-place : goal.wait_of-requires-clause-place
wait_of-requires-clause-place g c =
    let at = c.spend_wait-at in
    knows-saw semaphore_object (pass_view at.new.pass) (pass_view c.look_for_grant.new.pass) _ _ at.result
    c.look_for_grant.ensures.polled.looks.looked.saw
    (knows-at (pass_view c.args.pass.now) (pass_view at.new.pass) (place_of c.args.wait) at.result
    (ap pass_view at.ensures.same) at.ensures.place c.requires.has.place)

pub returns-in-Some-clause-called : goal.returns-in-Some-clause-called
returns-in-Some-clause-called g c =
    let v = pass_view c.args.pass.now in
    let k = (place_of c.args.wait).index in
    let polled = c.look_for_grant.ensures.polled in
    let looks = rw (c.spend_wait-at.ensures.same, c.spend_wait-at.ensures.place) at polled.looks in
    call-rule_own semaphore_object _ _ (entry.LookGranted v.number k ∷ []) _
    (granted-called semaphore_object primitive_of k _ _ _ (found-so semaphore_object primitive_of state.Resumed k _ _ _
    looks (rw c.in-Some.is at polled.grant).0)) (λ n. refl, tt)
    c.requires.belongs.live.own c.look_for_grant.ensures.belongs.live.legal

pub returns-in-Some-clause-polled : goal.returns-in-Some-clause-polled
returns-in-Some-clause-polled g c =
    let k = (place_of c.args.wait).index in
    let polled = c.look_for_grant.ensures.polled in
    let looks = rw (c.spend_wait-at.ensures.same, c.spend_wait-at.ensures.place) at polled.looks in
    let found = found-so semaphore_object primitive_of state.Resumed k _ _ _ looks
    (rw c.in-Some.is at polled.grant).0 in (
      ap (λ p. Some p.index) c.spend_wait-at.ensures.place,
      (granted-cell semaphore_object primitive_of k _ _ _ found).0,
      granted-rests semaphore_object primitive_of k _ _ _ found c.requires.ready,
    )

pub returns-in-Some-clause-alone : goal.returns-in-Some-clause-alone
returns-in-Some-clause-alone g c = λ alone.
    plain-granted _ _ _ (returns-in-Some-clause-called g c) (returns-in-Some-clause-polled g c).1 alone

pub returns-in-None-clause-belongs : goal.returns-in-None-clause-belongs
returns-in-None-clause-belongs g c =
    subst (λ p. IsOf c.args.queue.now p) (sym c.wait_of.ensures.same) c.look_for_grant.ensures.belongs

pub returns-in-None-clause-called : goal.returns-in-None-clause-called
returns-in-None-clause-called g c =
    let v = pass_view c.args.pass.now in
    let k = (place_of c.args.wait).index in
    let polled = c.look_for_grant.ensures.polled in
    let looks = rw (c.spend_wait-at.ensures.same, c.spend_wait-at.ensures.place) at polled.looks in
    subst (λ p. CallRule v (entry.LookPending v.number k ∷ []) [] (pass_view p)) (sym c.wait_of.ensures.same)
    (call-rule_own semaphore_object _ _ (entry.LookPending v.number k ∷ []) _
    (pending-called semaphore_object primitive_of k _ _ _ (found-so semaphore_object primitive_of state.Waiter k _ _ _
    looks (rw c.in-None.is at polled.grant))) (λ n. refl, tt)
    c.requires.belongs.live.own c.look_for_grant.ensures.belongs.live.legal)

pub returns-in-None-clause-polled : goal.returns-in-None-clause-polled
returns-in-None-clause-polled g c =
    let v = pass_view c.args.pass.now in
    let k = (place_of c.args.wait).index in
    let polled = c.look_for_grant.ensures.polled in
    let looks = rw (c.spend_wait-at.ensures.same, c.spend_wait-at.ensures.place) at polled.looks in
    let found = found-so semaphore_object primitive_of state.Waiter k _ _ _ looks (rw c.in-None.is at polled.grant) in
    let has = rw c.wait_of.ensures.same at c.wait_of.ensures.has in
    subst (λ p. IsPolled c.args.wait v (Rattle.cqs_semaphore.specs.declared.answers.Polled.TheVariants.Pending
    c.wait_of.result) (pass_view p)) (sym c.wait_of.ensures.same) (
      c.wait_of.ensures.place ∙ c.spend_wait-at.ensures.place,
      has,
      pending-cell semaphore_object primitive_of k _ _ _ found,
      pending-rests semaphore_object primitive_of k _ _ _ found c.requires.ready,
    )

pub returns-in-None-clause-alone : goal.returns-in-None-clause-alone
returns-in-None-clause-alone g c = λ alone. plain-pending _ _ _ (returns-in-None-clause-called g c) alone

pub returns-in-Some-clause-ready : goal.returns-in-Some-clause-ready
returns-in-Some-clause-ready g c = (returns-in-Some-clause-polled g c).2.ready

pub returns-in-None-clause-ready : goal.returns-in-None-clause-ready
returns-in-None-clause-ready g c = (returns-in-None-clause-polled g c).3.ready
