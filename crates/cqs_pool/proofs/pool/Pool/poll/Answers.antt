use Rattle.std.proofs.Common.{◌∷◌, [], sym, refl, ap, ◌∙◌, subst}
use Rattle.cqs_pool_object.specs.declared.entries.PoolEntry.TheVariants as entry
use Rattle.cqs_rule.specs.Passes.{pass_view, IsOf}
use Rattle.cqs_rule.specs.Waits.{place_of}
use Rattle.cqs_rule.proofs.Places.{knows-at, knows-saw}
use Rattle.cqs_pool.specs.declared.answers.PoolPolled.TheVariants.{Pending}
use Rattle.cqs_pool.specs.Answers.{IsPolled}
use Rattle.cqs_pool.specs.Calls.{CallRule}
use Rattle.cqs_pool.specs.Pool.{pool_object}
use Rattle.cqs_pool.proofs.AloneSteps.{plain-granted, plain-pending, new-one}
use Rattle.cqs_core.specs.declared.cells.CoreState.TheVariants as state
use Rattle.cqs_rule_laws.proofs.Rules.{call-rule_own}
use Rattle.cqs_cell.proofs.Polls.{FoundSo, found-so, pending-called, pending-cell, pending-ready, pending-has, pending-waits, granted-called, granted-cell, granted-ready, granted-has, granted-waits}
use Rattle.cqs_pool.specs.Causes.{primitive_of}
use Rattle.cqs_pool.proofs.pool.Pool.poll.Goals as goal

pub look_for_grant-requires-clause-belongs : goal.look_for_grant-requires-clause-belongs
look_for_grant-requires-clause-belongs g c =
    subst (λ p. IsOf c.args.self.now.queue p) (sym c.spend_wait-at.ensures.same) c.requires.belongs

pub wait_of-requires-clause-place : goal.wait_of-requires-clause-place
wait_of-requires-clause-place g c =
    let at = c.spend_wait-at in
    knows-saw pool_object (pass_view at.new.pass) (pass_view c.look_for_grant.new.pass) _ _ at.result
    c.look_for_grant.ensures.polled.looks.looked.saw
    (knows-at (pass_view c.args.pass.now) (pass_view at.new.pass) (place_of c.args.wait) at.result
    (ap pass_view at.ensures.same) at.ensures.place c.requires.has.place)

pub returns-in-Some-clause-called : goal.returns-in-Some-clause-called
returns-in-Some-clause-called g c =
    let v = pass_view c.args.pass.now in
    let w = pass_view c.look_for_grant.new.pass in
    let k = (place_of c.args.wait).index in
    let e = c.in-Some.number in
    let polled = c.look_for_grant.ensures.polled in
    let looks = rw (c.spend_wait-at.ensures.same, c.spend_wait-at.ensures.place) at polled.looks in
    let grant = rw c.in-Some.is at polled.grant in
    let found = subst (λ x. FoundSo pool_object primitive_of state.Resumed k x v w) grant.1
    (found-so pool_object primitive_of state.Resumed k v w _ looks grant.0) in
    call-rule_own pool_object _ _ (entry.LookGranted v.number k e ∷ []) _
    (granted-called pool_object primitive_of k e v w found) (λ n. refl, tt)
    c.requires.belongs.live.own c.look_for_grant.ensures.belongs.live.legal

pub returns-in-Some-clause-polled : goal.returns-in-Some-clause-polled
returns-in-Some-clause-polled g c =
    let v = pass_view c.args.pass.now in
    let w = pass_view c.look_for_grant.new.pass in
    let k = (place_of c.args.wait).index in
    let e = c.in-Some.number in
    let polled = c.look_for_grant.ensures.polled in
    let looks = rw (c.spend_wait-at.ensures.same, c.spend_wait-at.ensures.place) at polled.looks in
    let grant = rw c.in-Some.is at polled.grant in
    let found = subst (λ x. FoundSo pool_object primitive_of state.Resumed k x v w) grant.1
    (found-so pool_object primitive_of state.Resumed k v w _ looks grant.0) in (
      ap (λ p. p.index) c.spend_wait-at.ensures.place,
      granted-cell pool_object primitive_of k e v w found,
      record {
        ready = granted-ready pool_object primitive_of k e v w found c.requires.ready;
        elements_are = ap (λ h. h.slots) (granted-has pool_object primitive_of k e v w found);
        waits_are = granted-waits pool_object primitive_of k e v w found;
      },
    )

pub returns-in-None-clause-belongs : goal.returns-in-None-clause-belongs
returns-in-None-clause-belongs g c =
    subst (λ p. IsOf c.args.self.now.queue p) (sym c.wait_of.ensures.same) c.look_for_grant.ensures.belongs

pub returns-in-None-clause-called : goal.returns-in-None-clause-called
returns-in-None-clause-called g c =
    let v = pass_view c.args.pass.now in
    let k = (place_of c.args.wait).index in
    let polled = c.look_for_grant.ensures.polled in
    let looks = rw (c.spend_wait-at.ensures.same, c.spend_wait-at.ensures.place) at polled.looks in
    subst (λ p. CallRule v (entry.LookPending v.number k ∷ []) [] (pass_view p)) (sym c.wait_of.ensures.same)
    (call-rule_own pool_object _ _ (entry.LookPending v.number k ∷ []) _
    (pending-called pool_object primitive_of k _ _ _ (found-so pool_object primitive_of state.Waiter k _ _ _ looks
    (rw c.in-None.is at polled.grant))) (λ n. refl, tt)
    c.requires.belongs.live.own c.look_for_grant.ensures.belongs.live.legal)

pub returns-in-None-clause-polled : goal.returns-in-None-clause-polled
returns-in-None-clause-polled g c =
    let v = pass_view c.args.pass.now in
    let k = (place_of c.args.wait).index in
    let polled = c.look_for_grant.ensures.polled in
    let looks = rw (c.spend_wait-at.ensures.same, c.spend_wait-at.ensures.place) at polled.looks in
    let found = found-so pool_object primitive_of state.Waiter k _ _ _ looks (rw c.in-None.is at polled.grant) in
    let has = rw c.wait_of.ensures.same at c.wait_of.ensures.has in
    subst (λ p. IsPolled c.args.wait v (Pending c.wait_of.result) (pass_view p)) (sym c.wait_of.ensures.same) (
      c.wait_of.ensures.place ∙ c.spend_wait-at.ensures.place,
      has,
      pending-cell pool_object primitive_of k _ _ _ found,
      record {
        ready = pending-ready pool_object primitive_of k _ _ _ found c.requires.ready;
        elements_are = ap (λ h. h.slots) (pending-has pool_object primitive_of k _ _ _ found);
        waits_are = pending-waits pool_object primitive_of k _ _ _ found;
      },
    )

pub returns-in-Some-clause-alone : goal.returns-in-Some-clause-alone
returns-in-Some-clause-alone g c = λ alone.
    plain-granted _ _ (place_of c.args.wait).index c.in-Some.number
    (returns-in-Some-clause-called g c) alone

pub returns-in-None-clause-alone : goal.returns-in-None-clause-alone
returns-in-None-clause-alone g c = λ alone.
    plain-pending _ _ (place_of c.args.wait).index (returns-in-None-clause-called g c) alone

pub returns-in-Some-clause-new : goal.returns-in-Some-clause-new
returns-in-Some-clause-new g c =
    new-one _ c.in-Some.number _ _ c.look_for_grant.ensures.belongs.live.known
    (returns-in-Some-clause-polled g c).2.elements_are
