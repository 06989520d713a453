use Rattle.std.proofs.Common.{refl, ap, ◌∙◌, subst, None, Some}
use Rattle.cqs_rule_laws.specs.Lists.{without}
use Rattle.cqs_rule.specs.Passes.{pass_view}
use Rattle.cqs_rule.specs.Waits.{place_of}
use Rattle.cqs_semaphore.specs.declared.answers.CancelAnswer.TheVariants.{Cancelled}
use Rattle.cqs_semaphore.specs.Steps.{HasCancelled}
use Rattle.cqs_semaphore_crew.proofs.Ends.{without-one, left-done, left-owing}
use Rattle.cqs_example_semaphore.proofs.give_up.Goals as goal

-- a permit was left to the wait, and is on its way
pub finish-requires : goal.finish-requires
finish-requires c =
    let k = (place_of c.args.wait).index in
    let v = pass_view c.args.pass.now in
    let w = pass_view c.cancel.new.pass in
    let answer = c.in-Cancelled-Some.is ∙ ap Cancelled c.in-Cancelled-Some.field-0-is in
    let told : HasCancelled k v (Cancelled (Some c.in-Cancelled-Some.under)) w =
    subst (λ answer. HasCancelled k v answer w) answer c.cancel.ensures.cancelled in
    let left = left-owing k v w c.in-Cancelled-Some.under told.0 told.2.1 in record {
      owes = record {
        belongs = c.cancel.ensures.belongs;
        owes = left.owes;
        further = left.further;
        held_is = refl;
        waits_are = left.waits_are ∙ (ap (without k) c.requires.waits.0.waits_are ∙ without-one k);
      };
      ample = c.requires.ample;
    }

-- nothing is owed, and the one wait has ended
pub returns-in-Cancelled-None : goal.returns-in-Cancelled-None
returns-in-Cancelled-None c =
    let k = (place_of c.args.wait).index in
    let v = pass_view c.args.pass.now in
    let w = pass_view c.cancel.new.pass in
    let answer = c.in-Cancelled-None.is ∙ ap Cancelled c.in-Cancelled-None.field-0-is in
    let told : HasCancelled k v (Cancelled None) w =
    subst (λ answer. HasCancelled k v answer w) answer c.cancel.ensures.cancelled in
    let rests = left-done k v w told.0 told.2.1 in record {
      ended = record {
        belongs = c.cancel.ensures.belongs;
        ready = rests.ready;
        held_is = rests.held_is;
        waits_are = rests.waits_are ∙ (ap (without k) c.requires.waits.0.waits_are ∙ without-one k);
      };
    }

-- it has arrived
pub returns-in-Cancelled-Some : goal.returns-in-Cancelled-Some
returns-in-Cancelled-Some c =
    let k = (place_of c.args.wait).index in
    let v = pass_view c.args.pass.now in
    let w = pass_view c.cancel.new.pass in
    let answer = c.in-Cancelled-Some.is ∙ ap Cancelled c.in-Cancelled-Some.field-0-is in
    let told : HasCancelled k v (Cancelled (Some c.in-Cancelled-Some.under)) w =
    subst (λ answer. HasCancelled k v answer w) answer c.cancel.ensures.cancelled in
    let left = left-owing k v w c.in-Cancelled-Some.under told.0 told.2.1 in
    let rest = c.finish.ensures.rest in record {
      ended = record {
        belongs = rest.belongs;
        ready = rest.ready;
        held_is = rest.held_is ∙ left.held_is;
        waits_are = rest.waits_are;
      };
    }

-- the permit had come before the wait was cancelled
pub returns-in-TooLate : goal.returns-in-TooLate
returns-in-TooLate c =
    let k = (place_of c.args.wait).index in
    let told = rw c.in-TooLate.is at c.cancel.ensures.cancelled in
    let rests = told.2.3 in record {
      ended = record {
        belongs = c.cancel.ensures.belongs;
        ready = rests.ready;
        held_is = rests.held_is;
        waits_are = rests.waits_are ∙ (ap (without k) c.requires.waits.0.waits_are ∙ without-one k);
      };
    }
