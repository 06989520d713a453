use Rattle.std.proofs.Common.{refl, ap, ◌∙◌, subst, [], ◌∷◌, None, Some}
use Rattle.cqs_core.specs.declared.entries.Entry.TheVariants as entry
use Rattle.cqs_rule_laws.specs.Lists.{without}
use Rattle.cqs_rule.specs.Passes.{pass_view}
use Rattle.cqs_rule.specs.Waits.{place_of}
use Rattle.cqs_semaphore.specs.declared.answers.CancelAnswer.TheVariants.{Cancelled}
use Rattle.cqs_semaphore.specs.Steps.{HasCancelled}
use Rattle.cqs_semaphore_client.specs.Semaphore.{semaphore_object}
use Rattle.cqs_rule_laws.proofs.Courses.{course-call, course-then}
use Rattle.cqs_semaphore_crew.proofs.Ends.{without-one, left-done, left-owing}
use Rattle.cqs_semaphore_crew.proofs.Telling.{adds-cancelled, adds-owing, adds-late, adds-then}
use Rattle.cqs_semaphore_crew.proofs.waiting.give_up.Goals as goal

-- a permit was left to the wait, and is on its way
pub finish_all-requires : goal.finish_all-requires
finish_all-requires g c =
    let k = (place_of c.args.wait).index in
    let v = pass_view c.args.pass.now in
    let w = pass_view c.cancel.new.pass in
    let answer = c.in-Cancelled-Some.is ∙ ap Cancelled c.in-Cancelled-Some.field-0-is in
    let told : HasCancelled k v (Cancelled (Some c.in-Cancelled-Some.under)) w =
    subst (λ answer. HasCancelled k v answer w) answer c.cancel.ensures.cancelled in
    let left = left-owing k v w c.in-Cancelled-Some.under told.0 told.2.1 in record {
      owes = record {
        belongs = c.cancel.ensures.belongs;
        owes = left.owes;
        further = left.further;
        held_is = refl;
        waits_are = left.waits_are ∙ (ap (without k) c.requires.waits.0.waits_are ∙ without-one k);
      };
    }

-- nothing is owed, and the one wait has ended
pub returns-in-Cancelled-None : goal.returns-in-Cancelled-None
returns-in-Cancelled-None g c =
    let k = (place_of c.args.wait).index in
    let v = pass_view c.args.pass.now in
    let w = pass_view c.cancel.new.pass in
    let answer = c.in-Cancelled-None.is ∙ ap Cancelled c.in-Cancelled-None.field-0-is in
    let told : HasCancelled k v (Cancelled None) w =
    subst (λ answer. HasCancelled k v answer w) answer c.cancel.ensures.cancelled in
    let rests = left-done k v w told.0 told.2.1 in record {
      ended = record {
        belongs = c.cancel.ensures.belongs;
        ready = rests.ready;
        held_is = rests.held_is;
        waits_are = rests.waits_are ∙ (ap (without k) c.requires.waits.0.waits_are ∙ without-one k);
      };
      adds = adds-cancelled v w _ _ k _ told.1 c.count.ensures;
      keeps = record { acquires = refl; tries = refl };
      by = course-call semaphore_object v w (entry.Leave v.number k ∷ []) _ _ told.1;
    }

pub returns-in-Cancelled-Some-clause-ended : goal.returns-in-Cancelled-Some-clause-ended
returns-in-Cancelled-Some-clause-ended g c =
    let k = (place_of c.args.wait).index in
    let v = pass_view c.args.pass.now in
    let w = pass_view c.cancel.new.pass in
    let answer = c.in-Cancelled-Some.is ∙ ap Cancelled c.in-Cancelled-Some.field-0-is in
    let told : HasCancelled k v (Cancelled (Some c.in-Cancelled-Some.under)) w =
    subst (λ answer. HasCancelled k v answer w) answer c.cancel.ensures.cancelled in
    let left = left-owing k v w c.in-Cancelled-Some.under told.0 told.2.1 in
    let rest = c.finish_all.ensures.rest in
    record {
      belongs = rest.belongs;
      ready = rest.ready;
      held_is = rest.held_is ∙ left.held_is;
      waits_are = rest.waits_are;
    }

pub returns-in-Cancelled-Some-clause-adds : goal.returns-in-Cancelled-Some-clause-adds
returns-in-Cancelled-Some-clause-adds g c =
    let k = (place_of c.args.wait).index in
    let v = pass_view c.args.pass.now in
    let w = pass_view c.cancel.new.pass in
    let answer = c.in-Cancelled-Some.is ∙ ap Cancelled c.in-Cancelled-Some.field-0-is in
    let told : HasCancelled k v (Cancelled (Some c.in-Cancelled-Some.under)) w =
    subst (λ answer. HasCancelled k v answer w) answer c.cancel.ensures.cancelled in
    adds-then 0 1 0 _ _ _ _ _ _ (adds-owing v w _ _ k _ told.1 c.count-in-Cancelled-Some.ensures)
    c.finish_all.ensures.adds

pub returns-in-Cancelled-Some-clause-by : goal.returns-in-Cancelled-Some-clause-by
returns-in-Cancelled-Some-clause-by g c =
    let k = (place_of c.args.wait).index in
    let v = pass_view c.args.pass.now in
    let w = pass_view c.cancel.new.pass in
    let answer = c.in-Cancelled-Some.is ∙ ap Cancelled c.in-Cancelled-Some.field-0-is in
    let told : HasCancelled k v (Cancelled (Some c.in-Cancelled-Some.under)) w =
    subst (λ answer. HasCancelled k v answer w) answer c.cancel.ensures.cancelled in
    course-then semaphore_object v w _ (entry.Leave v.number k ∷ []) []
    (course-call semaphore_object v w (entry.Leave v.number k ∷ []) _ _ told.1)
    c.finish_all.ensures.silent

-- the one wait has its permit
pub returns-in-TooLate-clause-ended : goal.returns-in-TooLate-clause-ended
returns-in-TooLate-clause-ended g c =
    let k = (place_of c.args.wait).index in
    let told = rw c.in-TooLate.is at c.cancel.ensures.cancelled in
    let rests = told.2.3 in
    record {
      belongs = c.cancel.ensures.belongs;
      ready = rests.ready;
      held_is = rests.held_is;
      waits_are = rests.waits_are ∙ (ap (without k) c.requires.waits.0.waits_are ∙ without-one k);
    }

pub returns-in-TooLate-clause-adds : goal.returns-in-TooLate-clause-adds
returns-in-TooLate-clause-adds g c =
    let told = rw c.in-TooLate.is at c.cancel.ensures.cancelled in
    adds-late _ _ _ _ _ _ told.1 c.count-in-TooLate.ensures

pub returns-in-TooLate-clause-by : goal.returns-in-TooLate-clause-by
returns-in-TooLate-clause-by g c =
    let told = rw c.in-TooLate.is at c.cancel.ensures.cancelled in course-call semaphore_object _ _ _ _ _ told.1

pub returns-in-Cancelled-Some-clause-keeps : goal.returns-in-Cancelled-Some-clause-keeps
returns-in-Cancelled-Some-clause-keeps g c =
    record { acquires = c.finish_all.ensures.keeps.acquires; tries = c.finish_all.ensures.keeps.tries }
