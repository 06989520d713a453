use Rattle.std.proofs.Common.{◌≡◌, true, ◌∙◌, sym, subst}
use Rattle.cqs_rule.specs.Passes.{pass_view}
use Rattle.cqs_rule.specs.Waits.{place_of}
use Rattle.cqs_semaphore.specs.declared.answers.CancelAnswer.TheVariants as cancelled
use Rattle.cqs_semaphore.specs.declared.answers.Permit.{Permit}
use Rattle.cqs_semaphore.specs.Alone.{IsPlainCancel}
use Rattle.cqs_semaphore.specs.Steps.{HasCancelled}
use Rattle.cqs_mutex.specs.Guards.{wait_in}
use Rattle.cqs_mutex.proofs.Values.{filled-more, passes-held, passes-leave}
use Rattle.cqs_mutex.proofs.mutex.Mutex.cancel.Goals as goal

pub take-requires-clause-filled : goal.take-requires-clause-filled
take-requires-clause-filled g c = λ κs lives.
    filled-more _ _ c.requires.belongs.filled (c.cancel.ensures.cancelled.1.called).handed

pub returns-in-Cancelled-clause-belongs : goal.returns-in-Cancelled-clause-belongs
returns-in-Cancelled-clause-belongs g c =
    let b = c.requires.belongs in
    let k = (place_of (wait_in c.args.wait)).index in
    let v = pass_view c.args.pass.now in
    let w = pass_view c.cancel.new.pass in
    let rule = c.cancel.ensures.cancelled.1.called in record {
      mine = c.cancel.ensures.belongs;
      filled = filled-more _ _ b.filled rule.handed;
      tidy = λ none.
          rule.unlaid 0 (b.tidy (sym (passes-held k v w _ _ c.in-Cancelled.ensures.cancelled.2.1) ∙ none));
    }

pub returns-in-Cancelled-clause-holds : goal.returns-in-Cancelled-clause-holds
returns-in-Cancelled-clause-holds g c =
    let k = (place_of (wait_in c.args.wait)).index in
    let v = pass_view c.args.pass.now in
    let w = pass_view c.cancel.new.pass in
    passes-leave k v w _ _ c.in-Cancelled.ensures.cancelled.2.1

pub returns-in-TooLate-clause-left : goal.returns-in-TooLate-clause-left
returns-in-TooLate-clause-left g c =
    let k = (place_of (wait_in c.args.wait)).index in
    let v = pass_view c.args.pass.now in
    let between = pass_view c.cancel.new.pass in
    let same = sym c.take.ensures.permit in
    let e = c.in-TooLate.ensures in record {
      between = between;
      cancelled = subst (λ (p : Permit). HasCancelled k v (cancelled.TooLate p) between) same e.cancelled;
      alone = subst (λ (p : Permit). v.alone ≡ true → IsPlainCancel k v (cancelled.TooLate p)) same e.alone;
      hands_none = λ alone. tt;
      value = c.take.ensures.took;
    }
