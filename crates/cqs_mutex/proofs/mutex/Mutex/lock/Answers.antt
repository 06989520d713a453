use Rattle.std.proofs.Common.{◌∙◌, refl, sym}
use Rattle.cqs_mutex.proofs.Values.{filled-more, refused-held, same-refusal}
use Rattle.cqs_rule.specs.Passes.{pass_view}
use Rattle.cqs_mutex.proofs.mutex.Mutex.lock.Goals as goal

pub take-requires-clause-filled : goal.take-requires-clause-filled
take-requires-clause-filled g c = λ κs lives.
    filled-more _ _ c.requires.belongs.filled (c.acquire.ensures.called.called).handed

pub returns-in-Ok-Later-clause-belongs : goal.returns-in-Ok-Later-clause-belongs
returns-in-Ok-Later-clause-belongs g c =
    let b = c.requires.belongs in
    let rule = c.acquire.ensures.called.called in record {
      mine = c.acquire.ensures.belongs;
      filled = filled-more _ _ b.filled rule.handed;
      tidy = λ none. rule.unlaid 0 (b.tidy
          (sym (rw c.in-Ok-Later.field-0-is at c.in-Ok-Later.ensures.acquired).3.held_is ∙ none));
    }

pub returns-in-Err-clause-belongs : goal.returns-in-Err-clause-belongs
returns-in-Err-clause-belongs g c =
    let b = c.requires.belongs in
    let rule = c.acquire.ensures.called.called in record {
      mine = c.acquire.ensures.belongs;
      filled = filled-more _ _ b.filled rule.handed;
      tidy = λ none. rule.unlaid 0
          (b.tidy (sym (refused-held _ _ _ c.in-Err.ensures.worn c.in-Err.ensures.crowded) ∙ none));
    }

pub returns-in-Ok-Later-clause-holds : goal.returns-in-Ok-Later-clause-holds
returns-in-Ok-Later-clause-holds g c = (rw c.in-Ok-Later.field-0-is at c.in-Ok-Later.ensures.acquired).2

pub returns-in-Err-clause-locked : goal.returns-in-Err-clause-locked
returns-in-Err-clause-locked g c =
    let e = c.in-Err.ensures in
    record {
      between = pass_view c.acquire.new.pass;
      called = e.called;
      worn = λ is. e.worn (same-refusal _ _ is);
      crowded = λ is. e.crowded (same-refusal _ _ is);
      below = tt;
      acquired = tt;
      alone = λ alone. tt;
      value = refl;
    }
