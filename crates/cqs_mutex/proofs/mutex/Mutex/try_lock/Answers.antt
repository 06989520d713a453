use Rattle.std.proofs.Common.{◌∙◌, sym}
use Rattle.cqs_mutex.proofs.Values.{filled-more}
use Rattle.cqs_mutex.proofs.mutex.Mutex.try_lock.Goals as goal

pub take-requires-clause-filled : goal.take-requires-clause-filled
take-requires-clause-filled g c = λ κs lives.
    filled-more _ _ c.requires.belongs.filled (c.try_acquire.ensures.called.called).handed

pub returns-in-Busy-clause-belongs : goal.returns-in-Busy-clause-belongs
returns-in-Busy-clause-belongs g c =
    let b = c.requires.belongs in
    let rule = c.try_acquire.ensures.called.called in record {
      mine = c.try_acquire.ensures.belongs;
      filled = filled-more _ _ b.filled rule.handed;
      tidy = λ none. rule.unlaid 0 (b.tidy (sym c.in-Busy.ensures.tries.rests.held_is ∙ none));
    }

pub returns-in-Contended-clause-belongs : goal.returns-in-Contended-clause-belongs
returns-in-Contended-clause-belongs g c =
    let b = c.requires.belongs in
    let rule = c.try_acquire.ensures.called.called in record {
      mine = c.try_acquire.ensures.belongs;
      filled = filled-more _ _ b.filled rule.handed;
      tidy = λ none. rule.unlaid 0 (b.tidy (sym c.in-Contended.ensures.tries.rests.held_is ∙ none));
    }
