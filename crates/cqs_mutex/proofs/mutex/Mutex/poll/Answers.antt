use Rattle.std.proofs.Common.{◌∙◌, sym}
use Rattle.cqs_mutex.proofs.Values.{filled-more}
use Rattle.cqs_mutex.proofs.mutex.Mutex.poll.Goals as goal

pub take-requires-clause-filled : goal.take-requires-clause-filled
take-requires-clause-filled g c = λ κs lives.
    filled-more _ _ c.requires.belongs.filled (c.poll.ensures.called.called).handed

pub returns-in-Pending-clause-belongs : goal.returns-in-Pending-clause-belongs
returns-in-Pending-clause-belongs g c =
    let b = c.requires.belongs in
    let rule = c.poll.ensures.called.called in record {
      mine = c.poll.ensures.belongs;
      filled = filled-more _ _ b.filled rule.handed;
      tidy = λ none. rule.unlaid 0 (b.tidy (sym c.in-Pending.ensures.polled.3.held_is ∙ none));
    }

pub returns-in-Pending-clause-holds : goal.returns-in-Pending-clause-holds
returns-in-Pending-clause-holds g c = c.in-Pending.ensures.polled.1
