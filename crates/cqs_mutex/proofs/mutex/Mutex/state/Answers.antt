use Rattle.std.proofs.Common.{◌∙◌, sym}
use Rattle.cqs_mutex.proofs.Values.{filled-more}
use Rattle.cqs_mutex.proofs.mutex.Mutex.state.Goals as goal

pub returns-clause-belongs : goal.returns-clause-belongs
returns-clause-belongs g c =
    let b = c.requires.belongs in
    let rule = c.state.ensures.called.called in record {
      mine = c.state.ensures.belongs;
      filled = filled-more _ _ b.filled rule.handed;
      tidy = λ none. rule.unlaid 0 (b.tidy (sym c.state.ensures.rests.held_is ∙ none));
    }
