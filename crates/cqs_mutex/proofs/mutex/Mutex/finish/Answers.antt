use Rattle.std.proofs.Common.{◌∙◌, sym}
use Rattle.cqs_mutex.proofs.Values.{filled-more, ends-held, ends-leave}
use Rattle.cqs_mutex.proofs.mutex.Mutex.finish.Goals as goal

pub returns-clause-belongs : goal.returns-clause-belongs
returns-clause-belongs g c =
    let b = c.requires.belongs in
    let rule = c.finish.ensures.called.called in record {
      mine = c.finish.ensures.belongs;
      filled = filled-more _ _ b.filled rule.handed;
      tidy = λ none. rule.unlaid 0 (b.tidy (sym (ends-held _ _ _ _ _ c.finish.ensures.ends) ∙ none));
    }

pub returns-clause-leaves : goal.returns-clause-leaves
returns-clause-leaves g c = ends-leave _ _ _ _ _ c.finish.ensures.ends
