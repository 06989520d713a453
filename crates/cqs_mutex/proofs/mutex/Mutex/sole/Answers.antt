use Rattle.std.proofs.Common.{◌∙◌, ap, sym}
use Rattle.cqs_mutex.proofs.Values.{filled-more}
use Rattle.cqs_mutex.proofs.mutex.Mutex.sole.Goals as goal

pub returns-clause-belongs : goal.returns-clause-belongs
returns-clause-belongs g c =
    let b = c.requires.belongs in
    let rule = c.sole.ensures.looked.saw in record {
      mine = c.sole.ensures.belongs;
      filled = filled-more _ _ b.filled rule.handed;
      tidy = λ none. rule.unlaid 0 (b.tidy (ap (λ f. f.has.held) (sym c.sole.ensures.looked.facts_are) ∙ none));
    }
