use Rattle.std.proofs.Common.{◌∙◌, ap, sym, subst}
use Rattle.cqs_rule_laws.specs.Slots.{laid_in}
use Rattle.cqs_mutex.specs.Mutexes.{IsFilled}
use Rattle.cqs_mutex.proofs.Values.{filled-more, if-ok}
use Rattle.cqs_mutex.proofs.mutex.Mutex.split.Goals as goal

pub returns-clause-belongs : goal.returns-clause-belongs
returns-clause-belongs g c =
    let b = c.requires.belongs in
    let rule = c.split.ensures.looked.saw in record {
      mine = c.split.ensures.belongs;
      filled = filled-more _ _ b.filled rule.handed;
      tidy = λ none. rule.unlaid 0 (b.tidy (ap (λ f. f.has.held) (sym c.split.ensures.looked.facts_are) ∙ none));
    }

pub returns-clause-new_belongs : goal.returns-clause-new_belongs
returns-clause-new_belongs g c =
    let now = returns-clause-belongs g c in
    if-ok c.split.result _ _ _ (λ made mine came. record {
      mine = mine;
      filled = subst IsFilled (sym came.handed) now.filled;
      tidy = λ none. ap (λ l. laid_in l 0) came.bare;
    }) c.split.ensures.new_belongs c.split.ensures.came
