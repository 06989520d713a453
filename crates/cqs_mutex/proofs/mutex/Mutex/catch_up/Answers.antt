use Rattle.std.proofs.Common.{◌≡◌, ◌∙◌, ap, sym, subst}
use Rattle.cqs_core.specs.declared.entries.Entry.{Entry}
use Rattle.cqs_rule.specs.Passes.{pass_view}
use Rattle.cqs_rule_laws.specs.declared.view.View.{View}
use Rattle.cqs_rule_laws.specs.Slots.{laid_in}
use Rattle.std.specs.Prelude.{None}
use Rattle.cqs_mutex.specs.Mutexes.{IsFilled}
use Rattle.cqs_mutex.proofs.Values.{filled-more}
use Rattle.cqs_mutex.proofs.mutex.Mutex.catch_up.Goals as goal

pub returns-clause-belongs : goal.returns-clause-belongs
returns-clause-belongs g c =
    let b = c.requires.belongs in
    let rule = c.catch_up.ensures.looked.saw in record {
      mine = c.catch_up.ensures.belongs;
      filled = filled-more _ _ b.filled rule.handed;
      tidy = λ none. rule.unlaid 0 (b.tidy (ap (λ f. f.has.held) (sym c.catch_up.ensures.looked.facts_are) ∙ none));
    }

pub returns-clause-other_belongs : goal.returns-clause-other_belongs
returns-clause-other_belongs g c =
    let b = c.requires.other_belongs in
    let same = sym c.catch_up.ensures.other_stays in record {
      mine = c.catch_up.ensures.other_belongs;
      filled = subst (λ v. IsFilled v.handed) same b.filled;
      tidy = subst (λ v. v.facts.has.held ≡ 0 → laid_in v.laid 0 ≡ None) same b.tidy;
    }
