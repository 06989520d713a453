use Rattle.std.proofs.Common.{◌∙◌, ap, sym, subst, arith}
use Rattle.cqs_rule.specs.Passes.{pass_view}
use Rattle.cqs_rule_laws.specs.Slots.{laid_in}
use Rattle.cqs_mutex.specs.Mutexes.{Belongs}
use Rattle.cqs_mutex.proofs.Values.{filled-more, none-both, by-answer}
use Rattle.cqs_mutex.proofs.mutex.Mutex.meet.Goals as goal

pub returns-clause-belongs : goal.returns-clause-belongs
returns-clause-belongs g c =
    let b = c.requires.belongs in
    let u = c.requires.given_belongs in
    by-answer c.meet.result _ _ _ _
    (λ met laid. record {
      mine = c.meet.ensures.belongs;
      filled = filled-more _ _ b.filled met.handed_in;
      tidy = λ none.
          let sum = ap (λ f. f.has.held) met.facts_are in
          ap (λ l. laid_in l 0) laid ∙ none-both (pass_view c.args.pass.now).laid (pass_view c.args.given).laid
          (b.tidy (omega arith)) (u.tidy (omega arith));
    })
    (λ same. subst (λ p. Belongs c.args.self.now p) (sym same) b)
    c.meet.ensures.met c.meet.ensures.laid c.meet.ensures.unchanged
