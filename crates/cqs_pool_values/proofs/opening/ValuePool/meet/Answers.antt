use Rattle.std.proofs.Common.{◌∙◌, ap, sym, subst}
use Rattle.cqs_rule_laws.specs.Lists.{Has}
use Rattle.cqs_rule.specs.Passes.{pass_view}
use Rattle.cqs_rule_laws.specs.Slots.{laid_in}
use Rattle.cqs_rule_laws.proofs.Lists.{has_left, has_right}
use Rattle.cqs_pool_values.specs.Pools.{Belongs}
use Rattle.cqs_pool_values.proofs.Values.{all-filled, none-both, by-answer}
use Rattle.cqs_pool_values.proofs.opening.ValuePool.meet.Goals as goal

pub returns-clause-belongs : goal.returns-clause-belongs
returns-clause-belongs g c =
    let b = c.requires.belongs in
    let u = c.requires.given_belongs in
    let mine = (pass_view c.args.pass.now).facts.has.slots in
    let theirs = (pass_view c.args.given).facts.has.slots in
    by-answer c.meet.result _ _ _ _ _
    (λ met laid elements. record {
      mine = c.meet.ensures.belongs;
      filled = all-filled _ _ _ b.filled met.handed_in;
      tidy = λ e none.
          ap (λ l. laid_in l e) laid ∙ none-both e (pass_view c.args.pass.now).laid (pass_view c.args.given).laid
          (b.tidy e (λ h. none (subst (Has e) (sym elements) (has_left e mine theirs h))))
          (u.tidy e (λ h. none (subst (Has e) (sym elements) (has_right e mine theirs h))));
    })
    (λ same. subst (λ p. Belongs c.args.self.now p) (sym same) b)
    c.meet.ensures.met c.meet.ensures.laid c.meet.ensures.elements c.meet.ensures.unchanged
