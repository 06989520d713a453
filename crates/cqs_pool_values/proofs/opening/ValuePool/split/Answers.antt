use Rattle.std.proofs.Common.{ap, sym, subst}
use Rattle.cqs_rule_laws.specs.Slots.{laid_in}
use Rattle.cqs_pool_values.specs.Pools.{AreFilled}
use Rattle.cqs_rule.specs.Passes.{pass_view}
use Rattle.cqs_pool_values.proofs.Values.{all-filled, tidy-same, if-ok}
use Rattle.cqs_pool_values.proofs.opening.ValuePool.split.Goals as goal

pub returns-clause-belongs : goal.returns-clause-belongs
returns-clause-belongs g c =
    let v = pass_view c.args.pass.now in
    let w = pass_view c.split.new.pass in
    let b = c.requires.belongs in
    let rule = c.split.ensures.looked.saw in record {
      mine = c.split.ensures.belongs;
      filled = all-filled _ _ _ b.filled rule.handed;
      tidy = tidy-same v w b.tidy rule.unlaid (ap (λ f. f.has.slots) c.split.ensures.looked.facts_are);
    }

pub returns-clause-new_belongs : goal.returns-clause-new_belongs
returns-clause-new_belongs g c =
    let now = returns-clause-belongs g c in
    if-ok c.split.result _ _ _ (λ made mine came. record {
      mine = mine;
      filled = subst (AreFilled _) (sym came.handed) now.filled;
      tidy = λ e none. ap (λ l. laid_in l e) came.bare;
    }) c.split.ensures.new_belongs c.split.ensures.came
