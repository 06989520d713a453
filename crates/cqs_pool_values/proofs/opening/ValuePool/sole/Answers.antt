use Rattle.std.proofs.Common.{ap}
use Rattle.cqs_rule.specs.Passes.{pass_view}
use Rattle.cqs_pool_values.proofs.Values.{all-filled, tidy-same}
use Rattle.cqs_pool_values.proofs.opening.ValuePool.sole.Goals as goal

pub returns-clause-belongs : goal.returns-clause-belongs
returns-clause-belongs g c =
    let v = pass_view c.args.pass.now in
    let w = pass_view c.sole.new.pass in
    let b = c.requires.belongs in
    let rule = c.sole.ensures.looked.saw in record {
      mine = c.sole.ensures.belongs;
      filled = all-filled _ _ _ b.filled rule.handed;
      tidy = tidy-same v w b.tidy rule.unlaid (ap (λ f. f.has.slots) c.sole.ensures.looked.facts_are);
    }
