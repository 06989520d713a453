use Rattle.cqs_rule.specs.Passes.{pass_view}
use Rattle.cqs_pool_values.proofs.Values.{all-filled, tidy-same, ends-slots}
use Rattle.cqs_pool_values.proofs.opening.ValuePool.finish.Goals as goal

pub returns-clause-belongs : goal.returns-clause-belongs
returns-clause-belongs g c =
    let v = pass_view c.args.pass.now in
    let w = pass_view c.finish.new.pass in
    let b = c.requires.belongs in
    let rule = c.finish.ensures.called.called in record {
      mine = c.finish.ensures.belongs;
      filled = all-filled _ _ _ b.filled rule.handed;
      tidy = tidy-same v w b.tidy rule.unlaid (ends-slots _ _ _ _ _ _ c.finish.ensures.ends);
    }
