use Rattle.std.proofs.Common.{ap, sym, subst}
use Rattle.cqs_rule.specs.Passes.{pass_view}
use Rattle.cqs_pool_values.specs.Pools.{AreFilled, IsTidy}
use Rattle.cqs_pool.specs.Calls.{size_of}
use Rattle.cqs_pool_values.proofs.Values.{all-filled, tidy-same}
use Rattle.cqs_pool_values.proofs.opening.ValuePool.catch_up.Goals as goal

pub returns-clause-belongs : goal.returns-clause-belongs
returns-clause-belongs g c =
    let v = pass_view c.args.pass.now in
    let w = pass_view c.catch_up.new.pass in
    let b = c.requires.belongs in
    let rule = c.catch_up.ensures.looked.saw in record {
      mine = c.catch_up.ensures.belongs;
      filled = all-filled _ _ _ b.filled rule.handed;
      tidy = tidy-same v w b.tidy rule.unlaid (ap (λ f. f.has.slots) c.catch_up.ensures.looked.facts_are);
    }

pub returns-clause-other_belongs : goal.returns-clause-other_belongs
returns-clause-other_belongs g c =
    let b = c.requires.other_belongs in
    let same = sym c.catch_up.ensures.other_stays in record {
      mine = c.catch_up.ensures.other_belongs;
      filled = subst (λ v. AreFilled (size_of c.args.self.now.pool) v.handed) same b.filled;
      tidy = subst IsTidy same b.tidy;
    }
