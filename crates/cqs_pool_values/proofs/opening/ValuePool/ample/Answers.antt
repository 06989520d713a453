use Rattle.std.proofs.Common.{◌≡◌, rules, ap, length}
use Rattle.cqs_rule.specs.Passes.{pass_view}
use Rattle.cqs_rule_laws.specs.Slots.{laid_in}
use Rattle.cqs_pool.specs.Calls.{size_of}
use Rattle.cqs_pool_values.proofs.Values.{all-held}
use Rattle.cqs_pool_values.proofs.opening.ValuePool.ample.Goals as goal

pub returns-clause-belongs : goal.returns-clause-belongs
returns-clause-belongs g c =
    let size : size_of c.in-Ok.made.0 ≡ length c.args.values.items = search rules in record {
      mine = c.fill.ensures.belongs;
      filled = all-held c.args.values.items _ (pass_view c.fill.new.pass).handed size c.fill.ensures.filled;
      tidy = λ e none. ap (λ z. laid_in z.laid e) c.fill.ensures.swapped.is;
    }
