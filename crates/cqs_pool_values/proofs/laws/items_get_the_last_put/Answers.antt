use Rattle.std.proofs.Common.{ap}
use Rattle.cqs_rule_laws.specs.declared.carries.Kept.{Kept}
use Rattle.cqs_rule_laws.proofs.OneValue.{one-value}
use Rattle.cqs_pool_values.specs.Values.{in_slot}
use Rattle.cqs_pool.specs.Pool.{slot_given}
use Rattle.cqs_pool_values.proofs.laws.items_get_the_last_put.Goals as goal

pub returns : goal.returns
returns g c = λ e value other before since handed all first last none one.
    ap (λ (k : Kept _). k.value) (one-value slot_given e (in_slot value) (in_slot other) before since handed all
    first last none one)
