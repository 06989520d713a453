use Rattle.std.proofs.Common.{ap}
use Rattle.cqs_rule_laws.specs.declared.carries.Kept.{Kept}
use Rattle.cqs_rule_laws.proofs.OneValue.{one-value}
use Rattle.cqs_mutex.specs.Values.{in_slot}
use Rattle.cqs_semaphore_client.specs.Semaphore.{slot_given}
use Rattle.cqs_mutex.proofs.laws.guards_get_the_last_unlocked.Goals as goal

pub returns : goal.returns
returns g c = λ value other before since handed all first last none one.
    ap (λ (k : Kept _). k.value) (one-value slot_given 0 (in_slot value) (in_slot other) before since handed all
    first last none one)
