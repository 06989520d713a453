use Rattle.cqs_latch_object.proofs.Balance.{every-count-is-kept, nobody-comes-past-early}
use Rattle.cqs_latch_object.proofs.laws.nobody_comes_past_early.Goals as goal

pub returns : goal.returns
returns c = record { kept = every-count-is-kept; early = nobody-comes-past-early }
