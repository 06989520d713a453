use Rattle.cqs_latch_object.proofs.LatchBounds.{every-count-is-high, every-count-is-low}
use Rattle.cqs_latch_object.proofs.laws.the_count_stays_in_range.Goals as goal

pub returns : goal.returns
returns c = record { high = every-count-is-high; low = every-count-is-low }
