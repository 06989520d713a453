use Rattle.std.proofs.Common.{ap, ◌∙◌}
use Rattle.cqs_floor_shared_any.specs.RoundsShares.{crew_in}
use Rattle.cqs_floor_shared_any.proofs.kinds.rounds.SharedRounds.number.Goals as goal

pub returns : goal.returns
returns c = c.number_in.ensures ∙ ap (λ rs. (crew_in rs).number) c.deref.ensures.value
