use Rattle.cqs_turns_laws.proofs.Counted.{totals-add-up}
use Rattle.cqs_turns_laws.proofs.totals_add_up.Goals as goal

pub returns : goal.returns
returns c = totals-add-up
