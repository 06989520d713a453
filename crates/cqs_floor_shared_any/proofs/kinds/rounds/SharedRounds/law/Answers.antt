use Rattle.cqs_floor_shared_any.proofs.RoundsMeets.{rounds-lawful}
use Rattle.cqs_floor_shared_any.proofs.kinds.rounds.SharedRounds.law.Goals as goal

pub returns : goal.returns
returns c = rounds-lawful
