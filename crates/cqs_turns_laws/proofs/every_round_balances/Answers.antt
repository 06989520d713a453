use Rattle.cqs_turns_laws.proofs.Balancing.{every-round-balances}
use Rattle.cqs_turns_laws.proofs.every_round_balances.Goals as goal

pub returns : goal.returns
returns c = every-round-balances
