use Rattle.cqs_turns_laws.proofs.Balancing.{every-resource-balances}
use Rattle.cqs_turns_laws.proofs.every_resource_balances.Goals as goal

pub returns : goal.returns
returns c = every-resource-balances
