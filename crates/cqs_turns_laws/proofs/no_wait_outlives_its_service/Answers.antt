use Rattle.cqs_turns_laws.proofs.Served.{no-wait-outlives-its-service}
use Rattle.cqs_turns_laws.proofs.no_wait_outlives_its_service.Goals as goal

pub returns : goal.returns
returns c = no-wait-outlives-its-service
