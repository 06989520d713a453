use Rattle.std.proofs.Common.{[]}
use Rattle.cqs_turns_report.proofs.Stepping.{to-come-here}
use Rattle.cqs_turns.proofs.acts.arrive.Goals as goal

pub arrive-answer-requires-clause-to_come : goal.arrive-answer-requires-clause-to_come
arrive-answer-requires-clause-to_come g c = to-come-here _ _ _ _ [] c.requires.ready c.requires.room
