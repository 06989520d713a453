use Rattle.cqs_cli.proofs.telling.tell.Goals as goal

pub returns-in-NoCommand : goal.returns-in-NoCommand
returns-in-NoCommand g c = rw c.in-NoCommand.is (rw c.as_bytes.ensures.value at c.say.ensures)
