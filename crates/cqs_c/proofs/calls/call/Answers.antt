use Rattle.cqs_c.proofs.calls.call.Goals as goal

pub returns : goal.returns
returns c = record { answer = c.make_call.result; made = c.make_call.ensures; goes = c.tell.ensures }
