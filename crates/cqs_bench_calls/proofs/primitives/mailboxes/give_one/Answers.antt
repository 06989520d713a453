use Rattle.cqs_bench_calls.proofs.primitives.mailboxes.give_one.Goals as goal

-- neither of the two calls closes a wait
pub returns-in-Some-clause-waits : goal.returns-in-Some-clause-waits
returns-in-Some-clause-waits g c = λ wait has. c.give_back.ensures.waits wait (c.reclaim.ensures.waits wait has)
