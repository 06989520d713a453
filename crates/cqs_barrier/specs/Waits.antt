-- What contracts see of the wait of a party.
use Rattle.cqs_rule.specs.declared.queue.tokens.Wait.{Wait}
use Rattle.cqs_barrier.specs.declared.answers.PartyWait.{PartyWait}

-- the wait in the queue
abbrev pub wait_in : PartyWait → Wait
wait_in w = w.wait
