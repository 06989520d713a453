use Rattle.cqs_rule.proofs.queue.Queue.fill_slot.Given as goal

abbrev pub ghosts-take_out : goal.ghosts-take_out
ghosts-take_out g a = record { slot = a.slot }

abbrev pub ghosts-put_first : goal.ghosts-put_first
ghosts-put_first g a = record { slot = a.slot }
