use Rattle.cqs_rule.proofs.queue.Queue.swap_slot.Given as goal

abbrev pub ghosts-take_out : goal.ghosts-take_out
ghosts-take_out g a = record { slot = a.slot }

abbrev pub ghosts-put_back : goal.ghosts-put_back
ghosts-put_back g a = record { slot = a.slot }
