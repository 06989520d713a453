use Rattle.cqs_rule.proofs.queue.Queue.give_word.Given as goal

abbrev pub ghosts-give_at : goal.ghosts-give_at
ghosts-give_at g a = record { slot = a.slot }
