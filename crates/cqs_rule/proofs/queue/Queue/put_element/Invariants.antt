use Rattle.cqs_rule.proofs.queue.Queue.put_element.Given as goal

abbrev pub ghosts-put_at : goal.ghosts-put_at
ghosts-put_at g a = record { slot = a.element }
