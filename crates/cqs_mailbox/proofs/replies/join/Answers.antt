use Rattle.cqs_mailbox.specs.Tallies.{IsDesk}
use Rattle.crossbeam_queue.specs.Passes.{view}
use Rattle.cqs_mailbox.proofs.TallyKeeps.{meets, compares}
use Rattle.cqs_mailbox.proofs.replies.join.Goals as goal

pub absorb-requires-clause-rule : goal.absorb-requires-clause-rule
absorb-requires-clause-rule c = meets _ _ _ _ c.requires.desk c.requires.post

pub learn_as-requires-clause-rule : goal.learn_as-requires-clause-rule
learn_as-requires-clause-rule c =
    let desk : IsDesk (view c.absorb.new.pass) = rw c.absorb.ensures.rule tt in
    compares _ _ desk

pub returns-clause-covered : goal.returns-clause-covered
returns-clause-covered c = rw c.learn_as.ensures.queue.1 c.learn_as.ensures.rule.1

pub returns-clause-is_desk : goal.returns-clause-is_desk
returns-clause-is_desk c = rw (c.learn_as.ensures.queue.1, c.absorb.ensures.rule) tt
