use Rattle.std.proofs.Common.{refl, subst}
use Rattle.cqs_rule_laws.specs.Lists.{Has}
use Rattle.cqs_mailbox.specs.Mailboxes.{numbers_out}
use Rattle.cqs_mailbox.proofs.PostsKeep.{crowded-spares, line-kept, put-hand, put-waits}
use Rattle.cqs_mailbox.proofs.mailbox.Mailbox.post_back.Goals as goal

pub returns-clause-belongs : goal.returns-clause-belongs
returns-clause-belongs c =
    line-kept _ _ _ c.requires.belongs refl c.put.ensures.belongs
    (λ e out had. put-hand _ _ _ _ _ c.put.ensures.ends c.put.ensures.crowded e
    (λ same. c.requires.spare.not_out (subst (λ n. Has n (numbers_out c.args.post.now)) same out)) had)

pub returns-clause-waits : goal.returns-clause-waits
returns-clause-waits c =
    put-waits _ _ _ _ _ _ _ c.put.ensures.ends c.put.ensures.crowded c.put.ensures.called.called

pub returns-clause-spare : goal.returns-clause-spare
returns-clause-spare c =
    crowded-spares c.args.post.now (record c.args.post.now { pool = c.put.new.pass }) c.args.envelope c.put.result refl
    c.put.ensures.crowded c.put.ensures.back c.requires.spare
