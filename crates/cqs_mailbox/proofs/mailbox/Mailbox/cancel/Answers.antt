use Rattle.std.proofs.Common.{refl}
use Rattle.cqs_mailbox.proofs.PostsKeep.{line-kept, left-hand, cancel-spares}
use Rattle.cqs_mailbox.proofs.mailbox.Mailbox.cancel.Goals as goal

pub returns-clause-belongs : goal.returns-clause-belongs
returns-clause-belongs c =
    line-kept _ _ _ c.requires.belongs refl c.cancel.ensures.belongs
    (λ e out had. left-hand _ _ _ _ c.cancel.ensures.leaves e had)

pub returns-clause-spare : goal.returns-clause-spare
returns-clause-spare c =
    cancel-spares c.args.post.now (record c.args.post.now { pool = c.cancel.new.pass }) _ c.cancel.result
    c.requires.belongs.out refl c.cancel.ensures.leaves c.cancel.ensures.new
