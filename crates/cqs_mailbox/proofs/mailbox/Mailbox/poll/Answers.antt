use Rattle.std.proofs.Common.{refl}
use Rattle.cqs_mailbox.proofs.PostsKeep.{line-kept, polled-hand, poll-spares}
use Rattle.cqs_mailbox.proofs.mailbox.Mailbox.poll.Goals as goal

pub returns-clause-belongs : goal.returns-clause-belongs
returns-clause-belongs c =
    line-kept _ _ _ c.requires.belongs refl c.poll.ensures.belongs
    (λ e out had. polled-hand _ _ c.args.wait c.poll.result c.poll.ensures.polled e had)

pub returns-clause-spare : goal.returns-clause-spare
returns-clause-spare c =
    poll-spares c.args.post.now (record c.args.post.now { pool = c.poll.new.pass }) c.args.wait c.poll.result
    c.requires.belongs.out refl c.poll.ensures.polled c.poll.ensures.new
