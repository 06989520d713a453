use Rattle.std.proofs.Common.{refl}
use Rattle.cqs_mailbox.proofs.PostsKeep.{line-kept, ended-hand}
use Rattle.cqs_mailbox.proofs.mailbox.Mailbox.post_finish.Goals as goal

pub returns-clause-belongs : goal.returns-clause-belongs
returns-clause-belongs c =
    line-kept _ _ _ c.requires.belongs refl c.finish.ensures.belongs
    (λ e out had. ended-hand _ _ _ _ _ c.finish.ensures.ends e had)
