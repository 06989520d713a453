use Rattle.std.proofs.Common.{refl}
use Rattle.cqs_pool.specs.Alone.{TakesNew}
use Rattle.cqs_pool.specs.Answers.{Takes}
use Rattle.cqs_mailbox.specs.declared.mailbox.Post.{Post}
use Rattle.cqs_mailbox.specs.Calls.{as_taking}
use Rattle.cqs_mailbox.specs.Mailboxes.{line_view}
use Rattle.cqs_mailbox.proofs.PostsKeep.{line-kept, room-spares, same-error, took-hand}
use Rattle.cqs_mailbox.proofs.mailbox.Mailbox.room.Goals as goal

pub returns-in-Ok-clause-belongs : goal.returns-in-Ok-clause-belongs
returns-in-Ok-clause-belongs c =
    line-kept _ _ _ c.requires.belongs refl c.take.ensures.belongs
    (λ e out had. took-hand _ _ c.take.result c.take.ensures.took c.take.ensures.worn c.take.ensures.crowded e had)

pub returns-in-Err-clause-belongs : goal.returns-in-Err-clause-belongs
returns-in-Err-clause-belongs c =
    line-kept _ _ _ c.requires.belongs refl c.take.ensures.belongs
    (λ e out had. took-hand _ _ c.take.result c.take.ensures.took c.take.ensures.worn c.take.ensures.crowded e had)

pub returns-in-Ok-clause-called : goal.returns-in-Ok-clause-called
returns-in-Ok-clause-called c = rw c.room_by.ensures c.in-Ok.ensures.called

pub returns-in-Ok-clause-took : goal.returns-in-Ok-clause-took
returns-in-Ok-clause-took c = rw c.room_by.ensures c.in-Ok.ensures.took

pub returns-in-Ok-clause-alone : goal.returns-in-Ok-clause-alone
returns-in-Ok-clause-alone c = λ alone. rw c.room_by.ensures (c.in-Ok.ensures.alone alone)

pub returns-in-Ok-clause-first : goal.returns-in-Ok-clause-first
returns-in-Ok-clause-first c = λ only. rw c.room_by.ensures (c.in-Ok.ensures.first only)

pub returns-in-Ok-clause-spare : goal.returns-in-Ok-clause-spare
returns-in-Ok-clause-spare c =
    let p = c.args.post.now in
    let q : Post = record c.args.post.now { pool = c.take.new.pass } in
    let took : Takes (line_view p) (as_taking c.room_by.result) (line_view q) =
    rw c.room_by.ensures c.in-Ok.ensures.took in
    let new : TakesNew (line_view p) (as_taking c.room_by.result) = rw c.room_by.ensures c.in-Ok.ensures.new in
    room-spares p q c.room_by.result c.requires.belongs.out refl took new

pub returns-in-Err-clause-worn : goal.returns-in-Err-clause-worn
returns-in-Err-clause-worn c = λ is. c.in-Err.ensures.worn (same-error _ _ is)

pub returns-in-Err-clause-crowded : goal.returns-in-Err-clause-crowded
returns-in-Err-clause-crowded c = λ is. c.in-Err.ensures.crowded (same-error _ _ is)

pub returns-in-Err-clause-never_crowded : goal.returns-in-Err-clause-never_crowded
returns-in-Err-clause-never_crowded c = λ ample is. c.in-Err.ensures.never_crowded ample (same-error _ _ is)
