use Rattle.cqs_replay.proofs.HeadLines.{sized-heard, sized-unheard}
use Rattle.cqs_replay.proofs.heads.sized.Goals as goal

pub returns-in-Some : goal.returns-in-Some
returns-in-Some c =
    sized-heard _ _ _ _ c.head_of.result (rw c.in-Some.is at c.in_ok-heard.ensures)
    (rw c.as_slice.ensures.value at c.head_of.ensures)

pub returns-in-None : goal.returns-in-None
returns-in-None c = sized-unheard _ c.args.sync (rw c.in-None.is at c.in_ok-heard.ensures)
