-- The history that was judged is the one that the bytes say.
use Rattle.std.proofs.lemmas.Result.{IfOk-weaker}
use Rattle.cqs_cli_histories.proofs.Checked.{of-judged}
use Rattle.cqs_cli_histories.proofs.histories.check.Goals as goal

pub returns-in-Ok : goal.returns-in-Ok
returns-in-Ok c =
    let read = c.in-Ok.ensures.ok in
    let judged = rw c.as_slice.ensures.value at c.judge.ensures in
    IfOk-weaker c.judge.result _ _
    (of-judged c.args.bytes.now c.in-Ok.history (record { fits = read.0; written = read.1 })) judged
