use Rattle.cqs_lines.proofs.HeadedTexts.{headed-many}
use Rattle.cqs_replay.specs.EntryLines.{entry_says, IsEntry}
use Rattle.cqs_replay.specs.Runs.{permits_say}
use Rattle.cqs_check.specs.Histories.{IsPermits}
use Rattle.cqs_check.specs.declared.texts.History.{History}
use Rattle.cqs_check.proofs.OneHistory.{one_history, none_bad}
use Rattle.cqs_check.proofs.texts.read_history.Goals as goal

pub returns-in-Ok-clause-few : goal.returns-in-Ok-clause-few
returns-in-Ok-clause-few c =
    headed-many permits_say IsPermits entry_says IsEntry c.in-Ok.permits c.in-Ok.entries.items c.args.bytes.now
    c.in-Ok.ensures.ok

pub returns-in-Ok-clause-again : goal.returns-in-Ok-clause-again
returns-in-Ok-clause-again c = λ h is same.
    let read = c.in-Ok.ensures.ok in
    let g : History = record { permits = c.in-Ok.permits; entries = c.in-Ok.entries } in
    one_history g h c.args.bytes.now (record { permits = read.head_fit; entries = read.fit }) read.text_is is same

pub returns-in-Err-Bad-clause-bad : goal.returns-in-Err-Bad-clause-bad
returns-in-Err-Bad-clause-bad c = λ n same.
    c.in-Err-Bad.ensures.bad n (cc (same, c.in-Err-Bad.field-0-is))

pub returns-in-Err-Bad-clause-again : goal.returns-in-Err-Bad-clause-again
returns-in-Err-Bad-clause-again c = λ h is same.
    none_bad h c.args.bytes.now c.in-Err-Bad.line is same
    (c.in-Err-Bad.ensures.bad c.in-Err-Bad.line (cc c.in-Err-Bad.field-0-is))
