use Rattle.std.proofs.Common.{get_or, ◌∙◌, refl}
use Rattle.std.proofs.lemmas.Option.{slice_get-get_or}
use Rattle.cqs_work.proofs.Rowing.{lines-next}
use Rattle.cqs_work.proofs.waits.add_lines.Goals as goal

pub loop-number-preserved : goal.loop-number-preserved
loop-number-preserved c =
    c.in_ok-push.ensures.items
    ∙ lines-next c.args.at c.args.row.now c.loop-number.number (get_or c.args.row.now c.loop-number.number 0)
    c.args.lines.now.items c.loop-number.lines.items _
    (slice_get-get_or c.args.row.now c.loop-number.number 0 c.loop-number-test.true) refl c.loop-number.invariant
