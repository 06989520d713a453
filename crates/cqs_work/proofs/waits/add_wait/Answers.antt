use Rattle.cqs_work.proofs.Rowing.{row-else, row-here-ok}
use Rattle.cqs_work.proofs.waits.add_wait.Goals as goal

pub returns-then-wait-at : goal.returns-then-wait-at
returns-then-wait-at c = row-else c.args.at c.args.wait.now c.args.row.now.items c.if-wait-at.true

pub returns : goal.returns
returns c =
    row-here-ok c.put.result c.args.at c.args.wait.now c.args.row.now.items c.put.new.row.items c.if-wait-at.false
    c.put.ensures
