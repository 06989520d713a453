use Rattle.std.proofs.Common.{arith}
use Rattle.cqs_rule.proofs.Extends.{claimed-extends}
use Rattle.cqs_test_queue.proofs.segments.wait_in_line.Goals as goal

pub suspend-requires-clause-spare : goal.suspend-requires-clause-spare
suspend-requires-clause-spare g c =
    claimed-extends 1 c.args.queue.now c.claim_spares.new.pass c.claim_spares.ensures.belongs (omega arith)
    c.in-Ok.ensures.claimed.enough
