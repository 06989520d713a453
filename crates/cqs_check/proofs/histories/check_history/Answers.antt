use Rattle.std.proofs.Common.{rules, ◌≡◌, ◌+◌, true, ap}
use Rattle.cqs_check.proofs.Checking.{at-next}
use Rattle.cqs_check.proofs.histories.check_history.Goals as goal

pub loop-entry-preserved : goal.loop-entry-preserved
loop-entry-preserved c =
    let yes : c.in_ok-admits.field-0 ≡ true = search rules in
    let judged = rw yes at c.in_ok-admits.ensures in (
      at-next c.args.permits c.args.entries.now c.loop-entry.judge c.admits.new.self c.loop-entry.entry-index _
          c.loop-entry-test.true c.loop-entry.invariant.0 judged,
      ap (λ n. n + 1) c.loop-entry.invariant.1,
    )
