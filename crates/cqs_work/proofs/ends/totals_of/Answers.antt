use Rattle.std.proofs.Common.{arith}
use Rattle.cqs_work.proofs.Counted.{all-counted}
use Rattle.cqs_work.proofs.ends.totals_of.Goals as goal

pub returns-clause-all : goal.returns-clause-all
returns-clause-all c =
    omega (
      arith,
      all-counted c.args.ends.now,
      c.done_in.ensures,
      c.given_up_in.ensures,
      c.late_in.ensures,
      c.crowded_in.ensures,
      c.unfinished_in.ensures,
    )
