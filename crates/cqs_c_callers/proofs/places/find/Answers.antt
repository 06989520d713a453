use Rattle.std.proofs.Common.{arith}
use Rattle.cqs_c_callers.proofs.places.find.Goals as goal

pub returns-clause-none : goal.returns-clause-none
returns-clause-none c none k d low =
    let end = c.loop-i-test.false in c.loop-i.invariant k d (omega (arith, low, end))
