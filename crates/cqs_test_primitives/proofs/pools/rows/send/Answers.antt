use Rattle.std.proofs.Common.{sym, subst}
use Rattle.cqs_rule_laws.specs.Lists.{Has}
use Rattle.cqs_rule.specs.Waits.{place_of}
use Rattle.cqs_rule.proofs.Places.{wait-kept}
use Rattle.cqs_pool.specs.Pool.{pool_object}
use Rattle.cqs_test_primitives.proofs.pools.rows.send.Goals as goal

-- a put closes no wait
pub returns-clause-waits : goal.returns-clause-waits
returns-clause-waits g c =
    let ends = rw c.in-Ok-Sent.field-0-is at c.in-Ok-Sent.ensures.ends in
    wait-kept pool_object _ _ _ _ c.args.wait c.in-Ok-Sent.ensures.called.called
    (subst (Has (place_of c.args.wait).index) (sym ends.1.waits_are) c.requires.waits.open_yet)
    c.requires.waits
