use Rattle.std.proofs.Common.{◌≡◌, replicate, None}
use Rattle.cqs_limiter_workers.proofs.deals.no_desks.Given as goal

abbrev pub invariant-loop-place : goal.invariant-loop-place
invariant-loop-place g l = l.desks.items ≡ replicate l._place None
