use Rattle.cqs_limiter_workers.proofs.Gathered.{IsGathering}
use Rattle.cqs_limiter_workers.proofs.gathers.gather.Given as goal

abbrev pub invariant-loop-place : goal.invariant-loop-place
invariant-loop-place g l = IsGathering l.fn.hands.items l.hands.items l.all.items l.place l.tenants
