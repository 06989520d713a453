use Rattle.cqs_limiter_workers.specs.Dealing.{AreEmpty}
use Rattle.cqs_limiter_workers.proofs.deals.empty_posts.Given as goal

abbrev pub invariant-loop-worker : goal.invariant-loop-worker
invariant-loop-worker g l = AreEmpty l.worker l.tenants l.posts.items
