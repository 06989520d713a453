use Rattle.std.proofs.Common.{length}
use Rattle.cqs_limiter_workers.proofs.Dealt.{IsDealing}
use Rattle.cqs_limiter_workers.proofs.deals.posts_for.Given as goal

abbrev pub invariant-deal : goal.invariant-deal
invariant-deal g l = IsDealing l.workers l.fn.tenants.items l.tenants.items l.posts.items

abbrev pub decreases-deal : goal.decreases-deal
decreases-deal g l = length l.tenants.items
