use Rattle.std.proofs.Common.{◌≡◌, ◌<◌, ◌%◌, Some, length, slice_get, subst, sym, ◌∙◌}
use Rattle.cqs_limiter_workers.specs.Dealing.{AreEmpty, IsSeatedIn}
use Rattle.cqs_limiter_workers.proofs.Dealt.{IsDealing, dealing-starts, dealing-next, worker-low, place-low}
use Rattle.cqs_limiter_workers.proofs.deals.posts_for.Goals as goal

pub deal-init : goal.deal-init
deal-init g c =
    let many : c.len.result ≡ length c.args.tenants.items = c.len.ensures ∙ c.args.tenants.ok.0 in
    dealing-starts c.args.workers c.args.tenants.items c.in_ok-posts.posts.items
    (subst (λ n. AreEmpty c.args.workers n c.in_ok-posts.posts.items) many c.in_ok-posts.ensures)

pub seat-requires-clause-worker : goal.seat-requires-clause-worker
seat-requires-clause-worker g c =
    let left = c.pop.new.self.items in
    let many : c.len-place.result ≡ length left = c.len-place.ensures ∙ c.pop.new.self.ok.0 in
    let dealing = subst (λ l. IsDealing c.args.workers c.args.tenants.items l c.deal.posts.items)
    c.in-Some.ensures.items c.deal.invariant in
    subst (λ n. n % c.args.workers < length c.deal.posts.items) (sym many)
    (worker-low c.args.workers c.args.tenants.items left c.in-Some.tenant c.deal.posts.items c.requires dealing)

pub seat-requires-clause-place : goal.seat-requires-clause-place
seat-requires-clause-place g c = λ post.
    let left = c.pop.new.self.items in
    let many : c.len-place.result ≡ length left = c.len-place.ensures ∙ c.pop.new.self.ok.0 in
    let dealing = subst (λ l. IsDealing c.args.workers c.args.tenants.items l c.deal.posts.items)
    c.in-Some.ensures.items c.deal.invariant in
    subst (λ n. slice_get c.deal.posts.items (n % c.args.workers) ≡ Some post → n < length post.desks.items) (sym many)
    (place-low c.args.workers c.args.tenants.items left c.in-Some.tenant c.deal.posts.items c.requires dealing post)

pub deal-preserved : goal.deal-preserved
deal-preserved g c =
    let left = c.pop.new.self.items in
    let many : c.len-place.result ≡ length left = c.len-place.ensures ∙ c.pop.new.self.ok.0 in
    let dealing = subst (λ l. IsDealing c.args.workers c.args.tenants.items l c.deal.posts.items)
    c.in-Some.ensures.items c.deal.invariant in
    dealing-next c.args.workers c.args.tenants.items left c.in-Some.tenant c.deal.posts.items c.seat.new.posts.items
    c.requires dealing
    (subst (λ n. IsSeatedIn c.deal.posts.items (n % c.args.workers) n c.in-Some.tenant c.seat.new.posts.items) many
    c.seat.ensures)
