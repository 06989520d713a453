use Rattle.std.proofs.Common.{refl, subst, sym, ◌∙◌}
use Rattle.cqs_limiter_workers.specs.Noting.{told_by}
use Rattle.cqs_limiter_workers.specs.Gathering.{AreAllThere, AreGathered}
use Rattle.cqs_limiter_workers.specs.Handing.{AreHands, HasInOrder}
use Rattle.cqs_limiter_workers.proofs.HandedBack.{all-serve, any-hands, all-there, has-run}
use Rattle.cqs_limiter_workers.proofs.runs.run.Goals as goal

pub work_all-requires-clause-can : goal.work_all-requires-clause-can
work_all-requires-clause-can g c = λ κs bounds k d low.
    all-serve g.T.Desk.sight c.args.workers c.args.tenants.items c.in_ok-posts.posts.items c.args.lines.now
    c.in_ok-posts.ensures c.requires.can k d low

pub deal_back-requires-clause-hands : goal.deal_back-requires-clause-hands
deal_back-requires-clause-hands g c =
    let long = sym c.in_ok-told.told.ok.0 ∙ c.in_ok-told.ensures.len ∙ c.in_ok-posts.posts.ok.0 in
    subst (λ l. AreHands c.in_ok-notes.notes c.args.lines.now l) (sym c.as_slice.ensures.value)
    (any-hands g.T.Desk.sight c.in_ok-notes.notes (told_by g.G.Gate.begun g.G.Gate.ended c.args.gate.now)
    c.args.lines.now c.args.workers c.args.tenants.items c.in_ok-posts.posts.items c.in_ok-told.told.items
    c.in_ok-hands.hands.items c.requires.workers c.requires.can c.in_ok-posts.ensures long c.in_ok-told.ensures.each
    c.in_ok-hands.ensures)

pub gather-requires-clause-there : goal.gather-requires-clause-there
gather-requires-clause-there g c =
    let long = sym c.in_ok-told.told.ok.0 ∙ c.in_ok-told.ensures.len ∙ c.in_ok-posts.posts.ok.0 in
    let many = c.len-many.ensures ∙ c.args.tenants.ok.0 in
    subst (λ n. AreAllThere c.in_ok-hands.hands.items 0 n) (sym many)
    (all-there g.T.Desk.sight c.in_ok-notes.notes (told_by g.G.Gate.begun g.G.Gate.ended c.args.gate.now)
    c.args.lines.now c.args.workers c.args.tenants.items c.in_ok-posts.posts.items c.in_ok-told.told.items
    c.in_ok-hands.hands.items c.requires.workers c.requires.can c.in_ok-posts.ensures long c.in_ok-told.ensures.each
    c.in_ok-hands.ensures)

pub returns : goal.returns
returns g c =
    let long = sym c.in_ok-told.told.ok.0 ∙ c.in_ok-told.ensures.len ∙ c.in_ok-posts.posts.ok.0 in
    let many = c.len-many.ensures ∙ c.args.tenants.ok.0 in
    let hands = c.in_ok-hands.hands.items in
    let in_order = subst (λ l. HasInOrder c.in_ok-notes.notes c.args.lines.now l c.in_ok-tokens.tokens.items)
    c.as_slice.ensures.value c.in_ok-tokens.ensures in
    has-run g.T.Desk.sight c.in_ok-notes.notes (told_by g.G.Gate.begun g.G.Gate.ended c.args.gate.now)
    c.args.lines.now c.args.workers c.args.tenants.items c.in_ok-posts.posts.items c.in_ok-told.told.items
    hands c.requires.workers c.requires.can c.in_ok-posts.ensures long c.in_ok-told.ensures.each
    c.in_ok-hands.ensures _ refl in_order (rw c.as_slice-2.ensures.value at c.in_ok-text.ensures)
    (subst (λ n. AreGathered hands n c.in_ok-tenants.tenants.items) many c.in_ok-tenants.ensures)
