use Rattle.std.proofs.Common.{rules, arith, ◌≡◌, ◌+◌, [], length, slice_get, slice_index_or, true, Some, sym, subst, ◌∙◌, ap}
use Rattle.std.proofs.lemmas.Option.{slice_get-get_or}
use Rattle.cqs_core.proofs.Places.{set-same}
use Rattle.cqs_limiter_requests.specs.declared.asks.Ask.TheVariants.{Enter}
use Rattle.cqs_limiter_requests.specs.declared.asks.Line.{Line}
use Rattle.cqs_limiter_workers.specs.Noting.{told_by}
use Rattle.cqs_limiter_workers.proofs.OnWay.{starts, passes, serves-next, next-fits, place-below, served}
use Rattle.cqs_limiter_workers.proofs.works.work.Goals as goal

abbrev no_line : Line
no_line = record { tenant = 0; client = 0; ask = Enter }

pub loop-line-init : goal.loop-line-init
loop-line-init g c =
    let none : c.new-tokens.result.items ≡ [] = search rules in
    rw none (starts g.T.Desk.sight c.args.notes.now _ c.args.post.desks.items c.args.lines.now)

pub index_mut-requires : goal.index_mut-requires
index_mut-requires g c =
    let low = place-below g.T.Desk.sight c.args.notes.now
    (told_by g.G.Gate.begun g.G.Gate.ended c.args.gate.now c.args.post.worker)
    c.args.post.desks.items c.args.lines.now c.loop-line.desks.items c.loop-line.tokens.items
    c.loop-line.line-index no_line c.loop-line-test.true c.loop-line.invariant c.requires.can in
    let long = c.loop-line.desks.ok.0 in
    omega (arith, low, long)

pub loop-line-preserved-in_default : goal.loop-line-preserved-in_default
loop-line-preserved-in_default g c =
    let told = told_by g.G.Gate.begun g.G.Gate.ended c.args.gate.now c.args.post.worker in
    let low = place-below g.T.Desk.sight c.args.notes.now told
    c.args.post.desks.items c.args.lines.now c.loop-line.desks.items c.loop-line.tokens.items
    c.loop-line.line-index no_line c.loop-line-test.true c.loop-line.invariant c.requires.can in
    let t = (slice_index_or c.args.lines.now c.loop-line.line-index no_line).tenant in
    let there : slice_get c.loop-line.desks.items t ≡ Some c.index_mut.result.now
    = slice_get-get_or c.loop-line.desks.items t c.index_mut.result.now low
    ∙ ap (λ o. Some o) (sym c.index_mut.ensures.value) in
    rw (set-same c.loop-line.desks.items t c.index_mut.result.now there) (
    passes g.T.Desk.sight c.args.notes.now told c.args.post.desks.items c.args.lines.now c.loop-line.desks.items
    c.loop-line.tokens.items c.loop-line.line-index no_line c.loop-line-test.true c.loop-line.invariant
    (there ∙ ap (λ o. Some o) c.in_default.is)
    )

pub serve-requires : goal.serve-requires
serve-requires g c =
    let told = told_by g.G.Gate.begun g.G.Gate.ended c.args.gate.now c.args.post.worker in
    let low = place-below g.T.Desk.sight c.args.notes.now told
    c.args.post.desks.items c.args.lines.now c.loop-line.desks.items c.loop-line.tokens.items
    c.loop-line.line-index no_line c.loop-line-test.true c.loop-line.invariant c.requires.can in
    let t = (slice_index_or c.args.lines.now c.loop-line.line-index no_line).tenant in
    let there : slice_get c.loop-line.desks.items t ≡ Some (Some c.in-Some.desk)
    = slice_get-get_or c.loop-line.desks.items t c.index_mut.result.now low
    ∙ ap (λ o. Some o) (sym c.index_mut.ensures.value ∙ c.in-Some.is) in
    next-fits g.T.Desk.sight c.args.notes.now told c.args.post.desks.items c.args.lines.now c.loop-line.desks.items
    c.loop-line.tokens.items c.loop-line.line-index no_line c.loop-line-test.true c.loop-line.invariant
    c.requires.can c.in-Some.desk there

pub loop-line-preserved : goal.loop-line-preserved
loop-line-preserved g c =
    let told = told_by g.G.Gate.begun g.G.Gate.ended c.args.gate.now c.args.post.worker in
    let low = place-below g.T.Desk.sight c.args.notes.now told
    c.args.post.desks.items c.args.lines.now c.loop-line.desks.items c.loop-line.tokens.items
    c.loop-line.line-index no_line c.loop-line-test.true c.loop-line.invariant c.requires.can in
    let t = (slice_index_or c.args.lines.now c.loop-line.line-index no_line).tenant in
    let there : slice_get c.loop-line.desks.items t ≡ Some (Some c.in-Some.desk)
    = slice_get-get_or c.loop-line.desks.items t c.index_mut.result.now low
    ∙ ap (λ o. Some o) (sym c.index_mut.ensures.value ∙ c.in-Some.is) in
    let many : c.len.result ≡ length c.loop-line.tokens.items = search rules in
    rw c.in_ok-push.ensures.items (
    serves-next g.T.Desk.sight c.args.notes.now told c.args.post.desks.items c.args.lines.now
    c.loop-line.desks.items c.loop-line.tokens.items c.loop-line.line-index no_line c.loop-line-test.true
    c.loop-line.invariant c.in-Some.desk c.serve.new.desk c.in_ok-noted.noted there c.serve.ensures.desk
    c.in_ok-noted.ensures.noted.0 c.in_ok-noted.ensures.noted.1
    (subst (λ n. told (n + 1) ≡ true) many c.serve.ensures.told)
    )

pub returns : goal.returns
returns g c =
    served g.T.Desk.sight c.args.notes.now (told_by g.G.Gate.begun g.G.Gate.ended c.args.gate.now c.args.post.worker)
    c.args.post.desks.items c.args.lines.now c.loop-line.desks.items c.loop-line.tokens.items c.loop-line.line-index
    c.loop-line-test.false c.loop-line.invariant
