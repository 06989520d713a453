use Rattle.std.proofs.Common.{◌≡◌, ◌⊎◌, ◌<◌, ◌≤◌, ⊎_elim, inl, inr, sym, subst, arith}
use Rattle.std.proofs.lemmas.Bool.{cases_lt}
use Rattle.cqs_slots.proofs.Lists.{has_prefix, home-prefix}
use Rattle.cqs_segment.specs.Finds.{HaveLeftFrom, SawLive}
use Rattle.cqs_segment.proofs.Ahead.{both-err, heads-found, live-after, live-on}
use Rattle.cqs_segment.proofs.walk.search.Goals as goal

pub returns-in-Err-clause-none : goal.returns-in-Err-clause-none
returns-in-Err-clause-none g c =
    let u = c.args.seat.now.me.0 in
    let v = c.scan.new.seat.me.0 in
    let w = c.scan-in-Err.new.seat.me.0 in
    let more = c.scan.ensures.looked.2.segments in
    let later = c.scan-in-Err.ensures.looked.2.segments in
    both-err c.scan-in-Err.result (λ next. HaveLeftFrom 0 c.args.first c.args.id next v w)
    (λ next. (c.args.id < next) × (next ≤ c.in-Err.near) × ((next ≡ c.in-Err.near) ⊎ SawLive next v w))
    (λ next. HaveLeftFrom 0 c.args.slots c.args.id next u w)
    (λ next none near j x above below home from low.
    let sooner = near.1 in ⊎_elim
    (λ (under : x < c.args.first). none j x above below
    (home-prefix u.segments.homes v.segments.homes j x more.homes home) from under)
    (λ over. has_prefix j v.segments.outs w.segments.outs later.outs
    (c.in-Err.ensures.none j x above (omega arith) home over low))
    (cases_lt x c.args.first))
    c.scan-in-Err.ensures.none c.scan-in-Err.ensures.nearest

pub returns-in-Err-clause-nearest : goal.returns-in-Err-clause-nearest
returns-in-Err-clause-nearest g c =
    let u = c.args.seat.now.me.0 in
    let v = c.scan.new.seat.me.0 in
    let w = c.scan-in-Err.new.seat.me.0 in
    let first = c.scan.ensures.looked in
    let near = c.in-Err.ensures.nearest in
    let known = near.1 in
    let here = heads-found u v _ first in
    let on = heads-found v w _ c.scan-in-Err.ensures.looked in
    both-err c.scan-in-Err.result
    (λ next. (c.args.id < next) × (next ≤ c.in-Err.near) × ((next ≡ c.in-Err.near) ⊎ SawLive next v w))
    (λ next. (c.args.id < next) × (next ≤ c.in-Err.near) × ((next ≡ c.in-Err.near) ⊎ SawLive next v w))
    (λ next. (c.args.id < next) × (next ≤ c.args.known) × ((next ≡ c.args.known) ⊎ SawLive next u w))
    (λ next is _.
    let sooner = is.1 in (
      is.0,
      omega arith,
      ⊎_elim
          (λ (same : next ≡ c.in-Err.near). ⊎_elim
          (λ (end : c.in-Err.near ≡ c.args.known). inl (omega arith))
          (λ (saw : SawLive c.in-Err.near u v). inr (subst (λ z. SawLive z u w) (sym same)
          (live-on c.in-Err.near u v w c.scan-in-Err.ensures.looked.0 saw on)))
          near.2)
          (λ (saw : SawLive next v w). inr (live-after next u v w first.0 here saw))
          is.2,
    ))
    c.scan-in-Err.ensures.nearest c.scan-in-Err.ensures.nearest
