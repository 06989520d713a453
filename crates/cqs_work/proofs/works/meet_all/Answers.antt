use Rattle.std.proofs.Common.{◌≡◌, ◌∷◌, [], ◌++◌, map, length, refl, sym, ap, subst, ◌∙◌, append_assoc, arith}
use Rattle.std.proofs.lemmas.List.{map-append}
use Rattle.std.specs.Vec.Iter.{into_iter_items}
use Rattle.cqs_work.proofs.Meeting.{MetSoFar, meets-next, meeting-starts, next-family, next-apart, next-alone, next-rest, next-idle, split-of}
use Rattle.cqs_work.proofs.works.meet_all.Goals as goal

pub loop-floor-init : goal.loop-floor-init
loop-floor-init g c =
    let shared = g.F.SharedFloor.shared in
    let started = c.into_iter-floor-iterator.ensures.into_iter_gives in (
      refl,
      meeting-starts (shared c.args.first) (map shared c.args.given.items) c.requires,
      started.1 ∙ c.args.given.ok.0 ∙ sym (ap length started.0),
    )

pub meet-requires-clause-family : goal.meet-requires-clause-family
meet-requires-clause-family g c =
    let at = c.loop-floor in
    let shared = g.F.SharedFloor.shared in
    let steps : into_iter_items at.floor-iterator ≡ c.in-Some.floor ∷ into_iter_items c.next.new.self =
    c.in-Some.ensures.steps.0 in
    let whole : at.yielded ++ (c.in-Some.floor ∷ into_iter_items c.next.new.self) ≡ c.args.given.items
    = rw (← steps) at.invariant.0 ∙ c.into_iter-floor-iterator.ensures.into_iter_gives.0 in
    next-family (shared c.args.first) (shared at.first) (map shared at.yielded) (shared c.in-Some.floor)
    (map shared (into_iter_items c.next.new.self)) (map shared c.args.given.items)
    (split-of shared at.yielded c.in-Some.floor (into_iter_items c.next.new.self) c.args.given.items whole) c.requires
    at.invariant.1

pub meet-requires-clause-apart : goal.meet-requires-clause-apart
meet-requires-clause-apart g c =
    let at = c.loop-floor in
    let shared = g.F.SharedFloor.shared in
    let steps : into_iter_items at.floor-iterator ≡ c.in-Some.floor ∷ into_iter_items c.next.new.self =
    c.in-Some.ensures.steps.0 in
    let whole : at.yielded ++ (c.in-Some.floor ∷ into_iter_items c.next.new.self) ≡ c.args.given.items
    = rw (← steps) at.invariant.0 ∙ c.into_iter-floor-iterator.ensures.into_iter_gives.0 in
    next-apart (shared c.args.first) (shared at.first) (map shared at.yielded) (shared c.in-Some.floor)
    (map shared (into_iter_items c.next.new.self)) (map shared c.args.given.items)
    (split-of shared at.yielded c.in-Some.floor (into_iter_items c.next.new.self) c.args.given.items whole) c.requires
    at.invariant.1

pub loop-floor-preserved : goal.loop-floor-preserved
loop-floor-preserved g c =
    let at = c.loop-floor in
    let shared = g.F.SharedFloor.shared in
    let x = c.in-Some.floor in
    let steps : into_iter_items at.floor-iterator ≡ x ∷ into_iter_items c.next.new.self = c.in-Some.ensures.steps.0 in
    let whole : at.yielded ++ (c.in-Some.floor ∷ into_iter_items c.next.new.self) ≡ c.args.given.items
    = rw (← steps) at.invariant.0 ∙ c.into_iter-floor-iterator.ensures.into_iter_gives.0 in
    let alone = next-alone (shared c.args.first) (shared at.first) (map shared at.yielded) (shared c.in-Some.floor)
    (map shared (into_iter_items c.next.new.self)) (map shared c.args.given.items)
    (split-of shared at.yielded c.in-Some.floor (into_iter_items c.next.new.self) c.args.given.items whole)
    c.requires in
    let rest = next-rest (shared c.args.first) (shared at.first) (map shared at.yielded) (shared c.in-Some.floor)
    (map shared (into_iter_items c.next.new.self)) (map shared c.args.given.items)
    (split-of shared at.yielded c.in-Some.floor (into_iter_items c.next.new.self) c.args.given.items whole)
    c.requires in
    let met : MetSoFar (shared c.args.first) (map shared at.yielded ++ (shared x ∷ [])) (shared c.meet.new.self)
    = meets-next (shared c.args.first) (shared at.first) (shared x) (shared c.meet.new.self) (map shared at.yielded)
    at.invariant.1 alone rest (c.in-Ok.ensures.ok) in (
      append_assoc at.yielded (x ∷ []) _ ∙ rw (← steps) at.invariant.0,
      subst (λ l. MetSoFar (shared c.args.first) l (shared c.meet.new.self))
          (sym (map-append shared at.yielded (x ∷ []))) met,
      let was = at.invariant.2 in
          let gone = c.in-Some.ensures.steps.1 in
          let short = ap length steps in
          omega arith,
    )

pub unreachable-requires : goal.unreachable-requires
unreachable-requires g c =
    let at = c.loop-floor in
    let shared = g.F.SharedFloor.shared in
    let steps : into_iter_items at.floor-iterator ≡ c.in-Some.floor ∷ into_iter_items c.next.new.self =
    c.in-Some.ensures.steps.0 in
    let whole : at.yielded ++ (c.in-Some.floor ∷ into_iter_items c.next.new.self) ≡ c.args.given.items
    = rw (← steps) at.invariant.0 ∙ c.into_iter-floor-iterator.ensures.into_iter_gives.0 in
    next-idle (shared c.args.first) (shared at.first) (map shared at.yielded) (shared c.in-Some.floor)
    (map shared (into_iter_items c.next.new.self)) (map shared c.args.given.items)
    (split-of shared at.yielded c.in-Some.floor (into_iter_items c.next.new.self) c.args.given.items whole) c.requires
    c.in-Err.ensures.err.1
