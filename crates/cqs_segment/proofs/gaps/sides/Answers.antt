use Rattle.std.proofs.Common.{◌∙◌, ◌<◌, [], sym, subst, arith}
use Rattle.cqs_core.proofs.Places.{get-below}
use Rattle.cqs_segment.proofs.Linked.{sides-then, within-then}
use Rattle.cqs_segment.proofs.Walks.{looked-then}
use Rattle.cqs_segment.proofs.gaps.sides.Goals as goal

pub loop-slot-preserved : goal.loop-slot-preserved
loop-slot-preserved g c =
    let inv = c.loop-slot.invariant in
    let u = c.args.seat.now.me.0 in
    let v = c.loop-slot.seat.me.0 in
    let w = c.see_head-head.new.seat.me.0 in
    let seen = c.see_head-head.ensures.seen in
    let lower = c.lower-below.ensures.lower in
    let upper = c.upper-above.ensures.upper in
    let made = get-below u.segments.homes c.args.last.id c.args.last.slot c.requires.last.home in (
      c.see_head-head.ensures.table ∙ inv.0,
      c.see_head-head.ensures.bare ∙ inv.1,
      looked-then u v w [] [] u.facts.spare_slots u.facts.duties inv.2 seen.went,
      sides-then u v w c.args.id c.args.last.id c.loop-slot.slot c.see_head-head.result c.loop-slot.below
          c.lower-below.result c.loop-slot.above c.upper-above.result seen lower upper
          (subst (λ z. c.loop-slot.slot < z.slots) (sym inv.2.is)
          (let all = c.requires.all in let low = c.loop-slot-test.true in omega arith)) inv.3,
      within-then u v w c.args.id c.args.last.id c.loop-slot.slot c.see_head-head.result c.loop-slot.below
          c.lower-below.result c.loop-slot.above c.upper-above.result seen lower upper [] u.facts.spare_slots
          u.facts.duties inv.2 made inv.3 inv.4,
    )
