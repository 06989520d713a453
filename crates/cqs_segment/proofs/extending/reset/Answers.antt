use Rattle.std.proofs.Common.{◌≡◌, ◌+◌, ◌++◌, ◌∷◌, [], refl, subst, ◌∙◌, arith}
use Rattle.cqs_rule_laws.specs.SegmentSteps.{LeftBy, reset_slot}
use Rattle.cqs_segment.specs.Walks.{but_last, EndsReset, Left}
use Rattle.cqs_segment.proofs.Walks.{ends-now, looked-none, reset-then}
use Rattle.cqs_segment.proofs.extending.reset.Goals as goal

pub loop-cell-init : goal.loop-cell-init
loop-cell-init g c =
    let v = c.args.seat.now.me.0 in (
      c.requires.table,
      refl,
      (
        [],
        subst (λ l. LeftBy [] l v.facts.duties v v) c.requires.last
            (looked-none v),
      ),
    )

pub reset_cell-requires-clause-last : goal.reset_cell-requires-clause-last
reset_cell-requires-clause-last g c =
    let u = c.args.seat.now.me.0 in
    ends-now u c.loop-cell.seat.me.0 (but_last u.facts.spare_slots) c.args.slot c.args.after
    (c.loop-cell.cell + 1) u.facts.duties c.loop-cell.invariant.2

pub loop-cell-preserved : goal.loop-cell-preserved
loop-cell-preserved g c =
    let u = c.args.seat.now.me.0 in
    let inv = c.loop-cell.invariant in (
      c.reset_cell.ensures.table ∙ inv.0,
      c.reset_cell.ensures.bare ∙ inv.1,
      reset-then u c.loop-cell.seat.me.0 c.reset_cell.new.seat.me.0 (but_last u.facts.spare_slots)
          c.args.slot c.args.after (c.loop-cell.cell + 1) u.facts.duties inv.2 c.reset_cell.ensures.reset,
    )

pub reset_count-requires-clause-last : goal.reset_count-requires-clause-last
reset_count-requires-clause-last g c =
    let u = c.args.seat.now.me.0 in
    let all : c.loop-cell.cell + 1 ≡ 33 = omega arith in
    subst (EndsReset c.loop-cell.seat.me.0.facts.spare_slots c.args.slot c.args.after) all
    (ends-now u c.loop-cell.seat.me.0 (but_last u.facts.spare_slots) c.args.slot c.args.after
    (c.loop-cell.cell + 1) u.facts.duties c.loop-cell.invariant.2)

pub returns-clause-reset : goal.returns-clause-reset
returns-clause-reset g c =
    let u = c.args.seat.now.me.0 in
    let B = but_last u.facts.spare_slots in
    let all : c.loop-cell.cell + 1 ≡ 33 = omega arith in
    reset-then u c.loop-cell.seat.me.0 c.reset_count.new.seat.me.0 B
    c.args.slot c.args.after 33 u.facts.duties
    (subst (λ d. Left (B ++ reset_slot c.args.slot c.args.after d ∷ []) u.facts.duties u
    c.loop-cell.seat.me.0) all c.loop-cell.invariant.2) c.reset_count.ensures.reset
