use Rattle.std.proofs.Common.{◌≡◌, ◌+◌, ◌++◌, ◌∷◌, []}
use Rattle.cqs_rule_laws.specs.SegmentSteps.{reset_slot}
use Rattle.cqs_segment.specs.Walks.{but_last, Left}
use Rattle.cqs_segment.proofs.extending.reset.Given as goal

-- the cells below this one are reset
abbrev pub invariant-loop-cell : goal.invariant-loop-cell
invariant-loop-cell g l =
    (l.seat.table_id ≡ l.words.table_id) × (l.seat.me.1 ≡ l.initial.seat.me.1)
    × Left
    (but_last l.initial.seat.me.0.facts.spare_slots ++ reset_slot l.slot l.after (l.cell + 1) ∷ [])
    l.initial.seat.me.0.facts.duties l.initial.seat.me.0 l.seat.me.0
