use Rattle.std.proofs.Common.{◌≡◌, []}
use Rattle.cqs_rule_laws.specs.SegmentSteps.{LeftBy}
use Rattle.cqs_segment.specs.Links.{AreSides, HaveLeftWithin}
use Rattle.cqs_segment.proofs.gaps.sides.Given as goal

-- each segment between the nearest ones that were found left, if its home is one of the slots that were looked at
abbrev pub invariant-loop-slot : goal.invariant-loop-slot
invariant-loop-slot g l =
    (l.seat.table_id ≡ l.words.table_id) × (l.seat.me.1 ≡ l.initial.seat.me.1)
    × LeftBy [] l.initial.seat.me.0.facts.spare_slots l.initial.seat.me.0.facts.duties l.initial.seat.me.0
    l.seat.me.0
    × AreSides l.id l.fn.last.id l.below l.above l.seat.me.0
    × HaveLeftWithin l.slot l.id l.below l.above l.initial.seat.me.0 l.seat.me.0
