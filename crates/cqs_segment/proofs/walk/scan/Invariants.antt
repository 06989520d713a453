use Rattle.std.proofs.Common.{◌≡◌, ◌⊎◌, ◌-◌, ◌<◌, ◌≤◌}
use Rattle.cqs_rule_laws.specs.SegmentSteps.{OwnStand}
use Rattle.cqs_segment.specs.Finds.{HaveLeftFrom, SawLive}
use Rattle.cqs_segment.specs.Walks.{LookedAt}
use Rattle.cqs_segment.proofs.walk.scan.Given as goal

-- each of the segments left, if its home is one of the slots that were looked at
abbrev pub invariant-loop-slot : goal.invariant-loop-slot
invariant-loop-slot g l =
    (l.seat.table_id ≡ l.words.table_id) × (l.seat.me.1 ≡ l.initial.seat.me.1)
    × (l.first ≤ l.slot) × OwnStand l.seat.me.0 l.seat.me.0
    × LookedAt (l.slot - l.first) l.initial.seat.me.0 l.seat.me.0
    × HaveLeftFrom l.first l.slot l.id l.next l.initial.seat.me.0 l.seat.me.0
    × (l.id < l.next) × (l.next ≤ l.known)
    × ((l.next ≡ l.known) ⊎ SawLive l.next l.initial.seat.me.0 l.seat.me.0)
