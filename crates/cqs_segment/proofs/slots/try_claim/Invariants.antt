use Rattle.std.proofs.Common.{◌≡◌, ◌⊎◌, ◌-◌, ◌<◌, ◌^◌}
use Rattle.cqs_slots.specs.Slots.{IsHome}
use Rattle.cqs_segment.specs.Walks.{Looked}
use Rattle.cqs_segment.proofs.slots.try_claim.Given as goal

-- the slot was found free, under the id of the last segment that was there
abbrev pub invariant-loop-next : goal.invariant-loop-next
invariant-loop-next g l =
    (l.seat.table_id ≡ l.words.table_id) × (l.seat.me.1 ≡ l.fn.seat.me.1)
    × Looked l.fn.seat.me.0 l.seat.me.0
    × (IsHome l.seat.me.0.segments.homes l.id l.slot ⊎ (l.id ≡ 0)) × (l.id < 2 ^ 36)

-- each try that isn't the last finds a later one
abbrev pub decreases-loop-next : goal.decreases-loop-next
decreases-loop-next g l = 2 ^ 36 - l.id
