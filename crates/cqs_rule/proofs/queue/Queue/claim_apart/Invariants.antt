use Rattle.std.proofs.Common.{◌≡◌, ◌⊎◌, ◌-◌, ◌≤◌, length}
use Rattle.cqs_rule_laws.specs.Lists.{IsPrefix}
use Rattle.cqs_segment.specs.Walks.{Left}
use Rattle.cqs_rule.specs.Claims.{IsClaimer}
use Rattle.cqs_rule.specs.Spares.{spare_list}
use Rattle.cqs_rule.proofs.queue.Queue.claim_apart.Given as goal

-- what the pass has spare is all that it has besides
abbrev pub invariant-loop-seat : goal.invariant-loop-seat
invariant-loop-seat g l =
    (l.seat.table_id ≡ l.initial.seat.table_id)
    × IsClaimer l.self l.spares l.seat.me.0
    × (length l.initial.seat.me.0.facts.spare_slots ≤ length l.seat.me.0.facts.spare_slots)
    × Left l.seat.me.0.facts.spare_slots l.initial.seat.me.0.facts.duties l.initial.seat.me.0 l.seat.me.0
    × (l.seat.me.1 ≡ l.initial.seat.me.1)
    × IsPrefix l.initial.seat.me.0.facts.spare_slots l.seat.me.0.facts.spare_slots
    × ((l.seat.me.0.facts.spare_slots ≡ l.initial.seat.me.0.facts.spare_slots)
    ⊎ (length l.seat.me.0.facts.spare_slots ≤ l.most))

abbrev pub decreases-loop-seat : goal.decreases-loop-seat
decreases-loop-seat g l = l.most - length (spare_list l.spares)
