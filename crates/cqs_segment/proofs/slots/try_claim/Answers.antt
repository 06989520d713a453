use Rattle.std.proofs.Common.{◌≡◌, ◌≤◌, ◌++◌, ◌∷◌, [], ⊎_elim, inl, refl, arith}
use Rattle.cqs_slots.specs.Slots.{IsHome}
use Rattle.cqs_segment.proofs.Taken.{found-right}
use Rattle.cqs_segment.proofs.Walks.{looked-then}
use Rattle.cqs_segment.proofs.slots.try_claim.Goals as goal

pub loop-next-smaller : goal.loop-next-smaller
loop-next-smaller g c =
    let inv = c.loop-next.invariant in
    let found = c.claim_slot-found.ensures.claimed.found in
    let free = c.in-Some-free_id.ensures.free in
    let up : c.loop-next.id ≤ c.in-Some-free_id.next =
    ⊎_elim {A = IsHome c.loop-next.seat.me.0.segments.homes c.loop-next.id c.args.slot}
    (λ h. found.rising c.loop-next.id c.in-Some-free_id.next h free.1) (λ (z : c.loop-next.id ≡ 0). omega arith) inv.3
    in omega arith

pub returns-in-None-clause-lost : goal.returns-in-None-clause-lost
returns-in-None-clause-lost g c = λ _.
    let inv = c.loop-next.invariant in
    let u = c.args.seat.now.me.0 in
    let v = c.loop-next.seat.me.0 in
    let w = c.claim_slot-found.new.seat.me.0 in
    let claimed = c.claim_slot-found.ensures.claimed in
    let taken = c.in-None.ensures.taken in
    let went = claimed.missed (taken c.loop-next.id inv.4) in
    let heads = (c.args.slot, c.claim_slot-found.result) ∷ [] in
    record {
      heads = inv.2.0 ++ heads;
      left = looked-then u v w inv.2.0 heads u.facts.spare_slots u.facts.duties inv.2.1 went;
      taken = found-right c.args.slot inv.2.0 heads (inl (refl, taken));
    }
