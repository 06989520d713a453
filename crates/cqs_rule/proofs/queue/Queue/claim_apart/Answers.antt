use Rattle.std.proofs.Common.{◌≡◌, ◌≤◌, [], length, refl, sym, ⊎_elim, inl, inr, ◌∙◌, arith}
use Rattle.std.proofs.lemmas.List.{append-nil}
use Rattle.cqs_segment.proofs.Walks.{looked-none}
use Rattle.cqs_rule.proofs.Claims.{claimed-then, claims-on, crowds, keeps-spares, many-kept, more-spares, moved-then, one-more}
use Rattle.cqs_rule.proofs.Segments.{has-more}
use Rattle.cqs_rule.proofs.queue.Queue.claim_apart.Goals as goal

pub loop-seat-init : goal.loop-seat-init
loop-seat-init g c = (
  refl,
  c.requires.claimer,
  omega arith,
  ([], looked-none c.args.seat.me.0),
  refl,
  ([], sym (append-nil c.args.seat.me.0.facts.spare_slots)),
  inl refl,
)

pub loop-seat-preserved : goal.loop-seat-preserved
loop-seat-preserved g c =
    let u = c.args.seat.me.0 in
    let v = c.loop-seat.seat.me.0 in
    let w = c.claim.new.seat.me.0 in
    let before = c.loop-seat.invariant in
    let kept = c.loop-seat.spares in
    let claimed = c.in-Some.ensures.claimed in
    let all = before.1.all in
    let low = claimed.0 in (
      c.claim.ensures.table ∙ before.0,
      claims-on c.args.self.now kept v before.1 c.with-spares.result w _ v.facts.duties claimed.1
          (has-more v.facts.spare_slots v.slots c.in-Some.slot kept c.with-spares.result before.1.spare (omega arith)
          c.with-spares.ensures),
      (let more = more-spares v w c.in-Some.slot claimed.1 in let few = before.2 in omega arith),
      claimed-then u v w u.facts.duties c.in-Some.slot before.3 claimed.1,
      c.claim.ensures.bare ∙ before.4,
      keeps-spares u v w c.in-Some.slot before.5 claimed.1,
      inr (let more = more-spares v w c.in-Some.slot claimed.1 in let few = c.loop-seat-test.true in
          let many = c.count.ensures in let all = many-kept c.args.self.now kept v before.1 in omega arith),
    )

pub loop-seat-smaller : goal.loop-seat-smaller
loop-seat-smaller g c =
    let few = c.loop-seat-test.true in
    let many = c.count.ensures in
    let more = one-more c.args.self.now c.loop-seat.spares c.loop-seat.seat.me.0 c.loop-seat.invariant.1
    c.with-spares.result c.in-Some.slot c.with-spares.ensures in omega arith

pub returns-in-None-clause-claimer : goal.returns-in-None-clause-claimer
returns-in-None-clause-claimer g c =
    let v = c.loop-seat.seat.me.0 in
    let before = c.loop-seat.invariant in
    let taken = c.in-None.ensures.crowded in
    claims-on c.args.self.now c.loop-seat.spares v before.1 c.loop-seat.spares c.claim.new.seat.me.0 v.facts.spare_slots
    v.facts.duties (taken.heads, taken.left) before.1.spare

pub returns-in-None-clause-left : goal.returns-in-None-clause-left
returns-in-None-clause-left g c =
    let u = c.args.seat.me.0 in
    let v = c.loop-seat.seat.me.0 in
    let w = c.claim.new.seat.me.0 in
    let taken = c.in-None.ensures.crowded in
    moved-then u v w u.facts.duties v.facts.spare_slots c.loop-seat.invariant.3 (taken.heads, taken.left)

pub returns-in-None-clause-crowded : goal.returns-in-None-clause-crowded
returns-in-None-clause-crowded g c =
    let v = c.loop-seat.seat.me.0 in
    let before = c.loop-seat.invariant in
    crowds c.args.most c.args.seat.me.0 v c.claim.new.seat.me.0 c.args.self.now.segment_slots before.1.all
    c.requires.scarce
    (let more = before.2 in let few = c.loop-seat-test.true in let many = c.count.ensures in
    let kept = many-kept c.args.self.now c.loop-seat.spares v before.1 in omega arith)
    (let few = c.loop-seat-test.true in let many = c.count.ensures in
    let kept = many-kept c.args.self.now c.loop-seat.spares v before.1 in omega arith)
    before.5 before.3 c.in-None.ensures.crowded

pub returns-clause-claimed : goal.returns-clause-claimed
returns-clause-claimed g c = record {
  left = c.loop-seat.invariant.3;
  enough = inr (let all = c.loop-seat-test.false in let many = c.count.ensures in
      let kept = many-kept c.args.self.now c.loop-seat.spares c.loop-seat.seat.me.0 c.loop-seat.invariant.1 in
      omega arith);
  kept = c.loop-seat.invariant.5;
  just = ⊎_elim
      (λ (same : c.loop-seat.seat.me.0.facts.spare_slots ≡ c.args.seat.me.0.facts.spare_slots). inl same)
      (λ (few : length c.loop-seat.seat.me.0.facts.spare_slots ≤ c.args.most).
      inr (let all = c.loop-seat-test.false in let many = c.count.ensures in
      let kept = many-kept c.args.self.now c.loop-seat.spares c.loop-seat.seat.me.0 c.loop-seat.invariant.1 in
      omega arith))
      c.loop-seat.invariant.6;
  ample = λ ample. absurd (c.requires.scarce ample);
}
