use mathlib.Core.Logic.{dite}
use native.Mathlib.Decide.{ℕ_discrete}
use Rattle.std.proofs.Common.{◌≡◌, ◌++◌, [], ◌∙◌, refl, sym, subst, arith}
use Rattle.cqs_segment.specs.Slots.{FoundTaken}
use Rattle.cqs_segment.proofs.Taken.{found-left, found-right}
use Rattle.cqs_segment.proofs.Walks.{looked-none, looked-then}
use Rattle.cqs_segment.proofs.slots.claim.Goals as goal

pub loop-slot-init : goal.loop-slot-init
loop-slot-init g c = (
  c.requires.table,
  refl,
  record {
    heads = [];
    left = looked-none c.args.seat.now.me.0;
    taken = λ x low. absurd (omega arith);
  },
)

pub loop-slot-preserved : goal.loop-slot-preserved
loop-slot-preserved g c =
    let inv = c.loop-slot.invariant in
    let u = c.args.seat.now.me.0 in
    let v = c.loop-slot.seat.me.0 in
    let w = c.try_claim.new.seat.me.0 in
    let lost = c.try_claim.ensures.lost c.if-try_claim.false in
    let heads = inv.2.heads in (
      c.try_claim.ensures.table ∙ inv.0,
      c.try_claim.ensures.bare ∙ inv.1,
      record {
        heads = heads ++ lost.heads;
        left = looked-then u v w heads lost.heads u.facts.spare_slots u.facts.duties inv.2.left
            lost.left;
        taken = λ x low. dite (ℕ_discrete x c.loop-slot.slot)
            (λ (e : x ≡ c.loop-slot.slot). found-right x heads lost.heads
            (subst (λ y. FoundTaken y lost.heads) (sym e) lost.taken))
            (λ a. found-left x heads lost.heads (inv.2.taken x (omega arith)));
      },
    )
