use mathlib.Core.Logic.{dite}
use native.Mathlib.Decide.{ℕ_discrete}
use Rattle.std.proofs.Common.{◌≡◌, ◌∙◌, ◌<◌, ◌++◌, ◌∷◌, [], ⊎_elim, inl, inr, refl, sym, ap, subst, append_assoc, arith}
use Rattle.std.proofs.lemmas.Bool.{cases_lt}
use Rattle.cqs_words.specs.Head.{head_word}
use Rattle.cqs_slots.specs.Slots.{IsHome}
use Rattle.cqs_slots.proofs.Lists.{has_prefix, home-prefix}
use Rattle.cqs_segment.specs.Finds.{SawLive}
use Rattle.cqs_segment.proofs.Ahead.{heads-found, live-now, live-on}
use Rattle.cqs_segment.proofs.Walks.{longer, looked-once, looked-none, own-then}
use Rattle.cqs_segment.proofs.walk.scan.Goals as goal

pub loop-slot-init : goal.loop-slot-init
loop-slot-init g c =
    let v = c.args.seat.now.me.0 in (
      c.requires.table,
      refl,
      omega arith,
      c.requires.own,
      ([], omega arith, looked-none v),
      λ j x above below home from low. absurd (omega arith),
      c.requires.after,
      omega arith,
      inl refl,
    )

pub loop-slot-preserved : goal.loop-slot-preserved
loop-slot-preserved g c =
    let inv = c.loop-slot.invariant in
    let u = c.args.seat.now.me.0 in
    let v = c.loop-slot.seat.me.0 in
    let w = c.load_head-head.new.seat.me.0 in
    let f = c.load_head-head.ensures.loaded.found in
    let went = c.load_head-head.ensures.loaded.went in
    let far = inv.4.2 in
    let near = c.nearer-next.ensures.nearer in
    let known = inv.7 in
    let head = ap (λ z. z.facts.heads) went.is in (
      c.load_head-head.ensures.table ∙ inv.0,
      c.load_head-head.ensures.bare ∙ inv.1,
      omega arith,
      own-then v w _ _ _ went c.load_head-head.ensures.loaded.stands,
      looked-once u v w _ _ _ inv.4 went (omega arith),
      λ j y above below home from low.
          let sooner = near.near in
          dite (ℕ_discrete y c.loop-slot.slot)
          (λ (e : y ≡ c.loop-slot.slot).
          let there = home-prefix u.segments.homes v.segments.homes j y far.segments.homes home in
          let long = longer u v far.segments in
          let made = c.requires.made in
          let live = c.pack-live.ensures.value in
          f.gone j (subst (IsHome v.segments.homes j) e there) (omega arith)
          (λ (q : c.load_head-head.result ≡ head_word j 2). ⊎_elim
          (λ (after : c.args.id < j). near.none j after below q)
          (λ same. c.if-head-live.false (omega arith))
          (cases_lt c.args.id j)))
          (λ a. has_prefix j v.segments.outs w.segments.outs went.segments.outs
          (inv.5 j y above (omega arith) home from (omega arith))),
      near.order,
      let sooner = near.near in omega arith,
      ⊎_elim
          (λ (same : c.nearer-next.result ≡ c.loop-slot.next). ⊎_elim
          (λ (old : c.loop-slot.next ≡ c.args.known). inl (same ∙ old))
          (λ (old : SawLive c.loop-slot.next u v).
          inr (subst (λ z. SawLive z u w) (sym same) (live-on c.loop-slot.next u v w _ old head)))
          inv.8)
          (λ (named : c.load_head-head.result ≡ head_word c.nearer-next.result 2).
          inr (live-now c.nearer-next.result c.loop-slot.slot u w inv.4.0
          (head ∙ (ap (λ l. l ++ (c.loop-slot.slot, c.load_head-head.result) ∷ []) (heads-found u v _ inv.4)
          ∙ (append_assoc u.facts.heads inv.4.0 ((c.loop-slot.slot, c.load_head-head.result) ∷ [])
          ∙ ap (λ z. u.facts.heads ++ (inv.4.0 ++ (c.loop-slot.slot, z) ∷ [])) named)))))
          near.named,
    )

pub returns-then-head-live-clause-own : goal.returns-then-head-live-clause-own
returns-then-head-live-clause-own g c =
    own-then _ _ _ _ _ c.load_head-head.ensures.loaded.went c.load_head-head.ensures.loaded.stands
