-- What a link tells, and the segments on both sides of one that was taken out.
use Rattle.std.proofs.Common.{◌≡◌, ℕ, ◌+◌, ◌<◌, ◌≤◌, List, [], length, Option, Some, sym, refl, ap, ◌∙◌, subst, ⊎_elim, inl, arith}
use Rattle.std.proofs.lemmas.Bool.{cases_lt}
use mathlib.Core.Logic.{dite}
use native.Mathlib.Decide.{ℕ_discrete}
use Rattle.cqs_core.proofs.Places.{get-there}
use Rattle.cqs_words.specs.declared.segment.LinkWord.{LinkWord}
use Rattle.cqs_words.specs.declared.segment.TailWord.{TailWord}
use Rattle.cqs_words.specs.Head.{head_word}
use Rattle.cqs_words.specs.Segment.{packed_link, packed_tail, LinkFits, TailFits}
use Rattle.cqs_slots.specs.Slots.{IsHome}
use Rattle.cqs_slots.proofs.Lists.{has_prefix, home-prefix}
use Rattle.cqs_rule_laws.specs.declared.view.Spare.{Spare}
use Rattle.cqs_rule_laws.specs.declared.view.View.{View}
use Rattle.cqs_rule_laws.specs.Lists.{Has}
use Rattle.cqs_rule_laws.specs.SegmentSteps.{HeadSeen, LeftBy, LinkLoaded, LinkRaised, TailLoaded}
use Rattle.cqs_segment.specs.Links.{AreSides, HaveLeftBetween, HaveLeftWithin, IsAbove, IsClosed, IsLower, IsPlaced, IsUpper}
use Rattle.cqs_segment.proofs.Walks.{longer}

module _ {E S : Type 0} where
  -- where a segment was made stays known
  pub placed-on : (v w : View E S) (heads : List (ℕ × ℕ)) (spares : List Spare) (duties : List ℕ) (link : LinkWord)
      → LeftBy heads spares duties v w → IsPlaced link v → IsPlaced link w
  placed-on v w heads spares duties link left at = record {
    home = home-prefix v.segments.homes w.segments.homes link.id link.slot left.segments.homes at.home;
    low = subst (λ (z : View E S). link.slot < z.slots) (sym left.is) at.low;
  }

  module _ (v w : View E S) (slot id : ℕ) (link : LinkWord) (fits : LinkFits link)
      (loaded : LinkLoaded slot v (packed_link link) w) where
    same-link : (loaded.found.id ≡ link.id) × (loaded.found.slot ≡ link.slot)
    same-link =
        let word = loaded.found.word in
        let mine = loaded.found.slot_fits in
        let here = fits.slot in (omega arith, omega arith)

    pub link-placed : id < link.id → IsPlaced link w
    link-placed above =
        let same = same-link in
        let ids = same.0 in
        let slots = same.1 in
        let named = loaded.found.named (omega arith) in record {
          home = subst (λ (p : ℕ × ℕ). IsHome w.segments.homes p.0 p.1) (λ i. (same.0 i, same.1 i)) named.0;
          low = subst (λ (z : View E S). link.slot < z.slots) (sym loaded.went.is)
              (let low = named.1 in omega arith);
        }

    -- all before the segment that it names left, unless that after which it comes did
    pub link-between : IsHome v.segments.homes id slot → (Has id w.segments.outs → ⊥) → HaveLeftBetween id link.id w
    link-between home stands j above below = ⊎_elim (λ out. absurd (stands out)) (λ out. out)
        (loaded.found.passed id j home above (let same = same-link in let ids = same.0 in omega arith))

  -- the head of one more slot was looked at
  module _ (u v w : View E S) (id last slot head : ℕ) (below below' : Option LinkWord) (above above' : LinkWord)
      (seen : HeadSeen slot v head w) (lower : IsLower id slot head below below')
      (upper : IsUpper id slot head above above') where
    on : (link : LinkWord) → IsPlaced link v → IsPlaced link w
    on link at = placed-on v w [] v.facts.spare_slots v.facts.duties link seen.went at

    pub sides-then : slot < v.slots → AreSides id last below above v → AreSides id last below' above' w
    sides-then low sides =
        let slots : w.slots ≡ v.slots = ap (λ (z : View E S). z.slots) seen.went.is in
        let near = upper.near in
        let old = sides.upper in
        let most = old.1 in record {
          lower = λ c is. ⊎_elim
              (λ (same : below' ≡ below). let before = sides.lower c (sym same ∙ is) in (before.0, on c before.1))
              (λ (now : (live : ℕ) × (below' ≡ Some (record { id = live; slot = slot }))
              × (head ≡ head_word live 2) × (live < id)).
              let named : record { id = now.0; slot = slot } ≡ c = some-same (sym now.1 ∙ is) in
              subst (λ (z : LinkWord). (z.id < id) × IsPlaced z w) named (
                now.3,
                record { home = (seen.found.live now.0 now.2).0; low = omega arith },
              ))
              lower.named;
          upper = ⊎_elim
              (λ (same : above' ≡ above). (
                subst (λ (z : LinkWord). id < z.id) (sym same) old.0,
                omega arith,
                subst (λ z. IsPlaced z w) (sym same) (on above old.2),
              ))
              (λ (now : (live : ℕ) × (above' ≡ record { id = live; slot = slot })
              × (head ≡ head_word live 2) × (id < live)). (
                subst (λ (z : LinkWord). id < z.id) (sym now.1) now.3,
                omega arith,
                subst (λ z. IsPlaced z w) (sym now.1)
                    (record { home = (seen.found.live now.0 now.2).0; low = omega arith }),
              ))
              upper.named;
        }
      where
        some-same : {A : Type 0} {a b : A} → Some a ≡ Some b → a ≡ b
        some-same e = cc

    pub within-then : (heads : List (ℕ × ℕ)) (spares : List Spare) (duties : List ℕ) → LeftBy heads spares duties u v
        → last < length u.segments.homes → AreSides id last below above v
        → HaveLeftWithin slot id below above u v → HaveLeftWithin (slot + 1) id below' above' u w
    within-then heads spares duties left made sides outs j x other over under home low =
        let near = upper.near in
        let most = sides.upper.1 in
        dite (ℕ_discrete x slot)
        (λ (e : x ≡ slot).
        let long = longer u v left.segments in
        let there = home-prefix u.segments.homes v.segments.homes j x left.segments.homes home in
        seen.found.gone j (subst (IsHome v.segments.homes j) e there) (omega arith)
        (λ (is : head ≡ head_word j 2). ⊎_elim
        (λ (before : j < id). lower.none j before over is)
        (λ (from : id ≤ j). upper.none j (⊎_elim (λ (a : id < j). a) (λ (b : j ≤ id). absurd (other (omega arith)))
        (cases_lt id j)) under is)
        (cases_lt j id)))
        (λ a. has_prefix j v.segments.outs w.segments.outs seen.went.segments.outs
        (outs j x other (lower.within j over) (omega arith) home (omega arith)))

  -- the tail was loaded, and then all heads were looked at
  module _ (v u w : View E S) (tail : TailWord) (fits : TailFits tail)
      (loaded : TailLoaded v (packed_tail tail) u) where
    same-tail : (loaded.found.id ≡ tail.id) × (loaded.found.slot ≡ tail.slot)
    same-tail =
        let word = loaded.found.word in
        let mine = loaded.found.slot_fits in
        let here = fits.slot in (omega arith, omega arith)

    pub tail-placed : IsPlaced (record { id = tail.id; slot = tail.slot }) u
    tail-placed = let same = same-tail in record {
      home = subst (λ (p : ℕ × ℕ). IsHome u.segments.homes p.0 p.1) (λ i. (same.0 i, same.1 i)) loaded.found.home;
      low = subst (λ (z : View E S). tail.slot < z.slots) (sym loaded.went.is)
          (let low = loaded.found.low in let slots = same.1 in omega arith);
    }

    pub tail-after : (id : ℕ) → id < length v.segments.homes → Has id v.segments.outs → id < tail.id
    tail-after id made out =
        let same = same-tail in
        let ids = same.0 in
        let last = loaded.found.last in
        let long = longer v u loaded.went.segments in
        ⊎_elim (λ (low : id < tail.id). low)
        (λ (high : tail.id ≤ id).
        let is : id ≡ loaded.found.id = omega arith in
        absurd (loaded.found.stands (subst (λ z. Has z u.segments.outs) is
        (has_prefix id v.segments.outs u.segments.outs loaded.went.segments.outs out))))
        (cases_lt id tail.id)

    -- so each segment between the nearest ones left
    pub left-between : (heads : List (ℕ × ℕ)) (spares : List Spare) (duties : List ℕ) (id : ℕ) (below : Option LinkWord)
        (above : LinkWord) → LeftBy heads spares duties u w → Has id v.segments.outs → AreSides id tail.id below above w
        → HaveLeftWithin v.slots id below above u w
        → (j : ℕ) → IsAbove j below → j < above.id → Has j w.segments.outs
    left-between heads spares duties id below above left out sides outs j over under = dite (ℕ_discrete j id)
        (λ (e : j ≡ id). subst (λ z. Has z w.segments.outs) (sym e)
        (has_prefix id u.segments.outs w.segments.outs left.segments.outs
        (has_prefix id v.segments.outs u.segments.outs loaded.went.segments.outs out)))
        (λ other.
        let same = same-tail in
        let ids = same.0 in
        let last = loaded.found.last in
        let most = sides.upper.1 in
        let home = get-there u.segments.homes j (omega arith) in
        outs j home.0 other over under home.1 (loaded.found.inside j home.0 home.1))

  -- a link was raised over the segment
  pub passed-by : (v w : View E S) (id last : ℕ) (below above : LinkWord) → AreSides id last (Some below) above v
      → HaveLeftBetween below.id above.id v → LinkRaised below.slot (packed_link above) v w → IsClosed id w
  passed-by v w id last below above sides left raised =
      let mine = sides.lower below refl in
      let theirs = sides.upper in
      let on : (link : LinkWord) → IsPlaced link v → IsPlaced link w =
      λ link at. placed-on v w [] v.facts.spare_slots v.facts.duties link raised.went at in
      inl (record {
        from = below;
        to = above;
        before = mine.0;
        after = theirs.0;
        from_is = on below mine.1;
        to_is = on above theirs.2;
        left = λ j over under.
            has_prefix j v.segments.outs w.segments.outs raised.went.segments.outs (left j over under);
        raised = raised.raised;
      })
