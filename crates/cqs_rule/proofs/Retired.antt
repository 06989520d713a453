-- A pass that is to retire one segment alone is to retire none after the call that tries it.
use Rattle.std.proofs.Common.{◌≡◌, ℕ, ◌+◌, ◌*◌, ◌^◌, ◌<◌, ◌≤◌, List, [], ◌∷◌, ◌++◌, length, refl, ap, sym, ◌∙◌, subst, ⊎_elim, inl, arith}
use Rattle.cqs_slots.proofs.Lists.{home-prefix, raised_prefix}
use Rattle.cqs_slots.proofs.Loads.{sees-then}
use Rattle.cqs_words.specs.declared.segment.TailWord.{TailWord}
use Rattle.cqs_words.specs.Segment.{packed_tail, TailFits}
use Rattle.cqs_slots.specs.Slots.{IsHome}
use Rattle.cqs_rule_laws.specs.declared.view.Spare.{Spare}
use Rattle.cqs_rule_laws.specs.declared.view.View.{View}
use Rattle.cqs_rule_laws.specs.Lists.{Has}
use Rattle.cqs_rule_laws.specs.SegmentSteps.{LeftBy, LinkRaised, retiring, retiring_too, view_left}
use Rattle.cqs_segment.specs.declared.extending.Extended.TheVariants.{Made}
use Rattle.cqs_segment.specs.declared.leaving.Retired.{Retired}
use Rattle.cqs_segment.specs.Extends.{ExtendsTo}
use Rattle.cqs_segment.specs.Finds.{HasDone, IsDoneWith, Retires}
use Rattle.cqs_segment.specs.Links.{IsPlaced}
use Rattle.cqs_segment.specs.Walks.{but_last, IsWalker, Looked}
use Rattle.cqs_segment.proofs.Walks.{and-looked, duties-left, left-then, spares-left, walks-on}
use Rattle.cqs_rule.specs.Segments.{as_link, ExtendsAlone, IsLinkedTo}

-- a list that has none
none-in : (l : List ℕ) → ((q : ℕ) → Has q l → ⊥) → l ≡ []
none-in [] none = refl
none-in (x ∷ l) none = absurd (none x (inl refl))

module _ {E S : Type 0} where
  -- where the pass was to retire none
  pub retires-none : (x s : ℕ) (answer : Retired) (v w : View E S) → v.facts.to_retire ≡ []
      → IsDoneWith x s answer v w → Retires x s answer v w × Looked v w
  retires-none x s answer v w none d =
      let gone : d.to_retire ≡ [] = none-in d.to_retire (λ q h. subst (Has q) none (d.fewer q h)) in
      subst (λ (z : View E S). Retires x s answer z w × Looked z w)
      (λ i. retiring ((gone ∙ sym none) i) v) (d.retires, d.looked)

  -- and where this segment came to that by the part of the call before
  pub then-retired : (v u w : View E S) (heads : List (ℕ × ℕ)) (spares : List Spare) (duties : List ℕ) (s : ℕ)
      → v.facts.to_retire ≡ [] → LeftBy heads spares duties (retiring_too s v) u → HasDone s u w
      → (more : List (ℕ × ℕ)) × (length more ≤ 1) × LeftBy (heads ++ more) spares duties v w
  then-retired v u w heads spares duties s none left d =
      let was : u.facts.to_retire ≡ s ∷ [] =
      ap (λ (z : View E S). z.facts.to_retire) left.is ∙ ap (λ l. l ++ s ∷ []) none in
      let gone : d.to_retire ≡ [] = none-in d.to_retire (λ q h. ⊎_elim
      (λ (e : q ≡ s). d.done (subst (λ z. Has z d.to_retire) e h)) (λ z. z) (subst (Has q) was (d.fewer q h))) in
      let now : View E S = retiring d.to_retire u in
      let first : LeftBy heads spares duties v now = record {
        is = (λ i. retiring (gone i) (left.is i))
            ∙ (λ i. view_left spares heads duties u.segments (retiring (sym none i) v));
        segments = left.segments;
      } in
      let second : LeftBy d.heads spares duties now w =
      subst (λ (z : List Spare × List ℕ). LeftBy d.heads z.0 z.1 now w)
      (λ i. (
        spares-left (retiring_too s v) u heads spares duties left i,
        duties-left (retiring_too s v) u heads spares duties left i,
      )) d.left in
      (d.heads, d.few, left-then v now w heads d.heads spares spares duties duties first second)

  -- an extension
  module _ (after tail : TailWord) (x : ℕ) (v u : View E S) (made : ExtendsTo after x (Made tail) v u) where
    made-slots : u.slots ≡ v.slots
    made-slots = ap (λ (z : View E S). z.slots) made.3.1.is

    pub made-walks : (words : ℕ) → IsWalker words v → IsWalker words u
    made-walks words walker = walks-on words (retiring_too after.id v) u made.3.0 (but_last v.facts.spare_slots)
        v.facts.duties made.3.1 (record { one = walker.one; wide = walker.wide; few = walker.few })

    pub made-next : tail.id ≡ after.id + 1
    made-next = ap (λ (t : TailWord). t.id) made.0

    pub made-from : IsPlaced (as_link after) u
    made-from = record { home = made.2.home; low = made.2.low }

    pub made-to : x < v.slots → IsPlaced (as_link tail) u
    made-to low = record {
      home = made.1.home;
      low = let is = ap (λ (t : TailWord). t.slot) made.0 in let same = made-slots in omega arith;
    }

    pub made-fits : x < v.slots → v.slots ≤ 65536 → 32 * (after.id + 2) ≤ 2 ^ 40 → TailFits tail
    made-fits low few small =
        let id = ap (λ (t : TailWord). t.id) made.0 in
        let slot = ap (λ (t : TailWord). t.slot) made.0 in
        record { id = omega arith; slot = omega arith }

    -- from which a link led there, and after which the segment before was to leave
    module _ (l : View E S) (linked : LinkRaised after.slot (packed_tail tail) u l) where
      pub linked-walks : (words : ℕ) → IsWalker words v → IsWalker words l
      linked-walks words walker =
          walks-on words u l [] u.facts.spare_slots u.facts.duties linked.went (made-walks words walker)

      pub linked-from : IsHome l.segments.homes after.id after.slot × (after.slot < l.slots) × (l.slots ≡ v.slots)
      linked-from =
          let same = ap (λ (z : View E S). z.slots) linked.went.is in (
            home-prefix u.segments.homes l.segments.homes after.id after.slot linked.went.segments.homes made.2.home,
            let low = made.2.low in omega arith,
            same ∙ made-slots,
          )

      module _ (w : View E S) (d : HasDone after.id l w) where
        pub extended-alone : v.facts.to_retire ≡ [] → ExtendsAlone after x (Made tail) v w
        extended-alone none =
            let on = and-looked (retiring_too after.id v) u l (but_last v.facts.spare_slots) v.facts.duties made.3
            ([], linked.went) in
            let then = then-retired v l w on.0 (but_last v.facts.spare_slots) v.facts.duties after.id none on.1 d in
            let more = sees-then u.segments l.segments w.segments linked.went.segments d.left.segments in
            let up = more.lit in
            let lit = made.1.lit in (
              made.0,
              record {
                home = home-prefix u.segments.homes w.segments.homes tail.id tail.slot more.homes made.1.home;
                lit = omega arith;
              },
              (on.0 ++ then.0, then.2),
            )

        pub linked-still : IsLinkedTo after (Made tail) w
        linked-still = raised_prefix after.slot (packed_tail tail) l.segments.links w.segments.links
            d.left.segments.links linked.raised
