-- The parts of an extension, one after the other.
use Rattle.std.proofs.Common.{◌≡◌, ◌≢◌, ℕ, ◌<◌, List, [], ◌∷◌, ◌++◌, Bool, true, false, not, ◌&&◌, ◌==◌, eqb-true, eq-eqb, sym, refl, ap, ◌∙◌, subst, arith}
use Rattle.cqs_words.specs.declared.segment.TailWord.{TailWord}
use Rattle.cqs_words.specs.Segment.{packed_tail, segment_word, TailFits}
use Rattle.cqs_slots.specs.Slots.{IsHome}
use Rattle.cqs_slots.specs.Told.{SeesMore, TailFound}
use Rattle.cqs_slots.proofs.Lists.{home-prefix}
use Rattle.cqs_rule_laws.specs.declared.view.Spare.{Spare}
use Rattle.cqs_rule_laws.specs.declared.view.View.{View}
use Rattle.cqs_rule_laws.specs.SegmentSteps.{Began, Extended, LeftBy, reset_slot, retiring, retiring_too, Went}
use Rattle.cqs_segment.specs.Extends.{WasLast}
use Rattle.cqs_segment.specs.Walks.{but_last, EndsReset, Left, Looked}
use Rattle.cqs_segment.proofs.Endings.{ends-reset}
use Rattle.cqs_segment.proofs.Walks.{and-looked, and-then, duties-left, ends-now, left-retiring, retires-left, spares-left, went-then}

-- a comparison of two tails found them to be one, or two
both-true : (p q : Bool) → false ≡ not (p && q) → (p ≡ true) × (q ≡ true)
both-true true true e = (refl, refl)
both-true true false e = absurd (cc)
both-true false q e = absurd (cc)

pub compared-same : (a b : TailWord) → false ≡ not (a.id == b.id && a.slot == b.slot) → a ≡ b
compared-same a b e =
    let both = both-true (a.id == b.id) (a.slot == b.slot) e in
    λ i. record { id = eqb-true a.id b.id both.0 i; slot = eqb-true a.slot b.slot both.1 i }

pub compared-other : (a b : TailWord) → true ≡ not (a.id == b.id && a.slot == b.slot) → a ≡ b → ⊥
compared-other a b e same =
    let ids = eq-eqb a.id b.id (ap (λ (t : TailWord). t.id) same) in
    let slots = eq-eqb a.slot b.slot (ap (λ (t : TailWord). t.slot) same) in
    let q : true ≡ false = e ∙ (λ i. not (ids i && slots i)) in absurd (cc)

-- two tails that are written alike are one
pub one-tail : (a b : TailWord) → TailFits a → TailFits b → packed_tail a ≡ packed_tail b → a ≡ b
one-tail a b p q e =
    let s = p.slot in
    let t = q.slot in
    let ids : a.id ≡ b.id = omega arith in
    let slots : a.slot ≡ b.slot = omega arith in
    λ i. record { id = ids i; slot = slots i }

module _ {E S : Type 0} where
  -- a home that is known stays known
  pub home-then : (v w : View E S) (s x : ℕ) → SeesMore v.segments w.segments → IsHome v.segments.homes s x
      → IsHome w.segments.homes s x
  home-then v w s x more home = home-prefix v.segments.homes w.segments.homes s x more.homes home

  -- the load of the tail, by which a reset begins: the tail's home is known then
  pub begun-home : (v w : View E S) (before : List Spare) (x : ℕ) (tail : TailWord) → TailFits tail
      → Began before x v (packed_tail tail) w
      → IsHome w.segments.homes tail.id tail.slot × (tail.slot < v.slots)
      × (EndsReset w.facts.spare_slots x tail.id 1)
      × LeftBy [] (before ++ reset_slot x tail.id 1 ∷ []) v.facts.duties v w
  begun-home v w before x tail fits b =
      let f = b.found in
      let i = f.id_fits in
      let s = f.slot_fits in
      let t = fits.slot in
      let word = f.word in
      let id : f.id ≡ tail.id = omega arith in
      let slot : f.slot ≡ tail.slot = omega arith in
      let low = f.low in
      let left : LeftBy [] (before ++ reset_slot x tail.id 1 ∷ []) v.facts.duties v w =
      subst (λ z. Went (before ++ reset_slot x z 1 ∷ []) [] v w) id b.went in (
        subst (λ (p : ℕ × ℕ). IsHome w.segments.homes p.0 p.1) (λ m. (id m, slot m)) f.home,
        omega arith,
        ends-now v w before x tail.id 1 v.facts.duties ([], left),
        left,
      )

  -- the same where the tail is the one that is wanted; then the words are reset, and the tail's head is made live
  module _ (u v w z : View E S) (x : ℕ) (tail after : TailWord) (fits : TailFits tail) (same : tail ≡ after)
      (began : Began (but_last u.facts.spare_slots) x u (packed_tail tail) v) where
    start : IsHome v.segments.homes after.id after.slot × (after.slot < u.slots)
        × (EndsReset v.facts.spare_slots x after.id 1)
        × LeftBy [] (but_last u.facts.spare_slots ++ reset_slot x after.id 1 ∷ []) u.facts.duties u v
    start = subst (λ (t : TailWord). IsHome v.segments.homes t.id t.slot × (t.slot < u.slots)
        × (EndsReset v.facts.spare_slots x t.id 1)
        × LeftBy [] (but_last u.facts.spare_slots ++ reset_slot x t.id 1 ∷ []) u.facts.duties u v) same
        (begun-home u v (but_last u.facts.spare_slots) x tail fits began)

    pub start-ends : EndsReset v.facts.spare_slots x after.id 1
    start-ends = start.2

    module _ (reset : Left (but_last v.facts.spare_slots ++ reset_slot x after.id 34 ∷ []) v.facts.duties v w)
      where
        pub home-reset : IsHome w.segments.homes after.id after.slot
        home-reset = home-then v w after.id after.slot reset.1.segments start.0

        reset-all : Left (but_last u.facts.spare_slots ++ reset_slot x after.id 34 ∷ []) u.facts.duties u w
        reset-all =
            let B = but_last u.facts.spare_slots in
            let left : Left (B ++ reset_slot x after.id 1 ∷ []) u.facts.duties u v = ([], start.3) in
            let now = ends-reset B x after.id 1 v.facts.spare_slots (spares-left u v left.0 _ u.facts.duties left.1) in
            and-then u v w (B ++ reset_slot x after.id 1 ∷ []) (B ++ reset_slot x after.id 34 ∷ []) u.facts.duties
            u.facts.duties left
            (subst (λ (p : List Spare × List ℕ). Left (p.0 ++ reset_slot x after.id 34 ∷ []) p.1 v w)
            (λ i. (now.0 i, duties-left u v left.0 _ u.facts.duties left.1 i)) reset)

        low-reset : after.slot < u.slots
        low-reset = start.1

        module _ (looked : Looked w z) where
          pub home-lit : IsHome z.segments.homes after.id after.slot
          home-lit = home-then w z after.id after.slot looked.1.segments home-reset

          pub left-lit : Left (but_last u.facts.spare_slots ++ reset_slot x after.id 34 ∷ []) u.facts.duties u z
          left-lit = and-looked u w z (but_last u.facts.spare_slots ++ reset_slot x after.id 34 ∷ []) u.facts.duties
              reset-all looked

          -- and so after the exchange of the tail, and what followed
          pub last-before : (y : View E S) (heads : List (ℕ × ℕ)) (spares : List Spare) (duties retires : List ℕ)
              → SeesMore z.segments y.segments → LeftBy heads spares duties (retiring retires u) y → WasLast after y
          last-before y heads spares duties retires more left = record {
            home = home-then z y after.id after.slot more home-lit;
            low = subst (λ (t : View E S). after.slot < t.slots) (sym left.is) low-reset;
          }

          pub ends-lit : EndsReset z.facts.spare_slots x after.id 34
          ends-lit = ends-now u z (but_last u.facts.spare_slots) x after.id 34 u.facts.duties left-lit

  module _ (u v : View E S) (before : List Spare) (x a slot : ℕ) (duties : List ℕ) (n : ℕ) (w : View E S)
      (reset : Left (before ++ reset_slot x a 34 ∷ []) duties u v)
      (e : Extended (but_last v.facts.spare_slots) x a slot v n w) where
    -- the spare is none any more where the exchange was made, and the segment before is to be retired
    pub extension-made : n ≡ segment_word a slot → Left before duties (retiring_too a u) w
    extension-made is =
        let same = (ends-reset before x a 34 v.facts.spare_slots (spares-left u v reset.0 _ duties reset.1)).0 in
        let then = v.facts.to_retire ++ a ∷ [] in
        subst (λ l. Left before duties (retiring (l ++ a ∷ []) u) w)
        (retires-left u v reset.0 (before ++ reset_slot x a 34 ∷ []) duties reset.1)
        (went-then (retiring then u) (retiring then v) w (before ++ reset_slot x a 34 ∷ []) before duties [] (
          reset.0,
          left-retiring u v reset.0 (before ++ reset_slot x a 34 ∷ []) duties u.facts.to_retire then reset.1,
        )
        (subst (λ l. Went l [] (retiring then v) w) same (e.made is)))

    -- and is kept where it wasn't
    pub extension-missed : n ≢ segment_word a slot
        → TailFound w.slots n w.segments × Left (before ++ reset_slot x a 34 ∷ []) duties u w
    extension-missed other =
        let went = e.missed other in (
          subst (λ z. TailFound z n w.segments) (sym (ap (λ (z : View E S). z.slots) went.is))
              (e.found other),
          and-looked u v w (before ++ reset_slot x a 34 ∷ []) duties reset ([], went),
        )
