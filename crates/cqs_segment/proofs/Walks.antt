-- What a call leaves is what its steps leave, one after the other.
use Rattle.std.proofs.Common.{◌≡◌, ℕ, ◌+◌, ◌≤◌, List, [], ◌∷◌, ◌++◌, length, length-append, sym, ap, ◌∙◌, subst, append_assoc, arith}
use Rattle.std.proofs.lemmas.List.{append-nil}
use Rattle.cqs_slots.specs.Told.{SeesMore}
use Rattle.cqs_slots.proofs.Loads.{sees-same, sees-then}
use Rattle.cqs_rule_laws.specs.declared.view.Spare.{Spare}
use Rattle.cqs_rule_laws.specs.declared.view.View.{View}
use Rattle.cqs_rule_laws.specs.SegmentSteps.{IsOwnNumber, LeftBy, OwnStand, reset_slot, Reset, retiring, view_left, Went}
use Rattle.cqs_segment.specs.Walks.{but_last, EndsReset, IsWalker, Left, Looked, LookedAt}
use Rattle.cqs_segment.proofs.Endings.{ends-reset}

module _ {E S : Type 0} where
  -- before any step
  pub looked-none : (v : View E S) → LeftBy [] v.facts.spare_slots v.facts.duties v v
  looked-none v = record {
    is = ap (λ heads. record v { facts = record v.facts { heads = heads } }) (sym (append-nil v.facts.heads));
    segments = sees-same v.segments;
  }

  -- one part of a call, and then another
  pub left-then : (u v w : View E S) (heads more : List (ℕ × ℕ)) (spares later : List Spare) (duties fewer : List ℕ)
      → LeftBy heads spares duties u v → LeftBy more later fewer v w → LeftBy (heads ++ more) later fewer u w
  left-then u v w heads more spares later duties fewer p q = record {
    is = q.is
        ∙ (ap (view_left later more fewer w.segments) p.is
        ∙ ap (λ l. record u {
          facts = record u.facts { spare_slots = later; heads = l; duties = fewer };
          segments = w.segments;
        }) (append_assoc u.facts.heads heads more));
    segments = sees-then u.segments v.segments w.segments p.segments q.segments;
  }

  pub and-then : (u v w : View E S) (spares later : List Spare) (duties fewer : List ℕ)
      → Left spares duties u v → Left later fewer v w → Left later fewer u w
  and-then u v w spares later duties fewer p q =
      (p.0 ++ q.0, left-then u v w p.0 q.0 spares later duties fewer p.1 q.1)

  -- the same of a pass that is to retire these segments instead
  pub left-retiring : (v w : View E S) (heads : List (ℕ × ℕ)) (spares : List Spare) (duties first then : List ℕ)
      → LeftBy heads spares duties (retiring first v) w → LeftBy heads spares duties (retiring then v) (retiring then w)
  left-retiring v w heads spares duties first then p =
      record { is = ap (retiring then) p.is; segments = p.segments }

  -- what a pass is to retire then
  pub retires-left : (v w : View E S) (heads : List (ℕ × ℕ)) (spares : List Spare) (duties : List ℕ)
      → LeftBy heads spares duties v w → w.facts.to_retire ≡ v.facts.to_retire
  retires-left v w heads spares duties p = ap (λ (z : View E S). z.facts.to_retire) p.is

  -- what a pass has spare then, and is to count
  pub spares-left : (v w : View E S) (heads : List (ℕ × ℕ)) (spares : List Spare) (duties : List ℕ)
      → LeftBy heads spares duties v w → w.facts.spare_slots ≡ spares
  spares-left v w heads spares duties p = ap (λ (z : View E S). z.facts.spare_slots) p.is

  pub duties-left : (v w : View E S) (heads : List (ℕ × ℕ)) (spares : List Spare) (duties : List ℕ)
      → LeftBy heads spares duties v w → w.facts.duties ≡ duties
  duties-left v w heads spares duties p = ap (λ (z : View E S). z.facts.duties) p.is

  -- a pass that may walk may walk on
  pub walks-on : (words : ℕ) (v w : View E S) (heads : List (ℕ × ℕ)) (spares : List Spare) (duties : List ℕ)
      → LeftBy heads spares duties v w → IsWalker words v → IsWalker words w
  walks-on words v w heads spares duties p walker =
      let slots = ap (λ (z : View E S). z.slots) p.is in record {
        one = ap (λ (z : View E S). z.weight) p.is ∙ walker.one;
        wide = let q = walker.wide in omega arith;
        few = let q = walker.few in omega arith;
      }

  -- and one single step that leaves the cells that are to be counted
  pub went-then : (u v w : View E S) (spares later : List Spare) (duties : List ℕ) (heads : List (ℕ × ℕ))
      → Left spares duties u v → Went later heads v w → Left later duties u w
  went-then u v w spares later duties heads p q = and-then u v w spares later duties duties p
      (heads, subst (λ z. LeftBy heads later z v w) (duties-left u v p.0 spares duties p.1) q)

  -- a further word of the last spare is reset
  pub reset-then : (u v w : View E S) (before : List Spare) (x a d : ℕ) (duties : List ℕ)
      → Left (before ++ reset_slot x a d ∷ []) duties u v
      → Reset (but_last v.facts.spare_slots) x a d v w
      → Left (before ++ reset_slot x a (d + 1) ∷ []) duties u w
  reset-then u v w before x a d duties p q =
      let same = (ends-reset before x a d v.facts.spare_slots (spares-left u v p.0 _ duties p.1)).0 in
      went-then u v w (before ++ reset_slot x a d ∷ []) (before ++ reset_slot x a (d + 1) ∷ []) duties [] p
      (subst (λ l. Went (l ++ reset_slot x a (d + 1) ∷ []) [] v w) same q)

  -- what is spare last, after steps that left it so
  pub ends-now : (u v : View E S) (before : List Spare) (x a d : ℕ) (duties : List ℕ)
      → Left (before ++ reset_slot x a d ∷ []) duties u v → EndsReset v.facts.spare_slots x a d
  ends-now u v before x a d duties p =
      (ends-reset before x a d v.facts.spare_slots (spares-left u v p.0 _ duties p.1)).1

  -- a step that leaves the spares
  pub look-then : (u v w : View E S) (spares : List Spare) (duties : List ℕ) (heads : List (ℕ × ℕ))
      → Left spares duties u v → Went v.facts.spare_slots heads v w → Left spares duties u w
  look-then u v w spares duties heads p q = went-then u v w spares spares duties heads p
      (subst (λ l. Went l heads v w) (spares-left u v p.0 spares duties p.1) q)

  -- one more head was found
  pub looked-once : (u v w : View E S) (most later : ℕ) (head : ℕ × ℕ) → LookedAt most u v
      → Went v.facts.spare_slots (head ∷ []) v w → most + 1 ≤ later → LookedAt later u w
  unfolding look-then went-then and-then
  looked-once u v w most later head p q more =
      let longer = length-append p.0 (head ∷ []) in
      let few = p.1 in
      let then = look-then u v w u.facts.spare_slots u.facts.duties (head ∷ []) (p.0, p.2) q in
      (p.0 ++ head ∷ [], omega arith, then.1)

  -- a step tells of the numbers that the pass works or waits at, and so of those that it does then
  pub own-then : (v w : View E S) (heads : List (ℕ × ℕ)) (spares : List Spare) (duties : List ℕ)
      → LeftBy heads spares duties v w → OwnStand v w → OwnStand w w
  own-then v w heads spares duties p stands =
      λ k own out. stands k (subst (λ (z : View E S). IsOwnNumber z k) p.is own) out

  -- and a call that does
  pub looked-then : (u v w : View E S) (heads more : List (ℕ × ℕ)) (spares : List Spare) (duties : List ℕ)
      → LeftBy heads spares duties u v
      → LeftBy more v.facts.spare_slots v.facts.duties v w → LeftBy (heads ++ more) spares duties u w
  looked-then u v w heads more spares duties p q = left-then u v w heads more spares spares duties duties p
      (subst (λ (l : List Spare × List ℕ). LeftBy more l.0 l.1 v w)
      (λ i. (spares-left u v heads spares duties p i, duties-left u v heads spares duties p i)) q)

  pub and-looked : (u v w : View E S) (spares : List Spare) (duties : List ℕ)
      → Left spares duties u v → Looked v w → Left spares duties u w
  and-looked u v w spares duties p q = (p.0 ++ q.0, looked-then u v w p.0 q.0 spares duties p.1 q.1)

  -- two steps that leave the spares, by which the pass is to retire other segments
  pub retiring-then : (u v w : View E S) (heads more : List (ℕ × ℕ)) (spares : List Spare) (duties first then : List ℕ)
      → LeftBy heads spares duties (retiring first u) v
      → LeftBy more v.facts.spare_slots v.facts.duties (retiring then v) w
      → LeftBy (heads ++ more) spares duties (retiring then u) w
  retiring-then u v w heads more spares duties first then p q =
      looked-then (retiring then u) (retiring then v) w heads more spares duties
      (left-retiring u v heads spares duties first then p) q

  -- a pass that walks knows no fewer segments
  pub longer : (v w : View E S) → SeesMore v.segments w.segments
      → length v.segments.homes ≤ length w.segments.homes
  longer v w more =
      let p = more.homes in
      let e : length w.segments.homes ≡ length (v.segments.homes ++ p.0) = ap length p.1 in
      let q = length-append v.segments.homes p.0 in omega arith
