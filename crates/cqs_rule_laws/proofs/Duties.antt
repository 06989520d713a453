-- The settled cells that passes are to count, by their segments, where a view is set, cut in two or joined.
use Rattle.std.proofs.Common.{◌≡◌, ◌≢◌, ℕ, ◌+◌, ◌*◌, ◌/◌, ◌%◌, ◌<◌, Bool, true, false, List, [], ◌∷◌, ◌++◌, set, sym, refl, ap, ◌∙◌, arith, eq-eqb, ne_eqb, subst}
use mathlib.Core.Option.{some}
use mathlib.Core.Logic.{dite}
use native.Mathlib.Decide.{ℕ_discrete}
use lib.ListN.{get_elem?}
use Rattle.atomic_table.proofs.Lists.{set_else}
use Rattle.cqs_slots.specs.Slots.{Segments, one_if, settled_in, changed}
use Rattle.cqs_slots.specs.Shown.{AreCounted}
use Rattle.cqs_slots.proofs.Counted.{settled-here, settled-else}
use Rattle.cqs_rule_laws.specs.Settling.{times, duties_in, duties_then, settled_then}
use Rattle.cqs_rule_laws.proofs.Lists.{total_set, total_last}

pub times-append : (q : ℕ) (a b : List ℕ) → times q (a ++ b) ≡ times q a + times q b
times-append q [] b = omega arith
times-append q (x ∷ xs) b = let e = times-append q xs b in omega arith

pub times-one : (q s : ℕ) → q ≡ s → times q (s ∷ []) ≡ 1
times-one q s e = let a = ap one_if (eq-eqb s q (sym e)) in omega arith

pub times-none : (q s : ℕ) → q ≢ s → times q (s ∷ []) ≡ 0
times-none q s apart = let a = ap one_if (ne_eqb s q (λ e. apart (sym e))) in omega arith

module _ {V : Type 0} (duties : V → List ℕ) where
  -- a view is set, and cells were settled or counted
  pub counted-set : (t u : Segments) (before after : ℕ → Bool) (views : List V) (id : ℕ) (v w : V)
      → get_elem? views id ≡ some v
      → ((q : ℕ) → settled_in after q + times q (duties v) + t.counted q
      ≡ settled_in before q + times q (duties w) + u.counted q)
      → AreCounted t before (duties_in duties views) → AreCounted u after (duties_in duties (set views id w))
  counted-set t u before after views id v w here counts old = record {
    counts = λ q.
        let a = counts q in
        let b = old.counts q in
        let all = total_set (λ x. times q (duties x)) views id v w here in
        omega arith;
  }

  pub counted-kept : (t : Segments) (settled : ℕ → Bool) (views : List V) (id : ℕ) (v w : V)
      → get_elem? views id ≡ some v → duties w ≡ duties v
      → AreCounted t settled (duties_in duties views) → AreCounted t settled (duties_in duties (set views id w))
  counted-kept t settled views id v w here same old = counted-set t t settled settled views id v w here
      (λ q. let e = ap (times q) same in omega arith) old

  pub counted-more : (t : Segments) (settled : ℕ → Bool) (views : List V) (w : V)
      → duties w ≡ [] → AreCounted t settled (duties_in duties views) → AreCounted t settled (duties_in duties
      (views ++ w ∷ []))
  counted-more t settled views w none old = record {
    counts = λ q.
        let b = old.counts q in
        let e = ap (times q) none in
        let all = total_last (λ x. times q (duties x)) views w in
        omega arith;
  }

  pub counted-joined : (t : Segments) (settled : ℕ → Bool) (views : List V) (id other : ℕ)
      (v u w gone : V) → get_elem? views id ≡ some v → get_elem? views other ≡ some u → id ≢ other
      → duties w ≡ duties v ++ duties u → duties gone ≡ []
      → AreCounted t settled (duties_in duties views) → AreCounted t settled (duties_in duties (set (set views id w)
      other gone))
  counted-joined t settled views id other v u w gone here there apart both none old = record {
    counts = λ q.
        let b = old.counts q in
        let one = total_set (λ x. times q (duties x)) views id v w here in
        let two = total_set (λ x. times q (duties x)) (set views id w) other u gone
        (set_else views id other w (λ e. apart (sym e)) ∙ there) in
        let e = ap (times q) both ∙ times-append q (duties v) (duties u) in
        let f = ap (times q) none in
        omega arith;
  }

number-parts : (k : ℕ) → 32 * (k / 32) + k % 32 ≡ k
number-parts k = omega arith

-- a step at the number k settles its cell or not, and its pass gets the duty
pub counts-then : (b : Bool) (before : ℕ → Bool) (k n q : ℕ) (duties : List ℕ) → (b ≡ true → before k ≡ false)
    → settled_in (settled_then b before k) q + times q duties + n
    ≡ settled_in before q + times q (duties_then b k duties) + n
counts-then false before k n q duties yet = refl
counts-then true before k n q duties yet =
    let few : k % 32 < 32 = omega arith in
    let bare : before (32 * (k / 32) + k % 32) ≡ false = ap before (number-parts k) ∙ yet refl in
    let more = times-append q duties ((k / 32) ∷ []) in
    dite (ℕ_discrete q (k / 32))
    (λ (e : q ≡ k / 32).
    let one = times-one q (k / 32) e in
    let up : settled_in (changed before k true) q ≡ settled_in before q + 1 =
    subst (λ z. settled_in (changed before k true) z ≡ settled_in before z + 1) (sym e)
    (subst (λ z. settled_in (changed before z true) (k / 32) ≡ settled_in before (k / 32) + 1) (number-parts k)
    (settled-here before (k / 32) (k % 32) few bare)) in omega arith)
    (λ (a : q ≢ k / 32).
    let none = times-none q (k / 32) a in
    let same : settled_in (changed before k true) q ≡ settled_in before q =
    subst (λ z. settled_in (changed before z true) q ≡ settled_in before q) (number-parts k)
    (settled-else before (k / 32) (k % 32) q few a) in omega arith)
