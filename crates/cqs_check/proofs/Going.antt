-- On the way up from a leaf to the root, adding what stands to the left.
use Rattle.std.proofs.Common.{◌≡◌, ◌≢◌, ◌⊎◌, inl, inr, ℕ, zero, suc, ◌+◌, ◌-◌, ◌/◌, ◌%◌, ◌^◌, ◌<◌, ◌≤◌, List, slice_index, refl, ap, subst, arith}
use Rattle.std.proofs.lemmas.Bool.{cases_eq}
use Rattle.cqs_check.specs.declared.counts.Counts.{Counts}
use Rattle.cqs_check.specs.Trees.{total, IsPair, IsTree, stands_before, IsBeside}
use Rattle.cqs_check.proofs.Totals.{total-step, total-pairs, total-more, total-root}

pub record IsGoing (t : List ℕ) (size number base place sum : ℕ) : Type 0 where
  pub height : ℕ
  pub power : base ≡ 2 ^ height
  pub within : base ≤ size
  pub low : place < base
  pub so_far : sum + total t base place ≡ total t size number

pub going-starts : (c : Counts) (number : ℕ) → IsTree c → number < c.size
    → IsGoing c.nodes.items c.size number c.size number 0
going-starts c number tree low = record {
  height = tree.height;
  power = tree.power;
  within = omega arith;
  low = low;
  so_far = omega arith;
}

-- a base above 1 has a half
halved : (t : List ℕ) (size number base place sum : ℕ) → IsGoing t size number base place sum → 1 < base
    → (h : ℕ) × (base ≡ 2 ^ h + 2 ^ h)
halved t size number base place sum way some = go way.height way.power
  where
    go : (h : ℕ) → base ≡ 2 ^ h → (k : ℕ) × (base ≡ 2 ^ k + 2 ^ k)
    go zero is = absurd (omega (arith, some, is))
    go (suc h) is = (h, omega (arith, is))

pub going-even : (t : List ℕ) (size number base place sum half part : ℕ) → IsGoing t size number base place sum
    → 1 < base
    → ((i : ℕ) → 0 < i → i < size → IsPair t i) → half ≡ base / 2 → part ≡ place / 2 → place % 2 ≢ 1
    → IsGoing t size number half part sum
going-even t size number base place sum half part way some pairs is_half is_part even =
    let h = halved t size number base place sum way some in
    let half_is : half ≡ 2 ^ h.0 = omega (arith, is_half, h.1) in
    let rest = total-pairs t half part base place (omega (arith, half_is, h.1)) (omega (arith, is_part, even))
    (λ i low high. pairs i (omega (arith, low, half_is, h.1, some))
    (omega (arith, high, half_is, h.1, is_part, way.low, way.within))) in
    record {
      height = h.0;
      power = half_is;
      within = omega (arith, way.within, is_half);
      low = omega (arith, half_is, h.1, is_part, way.low);
      so_far = omega (arith, way.so_far, rest);
    }

pub going-odd : (t : List ℕ) (size number base place sum half part at : ℕ) → IsGoing t size number base place sum
    → 1 < base
    → ((i : ℕ) → 0 < i → i < size → IsPair t i) → half ≡ base / 2 → part ≡ place / 2 → place % 2 ≡ 1
    → at + 1 ≡ base + place
    → IsGoing t size number half part (sum + slice_index t at)
going-odd t size number base place sum half part at way some pairs is_half is_part odd where_ =
    let h = halved t size number base place sum way some in
    let half_is : half ≡ 2 ^ h.0 = omega (arith, is_half, h.1) in
    let rest = total-pairs t half part base (part + part) (omega (arith, half_is, h.1)) refl
    (λ i low high. pairs i (omega (arith, low, half_is, h.1, some))
    (omega (arith, high, half_is, h.1, is_part, way.low, way.within))) in
    let last = total-step t base place (part + part) (omega (arith, is_part, odd)) in
    let here : slice_index t (base + (part + part))
    ≡ slice_index t at = ap (slice_index t) (omega (arith, is_part, odd, where_)) in
    record {
      height = h.0;
      power = half_is;
      within = omega (arith, way.within, is_half);
      low = omega (arith, half_is, h.1, is_part, way.low);
      so_far = omega (arith, way.so_far, rest, last, here);
    }

pub going-next : (c : Counts) (number base place sum many : ℕ) → IsTree c
    → IsGoing c.nodes.items c.size number base place sum → 1 < base
    → IsBeside c base place many → IsGoing c.nodes.items c.size number (base / 2) (place / 2) (sum + many)
going-next c number base place sum many tree way some beside = go (cases_eq (place % 2) 1)
  where
    go : (place % 2 ≡ 1) ⊎ (place % 2 ≢ 1) → IsGoing c.nodes.items c.size number (base / 2) (place / 2) (sum + many)
    go (inl odd) =
        rw (beside.odd odd) (going-odd c.nodes.items c.size number base place sum (base / 2) (place / 2)
        (base + place - 1) way some tree.pairs
        refl refl odd (omega (arith, way.low)))
    go (inr even) =
        let same : sum ≡ sum + many = omega (arith, beside.even even) in
        subst (λ n. IsGoing c.nodes.items c.size number (base / 2) (place / 2) n) same
        (going-even c.nodes.items c.size number base place sum (base / 2)
        (place / 2) way some tree.pairs refl refl even)

-- what is added so far fits
pub going-fits : (c : Counts) (number base place sum : ℕ) → IsTree c → number < c.size
    → IsGoing c.nodes.items c.size number base place sum → sum ≤ c.raised
going-fits c number base place sum tree low way =
    let most = total-more c.nodes.items c.size number c.size (omega (arith, low)) in
    let root = total-root c.nodes.items tree.height c.size tree.power tree.pairs in
    omega (arith, way.so_far, most, root, tree.few 1)

pub next-fits : (c : Counts) (number base place sum many : ℕ) → IsTree c → number < c.size
    → IsGoing c.nodes.items c.size number base place sum → 1 < base → IsBeside c base place many → sum + many ≤ c.raised
next-fits c number base place sum many tree low way some beside =
    going-fits c number (base / 2) (place / 2) (sum + many) tree low
    (going-next c number base place sum many tree way some beside)

-- at the root all is added
pub going-ends : (c : Counts) (number base place sum : ℕ) → IsGoing c.nodes.items c.size number base place sum
    → base ≤ 1
    → sum ≡ stands_before c number
going-ends c number base place sum way low = go place (omega (arith, way.low, low)) way.so_far
  where
    go : (p : ℕ) → p ≡ 0 → sum + total c.nodes.items base p ≡ total c.nodes.items c.size number
        → sum ≡ stands_before c number
    go p none so_far = omega (
      arith,
      subst
          (λ q. sum + total c.nodes.items base q ≡ total c.nodes.items c.size number) none so_far,
    )
