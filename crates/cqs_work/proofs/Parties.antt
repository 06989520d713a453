-- The parties that a pass holds: of one round a party more or less.
use Rattle.std.proofs.Common.{◌≡◌, ◌≢◌, ◌⊎◌, inl, inr, ℕ, ◌+◌, ◌-◌, ◌<◌, ◌≤◌, nat_lt, cond, List, [], length, set, get_or, sym, ap, ◌∙◌, subst, lt-ltb, le-ltb, arith}
use Rattle.std.proofs.lemmas.Bool.{cases_eq, cases_lt}
use Rattle.std.proofs.lemmas.List.{get_or-set_same, get_or-set_other, get_or_past, length-set}
use Rattle.cqs_floor_shared.specs.Shared.{parties_in, with_parties}
use Rattle.cqs_work.specs.Needs.{IsPartyPlace, comes_to}

comes-in : (round first n : ℕ) → first ≤ round → round < first + n → comes_to round first n ≡ 1
comes-in round first n low high =
    ap (λ b. cond {A = ℕ} b 0 (cond {A = ℕ} (nat_lt round (first + n)) 1 0)) (le-ltb round first low)
    ∙ ap (λ b. cond {A = ℕ} b 1 0) (lt-ltb round (first + n) high)

comes-before : (round first n : ℕ) → round < first → comes_to round first n ≡ 0
comes-before round first n before =
    ap (λ b. cond {A = ℕ} b 0 (cond {A = ℕ} (nat_lt round (first + n)) 1 0)) (lt-ltb round first before)

comes-past : (round first n : ℕ) → first ≤ round → first + n ≤ round → comes_to round first n ≡ 0
comes-past round first n low past =
    ap (λ b. cond {A = ℕ} b 0 (cond {A = ℕ} (nat_lt round (first + n)) 1 0)) (le-ltb round first low)
    ∙ ap (λ b. cond {A = ℕ} b 1 0) (le-ltb round (first + n) past)

-- fewer arrivals come to fewer rounds
pub comes-fewer : (round first m n : ℕ) → m ≤ n → comes_to round first m ≤ comes_to round first n
comes-fewer round first m n fewer = go (cases_lt round first)
  where
    inside : (first ≤ round) → (round < first + m) ⊎ (first + m ≤ round)
        → comes_to round first m ≤ comes_to round first n
    inside low (inl high) =
        omega (arith, comes-in round first m low high, comes-in round first n low (omega (arith, high, fewer)))
    inside low (inr past) = omega (arith, comes-past round first m low past)

    go : (round < first) ⊎ (first ≤ round) → comes_to round first m ≤ comes_to round first n
    go (inl before) = omega (arith, comes-before round first m before)
    go (inr low) = inside low (cases_lt round (first + m))

-- an arrival in the round `first`: the job comes to that round no more
pub comes-here : (first n : ℕ) → comes_to first (first + 1) n + 1 ≡ comes_to first first (n + 1)
comes-here first n =
    let none : comes_to first (first + 1) n ≡ 0 = comes-before first (first + 1) n (omega arith) in
    let one : comes_to first first (n + 1) ≡ 1 = comes-in first first (n + 1) (omega arith) (omega arith) in
    omega (arith, none, one)

-- and to the others as before
pub comes-elsewhere : (round first n : ℕ) → round ≢ first → comes_to round (first + 1) n ≡ comes_to round first (n + 1)
comes-elsewhere round first n other = go (cases_lt round first)
  where
    inside : first + 1 ≤ round → (round < (first + 1) + n) ⊎ ((first + 1) + n ≤ round)
        → comes_to round (first + 1) n ≡ comes_to round first (n + 1)
    inside low (inl high) =
        let here : comes_to round (first + 1) n ≡ 1 = comes-in round (first + 1) n low high in
        let there : comes_to round first (n + 1) ≡ 1
        = comes-in round first (n + 1) (omega (arith, low)) (omega (arith, high)) in
        omega (arith, here, there)
    inside low (inr past) =
        let here : comes_to round (first + 1) n ≡ 0 = comes-past round (first + 1) n low past in
        let there : comes_to round first (n + 1) ≡ 0
        = comes-past round first (n + 1) (omega (arith, low)) (omega (arith, past)) in
        omega (arith, here, there)

    go : (round < first) ⊎ (first ≤ round) → comes_to round (first + 1) n ≡ comes_to round first (n + 1)
    go (inl before) =
        let here : comes_to round (first + 1) n ≡ 0 = comes-before round (first + 1) n (omega (arith, before)) in
        let there : comes_to round first (n + 1) ≡ 0 = comes-before round first (n + 1) before in
        omega (arith, here, there)
    go (inr low) =
        let further : first + 1 ≤ round = omega (arith, low, other) in
        inside further (cases_lt round ((first + 1) + n))

-- a job comes to its own round that has an arrival left
pub comes-next : (first n : ℕ) → comes_to first first (n + 1) ≡ 1
comes-next first n = comes-in first first (n + 1) (omega arith) (omega arith)

-- where there is something there is a place
place-there : (xs : List ℕ) (i : ℕ) → 0 < get_or xs i 0 → i < length xs
place-there xs i some = go (cases_lt i (length xs))
  where
    go : (i < length xs) ⊎ (length xs ≤ i) → i < length xs
    go (inl below) = below
    go (inr past) = absurd (omega (arith, some, get_or_past xs i 0 past))

-- one more at a place is nowhere less
more-at : (xs : List ℕ) (i j : ℕ) → get_or xs j 0 ≤ get_or (set xs i (get_or xs i 0 + 1)) j 0
more-at xs i j = go (cases_eq j i)
  where
    here : (i < length xs) ⊎ (length xs ≤ i) → get_or xs i 0 ≤ get_or (set xs i (get_or xs i 0 + 1)) i 0
    here (inl below) = omega (arith, get_or-set_same xs i (get_or xs i 0 + 1) 0 below)
    here (inr past) = omega (arith, get_or_past xs i 0 past)

    go : (j ≡ i) ⊎ (j ≢ i) → get_or xs j 0 ≤ get_or (set xs i (get_or xs i 0 + 1)) j 0
    go (inl same) =
        let At : ℕ → Type 0 = λ n. get_or xs n 0 ≤ get_or (set xs i (get_or xs i 0 + 1)) n 0 in
        subst At (sym same) (here (cases_lt i (length xs)))
    go (inr other) = omega (arith, get_or-set_other xs i j (get_or xs i 0 + 1) 0 other)

module _ (parties : List (List ℕ)) (at round : ℕ) where
  abbrev more_row : List ℕ
  more_row = get_or parties at []

  abbrev more_new : List ℕ
  more_new = set more_row round (get_or more_row round 0 + 1)

  more-here : (r : ℕ) → (at < length parties) ⊎ (length parties ≤ at)
      → get_or more_row r 0 ≤ get_or (get_or (set parties at more_new) at []) r 0
  more-here r (inl below) =
      let written : get_or (set parties at more_new) at [] ≡ more_new = get_or-set_same parties at more_new [] below in
      subst (λ l. get_or more_row r 0 ≤ get_or l r 0) (sym written) (more-at more_row round r)
  more-here r (inr past) =
      let none : more_row ≡ [] = get_or_past parties at [] past in
      let nothing : get_or more_row r 0 ≡ 0 = ap (λ l. get_or l r 0) none in
      omega (arith, nothing)

  more-by : (q r : ℕ) → (q ≡ at) ⊎ (q ≢ at)
      → parties_in parties q r ≤ parties_in (with_parties parties at round (parties_in parties at round + 1)) q r
  more-by q r (inl same) =
      let At : ℕ → Type 0 = λ n. get_or (get_or parties n []) r 0
      ≤ get_or (get_or (set parties at more_new) n []) r 0 in
      subst At (sym same) (more-here r (cases_lt at (length parties)))
  more-by q r (inr other) =
      let kept : get_or (get_or (set parties at more_new) q []) r 0 ≡ get_or (get_or parties q []) r 0
      = ap (λ l. get_or l r 0) (get_or-set_other parties at q more_new [] other) in
      omega (arith, kept)

  pub parties-more : (q r : ℕ)
      → parties_in parties q r ≤ parties_in (with_parties parties at round (parties_in parties at round + 1)) q r
  parties-more q r = more-by q r (cases_eq q at)

-- where there is a party there is a place for it
pub party-place : (parties : List (List ℕ)) (at round : ℕ) → 0 < parties_in parties at round
    → IsPartyPlace parties at round
party-place parties at round some = record {
  there = outside (cases_lt at (length parties));
  inside = place-there (get_or parties at []) round some;
}
  where
    outside : (at < length parties) ⊎ (length parties ≤ at) → at < length parties
    outside (inl below) = below
    outside (inr past) =
        let nothing : get_or (get_or parties at []) round 0 ≡ 0
        = ap (λ l. get_or l round 0) (get_or_past parties at [] past) in
        absurd (omega (arith, some, nothing))

-- one party is taken from where there is one
pub parties-here : (parties : List (List ℕ)) (at round : ℕ) → 0 < parties_in parties at round
    → parties_in (with_parties parties at round (parties_in parties at round - 1)) at round
    ≡ parties_in parties at round - 1
parties-here parties at round some =
    let row : List ℕ = get_or parties at [] in
    let new : List ℕ = set row round (get_or row round 0 - 1) in
    let place : IsPartyPlace parties at round = party-place parties at round some in
    ap (λ l. get_or l round 0) (get_or-set_same parties at new [] place.there)
    ∙ get_or-set_same row round (get_or row round 0 - 1) 0 place.inside

-- and nowhere else
module _ (parties : List (List ℕ)) (at round many : ℕ) where
  abbrev old_row : List ℕ
  old_row = get_or parties at []

  abbrev new_row : List ℕ
  new_row = set old_row round many

  other-round : (r : ℕ) → r ≢ round → (at < length parties) ⊎ (length parties ≤ at)
      → get_or (get_or (set parties at new_row) at []) r 0 ≡ get_or old_row r 0
  other-round r other (inl below) =
      ap (λ l. get_or l r 0) (get_or-set_same parties at new_row [] below)
      ∙ get_or-set_other old_row round r many 0 other
  other-round r other (inr past) =
      let long : length (set parties at new_row) ≤ at = omega (arith, past, length-set parties at new_row) in
      ap (λ l. get_or l r 0) (get_or_past (set parties at new_row) at [] long)
      ∙ sym (ap (λ l. get_or l r 0) (get_or_past parties at [] past))

  other-by : (q r : ℕ) → r ≢ round → (q ≡ at) ⊎ (q ≢ at)
      → get_or (get_or (set parties at new_row) q []) r 0 ≡ get_or (get_or parties q []) r 0
  other-by q r other (inl same) =
      let At : ℕ → Type 0 = λ n. get_or (get_or (set parties at new_row) n []) r 0 ≡ get_or (get_or parties n []) r 0 in
      subst At (sym same) (other-round r other (cases_lt at (length parties)))
  other-by q r other (inr apart) = ap (λ l. get_or l r 0) (get_or-set_other parties at q new_row [] apart)

  pub parties-elsewhere : (q r : ℕ) → (q ≢ at) ⊎ (r ≢ round)
      → parties_in (with_parties parties at round many) q r ≡ parties_in parties q r
  parties-elsewhere q r (inl other) = ap (λ l. get_or l r 0) (get_or-set_other parties at q new_row [] other)
  parties-elsewhere q r (inr other) = other-by q r other (cases_eq q at)

-- the place stays, whatever parties are written
pub place-stays : (parties : List (List ℕ)) (at round many q r : ℕ) → IsPartyPlace parties q r
    → IsPartyPlace (with_parties parties at round many) q r
place-stays parties at round many q r place = record {
  there = omega (arith, place.there, length-set parties at row);
  inside = inner (cases_eq q at);
}
  where
    row : List ℕ
    row = set (get_or parties at []) round many

    inner : (q ≡ at) ⊎ (q ≢ at) → r < length (get_or (set parties at row) q [])
    inner (inl same) =
        let here : at < length parties = omega (arith, place.there, same) in
        let long : length (get_or (set parties at row) q []) ≡ length (get_or parties q [])
        = ap (λ n. length (get_or (set parties at row) n [])) same
        ∙ ap length (get_or-set_same parties at row [] here) ∙ length-set (get_or parties at []) round many
        ∙ ap (λ n. length (get_or parties n [])) (sym same) in
        omega (arith, place.inside, long)
    inner (inr other) = omega (arith, place.inside, ap length (get_or-set_other parties at q row [] other))

-- a party is given back where there is a place
pub party-back : (parties : List (List ℕ)) (at round : ℕ) → IsPartyPlace parties at round
    → parties_in (with_parties parties at round (parties_in parties at round + 1)) at round
    ≡ parties_in parties at round + 1
party-back parties at round place =
    let row : List ℕ = get_or parties at [] in
    ap (λ l. get_or l round 0) (get_or-set_same parties at (set row round (get_or row round 0 + 1)) [] place.there)
    ∙ get_or-set_same row round (get_or row round 0 + 1) 0 place.inside
