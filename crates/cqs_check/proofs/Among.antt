-- The place of a wait in the line is the number of waits with smaller numbers that stand.
use Rattle.std.proofs.Common.{◌≡◌, ℕ, zero, suc, ◌+◌, ◌<◌, List, [], ◌∷◌, take, Some, slice_get, refl, ap, arith}
use Rattle.cqs_core.specs.Numbered.{pick_each, cons_option, IsIn}
use Rattle.cqs_core.specs.QueueLine.{Waiting}
use Rattle.cqs_core.specs.QueueWaiters.{Waits}
use Rattle.cqs_check.specs.declared.waits.WaitState.{WaitState}
use Rattle.cqs_check.specs.declared.waits.WaitState.TheVariants as wait
use Rattle.cqs_check.specs.Lines.{waiting_at, standing}

-- wait n is the i-th of the table that begins with number k, and fewer than `way` before it stand
pub record StandsAt (way n c k : ℕ) (waits : List WaitState) : Type 0 where
  pub place : ℕ
  pub number : n ≡ k + place
  pub there : slice_get waits place ≡ Some (wait.Waiting c)
  pub few : standing (take place waits) < way

-- one more at the front
count-standing : (i d : ℕ) (waits : List WaitState)
    → standing (take (suc i) (wait.Waiting d ∷ waits)) ≡ suc (standing (take i waits))
count-standing i d waits = refl

in-later : (w v : Waiting) (xs : List Waiting) → IsIn w xs → IsIn w (v ∷ xs)
in-later w v xs is = record { place = suc is.place; there = is.there }

-- a wait that stands, with fewer than `way` before it, is among the first `way`
pub stands-among : (way n c k : ℕ) (waits : List WaitState) (i : ℕ) → n ≡ k + i
    → slice_get waits i ≡ Some (wait.Waiting c)
    → standing (take i waits) < way → Waits n c (take way (pick_each waiting_at k waits))
stands-among zero n c k waits i at there few = absurd (omega (arith, few))
stands-among (suc way) n c k [] i at there few = absurd (cc there)
stands-among (suc way) n c k (x ∷ waits) zero at there few = here x (cc there)
  where
    here : (x : WaitState) → x ≡ wait.Waiting c
        → Waits n c (take (suc way) (cons_option (waiting_at k x) (pick_each waiting_at (suc k) waits)))
    here x same = rw same (record {
      place =
          0;
      there = ap (λ m. Some (record { wait = m; pass = c })) (omega (arith, at));
    })
stands-among (suc way) n c k (wait.Waiting d ∷ waits) (suc i) at there few =
    in-later (record { wait = n; pass = c }) (record { wait = k; pass = d })
    (take way (pick_each waiting_at (suc k) waits))
    (stands-among way n c (suc k) waits i (omega (arith, at)) there (omega (arith, few, count-standing i d waits)))
stands-among (suc way) n c k (wait.Served d ∷ waits) (suc i) at there few =
    stands-among (suc way) n c (suc k) waits i (omega (arith, at)) there few
stands-among (suc way) n c k (wait.Closed d ∷ waits) (suc i) at there few =
    stands-among (suc way) n c (suc k) waits i (omega (arith, at)) there few
stands-among (suc way) n c k (wait.Gone ∷ waits) (suc i) at there few =
    stands-among (suc way) n c (suc k) waits i (omega (arith, at)) there few

in-take : (way : ℕ) (w v : Waiting) (xs : List Waiting) (place : ℕ) → slice_get (v ∷ take way xs) (suc place) ≡ Some w
    → IsIn w (take way xs)
in-take way w v xs place there = record { place = place; there = there }

wait-same : (v w : Waiting) → Some v ≡ Some w → v ≡ w
wait-same v w e = cc e

-- the wait behind one that stands, and behind one that doesn't
behind-standing : (way n c k d : ℕ) (waits : List WaitState) → StandsAt way n c (suc k) waits
    → StandsAt (suc way) n c k (wait.Waiting d ∷ waits)
behind-standing way n c k d waits is = record {
  place = suc is.place;
  number = omega (arith, is.number);
  there = is.there;
  few = omega (arith, is.few, count-standing is.place d waits);
}

-- and back
pub among-stands : (way n c k : ℕ) (waits : List WaitState) → Waits n c (take way (pick_each waiting_at k waits))
    → StandsAt way n c k waits
among-stands zero n c k waits is = absurd (cc is.there)
among-stands (suc way) n c k [] is = absurd (cc is.there)
among-stands (suc way) n c k (wait.Waiting d ∷ waits) is =
    go is.place is.there (λ later. among-stands way n c (suc k) waits later)
  where
    go : (place : ℕ) → slice_get (record { wait = k; pass = d } ∷ take way (pick_each waiting_at (suc k) waits)) place
        ≡ Some (record { wait = n; pass = c })
        → (Waits n c (take way (pick_each waiting_at (suc k) waits)) → StandsAt way n c (suc k) waits)
        → StandsAt (suc way) n c k (wait.Waiting d ∷ waits)
    go zero there onward =
        let mine : Waiting = record { wait = k; pass = d } in
        let theirs : Waiting = record { wait = n; pass = c } in
        let same : mine ≡ theirs = wait-same mine theirs there in
        let number : k ≡ n = ap (λ (w : Waiting). w.wait) same in
        let caller : d ≡ c = ap (λ (w : Waiting). w.pass) same in
        record {
          place = zero;
          number = omega (arith, number);
          there = ap
              (λ x. Some (wait.Waiting x)) caller;
          few = omega arith;
        }
    go (suc place) there onward = behind-standing way n c k d waits
        (onward (in-take way (record { wait = n; pass = c }) (record { wait = k; pass = d })
        (pick_each waiting_at (suc k) waits) place there))
among-stands (suc way) n c k (wait.Served d ∷ waits) is =
    let later = among-stands (suc way) n c (suc k) waits is in
    record { place = suc later.place; number = omega (arith, later.number); there = later.there; few = later.few }
among-stands (suc way) n c k (wait.Closed d ∷ waits) is =
    let later = among-stands (suc way) n c (suc k) waits is in
    record { place = suc later.place; number = omega (arith, later.number); there = later.there; few = later.few }
among-stands (suc way) n c k (wait.Gone ∷ waits) is =
    let later = among-stands (suc way) n c (suc k) waits is in
    record { place = suc later.place; number = omega (arith, later.number); there = later.there; few = later.few }
