-- What the jobs hold of a resource, and how many of their waits something came to, counted before and after a change.
use Rattle.std.proofs.Common.{◌≡◌, ◌≢◌, ℕ, zero, suc, ◌+◌, ◌<◌, ◌≤◌, ◌==◌, ◌&&◌, not, Bool, true, false, List, [], ◌∷◌, ◌++◌, Option, Some, None, length, set, get_or, slice_get, replicate, map, sum_by, count_by, refl, sym, ap, eq-eqb, ne_eqb, eqb-true, arith}
use Rattle.std.proofs.lemmas.List.Sums.{sum_by-set, sum_by_push, sum_by-cons}
use Rattle.cqs_core.specs.Keyed.{without}
use Rattle.cqs_core.specs.QueueLine.{Waiting}
use Rattle.cqs_core.proofs.Counts.{bit}
use Rattle.cqs_plan.specs.Floor.{Holding, JobWait, oldest}
use Rattle.cqs_turns_report.specs.Ready.{is_held}
use Rattle.cqs_turns_laws.proofs.Lines.{in_line}

-- how many of what one job holds pass a test, and of what all of them hold
abbrev pub held_of : (Holding → Bool) → List Holding → ℕ
held_of test hs = count_by test hs

abbrev pub held_in : (Holding → Bool) → List (List Holding) → ℕ
held_in test holds = sum_by (λ hs. held_of test hs) holds

-- a wait at the resource that isn't in its line any more, whose number passes a test: something came to it
abbrev pub is_claim : ℕ → List Waiting → (ℕ → Bool) → Option JobWait → Bool
is_claim at line test None = false
is_claim at line test (Some w) = (w.at == at) && (not (in_line w.number line) && test w.number)

abbrev pub claims_in : ℕ → List Waiting → (ℕ → Bool) → List (Option JobWait) → ℕ
claims_in at line test waits = count_by (λ o. is_claim at line test o) waits

pub held-got : (test : Holding → Bool) (holds : List (List Holding)) (job : ℕ) (newest : Holding) → job < length holds
    → held_in test (set holds job (get_or holds job [] ++ newest ∷ [])) ≡ held_in test holds + bit (test newest)
held-got test holds job newest below =
    let before : List Holding = get_or holds job [] in
    let written = sum_by-set (λ hs. held_of test hs) holds job (before ++ newest ∷ []) [] below in
    let more : held_of test (before ++ newest ∷ []) ≡ held_of test before + bit (test newest)
    = sum_by_push (λ (h : Holding). bit (test h)) before newest in
    omega (arith, written, more)

held_of-without : (test : Holding → Bool) (at : ℕ) (hs : List Holding) (first : Holding) → oldest at hs ≡ Some first
    → held_of test (without (λ h. h.at) at hs) + bit (test first) ≡ held_of test hs
held_of-without test at [] first some = absurd (cc)
held_of-without test at (h ∷ hs) first some = go (h.at == at) refl (held_of-without test at hs first)
  where
    all : held_of test (h ∷ hs) ≡ bit (test h) + held_of test hs
    all = sum_by-cons (λ (x : Holding). bit (test x)) h hs

    go : (b : Bool) → h.at == at ≡ b
        → (oldest at hs ≡ Some first
        → held_of test (without (λ h. h.at) at hs) + bit (test first) ≡ held_of test hs)
        → held_of test (without (λ h. h.at) at (h ∷ hs)) + bit (test first) ≡ held_of test (h ∷ hs)
    go true same later =
        let here : h.at ≡ at = eqb-true h.at at same in
        let own : Some h ≡ Some first = rw same at some in
        let is : h ≡ first = cc in
        let one : bit (test h) ≡ bit (test first) = ap (λ x. bit (test x)) is in
        rw (eq-eqb at h.at (sym here)) (omega (arith, all, one))
    go false other later =
        let differs : at ≢ h.at = λ e. absurd (cc (eq-eqb h.at at (sym e), other)) in
        let rest : oldest at hs ≡ Some first = rw other at some in
        let fewer = later rest in
        let now : held_of test (h ∷ without (λ x. x.at) at hs)
        ≡ bit (test h) + held_of test (without (λ x. x.at) at hs)
        = sum_by-cons (λ (x : Holding). bit (test x)) h (without (λ x. x.at) at hs) in
        rw (ne_eqb at h.at differs) (omega (arith, all, now, fewer))

pub held-gave : (test : Holding → Bool) (holds : List (List Holding)) (job at : ℕ) (first : Holding)
    → job < length holds → oldest at (get_or holds job []) ≡ Some first
    → held_in test (set holds job (without (λ h. h.at) at (get_or holds job []))) + bit (test first)
    ≡ held_in test holds
held-gave test holds job at first below some =
    let written = sum_by-set (λ hs. held_of test hs) holds job (without (λ h. h.at) at (get_or holds job [])) []
    below in
    let fewer = held_of-without test at (get_or holds job []) first some in
    omega (arith, written, fewer)

-- who holds something of a resource has an oldest of it, which is of this resource
pub record HasOldest (at : ℕ) (hs : List Holding) : Type 0 where
  pub first : Holding
  pub is : oldest at hs ≡ Some first
  pub here : first.at ≡ at

pub has-oldest : (at : ℕ) (hs : List Holding) → is_held at (map (λ h. h.at) hs) ≡ true → HasOldest at hs
has-oldest at [] some = absurd (cc)
has-oldest at (h ∷ hs) some = go (h.at == at) refl (has-oldest at hs)
  where
    go : (b : Bool) → h.at == at ≡ b → (is_held at (map (λ h. h.at) hs) ≡ true → HasOldest at hs)
        → HasOldest at (h ∷ hs)
    go true same later = record { first = h; is = rw same refl; here = eqb-true h.at at same }
    go false other later =
        let rest : HasOldest at hs = later (rw other at some) in
        record { first = rest.first; is = rw other rest.is; here = rest.here }

pub count-set : {X : Type 0} (p : X → Bool) (xs : List X) (i : ℕ) (old new d : X) → i < length xs
    → get_or xs i d ≡ old
    → count_by p (set xs i new) + bit (p old) ≡ count_by p xs + bit (p new)
count-set p xs i old new d below was = rw (← was) (sum_by-set (λ x. bit (p x)) xs i new d below)

bit-le : (a b : Bool) → (a ≡ true → b ≡ true) → bit a ≤ bit b
bit-le true true h = omega arith
bit-le true false h = let no : false ≡ true = h refl in absurd (cc)
bit-le false b h = omega arith

-- where every element that passes the one test passes the other, no more pass it
pub count-le : {X : Type 0} (p q : X → Bool) (xs : List X)
    → ((i : ℕ) (x : X) → slice_get xs i ≡ Some x → q x ≡ true → p x ≡ true) → count_by q xs ≤ count_by p xs
count-le p q [] all = omega arith
count-le p q (x ∷ xs) all =
    omega (
      arith,
      sum_by-cons (λ y. bit (q y)) x xs,
      sum_by-cons (λ y. bit (p y)) x xs,
      bit-le (q x) (p x) (all 0 x refl),
      count-le p q xs (λ i y got. all (suc i) y got),
    )

-- where one element at most passes the one test and not the other, one more passes it at most
pub count-one-more : {X : Type 0} (p q : X → Bool) (xs : List X)
    → ((i j : ℕ) (x y : X) → slice_get xs i ≡ Some x → slice_get xs j ≡ Some y → q x ≡ true → p x ≡ false → q y ≡ true
    → p y ≡ false → i ≡ j)
    → count_by q xs ≤ count_by p xs + 1
count-one-more p q [] one = omega arith
count-one-more p q (x ∷ xs) one =
    go (q x) (p x) refl refl
    (count-one-more p q xs
    (λ i j y z first second qy py qz pz.
    let same : suc i ≡ suc j = one (suc i) (suc j) y z first second qy py qz pz in omega (arith, same)))
  where
    all_q : count_by q (x ∷ xs) ≡ bit (q x) + count_by q xs
    all_q = sum_by-cons (λ y. bit (q y)) x xs

    all_p : count_by p (x ∷ xs) ≡ bit (p x) + count_by p xs
    all_p = sum_by-cons (λ y. bit (p y)) x xs

    none : q x ≡ true → p x ≡ false → (i : ℕ) (y : _) → slice_get xs i ≡ Some y → q y ≡ true → (b : Bool)
        → p y ≡ b → p y ≡ true
    none qx px i y got qy true py = py
    none qx px i y got qy false py =
        let same : 0 ≡ suc i = one 0 (suc i) x y refl got qx px qy py in absurd (omega (arith, same))

    go : (a b : Bool) → q x ≡ a → p x ≡ b → count_by q xs ≤ count_by p xs + 1
        → count_by q (x ∷ xs) ≤ count_by p (x ∷ xs) + 1
    go true true qx px later =
        let bq : bit (q x) ≡ 1 = ap bit qx in
        let bp : bit (p x) ≡ 1 = ap bit px in
        omega (arith, all_q, all_p, bq, bp, later)
    go true false qx px later =
        let bq : bit (q x) ≡ 1 = ap bit qx in
        let fewer : count_by q xs ≤ count_by p xs
        = count-le p q xs (λ i y got qy. none qx px i y got qy (p y) refl) in
        omega (arith, all_q, all_p, bq, fewer)
    go false b qx px later =
        let bq : bit (q x) ≡ 0 = ap bit qx in
        omega (arith, all_q, all_p, bq, later)

and-by : (a b c : Bool) → (b ≡ true → a ≡ true) → (not a && c) ≡ true → (not b && c) ≡ true
and-by true b c follows claims = absurd (cc)
and-by false true c follows claims = let no : false ≡ true = follows refl in absurd (cc)
and-by false false c follows claims = claims

-- a wait at the resource that stood in the line stands in the new one, and passes both tests or neither
pub record IsLike (line new : List Waiting) (test then : ℕ → Bool) (number : ℕ) : Type 0 where
  pub stands : in_line number line ≡ true → in_line number new ≡ true
  pub same : then number ≡ test number

-- where that is so, a claim on the new line was one on the old
pub claim-before : (at : ℕ) (line new : List Waiting) (test then : ℕ → Bool) (o : Option JobWait)
    → ((w : JobWait) → o ≡ Some w → w.at ≡ at → IsLike line new test then w.number)
    → is_claim at new then o ≡ true → is_claim at line test o ≡ true
claim-before at line new test then None like claims = claims
claim-before at line new test then (Some w) like claims = go (w.at == at) refl
  where
    go : (b : Bool) → w.at == at ≡ b → is_claim at line test (Some w) ≡ true
    go false away = let never : false ≡ true = rw away at claims in absurd (cc)
    go true here =
        let own = like w refl (eqb-true w.at at here) in
        let now : (not (in_line w.number new) && then w.number) ≡ true = rw here at claims in
        let passes : (not (in_line w.number new) && test w.number) ≡ true = rw own.same at now in
        rw here (and-by (in_line w.number new) (in_line w.number line) (test w.number) own.stands passes)

-- a wait elsewhere is no claim here, nor is one that stands in the line
pub claim-else : (at q round number : ℕ) (line : List Waiting) (test : ℕ → Bool) → q ≢ at
    → is_claim q line test (Some (record { at = at; round = round; number = number })) ≡ false
claim-else at q round number line test other = rw (ne_eqb at q (λ same. other (sym same))) refl

and-not : (b : Bool) → (b && false) ≡ false
and-not true = refl
and-not false = refl

pub claim-none : (at round number : ℕ) (line : List Waiting) (test : ℕ → Bool) → in_line number line ≡ true
    → is_claim at line test (Some (record { at = at; round = round; number = number })) ≡ false
claim-none at round number line test stands = rw stands (and-not (at == at))

pub claim-here : (at round number : ℕ) (line : List Waiting) (test : ℕ → Bool) → in_line number line ≡ false
    → is_claim at line test (Some (record { at = at; round = round; number = number })) ≡ test number
claim-here at round number line test away = rw (away, eq-eqb at at refl) refl

-- nothing is held at first, and there are no claims
pub held-none : (n : ℕ) (test : Holding → Bool) → held_in test (replicate n []) ≡ 0
held-none zero test = refl
held-none (suc n) test =
    let all = sum_by-cons (λ (hs : List Holding). held_of test hs) [] (replicate n []) in
    omega (arith, all, held-none n test)

pub claims-none : (n at : ℕ) (line : List Waiting) (test : ℕ → Bool) → claims_in at line test (replicate n None) ≡ 0
claims-none zero at line test = refl
claims-none (suc n) at line test =
    omega (
      arith,
      sum_by-cons (λ o. bit (is_claim at line test o)) None (replicate n None),
      claims-none n at line test,
    )
