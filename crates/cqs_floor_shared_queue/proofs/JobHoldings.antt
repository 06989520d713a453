-- What jobs hold of all resources: after one more, after one less, and of two lists.
use Rattle.std.proofs.Common.{◌≡◌, ◌≢◌, ◌⊎◌, inl, inr, ℕ, suc, ◌+◌, ◌<◌, ◌≤◌, ◌==◌, Bool, true, false, IsTrue, IsSome, List, [], ◌∷◌, ◌++◌, drop, take, Some, None, length, map, set, get_or, refl, ap, sym, ◌∙◌, subst, eq-eqb, ne_eqb, eqb-true, arith, length-set}
use Rattle.std.specs.List.{list_any, position_from, range_with_len}
use Rattle.std.specs.Option.{option_map_or}
use Rattle.std.proofs.lemmas.Bool.{cases_eq}
use Rattle.std.proofs.lemmas.List.{append-nil, get_or-set_same, get_or-set_other, map-set, same_lists}
use Rattle.std.proofs.lemmas.List.FromFn.{get_or-map-range_with_len, length-map-range_with_len}
use Rattle.cqs_core.specs.Keyed.{without}
use Rattle.cqs_plan.specs.Floor.{Holding, oldest}
use Rattle.cqs_floor_common.specs.HeldElements.{held_by}
use Rattle.cqs_floor_common.proofs.Holdings.{elements-append, elements-away, elements-here, elements-kept, elements-less, held-there, set-same}
use Rattle.cqs_floor_common.specs.Holdings.{elements_of, held_at}
use Rattle.cqs_floor_shared_queue.specs.declared.floors.holdings.JobHolding.{JobHolding}
use Rattle.cqs_floor_shared_queue.specs.Holdings.{and_more, held_by_job, held_by_jobs, is_of, less_oldest}
use Rattle.cqs_floor_shared_kinds.specs.Shares.{join_held}

-- one job: of two lists
pub job-append : (job : ℕ) (hs gs : List JobHolding)
    → held_by_job job (hs ++ gs) ≡ held_by_job job hs ++ held_by_job job gs
job-append job [] gs = refl
job-append job (h ∷ hs) gs = go (h.job == job) refl (job-append job hs gs)
  where
    go : (b : Bool) → h.job == job ≡ b
        → held_by_job job (hs ++ gs) ≡ held_by_job job hs ++ held_by_job job gs
        → held_by_job job (h ∷ (hs ++ gs)) ≡ held_by_job job (h ∷ hs) ++ held_by_job job gs
    go true same rest = rw same (ap (λ xs. record { at = h.at; element = h.element } ∷ xs) rest)
    go false other rest = rw other rest

job-own : (job at element : ℕ)
    → held_by_job job (and_more [] at job element) ≡ record { at = at; element = element } ∷ []
job-own job at element = rw (eq-eqb job job refl) refl

job-else : (job at element j : ℕ) → job ≢ j → held_by_job j (and_more [] at job element) ≡ []
job-else job at element j other = rw (ne_eqb job j other) refl

-- one job: without the oldest of a resource, which is its own or another's
job-less : (at job : ℕ) (hs : List JobHolding)
    → held_by_job job (less_oldest at job hs) ≡ without (λ h. h.at) at (held_by_job job hs)
job-less at job [] = refl
job-less at job (h ∷ hs) = go (h.job == job) refl (h.at == at) refl (job-less at job hs)
  where
    go : (b : Bool) → h.job == job ≡ b → (a : Bool) → h.at == at ≡ a
        → held_by_job job (less_oldest at job hs) ≡ without (λ h. h.at) at (held_by_job job hs)
        → held_by_job job (less_oldest at job (h ∷ hs)) ≡ without (λ h. h.at) at (held_by_job job (h ∷ hs))
    go false other a is rest = rw (other, other) rest
    go true same true here rest = rw (same, here, eq-eqb at h.at (sym (eqb-true h.at at here))) refl
    go true same false away rest =
        let differs : at ≢ h.at = λ e. absurd (cc (eq-eqb h.at at (sym e), away)) in
        rw (same, away, same, ne_eqb at h.at differs)
        (ap (λ xs. record { at = h.at; element = h.element } ∷ xs) rest)

job-less-else : (at job j : ℕ) (hs : List JobHolding) → j ≢ job
    → held_by_job j (less_oldest at job hs) ≡ held_by_job j hs
job-less-else at job j [] other = refl
job-less-else at job j (h ∷ hs) other =
    go (h.job == job) refl (h.at == at) refl (h.job == j) refl (job-less-else at job j hs other)
  where
    go : (b : Bool) → h.job == job ≡ b → (a : Bool) → h.at == at ≡ a → (own : Bool) → h.job == j ≡ own
        → held_by_job j (less_oldest at job hs) ≡ held_by_job j hs
        → held_by_job j (less_oldest at job (h ∷ hs)) ≡ held_by_job j (h ∷ hs)
    go true same true here true mine rest =
        let one : h.job ≡ job = eqb-true h.job job same in
        let two : h.job ≡ j = eqb-true h.job j mine in
        absurd (other (sym two ∙ one))
    go true same true here false not rest = rw (same, here, not) refl
    go true same false away true mine rest =
        rw (same, away, mine) (ap (λ xs. record { at = h.at; element = h.element } ∷ xs) rest)
    go true same false away false not rest = rw (same, away, not) rest
    go false differs a is true mine rest =
        rw (differs, mine) (ap (λ xs. record { at = h.at; element = h.element } ∷ xs) rest)
    go false differs a is false not rest = rw (differs, not) rest

-- all jobs
pub jobs-long : (n : ℕ) (hs : List JobHolding) → length (held_by_jobs n hs) ≡ n
jobs-long n hs = length-map-range_with_len (λ job. held_by_job job hs) 0 n

pub jobs-there : (n : ℕ) (hs : List JobHolding) (job : ℕ) (d : List Holding) → job < n
    → get_or (held_by_jobs n hs) job d ≡ held_by_job job hs
jobs-there n hs job d below =
    get_or-map-range_with_len (λ j. held_by_job j hs) 0 n job job d below (omega arith)

-- where one job alone holds something else than before
jobs-write : (n : ℕ) (hs gs : List JobHolding) (job : ℕ) (own : List Holding) → held_by_job job gs ≡ own
    → ((j : ℕ) → j ≢ job → held_by_job j gs ≡ held_by_job j hs)
    → held_by_jobs n gs ≡ set (held_by_jobs n hs) job own
jobs-write n hs gs job own mine others =
    same_lists _ _ (jobs-long n gs ∙ sym (length-set (held_by_jobs n hs) job own ∙ jobs-long n hs))
    (λ k d below. go k d (omega (arith, below, jobs-long n gs)) (cases_eq k job))
  where
    go : (k : ℕ) (d : List Holding) → k < n → (k ≡ job) ⊎ (k ≢ job)
        → get_or (held_by_jobs n gs) k d ≡ get_or (set (held_by_jobs n hs) job own) k d
    go k d below (inl same) =
        let here : job < length (held_by_jobs n hs) = omega (arith, below, same, jobs-long n hs) in
        jobs-there n gs k d below ∙ ap (λ j. held_by_job j gs) same ∙ mine
        ∙ sym (ap (λ j. get_or (set (held_by_jobs n hs) job own) j d) same
        ∙ get_or-set_same (held_by_jobs n hs) job own d here)
    go k d below (inr other) =
        jobs-there n gs k d below ∙ others k other
        ∙ sym (get_or-set_other (held_by_jobs n hs) job k own d other ∙ jobs-there n hs k d below)

pub jobs-more : (n : ℕ) (hs : List JobHolding) (at job element : ℕ) → job < n
    → held_by_jobs n (and_more hs at job element)
    ≡ set (held_by_jobs n hs) job
    (get_or (held_by_jobs n hs) job [] ++ record { at = at; element = element } ∷ [])
jobs-more n hs at job element below =
    jobs-write n hs (and_more hs at job element) job _
    (job-append job hs (and_more [] at job element)
    ∙ ap (λ xs. held_by_job job hs ++ xs) (job-own job at element)
    ∙ ap (λ xs. xs ++ record { at = at; element = element } ∷ []) (sym (jobs-there n hs job [] below)))
    (λ j other. job-append j hs (and_more [] at job element)
    ∙ ap (λ xs. held_by_job j hs ++ xs) (job-else job at element j (λ e. other (sym e)))
    ∙ append-nil (held_by_job j hs))

pub jobs-less : (n : ℕ) (hs : List JobHolding) (at job : ℕ) → job < n
    → held_by_jobs n (less_oldest at job hs)
    ≡ set (held_by_jobs n hs) job (without (λ h. h.at) at (get_or (held_by_jobs n hs) job []))
jobs-less n hs at job below =
    jobs-write n hs (less_oldest at job hs) job _
    (job-less at job hs ∙ ap (without (λ h. h.at) at) (sym (jobs-there n hs job [] below)))
    (λ j other. job-less-else at job j hs other)

-- the oldest of a resource stands in the list
find-any : (at job : ℕ) (hs : List JobHolding) → IsSome (oldest at (held_by_job job hs))
    → IsTrue (list_any (is_of at job) hs)
find-any at job [] some = absurd (cc)
find-any at job (h ∷ hs) some = go (h.job == job) refl (h.at == at) refl (find-any at job hs)
  where
    go : (b : Bool) → h.job == job ≡ b → (a : Bool) → h.at == at ≡ a
        → (IsSome (oldest at (held_by_job job hs)) → IsTrue (list_any (is_of at job) hs))
        → IsTrue (list_any (is_of at job) (h ∷ hs))
    go true same true here rest = rw (same, here) refl
    go true same false away rest =
        let later : IsSome (oldest at (held_by_job job hs)) = rw away at (rw same at some) in
        rw (same, away) (rest later)
    go false other a is rest =
        let later : IsSome (oldest at (held_by_job job hs)) = rw other at some in
        rw other (rest later)

pub holding-any : (n : ℕ) (at job : ℕ) (hs : List JobHolding) → job < n
    → IsSome (oldest at (get_or (held_by_jobs n hs) job [])) → IsTrue (list_any (is_of at job) hs)
holding-any n at job hs below some =
    find-any at job hs (subst (λ xs. IsSome (oldest at xs)) (jobs-there n hs job [] below) some)

pub less-long : (at job : ℕ) (hs : List JobHolding) → length (less_oldest at job hs) ≤ length hs
less-long at job [] = omega arith
less-long at job (h ∷ hs) = go (is_of at job h) refl (less-long at job hs)
  where
    go : (b : Bool) → is_of at job h ≡ b → length (less_oldest at job hs) ≤ length hs
        → length (less_oldest at job (h ∷ hs)) ≤ length (h ∷ hs)
    go true same rest = rw same (omega arith)
    go false other rest = rw other (omega (arith, rest))

-- the oldest element, and that there is one
pub oldest-is : (at : ℕ) (hs : List Holding)
    → get_or (elements_of at hs) 0 0 ≡ option_map_or (λ (h : Holding). h.element) (oldest at hs) 0
oldest-is at [] = refl
oldest-is at (h ∷ hs) = go (h.at == at) refl (oldest-is at hs)
  where
    go : (b : Bool) → h.at == at ≡ b
        → get_or (elements_of at hs) 0 0 ≡ option_map_or (λ (h : Holding). h.element) (oldest at hs) 0
        → get_or (elements_of at (h ∷ hs)) 0 0 ≡ option_map_or (λ (h : Holding). h.element) (oldest at (h ∷ hs)) 0
    go true same rest = rw same refl
    go false other rest = rw other rest

-- a job has one more of a resource, or one less: of that one, and of each other one
module _ (holds : List (List Holding)) (job at : ℕ) where
  abbrev before : List Holding
  before = get_or holds job []

  pub held-more : (element : ℕ) → held_at (set holds job (before ++ record { at = at; element = element } ∷ [])) at
      ≡ set (held_at holds at) job (held_by (held_at holds at) job ++ element ∷ [])
  held-more element =
      map-set (elements_of at) holds job (before ++ record { at = at; element = element } ∷ [])
      ∙ ap (set (held_at holds at) job)
      (elements-append at before (record { at = at; element = element } ∷ [])
      ∙ ap (λ es. elements_of at before ++ es) (elements-here at element)
      ∙ ap (λ es. es ++ element ∷ []) (sym (held-there holds at job)))

  pub else-more : (element q : ℕ) → at ≢ q
      → held_at (set holds job (before ++ record { at = at; element = element } ∷ [])) q ≡ held_at holds q
  else-more element q other =
      map-set (elements_of q) holds job (before ++ record { at = at; element = element } ∷ [])
      ∙ ap (set (held_at holds q) job)
      (elements-append q before (record { at = at; element = element } ∷ [])
      ∙ ap (λ es. elements_of q before ++ es) (elements-away at q element other)
      ∙ append-nil (elements_of q before) ∙ sym (held-there holds q job))
      ∙ set-same (held_at holds q) job []

  pub held-less : held_at (set holds job (without (λ h. h.at) at before)) at
      ≡ set (held_at holds at) job (drop 1 (held_by (held_at holds at) job))
  held-less =
      map-set (elements_of at) holds job (without (λ h. h.at) at before)
      ∙ ap (set (held_at holds at) job) (elements-less at before ∙ ap (drop 1) (sym (held-there holds at job)))

  pub else-less : (q : ℕ) → at ≢ q → held_at (set holds job (without (λ h. h.at) at before)) q ≡ held_at holds q
  else-less q other =
      map-set (elements_of q) holds job (without (λ h. h.at) at before)
      ∙ ap (set (held_at holds q) job) (elements-kept at q before other ∙ sym (held-there holds q job))
      ∙ set-same (held_at holds q) job []

-- of two lists, resource by resource
mapped-joined : (at : ℕ) (a b : ℕ → List Holding) (jobs : List ℕ)
    → map (elements_of at) (map (λ j. a j ++ b j) jobs)
    ≡ join_held (map (elements_of at) (map a jobs)) (map (elements_of at) (map b jobs))
mapped-joined at a b [] = refl
mapped-joined at a b (j ∷ jobs) =
    (λ i. elements-append at (a j) (b j) i ∷ mapped-joined at a b jobs i)

map-same : {Y : Type 0} (a b : ℕ → Y) (jobs : List ℕ) → ((j : ℕ) → a j ≡ b j) → map a jobs ≡ map b jobs
map-same a b [] same = refl
map-same a b (j ∷ jobs) same = (λ i. same j i ∷ map-same a b jobs same i)

pub held-joined : (n at : ℕ) (hs gs : List JobHolding)
    → held_at (held_by_jobs n (hs ++ gs)) at
    ≡ join_held (held_at (held_by_jobs n hs) at) (held_at (held_by_jobs n gs) at)
held-joined n at hs gs =
    ap (map (elements_of at))
    (map-same (λ j. held_by_job j (hs ++ gs)) (λ j. held_by_job j hs ++ held_by_job j gs) (range_with_len 0 n)
    (λ j. job-append j hs gs))
    ∙ mapped-joined at (λ j. held_by_job j hs) (λ j. held_by_job j gs) (range_with_len 0 n)

-- where the search for the oldest of a job has found it, from the place i on
record FoundAt (at job : ℕ) (hs : List JobHolding) (i found : ℕ) : Type 0 where
  steps : ℕ
  is : found ≡ i + steps
  rest : take steps hs ++ drop (suc steps) hs ≡ less_oldest at job hs

found-from : (at job : ℕ) (hs : List JobHolding) (i found : ℕ)
    → position_from (λ h. is_of at job h) i hs ≡ Some found → FoundAt at job hs i found
found-from at job [] i found got = absurd (cc)
found-from at job (h ∷ hs) i found got = go (is_of at job h) refl (found-from at job hs (i + 1) found)
  where
    go : (b : Bool) → is_of at job h ≡ b
        → (position_from (λ h. is_of at job h) (i + 1) hs ≡ Some found → FoundAt at job hs (i + 1) found)
        → FoundAt at job (h ∷ hs) i found
    go true same later =
        let here : Some i ≡ Some found = rw same at got in
        let is : i ≡ found = cc in
        record { steps = 0; is = omega (arith, is); rest = rw same refl }
    go false other later =
        let on : position_from (λ h. is_of at job h) (i + 1) hs ≡ Some found = rw other at got in
        let rest : FoundAt at job hs (i + 1) found = later on in
        record {
          steps = suc rest.steps;
          is = omega (arith, rest.is);
          rest = rw other (ap (λ xs. h ∷ xs) rest.rest);
        }

pub less-at : (at job : ℕ) (hs : List JobHolding) (found : ℕ)
    → position_from (λ h. is_of at job h) 0 hs ≡ Some found
    → take found hs ++ drop (suc found) hs ≡ less_oldest at job hs
less-at at job hs found got =
    let all : FoundAt at job hs 0 found = found-from at job hs 0 found got in
    let is : found ≡ all.steps = omega (arith, all.is) in
    rw is all.rest

-- what isn't found isn't held
pub none-of : (at job : ℕ) (hs : List JobHolding) (i : ℕ) → position_from (λ h. is_of at job h) i hs ≡ None
    → IsTrue (list_any (is_of at job) hs) → ⊥
none-of at job [] i none any = absurd (cc)
none-of at job (h ∷ hs) i none any = go (is_of at job h) refl (none-of at job hs (i + 1))
  where
    go : (b : Bool) → is_of at job h ≡ b
        → (position_from (λ h. is_of at job h) (i + 1) hs ≡ None → IsTrue (list_any (is_of at job) hs) → ⊥) → ⊥
    go true same later = let here : Some i ≡ None = rw same at none in absurd (cc)
    go false other later = later (rw other at none) (rw other at any)
