-- A plan that can be run: its opening machine runs.
use Rattle.std.proofs.Common.{◌≡◌, ◌≢◌, ◌⊎◌, inl, inr, ℕ, zero, suc, ◌+◌, ◌-◌, ◌<◌, ◌≤◌, List, [], ◌∷◌, ◌++◌, Bool, true, false, cond, ◌==◌, Option, Some, None, length, map, set, get_or, take, replicate, slice_get, count_by, sum_by, refl, sym, ap, ◌∙◌, subst, eq-eqb, ne_eqb, arith}
use Rattle.std.specs.Bool.{if◌then◌else◌}
use Rattle.std.specs.List.{list_any}
use Rattle.std.proofs.lemmas.Bool.{cases_eq, cases_lt}
use Rattle.std.proofs.lemmas.List.{append_assoc, take_at, length-replicate, length-map, length-set, get_or-replicate, get_or-set_same, get_or-set_other}
use Rattle.std.proofs.lemmas.List.FromFn.{get_or-map-range_with_len}
use Rattle.std.proofs.lemmas.List.Sums.{sum_by-cons, sum_by_push}
use Rattle.cqs_barrier_object.specs.declared.entries.BarrierEntry.{BarrierEntry}
use Rattle.cqs_core.specs.Numbered.{EachAt}
use Rattle.cqs_core.specs.Keyed.{without}
use Rattle.cqs_core.proofs.Places.{get-below}
use Rattle.cqs_plan.specs.declared.plans.kind.Kind.{Kind}
use Rattle.cqs_plan.specs.declared.plans.step.Step.{Step}
use Rattle.cqs_plan.specs.declared.plans.step.Step.TheVariants.{Take, Give, Down, Await, Arrive, Work}
use Rattle.cqs_plan.specs.declared.plans.job.Job.{Job}
use Rattle.cqs_plan.specs.declared.plans.plan.Plan.{Plan}
use Rattle.cqs_plan.specs.declared.plans.kind.Kind.TheVariants.{Rounds}
use Rattle.cqs_plan.specs.declared.plans.resource.Resource.{Resource}
use Rattle.cqs_plan.specs.FloorHistory.{of_permits, of_rounds, barrier_after, entries_in, no_history, to_come}
use Rattle.cqs_plan.specs.PlanSteps.{is_take, is_give, is_arrival, may_wait}
use Rattle.cqs_plan.specs.Holding.{TookMore}
use Rattle.cqs_plan.specs.Floor.{PlainFloor, JobWait, Holding, IsHoldable, IsLatch, HasRound, history_at, opening_floor, own_rounds, room_for, room_at, size_at, size_of, times_at, to_come_at, waits_of_job}
use Rattle.cqs_plan.specs.Runnable.{IsRunnable, IsMakeable, AreMakeable, kinds_of, round_after}
use Rattle.cqs_turns_report.specs.declared.states.Progress.{Progress}
use Rattle.cqs_turns_report.specs.declared.states.Progress.TheVariants.{Stepping}
use Rattle.cqs_turns_report.specs.Ready.{CanMake, is_held, IsBackIn, IsReady, wait_in, steps_left}
use Rattle.cqs_turns_report.specs.Running.{HasParties, HasRounds, IsInRounds, IsRunning, count_arrived, retries_left, waits_left}
use Rattle.cqs_turns_report.proofs.ArrivalMoves.{has-place}
use Rattle.cqs_turns_report.specs.Turns.{fresh, opening_machine, places_held}

-- 1 for what passes a test
abbrev one : Bool → ℕ
one b = cond {A = ℕ} b 1 0

-- how many of a resource are held
abbrev count_in : ℕ → List ℕ → ℕ
count_in at held = count_by (λ place. place == at) held

-- what is held is what was taken and not given
record Balances (held : List ℕ) (earlier : List Step) : Type 0 where
  even : (at : ℕ) → count_in at held + count_by (is_give at) earlier ≡ count_by (is_take at) earlier

count-push : {X : Type 0} (p : X → Bool) (xs : List X) (x : X) → count_by p (xs ++ x ∷ []) ≡ count_by p xs + one (p x)
count-push p xs x = sum_by_push (λ y. one (p y)) xs x

count-cons : {X : Type 0} (p : X → Bool) (x : X) (xs : List X) → count_by p (x ∷ xs) ≡ one (p x) + count_by p xs
count-cons p x xs = sum_by-cons (λ y. one (p y)) x xs

held-some_by : (at p : ℕ) (held : List ℕ) (b : Bool) → p == at ≡ b
    → (0 < count_in at held → is_held at held ≡ true) → 0 < count_in at (p ∷ held) → is_held at (p ∷ held) ≡ true
held-some_by at p held true same later some = rw same refl
held-some_by at p held false other later some =
    let none : one (p == at) ≡ 0 = ap (λ b. one b) other in
    rw other (later (omega (arith, count-cons (λ q. q == at) p held, none)))

held-some : (at : ℕ) (held : List ℕ) → 0 < count_in at held → is_held at held ≡ true
held-some at [] some = absurd (omega arith)
held-some at (p ∷ held) some = held-some_by at p held (p == at) refl (held-some at held) some

count-without_by : (at q p : ℕ) (held : List ℕ) → (p ≡ at) ⊎ (p ≢ at)
    → (is_held at held ≡ true → count_in q (without (λ x. x) at held) + one (at == q) ≡ count_in q held)
    → is_held at (p ∷ held) ≡ true
    → count_in q (without (λ x. x) at (p ∷ held)) + one (at == q) ≡ count_in q (p ∷ held)
count-without_by at q p held (inl same) later here =
    let first : at == p ≡ true = eq-eqb at p (sym same) in
    let alike : one (p == q) ≡ one (at == q) = ap (λ x. one (x == q)) same in
    let counted : count_in q (p ∷ held) ≡ one (p == q) + count_in q held = count-cons (λ x. x == q) p held in
    rw first (omega (arith, counted, alike))
count-without_by at q p held (inr other) later here =
    let not_first : at == p ≡ false = ne_eqb at p (λ e. other (sym e)) in
    let not_here : p == at ≡ false = ne_eqb p at other in
    let rest : count_in q (without (λ x. x) at held) + one (at == q) ≡ count_in q held
    = later (rw not_here at here) in
    let counted : count_in q (p ∷ held) ≡ one (p == q) + count_in q held = count-cons (λ x. x == q) p held in
    let left : count_in q (p ∷ without (λ x. x) at held) ≡ one (p == q) + count_in q (without (λ x. x) at held)
    = count-cons (λ x. x == q) p (without (λ x. x) at held) in
    let apart : without (λ x. x) at (p ∷ held) ≡ p ∷ without (λ x. x) at held = rw not_first refl in
    ap (λ xs. count_in q xs + one (at == q)) apart ∙ omega (arith, counted, left, rest)

count-without : (at q : ℕ) (held : List ℕ) → is_held at held ≡ true
    → count_in q (without (λ x. x) at held) + one (at == q) ≡ count_in q held
count-without at q [] here = absurd (cc)
count-without at q (p ∷ held) here = count-without_by at q p held (cases_eq p at) (count-without at q held) here

-- the step after these earlier ones
get-next : {X : Type 0} (earlier : List X) (x : X) (rest : List X)
    → slice_get (earlier ++ x ∷ rest) (length earlier) ≡ Some x
get-next [] x rest = refl
get-next (y ∷ earlier) x rest = get-next earlier x rest

-- the rounds that are next are how often the job arrived, at each resource
pub record AreRounds (kinds : List Kind) (rounds : List ℕ) (earlier : List Step) : Type 0 where
  pub long : length rounds ≡ length kinds
  pub even : (at : ℕ) → at < length kinds → get_or rounds at 0 ≡ count_by (is_arrival at) earlier

can-now : (kinds : List Kind) (whole earlier : List Step) (step : Step) (rest : List Step)
    → whole ≡ earlier ++ step ∷ rest → AreMakeable kinds whole
    → IsMakeable kinds (TookMore earlier) (round_after earlier) step
can-now kinds whole earlier step rest same makeable =
    let got : slice_get whole (length earlier) ≡ Some step = rw same (get-next earlier step rest) in
    let front : take (length earlier) whole ≡ earlier
    = ap (take (length earlier)) same ∙ take_at earlier (step ∷ rest) (length earlier) refl in
    subst (λ (made : List Step). IsMakeable kinds (TookMore made) (round_after made) step) front
    (makeable.at (length earlier) step got)

one-later : (whole earlier : List Step) (step : Step) (rest : List Step) → whole ≡ earlier ++ step ∷ rest
    → whole ≡ (earlier ++ step ∷ []) ++ rest
one-later whole earlier step rest same = same ∙ sym (append_assoc earlier (step ∷ []) rest)

balances-take : (held : List ℕ) (earlier : List Step) (at : ℕ) → Balances held earlier
    → Balances (held ++ at ∷ []) (earlier ++ Take at ∷ [])
balances-take held earlier at balances = record {
  even = λ q. omega (
    arith,
    balances.even q,
    count-push (λ x. x == q) held at,
    count-push (is_give q) earlier (Take at),
    count-push (is_take q) earlier (Take at),
  );
}

balances-give : (held : List ℕ) (earlier : List Step) (at : ℕ) → is_held at held ≡ true → Balances held earlier
    → Balances (without (λ x. x) at held) (earlier ++ Give at ∷ [])
balances-give held earlier at here balances = record {
  even = λ q. omega (
    arith,
    balances.even q,
    count-without at q held here,
    count-push (is_give q) earlier (Give at),
    count-push (is_take q) earlier (Give at),
  );
}

-- a step that neither takes nor gives
abbrev IsStill : Step → Type 0
IsStill step = (q : ℕ) → (is_take q step ≡ false) × (is_give q step ≡ false)

balances-still : (held : List ℕ) (earlier : List Step) (step : Step) → IsStill step → Balances held earlier
    → Balances held (earlier ++ step ∷ [])
balances-still held earlier step still balances = record {
  even = λ q. omega (
    arith,
    balances.even q,
    count-push (is_give q) earlier step,
    count-push (is_take q) earlier step,
    ap (λ b. one b) (still q).0,
    ap (λ b. one b) (still q).1,
  );
}

-- a step that doesn't arrive
abbrev IsNoArrival : Step → Type 0
IsNoArrival step = (q : ℕ) → is_arrival q step ≡ false

rounds-still : (kinds : List Kind) (rounds : List ℕ) (earlier : List Step) (step : Step) → IsNoArrival step
    → AreRounds kinds rounds earlier → AreRounds kinds rounds (earlier ++ step ∷ [])
rounds-still kinds rounds earlier step still are = record {
  long = are.long;
  even = λ q below. omega (
    arith,
    are.even q below,
    count-push (is_arrival q) earlier step,
    ap (λ b. one b) (still q),
  );
}

rounds-arrive : (kinds : List Kind) (rounds : List ℕ) (earlier : List Step) (at : ℕ) → at < length kinds
    → AreRounds kinds rounds earlier
    → AreRounds kinds (set rounds at (get_or rounds at 0 + 1)) (earlier ++ Arrive at ∷ [])
rounds-arrive kinds rounds earlier at there are = record {
  long = length-set rounds at (get_or rounds at 0 + 1) ∙ are.long;
  even = λ q below. go q below (cases_eq q at);
}
  where
    go : (q : ℕ) → q < length kinds → (q ≡ at) ⊎ (q ≢ at)
        → get_or (set rounds at (get_or rounds at 0 + 1)) q 0 ≡ count_by (is_arrival q) (earlier ++ Arrive at ∷ [])
    go q below (inl same) =
        let now : get_or (set rounds at (get_or rounds at 0 + 1)) at 0 ≡ get_or rounds at 0 + 1
        = get_or-set_same rounds at (get_or rounds at 0 + 1) 0 (omega (arith, there, are.long)) in
        let own : one (at == at) ≡ 1 = ap (λ b. one b) (eq-eqb at at refl) in
        rw same (omega (arith, now, own, are.even at there, count-push (is_arrival at) earlier (Arrive at)))
    go q below (inr other) =
        let kept : get_or (set rounds at (get_or rounds at 0 + 1)) q 0 ≡ get_or rounds q 0
        = get_or-set_other rounds at q (get_or rounds at 0 + 1) 0 other in
        let none : one (at == q) ≡ 0 = ap (λ b. one b) (ne_eqb at q (λ e. other (sym e))) in
        omega (arith, kept, none, are.even q below, count-push (is_arrival q) earlier (Arrive at))

-- where each give has its earlier take, a job can make the rest of its steps
can-make-from : (kinds : List Kind) (whole earlier rest : List Step) (held rounds : List ℕ) → whole ≡ earlier ++ rest
    → AreMakeable kinds whole → Balances held earlier → AreRounds kinds rounds earlier → CanMake kinds held rounds rest
can-make-from kinds whole earlier [] held rounds same makeable balances are = tt
can-make-from kinds whole earlier (Take at ∷ rest) held rounds same makeable balances are = (
  can-now kinds whole earlier (Take at) rest same makeable,
  can-make-from kinds whole (earlier ++ Take at ∷ []) rest (held ++ at ∷ []) rounds
      (one-later whole earlier (Take at) rest same)
      makeable (balances-take held earlier at balances)
      (rounds-still kinds rounds earlier (Take at) (λ q. refl) are),
)
can-make-from kinds whole earlier (Give at ∷ rest) held rounds same makeable balances are =
    let can : IsMakeable kinds (TookMore earlier) (round_after earlier) (Give at) =
    can-now kinds whole earlier (Give at) rest same makeable in
    let here : is_held at held ≡ true = held-some at held (omega (arith, can, balances.even at)) in (
      here,
      can-make-from kinds whole (earlier ++ Give at ∷ []) rest (without (λ x. x) at held) rounds
          (one-later whole earlier (Give at) rest same) makeable (balances-give held earlier at here balances)
          (rounds-still kinds rounds earlier (Give at) (λ q. refl) are),
    )
can-make-from kinds whole earlier (Work turns ∷ rest) held rounds same makeable balances are = (
  can-now kinds whole earlier (Work turns) rest same makeable,
  can-make-from kinds whole (earlier ++ Work turns ∷ []) rest held rounds
      (one-later whole earlier (Work turns) rest same)
      makeable (balances-still held earlier (Work turns) (λ q. (refl, refl)) balances)
      (rounds-still kinds rounds earlier (Work turns) (λ q. refl) are),
)
can-make-from kinds whole earlier (Down at ∷ rest) held rounds same makeable balances are = (
  can-now kinds whole earlier (Down at) rest same makeable,
  can-make-from kinds whole (earlier ++ Down at ∷ []) rest held rounds (one-later whole earlier (Down at) rest same)
      makeable (balances-still held earlier (Down at) (λ q. (refl, refl)) balances)
      (rounds-still kinds rounds earlier (Down at) (λ q. refl) are),
)
can-make-from kinds whole earlier (Await at ∷ rest) held rounds same makeable balances are = (
  can-now kinds whole earlier (Await at) rest same makeable,
  can-make-from kinds whole (earlier ++ Await at ∷ []) rest held rounds (one-later whole earlier (Await at) rest same)
      makeable (balances-still held earlier (Await at) (λ q. (refl, refl)) balances)
      (rounds-still kinds rounds earlier (Await at) (λ q. refl) are),
)
can-make-from kinds whole earlier (Arrive at ∷ rest) held rounds same makeable balances are =
    let has : HasRound (slice_get kinds at) (round_after earlier at)
    = can-now kinds whole earlier (Arrive at) rest same makeable in
    let there : at < length kinds = has-place kinds at (round_after earlier at) has in (
      subst (HasRound (slice_get kinds at)) (sym (are.even at there)) has,
      can-make-from kinds whole (earlier ++ Arrive at ∷ []) rest held (set rounds at (get_or rounds at 0 + 1))
          (one-later whole earlier (Arrive at) rest same)
          makeable (balances-still held earlier (Arrive at) (λ q. (refl, refl)) balances)
          (rounds-arrive kinds rounds earlier at there are),
    )

pub can-make : (kinds : List Kind) (rounds : List ℕ) (steps : List Step) → AreMakeable kinds steps
    → AreRounds kinds rounds [] → CanMake kinds [] rounds steps
can-make kinds rounds steps makeable are =
    can-make-from kinds steps [] steps [] rounds refl makeable (record { even = λ at. refl }) are

-- the first rounds
pub no-rounds : (kinds : List Kind) → AreRounds kinds (replicate (length kinds) 0) []
no-rounds kinds = record {
  long = length-replicate (length kinds) 0;
  even = λ at below. get_or-replicate (length kinds) at 0 0 below;
}

-- a place with a resource
there-some : {X : Type 0} (xs : List X) (at : ℕ) (P : Option X → Type 0) → (P None → ⊥) → P (slice_get xs at)
    → at < length xs
there-some [] at P not some = absurd (not some)
there-some (x ∷ xs) zero P not some = omega arith
there-some (x ∷ xs) (suc at) P not some = let below = there-some xs at P not some in omega (arith, below)

-- a step that can be made waits for nothing beyond the resources
beyond : (kinds : List Kind) (at p : ℕ) → length kinds ≤ at → p < length kinds → p == at ≡ false
beyond kinds at p past there = ne_eqb p at (λ same. omega (arith, past, there, same))

waits-there : (kinds : List Kind) (held rounds : List ℕ) (steps : List Step) (at : ℕ) → length kinds ≤ at
    → CanMake kinds held rounds steps → count_by (may_wait at) steps ≡ 0
waits-there kinds held rounds [] at past can = refl
waits-there kinds held rounds (Take p ∷ steps) at past can =
    let there : p < length kinds = there-some kinds p IsHoldable (λ none. none) can.0 in
    let none : one (p == at) ≡ 0 = ap (λ b. one b) (beyond kinds at p past there) in
    omega (
      arith,
      none,
      count-cons (may_wait at) (Take p) steps,
      waits-there kinds (held ++ p ∷ []) rounds steps at past can.1,
    )
waits-there kinds held rounds (Give p ∷ steps) at past can =
    omega (
      arith,
      count-cons (may_wait at) (Give p) steps,
      waits-there kinds (without (λ x. x) p held) rounds steps at past can.1,
    )
waits-there kinds held rounds (Work turns ∷ steps) at past can =
    omega (arith, count-cons (may_wait at) (Work turns) steps, waits-there kinds held rounds steps at past can.1)
waits-there kinds held rounds (Down p ∷ steps) at past can =
    omega (arith, count-cons (may_wait at) (Down p) steps, waits-there kinds held rounds steps at past can.1)
waits-there kinds held rounds (Await p ∷ steps) at past can =
    let there : p < length kinds = there-some kinds p IsLatch (λ none. none) can.0 in
    let none : one (p == at) ≡ 0 = ap (λ b. one b) (beyond kinds at p past there) in
    omega (
      arith,
      none,
      count-cons (may_wait at) (Await p) steps,
      waits-there kinds held rounds steps at past can.1,
    )
waits-there kinds held rounds (Arrive p ∷ steps) at past can =
    let there : p < length kinds = has-place kinds p (get_or rounds p 0) can.0 in
    let none : one (p == at) ≡ 0 = ap (λ b. one b) (beyond kinds at p past there) in
    omega (
      arith,
      none,
      count-cons (may_wait at) (Arrive p) steps,
      waits-there kinds held (set rounds p (get_or rounds p 0 + 1)) steps at past can.1,
    )

-- how often all these jobs may begin to wait at a resource
abbrev all_waits : ℕ → List Job → ℕ
all_waits at jobs = sum_by (waits_of_job at) jobs

waits-left_opening : (at : ℕ) (jobs : List Job)
    → waits_left at jobs (replicate (length jobs) (Stepping 0)) + retries_left at jobs (replicate (length jobs) fresh)
    ≡ all_waits at jobs
waits-left_opening at [] = refl
waits-left_opening at (job ∷ jobs) =
    let none : fresh.used ≡ 0 = refl in
    let all : job.retry - fresh.used ≡ job.retry = omega (arith, none) in
    omega (
      arith,
      ap (times_at at job) all,
      sum_by-cons (waits_of_job at) job jobs,
      waits-left_opening at jobs,
    )

-- a job none of whose steps waits there does nothing so often
none-any : (at : ℕ) (steps : List Step) → count_by (may_wait at) steps ≡ 0 → list_any (may_wait at) steps ≡ false
none-any at [] none = refl
none-any at (step ∷ steps) none = go (may_wait at step) refl (none-any at steps)
  where
    go : (b : Bool) → may_wait at step ≡ b
        → (count_by (may_wait at) steps ≡ 0 → list_any (may_wait at) steps ≡ false)
        → list_any (may_wait at) (step ∷ steps) ≡ false
    go true is rest = absurd (omega (arith, none, count-cons (may_wait at) step steps, ap (λ b. one b) is))
    go false is rest = rw is (rest (omega (arith, none, count-cons (may_wait at) step steps)))

none-beyond : (kinds : List Kind) (at : ℕ) (jobs : List Job) → length kinds ≤ at
    → EachAt (λ place job. AreMakeable kinds job.steps) jobs → all_waits at jobs ≡ 0
none-beyond kinds at [] past each = refl
none-beyond kinds at (job ∷ jobs) past each =
    let none : count_by (may_wait at) job.steps ≡ 0
    = waits-there kinds [] (replicate (length kinds) 0) job.steps at past
    (can-make kinds (replicate (length kinds) 0) job.steps (each.at 0 job refl) (no-rounds kinds)) in
    let never : times_at at job job.retry ≡ 0
    = ap (λ b. if b then job.retry else 0) (none-any at job.steps none) in
    omega (
      arith,
      sum_by-cons (waits_of_job at) job jobs,
      none,
      never,
      none-beyond kinds at jobs past (record { at = λ k x got. each.at (suc k) x got }),
    )

get-replicate : {X : Type 0} (n i : ℕ) (x y : X) → slice_get (replicate n x) i ≡ Some y → y ≡ x
get-replicate zero i x y got = absurd (cc)
get-replicate (suc n) zero x y got = cc
get-replicate (suc n) (suc i) x y got = get-replicate n i x y got

opening-room : (plan : Plan) → IsRunnable plan → (at : ℕ)
    → waits_left at plan.jobs (replicate (length plan.jobs) (Stepping 0))
    + retries_left at plan.jobs (replicate (length plan.jobs) fresh) ≤ room_at (opening_floor plan) at
opening-room plan runnable at = go (cases_lt at (length plan.resources))
  where
    go : (at < length plan.resources) ⊎ (length plan.resources ≤ at)
        → waits_left at plan.jobs (replicate (length plan.jobs) (Stepping 0))
        + retries_left at plan.jobs (replicate (length plan.jobs) fresh) ≤ room_at (opening_floor plan) at
    go (inl below) =
        let room : room_at (opening_floor plan) at ≡ room_for plan at
        = get_or-map-range_with_len (room_for plan) 0 (length plan.resources) at at 0 below (omega arith) in
        omega (arith, room, waits-left_opening at plan.jobs)
    go (inr past) =
        let beyond : length (kinds_of plan.resources) ≤ at
        = omega (arith, past, length-map plan.resources (λ resource. resource.kind)) in
        omega (
          arith,
          waits-left_opening at plan.jobs,
          none-beyond (kinds_of plan.resources) at plan.jobs beyond runnable.steps,
        )

opening-ready : (plan : Plan) → IsRunnable plan → (place : ℕ) (job : Job) → slice_get plan.jobs place ≡ Some job
    → IsReady (opening_floor plan) place None job.steps
opening-ready plan runnable place job got =
    let below : place < length plan.jobs = get-below plan.jobs place job got in
    let f : PlainFloor = opening_floor plan in
    let nothing : places_held f place ≡ []
    = ap (map (λ h. h.at)) (get_or-replicate (length plan.jobs) place [] [] below) in
    let row : List ℕ = replicate (length plan.resources) 0 in
    let own : own_rounds f place ≡ row = get_or-replicate (length plan.jobs) place row [] below in
    let same : length plan.resources ≡ length f.kinds
    = sym (length-map plan.resources (λ resource. resource.kind)) in
    let first : AreRounds f.kinds row []
    = subst (λ n. AreRounds f.kinds (replicate n 0) []) (sym same) (no-rounds f.kinds) in
    let can : CanMake f.kinds [] row job.steps
    = can-make f.kinds row job.steps (runnable.steps.at place job got) first in
    record {
      job = record {
        waits = omega (arith, below, length-replicate {A = Option JobWait} (length plan.jobs) None);
        holds = omega (arith, below, length-replicate {A = List Holding} (length plan.jobs) []);
        rounds = omega (arith, below, length-replicate {A = List ℕ} (length plan.jobs) row);
        each = ap length own ∙ first.long;
      };
      waits = get_or-replicate (length plan.jobs) place None None below;
      holdable = rw nothing tt;
      makeable = rw (nothing, own) can;
    }

-- a barrier opens with all its parties to come
opening-history : (resources : List Resource) (at parties rounds : ℕ)
    → slice_get (kinds_of resources) at ≡ Some (Rounds parties rounds)
    → get_or (map (λ resource. no_history resource.kind) resources) at (of_permits [])
    ≡ of_rounds (replicate rounds [])
opening-history [] at parties rounds is = absurd (cc)
opening-history (resource ∷ resources) zero parties rounds is =
    let kind : resource.kind ≡ Rounds parties rounds = cc in rw kind refl
opening-history (resource ∷ resources) (suc at) parties rounds is = opening-history resources at parties rounds is

no-entries : (n round : ℕ) → entries_in (replicate n []) round ≡ []
no-entries zero round = refl
no-entries (suc n) zero = refl
no-entries (suc n) (suc round) = no-entries n round

opening-parties : (plan : Plan) → HasParties (opening_floor plan)
opening-parties plan = record { there = there; all = all }
  where
    there : (at parties rounds : ℕ) → slice_get (kinds_of plan.resources) at ≡ Some (Rounds parties rounds)
        → HasRounds rounds (history_at (opening_floor plan) at)
    there at parties rounds is = record {
      all = replicate rounds [];
      is = opening-history plan.resources at parties rounds is;
      many = omega (arith, length-replicate {A = List BarrierEntry} rounds []);
    }

    all : (at round parties rounds : ℕ)
        → slice_get (kinds_of plan.resources) at ≡ Some (Rounds parties rounds)
        → parties ≤ to_come_at (opening_floor plan) at round + count_arrived (opening_floor plan) at round
    all at round parties rounds is =
        let f : PlainFloor = opening_floor plan in
        let size : size_at f at ≡ parties = ap size_of is in
        let history : history_at f at ≡ of_rounds (replicate rounds [])
        = opening-history plan.resources at parties rounds is in
        let none : entries_in (replicate rounds []) round ≡ [] = no-entries rounds round in
        let whole : to_come_at f at round ≡ parties
        = ap (λ h. to_come (size_at f at) h round) history
        ∙ ap (λ n. to_come n (of_rounds (replicate rounds [])) round) size
        ∙ ap (λ es. (barrier_after parties es).remaining) none in
        omega (arith, whole)

zeros : (n at : ℕ) → ◌≡◌ {A = ℕ} (get_or (replicate n 0) at 0) 0
zeros zero at = refl
zeros (suc n) zero = refl
zeros (suc n) (suc at) = zeros n at

-- the opening machine of a plan that can be run
pub opening-running : (plan : Plan) → IsRunnable plan → IsRunning plan (opening_machine plan)
opening-running plan runnable = record {
  jobs = length-replicate (length plan.jobs) (Stepping 0);
  kinds = refl;
  ready = λ place job p got_job got.
      opened place job p got_job (get-replicate (length plan.jobs) place (Stepping 0) p got);
  back = λ place job p got_job got.
      steps-back place job p (get-replicate (length plan.jobs) place (Stepping 0) p got);
  patience = length-replicate (length plan.jobs) fresh;
  room = opening-room plan runnable;
  rows = length-replicate (length plan.jobs) (replicate (length plan.resources) 0);
  rounds = λ place job p got_job got.
      in-rounds place job p (get-replicate (length plan.jobs) place (Stepping 0) p got);
  parties = opening-parties plan;
}
  where
    opened : (place : ℕ) (job : Job) (p : Progress) → slice_get plan.jobs place ≡ Some job → p ≡ Stepping 0
        → IsReady (opening_floor plan) place (wait_in p) (steps_left job.steps p)
    opened place job p got same = rw same (opening-ready plan runnable place job got)

    steps-back : (place : ℕ) (job : Job) (p : Progress) → p ≡ Stepping 0
        → IsBackIn (opening_floor plan) place job.steps p
    steps-back place job p same = rw same tt

    at-first : (rows row at : ℕ) (place : ℕ)
        → ◌≡◌ {A = ℕ} (get_or (get_or (replicate rows (replicate row 0)) place []) at 0) 0
    at-first zero row at place = refl
    at-first (suc rows) row at zero = zeros row at
    at-first (suc rows) row at (suc place) = at-first rows row at place

    in-rounds : (place : ℕ) (job : Job) (p : Progress) → p ≡ Stepping 0
        → IsInRounds (opening_floor plan) place job.steps p
    in-rounds place job p same = rw same (λ at. at-first (length plan.jobs) (length plan.resources) at place)
