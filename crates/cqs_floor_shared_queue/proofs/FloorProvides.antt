-- What a worker's jobs need of a plan's resources: no more than the plan's steps, and than its own jobs that arrive.
use Rattle.std.proofs.Common.{◌≡◌, ◌≢◌, ◌⊎◌, inl, inr, ℕ, zero, suc, ◌+◌, ◌-◌, ◌%◌, ◌<◌, ◌≤◌, ◌==◌, nat_le, nat_lt, cond, ◌&&◌, ◌||◌, Bool, true, false, List, [], ◌∷◌, ◌++◌, Some, length, map, take, get_or, slice_get, refl, ap, sym, ◌∙◌, count_by, le-ltb, le-leb, eq-eqb, ne_eqb, eqb-true, arith}
use Rattle.std.specs.Prelude.{if◌then◌else◌}
use Rattle.std.specs.List.{list_any, range_with_len}
use Rattle.std.proofs.lemmas.Bool.{cases_eq, cases_lt, lt-leb}
use Rattle.std.proofs.lemmas.List.{take_more}
use Rattle.std.proofs.lemmas.List.Sums.{sum_by-cons, sum_by_push}
use Rattle.std.proofs.lemmas.Option.{slice_get-get_or}
use Rattle.std.proofs.Math.Seq.{take-length}
use Rattle.cqs_core.proofs.Counts.{bit}
use Rattle.cqs_plan.specs.declared.plans.job.Job.{Job}
use Rattle.cqs_plan.specs.declared.plans.kind.Kind.{Kind}
use Rattle.cqs_plan.specs.declared.plans.kind.Kind.TheVariants as kind
use Rattle.cqs_plan.specs.declared.plans.step.Step.{Step}
use Rattle.cqs_plan.specs.declared.plans.step.Step.TheVariants as step
use Rattle.cqs_plan.specs.Arriving.{arrives, rounds_of}
use Rattle.cqs_plan.specs.Floor.{HasRound, PlainFloor, round_of, waits_of_job}
use Rattle.cqs_plan.specs.PlanSteps.{is_arrival, may_wait}
use Rattle.cqs_plan.specs.Runnable.{AreMakeable}
use Rattle.cqs_turns_report.specs.declared.states.End.TheVariants as end
use Rattle.cqs_turns_report.specs.declared.states.Progress.{Progress}
use Rattle.cqs_turns_report.specs.declared.states.Progress.TheVariants.{Stepping, Ended}
use Rattle.cqs_work.specs.Needs.{comes_to, sum_of_needs, parties_for, parties_needed, room_needed}
use Rattle.cqs_work.specs.Opening.{starting, starting_stage}
use Rattle.cqs_work.specs.Stages.{stage}
use Rattle.cqs_turns_report.specs.Machine.{fresh}
use Rattle.cqs_floor_common.specs.Room.{room_of}
use Rattle.cqs_floor_shared_queue.specs.Openings.{arrives_from, arriving_from}

-- who works for this worker, by the place of its job
starts : (workers worker place : ℕ) → (P : Progress → Type 0) → P (Stepping 0) → P (Ended end.Done)
    → P (starting workers worker place)
starts workers worker place P own other = go (place % workers == worker)
  where
    go : (b : Bool) → P (if b then Stepping 0 else Ended end.Done)
    go true = own
    go false = other

-- the room, with all retries
pub room-enough : (workers worker at place : ℕ) (jobs : List Job)
    → sum_of_needs (room_needed at) place jobs
    (map (starting_stage workers worker) (range_with_len place (length jobs)))
    ≤ room_of jobs at
room-enough workers worker at place [] = omega arith
room-enough workers worker at place (job ∷ jobs) =
    let rest = room-enough workers worker at (place + 1) jobs in
    let here : room_needed at place job (starting_stage workers worker place) ≤ waits_of_job at job =
    starts workers worker place (λ p. room_needed at place job (stage p fresh) ≤ waits_of_job at job)
    (own (list_any (may_wait at) job.steps)) (other (list_any (may_wait at) job.steps)) in
    let all = sum_by-cons (waits_of_job at) job jobs in
    omega (arith, rest, here, all)
  where
    own : (b : Bool)
        → count_by (may_wait at) job.steps + (if b then job.retry - 0 else 0)
        ≤ count_by (may_wait at) job.steps + (if b then job.retry else 0)
    own true = omega arith
    own false = omega arith

    other : (b : Bool)
        → count_by (may_wait at) [] + (if b then 0 else 0)
        ≤ count_by (may_wait at) job.steps + (if b then job.retry else 0)
    other true = omega arith
    other false = omega arith

-- who doesn't arrive has no arrival
arrivals-none : (at : ℕ) (steps : List Step) → list_any (is_arrival at) steps ≡ false
    → count_by (is_arrival at) steps ≡ 0
arrivals-none at [] none = refl
arrivals-none at (q ∷ steps) none = go (is_arrival at q) refl (arrivals-none at steps)
  where
    go : (b : Bool) → is_arrival at q ≡ b
        → (list_any (is_arrival at) steps ≡ false → count_by (is_arrival at) steps ≡ 0)
        → count_by (is_arrival at) (q ∷ steps) ≡ 0
    go true is later =
        let some : true ≡ false = sym (ap (λ b. b || list_any (is_arrival at) steps) is) ∙ none in absurd (cc)
    go false is later =
        let rest = later (sym (ap (λ b. b || list_any (is_arrival at) steps) is) ∙ none) in
        let all = sum_by-cons (λ (p : Step). bit (is_arrival at p)) q steps in
        let here : bit (is_arrival at q) ≡ 0 = ap bit is in
        omega (arith, rest, all, here)

none-comes : (round n : ℕ) → n ≤ round → comes_to round 0 n ≡ 0
none-comes round n few =
    ap (λ b. cond {A = ℕ} b 0 (cond {A = ℕ} (nat_lt round (0 + n)) 1 0)) (le-ltb round 0 (omega arith))
    ∙ ap (λ b. cond {A = ℕ} b 1 0) (le-ltb round (0 + n) (omega (arith, few)))

one-comes : (round n : ℕ) → comes_to round 0 n ≤ 1
one-comes round n = go (nat_lt round 0) (nat_lt round (0 + n))
  where
    go : (a b : Bool) → cond {A = ℕ} a 0 (cond {A = ℕ} b 1 0) ≤ 1
    go true b = omega arith
    go false true = omega arith
    go false false = omega arith

-- a job needs a party of a round only where it arrives at the barrier
job-parties : (at round : ℕ) (job : Job) → parties_for at round 0 job.steps ≤ bit (arrives at job)
job-parties at round job = go (arrives at job) refl
  where
    go : (b : Bool) → arrives at job ≡ b → parties_for at round 0 job.steps ≤ bit (arrives at job)
    go true is =
        let one : bit (arrives at job) ≡ 1 = ap bit is in
        omega (arith, one, one-comes round (count_by (is_arrival at) job.steps))
    go false is =
        let none = none-comes round (count_by (is_arrival at) job.steps)
        (omega (arith, arrivals-none at job.steps is)) in
        omega (arith, none)

-- from the next worker on, those of one worker less
from-own : (workers worker at place : ℕ) (job : Job) → place % workers ≡ worker
    → arrives_from workers worker at place job ≡ bit (arrives at job)
from-own workers worker at place job own =
    ap (λ b. cond (b && arrives at job) 1 0) (le-leb worker (place % workers) (omega (arith, own)))

from-next : (workers worker at place : ℕ) (job : Job) → place % workers ≡ worker
    → arrives_from workers (worker + 1) at place job ≡ 0
from-next workers worker at place job own =
    ap (λ b. cond (b && arrives at job) 1 0) (lt-leb (worker + 1) (place % workers) (omega (arith, own)))

from-else : (workers worker at place : ℕ) (job : Job) → place % workers ≢ worker
    → arrives_from workers (worker + 1) at place job ≤ arrives_from workers worker at place job
from-else workers worker at place job other = go (cases_lt (place % workers) (worker + 1))
  where
    go : (place % workers < worker + 1) ⊎ (worker + 1 ≤ place % workers)
        → arrives_from workers (worker + 1) at place job ≤ arrives_from workers worker at place job
    go (inl low) =
        let none : arrives_from workers (worker + 1) at place job ≡ 0 =
        ap (λ b. cond (b && arrives at job) 1 0) (lt-leb (worker + 1) (place % workers) low) in
        omega (arith, none)
    go (inr high) =
        let mine : arrives_from workers worker at place job ≡ bit (arrives at job) =
        ap (λ b. cond (b && arrives at job) 1 0) (le-leb worker (place % workers) (omega (arith, high))) in
        let next : arrives_from workers (worker + 1) at place job ≡ bit (arrives at job) =
        ap (λ b. cond (b && arrives at job) 1 0) (le-leb (worker + 1) (place % workers) high) in
        omega (arith, mine, next)

-- the parties
pub parties-enough : (b : PlainFloor) → ((job at : ℕ) → round_of b job at ≡ 0) → (workers worker at round place : ℕ)
    (jobs : List Job)
    → sum_of_needs (parties_needed b at round) place jobs
    (map (starting_stage workers worker) (range_with_len place (length jobs)))
    + arriving_from workers (worker + 1) at place jobs ≤ arriving_from workers worker at place jobs
parties-enough b none workers worker at round place [] = omega arith
parties-enough b none workers worker at round place (job ∷ jobs) =
    let rest = parties-enough b none workers worker at round (place + 1) jobs in
    let here : parties_needed b at round place job (starting_stage workers worker place)
    + arrives_from workers (worker + 1) at place job ≤ arrives_from workers worker at place job =
    go (cases_eq (place % workers) worker) in
    omega (arith, rest, here)
  where
    go : (place % workers ≡ worker) ⊎ (place % workers ≢ worker)
        → parties_needed b at round place job (starting_stage workers worker place)
        + arrives_from workers (worker + 1) at place job ≤ arrives_from workers worker at place job
    go (inl own) =
        let is : starting workers worker place ≡ Stepping 0 =
        ap (λ (c : Bool). if c then Stepping 0 else Ended end.Done) (eq-eqb (place % workers) worker own) in
        let needs : parties_needed b at round place job (starting_stage workers worker place)
        ≡ parties_for at round 0 job.steps =
        ap (λ p. parties_needed b at round place job (stage p fresh)) is
        ∙ ap (λ first. parties_for at round first job.steps) (none place at) in
        let few = job-parties at round job in
        let mine = from-own workers worker at place job own in
        let next = from-next workers worker at place job own in
        omega (arith, needs, few, mine, next)
    go (inr other) =
        let is : starting workers worker place ≡ Ended end.Done =
        ap (λ (c : Bool). if c then Stepping 0 else Ended end.Done) (ne_eqb (place % workers) worker other) in
        let needs : parties_needed b at round place job (starting_stage workers worker place) ≡ 0 =
        ap (λ p. parties_needed b at round place job (stage p fresh)) is
        ∙ ap (λ first. parties_for at round first []) (none place at) ∙ none-comes round 0 (omega arith) in
        let less = from-else workers worker at place job other in
        omega (arith, needs, less)

-- one more element is counted
count-more : {X : Type 0} (p : X → Bool) (xs : List X) (i : ℕ) (d : X) → i < length xs
    → count_by p (take (i + 1) xs) ≡ count_by p (take i xs) + bit (p (get_or xs i d))
count-more p xs i d below =
    ap (count_by p) (take_more xs i d below) ∙ sum_by_push (λ x. bit (p x)) (take i xs) (get_or xs i d)

arrival-is : (at : ℕ) (q : Step) → is_arrival at q ≡ true → q ≡ step.Arrive at
arrival-is at (step.Arrive place) is = ap step.Arrive (eqb-true place at is)
arrival-is at (step.Take place) is = absurd (cc)
arrival-is at (step.Give place) is = absurd (cc)
arrival-is at (step.Down place) is = absurd (cc)
arrival-is at (step.Await place) is = absurd (cc)
arrival-is at (step.Work turns) is = absurd (cc)

-- no job arrives more often than there are rounds
arrivals-few : (kinds : List Kind) (steps : List Step) (at bound : ℕ) → AreMakeable kinds steps
    → ((n : ℕ) → HasRound (slice_get kinds at) n → n < bound) → (i : ℕ) → i ≤ length steps
    → count_by (is_arrival at) (take i steps) ≤ bound
arrivals-few kinds steps at bound makeable rounds zero low = omega arith
arrivals-few kinds steps at bound makeable rounds (suc i) low =
    go (is_arrival at (get_or steps i (step.Work 0))) refl
    (arrivals-few kinds steps at bound makeable rounds i (omega (arith, low)))
  where
    q : Step
    q = get_or steps i (step.Work 0)

    below : i < length steps
    below = omega (arith, low)

    next : suc i ≡ i + 1
    next = omega arith

    more : count_by (is_arrival at) (take (suc i) steps)
        ≡ count_by (is_arrival at) (take i steps) + bit (is_arrival at (get_or steps i (step.Work 0)))
    more =
        ap (λ n. count_by (is_arrival at) (take n steps)) next
        ∙ count-more (is_arrival at) steps i (step.Work 0) below

    go : (b : Bool) → is_arrival at (get_or steps i (step.Work 0)) ≡ b
        → count_by (is_arrival at) (take i steps) ≤ bound
        → count_by (is_arrival at) (take (suc i) steps) ≤ bound
    go false is before =
        let none : bit (is_arrival at (get_or steps i (step.Work 0))) ≡ 0 = ap bit is in
        omega (arith, more, none, before)
    go true is before =
        let one : bit (is_arrival at (get_or steps i (step.Work 0))) ≡ 1 = ap bit is in
        let named : get_or steps i (step.Work 0) ≡ step.Arrive at =
        arrival-is at (get_or steps i (step.Work 0)) is in
        let made = makeable.at i (step.Arrive at)
        (slice_get-get_or steps i (step.Work 0) below ∙ ap Some named) in
        omega (arith, more, one, rounds (count_by (is_arrival at) (take i steps)) made)

pub rounds-most : (k : Kind) (n : ℕ) → HasRound (Some k) n → n < rounds_of k
rounds-most (kind.Rounds parties rounds) n has = has
rounds-most (kind.Semaphore permits) n has = absurd has
rounds-most kind.Mutex n has = absurd has
rounds-most (kind.Pool elements) n has = absurd has
rounds-most (kind.Latch count) n has = absurd has

pub none-for : (kinds : List Kind) (steps : List Step) (at bound round : ℕ) → AreMakeable kinds steps
    → ((n : ℕ) → HasRound (slice_get kinds at) n → n < bound) → bound ≤ round → parties_for at round 0 steps ≡ 0
none-for kinds steps at bound round makeable rounds past =
    let few = arrivals-few kinds steps at bound makeable rounds (length steps) (omega arith) in
    let all = ap (count_by (is_arrival at)) (take-length steps) in
    none-comes round (count_by (is_arrival at) steps) (omega (arith, few, all, past))

-- where no job needs a party, none is needed
pub parties-none : (b : PlainFloor) → ((job at : ℕ) → round_of b job at ≡ 0) → (workers worker at round place : ℕ)
    (jobs : List Job)
    → ((i : ℕ) (job : Job) → slice_get jobs i ≡ Some job → parties_for at round 0 job.steps ≡ 0)
    → sum_of_needs (parties_needed b at round) place jobs
    (map (starting_stage workers worker) (range_with_len place (length jobs))) ≡ 0
parties-none b none workers worker at round place [] nobody = refl
parties-none b none workers worker at round place (job ∷ jobs) nobody =
    let rest = parties-none b none workers worker at round (place + 1) jobs (λ i j got. nobody (suc i) j got) in
    let here : parties_needed b at round place job (starting_stage workers worker place) ≡ 0 =
    starts workers worker place (λ p. parties_needed b at round place job (stage p fresh) ≡ 0)
    (ap (λ first. parties_for at round first job.steps) (none place at) ∙ nobody 0 job refl)
    (ap (λ first. parties_for at round first []) (none place at) ∙ none-comes round 0 (omega arith)) in
    omega (arith, rest, here)

-- all jobs are of some worker from the first on
pub all-from : (workers at place : ℕ) (jobs : List Job)
    → arriving_from workers 0 at place jobs ≡ count_by (arrives at) jobs
all-from workers at place [] = refl
all-from workers at place (job ∷ jobs) =
    let rest = all-from workers at (place + 1) jobs in
    let here : arrives_from workers 0 at place job ≡ bit (arrives at job) =
    ap (λ b. cond (b && arrives at job) 1 0) (le-leb 0 (place % workers) (omega arith)) in
    let all = sum_by-cons (λ (j : Job). bit (arrives at j)) job jobs in
    omega (arith, rest, here, all)

-- fewer jobs are of later workers
one-fewer : (workers worker at place : ℕ) (job : Job)
    → arrives_from workers (worker + 1) at place job ≤ arrives_from workers worker at place job
one-fewer workers worker at place job = go (cases_eq (place % workers) worker)
  where
    go : (place % workers ≡ worker) ⊎ (place % workers ≢ worker)
        → arrives_from workers (worker + 1) at place job ≤ arrives_from workers worker at place job
    go (inl own) = let none = from-next workers worker at place job own in omega (arith, none)
    go (inr other) = from-else workers worker at place job other

pub fewer-from : (workers worker at place : ℕ) (jobs : List Job)
    → arriving_from workers (worker + 1) at place jobs ≤ arriving_from workers worker at place jobs
fewer-from workers worker at place [] = omega arith
fewer-from workers worker at place (job ∷ jobs) =
    let rest = fewer-from workers worker at (place + 1) jobs in
    omega (arith, rest, one-fewer workers worker at place job)

-- one more job is counted
pub from-push : (workers worker at place : ℕ) (jobs : List Job) (job : Job)
    → arriving_from workers worker at place (jobs ++ job ∷ [])
    ≡ arriving_from workers worker at place jobs + arrives_from workers worker at (place + length jobs) job
from-push workers worker at place [] job =
    let here = ap (λ p. arrives_from workers worker at p job) (sym (add-none place)) in omega (arith, here)
  where
    add-none : (n : ℕ) → n + length {A = Job} [] ≡ n
    add-none n = omega arith
from-push workers worker at place (j ∷ jobs) job =
    let rest = from-push workers worker at (place + 1) jobs job in
    let here = ap (λ p. arrives_from workers worker at p job) (next place (length jobs)) in
    omega (arith, rest, here)
  where
    next : (p n : ℕ) → p + 1 + n ≡ p + suc n
    next p n = omega arith

pub at-most-one : (workers worker at place : ℕ) (job : Job) → arrives_from workers worker at place job ≤ 1
at-most-one workers worker at place job = go (nat_le worker (place % workers) && arrives at job)
  where
    go : (b : Bool) → cond {A = ℕ} b 1 0 ≤ 1
    go true = omega arith
    go false = omega arith

pub take-long : {X : Type 0} (n : ℕ) (xs : List X) → n ≤ length xs → length (take n xs) ≡ n
take-long zero xs low = refl
take-long (suc n) [] low = absurd (omega arith)
take-long (suc n) (x ∷ xs) low = let rest = take-long n xs (omega arith) in omega (arith, rest)
