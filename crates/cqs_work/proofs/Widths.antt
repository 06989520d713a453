-- As many numbers are drawn as jobs begin to wait, at most; and so no call of a plan's job is turned away.
use Rattle.std.proofs.Common.{◌≡◌, ℕ, zero, suc, ◌+◌, ◌-◌, ◌%◌, ◌<◌, ◌≤◌, ◌==◌, Bool, true, false, cond, List, [], ◌∷◌, Option, Some, None, length, count_by, slice_get, sum_by, refl, sym, ap, subst, ◌∙◌, eq-eqb, eqb-true, arith}
use Rattle.std.specs.Bool.{if◌then◌else◌}
use Rattle.std.specs.List.{list_any}
use Rattle.std.proofs.Math.ListN.{get_or-map}
use Rattle.std.proofs.Math.Nat.{mod-lt}
use Rattle.std.proofs.lemmas.List.Sums.{sum_by-cons}
use Rattle.cqs_core.specs.Parts.{part}
use Rattle.cqs_core.specs.SemaphoreNames.{entry_names as permit_names}
use Rattle.cqs_core.specs.declared.entries.Entry.{Entry}
use Rattle.cqs_core.specs.declared.entries.Entry.TheVariants as permit
use Rattle.cqs_core.proofs.Places.{get-below}
use Rattle.cqs_pool_object.specs.PoolNames.{entry_names as element_names}
use Rattle.cqs_pool_object.specs.declared.entries.PoolEntry.{PoolEntry}
use Rattle.cqs_pool_object.specs.declared.entries.PoolEntry.TheVariants as element
use Rattle.cqs_latch_object.specs.LatchNames.{entry_names as latch_names}
use Rattle.cqs_latch_object.specs.declared.entries.LatchEntry.{LatchEntry}
use Rattle.cqs_latch_object.specs.declared.entries.LatchEntry.TheVariants as latch
use Rattle.cqs_barrier_object.specs.BarrierNames.{entry_names as party_names}
use Rattle.cqs_barrier_object.specs.declared.entries.BarrierEntry.{BarrierEntry}
use Rattle.cqs_barrier_object.specs.declared.entries.BarrierEntry.TheVariants as party
use Rattle.cqs_plan.specs.declared.plans.job.Job.{Job}
use Rattle.cqs_plan.specs.declared.plans.kind.Kind.{Kind}
use Rattle.cqs_plan.specs.declared.plans.plan.Plan.{Plan}
use Rattle.cqs_plan.specs.declared.plans.step.Step.{Step}
use Rattle.cqs_plan.specs.declared.plans.step.Step.TheVariants.{Take, Give, Down, Await, Arrive, Work}
use Rattle.cqs_plan.specs.Floor.{HasRound, IsHoldable, IsLatch, waits_of_job}
use Rattle.cqs_plan.specs.FloorHistory.{History, of_permits, of_elements, of_latch, of_rounds, entries_in}
use Rattle.cqs_plan.specs.PlanSteps.{may_wait}
use Rattle.cqs_plan.specs.Runnable.{IsMakeable}
use Rattle.cqs_floor_shared.specs.Entries.{drawn_in, enters_for_permit, enters_for_element, enters_at_latch, enters_at_barrier, own_history, is_nothing}
use Rattle.cqs_work.specs.Drawn.{all_waits, own_drawn}
use Rattle.cqs_work.specs.Even.{NamesBelow}
use Rattle.cqs_work.specs.Later.{IsUnnamed}
use Rattle.cqs_work.specs.Needs.{room_needed, sum_of_needs}
use Rattle.cqs_work.specs.Opening.{starting_stage}
use Rattle.cqs_work.specs.Stages.{Stage}
use Rattle.cqs_work.specs.Takes.{sum_of_takes}
use Rattle.cqs_work.specs.Worked.{is_own}
use Rattle.cqs_work.proofs.Bounding.{from-first, steps-needed}
use Rattle.cqs_work.proofs.Nothing.{nothing-unnamed}
use Rattle.cqs_work.proofs.Quieting.{names-below}
use Rattle.cqs_work.proofs.Shares.{over_callers, over-none, over-one, over-plus, over-same, share, sum-by-parts}

-- what a caller drew is told by its entries alone
drawn-own : (n : ℕ) (h : History) (round : ℕ) → own_drawn n h round ≡ drawn_in (own_history n h) round
drawn-own n (of_permits h) round = refl
drawn-own n (of_elements h) round = refl
drawn-own n (of_latch h) round = refl
drawn-own n (of_rounds all) round = ap (count_by enters_at_barrier) (sym (get_or-map (part party_names n) all round []))

pub drawn-kept : (n : ℕ) (h all : History) (round : ℕ) → own_history n all ≡ own_history n h
    → own_drawn n all round ≡ own_drawn n h round
drawn-kept n h all round same =
    drawn-own n all round ∙ ap (λ x. drawn_in x round) same ∙ sym (drawn-own n h round)

unnamed-drew : (n : ℕ) (h : History) (round : ℕ) → IsUnnamed n h → own_drawn n h round ≡ 0
unnamed-drew n (of_permits h) round none = ap (count_by enters_for_permit) none
unnamed-drew n (of_elements h) round none = ap (count_by enters_for_element) none
unnamed-drew n (of_latch h) round none = ap (count_by enters_at_latch) none
unnamed-drew n (of_rounds all) round none = ap (count_by enters_at_barrier) (none round)

pub nothing-drew : (n : ℕ) (h : History) (round : ℕ) → is_nothing (own_history n h) ≡ true → own_drawn n h round ≡ 0
nothing-drew n h round nothing = unnamed-drew n h round (nothing-unnamed n h nothing)

-- All numbers of a history were drawn by those that it names.

none-counted : (n : ℕ) (named : ℕ → Bool) → over_callers n (λ c. if named c then 0 else 0) ≡ 0
none-counted n named =
    over-same n (λ c. if named c then 0 else 0) (λ c. 0) (λ c under. either 0 (named c) refl) ∙ over-none n
  where
    either : (m : ℕ) (b : Bool) → m ≡ 0 → (if b then m else 0) ≡ 0
    either m true none = none
    either m false none = refl

permit-once : (n : ℕ) (e : Entry) → ((c : ℕ) → permit_names c e ≡ true → c < n)
    → over_callers n (share permit_names (λ d. cond {A = ℕ} (enters_for_permit d) 1 0) e)
    ≡ cond {A = ℕ} (enters_for_permit e) 1 0
permit-once n (permit.Enter c k) below = over-one n c 1 (below c (eq-eqb c c refl))
permit-once n (permit.TakeNow c) below = none-counted n (λ d. permit_names d (permit.TakeNow c))
permit-once n (permit.TakeDoor c) below = none-counted n (λ d. permit_names d (permit.TakeDoor c))
permit-once n (permit.TryGot c) below = none-counted n (λ d. permit_names d (permit.TryGot c))
permit-once n (permit.TryBusy c) below = none-counted n (λ d. permit_names d (permit.TryBusy c))
permit-once n (permit.GiveFreed c) below = none-counted n (λ d. permit_names d (permit.GiveFreed c))
permit-once n (permit.GiveSent c) below = none-counted n (λ d. permit_names d (permit.GiveSent c))
permit-once n (permit.Deliver k) below = none-counted n (λ d. permit_names d (permit.Deliver k))
permit-once n (permit.Spoil c k) below = none-counted n (λ d. permit_names d (permit.Spoil c k))
permit-once n (permit.Undo c k) below = none-counted n (λ d. permit_names d (permit.Undo c k))
permit-once n (permit.Leave c k) below = none-counted n (λ d. permit_names d (permit.Leave c k))
permit-once n (permit.Late c k) below = none-counted n (λ d. permit_names d (permit.Late c k))
permit-once n (permit.LookGranted c k) below = none-counted n (λ d. permit_names d (permit.LookGranted c k))
permit-once n (permit.LookPending c k) below = none-counted n (λ d. permit_names d (permit.LookPending c k))

element-once : (n : ℕ) (e : PoolEntry) → ((c : ℕ) → element_names c e ≡ true → c < n)
    → over_callers n (share element_names (λ d. cond {A = ℕ} (enters_for_element d) 1 0) e)
    ≡ cond {A = ℕ} (enters_for_element e) 1 0
element-once n (element.Enter c k) below = over-one n c 1 (below c (eq-eqb c c refl))
element-once n (element.Put c e) below = none-counted n (λ d. element_names d (element.Put c e))
element-once n (element.Deliver k e) below = none-counted n (λ d. element_names d (element.Deliver k e))
element-once n (element.Leave c k) below = none-counted n (λ d. element_names d (element.Leave c k))
element-once n (element.Late c k e) below = none-counted n (λ d. element_names d (element.Late c k e))
element-once n (element.LookGranted c k e) below =
    none-counted n (λ d. element_names d (element.LookGranted c k e))
element-once n (element.LookPending c k) below = none-counted n (λ d. element_names d (element.LookPending c k))

latch-once : (n : ℕ) (e : LatchEntry) → ((c : ℕ) → latch_names c e ≡ true → c < n)
    → over_callers n (share latch_names (λ d. cond {A = ℕ} (enters_at_latch d) 1 0) e)
    ≡ cond {A = ℕ} (enters_at_latch e) 1 0
latch-once n (latch.Enter c k) below = over-one n c 1 (below c (eq-eqb c c refl))
latch-once n (latch.DownLeft x y) below = none-counted n (λ d. latch_names d (latch.DownLeft x y))
latch-once n (latch.DownLast x) below = none-counted n (λ d. latch_names d (latch.DownLast x))
latch-once n (latch.DownAlready x) below = none-counted n (λ d. latch_names d (latch.DownAlready x))
latch-once n (latch.Open x) below = none-counted n (λ d. latch_names d (latch.Open x))
latch-once n (latch.Passed x) below = none-counted n (λ d. latch_names d (latch.Passed x))
latch-once n (latch.AwaitDoor x) below = none-counted n (λ d. latch_names d (latch.AwaitDoor x))
latch-once n (latch.Deliver x) below = none-counted n (λ d. latch_names d (latch.Deliver x))
latch-once n (latch.Leave x y) below = none-counted n (λ d. latch_names d (latch.Leave x y))
latch-once n (latch.Miss x) below = none-counted n (λ d. latch_names d (latch.Miss x))
latch-once n (latch.Late x y) below = none-counted n (λ d. latch_names d (latch.Late x y))
latch-once n (latch.LookGranted x y) below = none-counted n (λ d. latch_names d (latch.LookGranted x y))
latch-once n (latch.LookPending x y) below = none-counted n (λ d. latch_names d (latch.LookPending x y))

party-once : (n : ℕ) (e : BarrierEntry) → ((c : ℕ) → party_names c e ≡ true → c < n)
    → over_callers n (share party_names (λ d. cond {A = ℕ} (enters_at_barrier d) 1 0) e)
    ≡ cond {A = ℕ} (enters_at_barrier e) 1 0
party-once n (party.Enter c k) below = over-one n c 1 (below c (eq-eqb c c refl))
party-once n (party.ArriveLast x) below = none-counted n (λ d. party_names d (party.ArriveLast x))
party-once n (party.ArriveDoor x) below = none-counted n (λ d. party_names d (party.ArriveDoor x))
party-once n (party.Deliver x) below = none-counted n (λ d. party_names d (party.Deliver x))
party-once n (party.Withdraw x y) below = none-counted n (λ d. party_names d (party.Withdraw x y))
party-once n (party.Stay x y) below = none-counted n (λ d. party_names d (party.Stay x y))
party-once n (party.Late x y) below = none-counted n (λ d. party_names d (party.Late x y))
party-once n (party.LookGranted x y) below = none-counted n (λ d. party_names d (party.LookGranted x y))
party-once n (party.LookPending x y) below = none-counted n (λ d. party_names d (party.LookPending x y))

-- in one list
module _ {E : Type 0} (names : ℕ → E → Bool) (enters : E → Bool) (workers : ℕ)
    (once : (e : E) → ((c : ℕ) → names c e ≡ true → c < workers)
    → over_callers workers (share names (λ d. cond {A = ℕ} (enters d) 1 0) e) ≡ cond {A = ℕ} (enters e) 1 0) where
  all-drawn : (h : List E) → ((n : ℕ) → workers ≤ n → part names n h ≡ [])
      → over_callers workers (λ c. count_by enters (part names c h)) ≡ count_by enters h
  all-drawn h unnamed =
      let below : NamesBelow names workers h = names-below names workers h unnamed in
      sum-by-parts names (λ d. cond {A = ℕ} (enters d) 1 0) workers h
      (λ i e got. once e (λ c named. below.at i c e got named))

drawn-by-all : (workers : ℕ) (h : History) (round : ℕ) → ((n : ℕ) → workers ≤ n → IsUnnamed n h)
    → over_callers workers (λ c. own_drawn c h round) ≡ drawn_in h round
drawn-by-all workers (of_permits h) round unnamed =
    all-drawn permit_names enters_for_permit workers (permit-once workers) h unnamed
drawn-by-all workers (of_elements h) round unnamed =
    all-drawn element_names enters_for_element workers (element-once workers) h unnamed
drawn-by-all workers (of_latch h) round unnamed =
    all-drawn latch_names enters_at_latch workers (latch-once workers) h unnamed
drawn-by-all workers (of_rounds all) round unnamed =
    all-drawn party_names enters_at_barrier workers (party-once workers) (entries_in all round)
    (λ n past. unnamed n past round)

-- What all workers may draw is what all jobs may.

over-most : (n : ℕ) (f g : ℕ → ℕ) → ((c : ℕ) → c < n → f c ≤ g c) → over_callers n f ≤ over_callers n g
over-most zero f g most = omega arith
over-most (suc n) f g most =
    omega (arith, most n (omega arith), over-most n f g (λ c below. most c (omega (arith, below))))

dealt-out : (workers : ℕ) (each : Job → ℕ) (k : ℕ) (jobs : List Job) → 0 < workers
    → over_callers workers (λ c. sum_of_takes (is_own workers c) each k jobs) ≡ sum_by each jobs
dealt-out workers each k [] some = over-none workers
dealt-out workers each k (job ∷ jobs) some =
    let first : over_callers workers (λ c. if k % workers == c then each job else 0) ≡ each job
    = over-one workers (k % workers) (each job) (mod-lt k some) in
    over-plus workers (λ c. if k % workers == c then each job else 0)
    (λ c. sum_of_takes (is_own workers c) each (k + 1) jobs)
    ∙ omega (arith, first, dealt-out workers each (k + 1) jobs some, sum_by-cons each job jobs)

pub few-drawn : (workers at : ℕ) (jobs : List Job) (h : History) (round : ℕ) → 0 < workers
    → ((n : ℕ) → workers ≤ n → IsUnnamed n h)
    → ((c : ℕ) → c < workers
    → own_drawn c h round ≤ sum_of_takes (is_own workers c) (waits_of_job at) 0 jobs)
    → drawn_in h round ≤ all_waits at jobs
few-drawn workers at jobs h round some unnamed most =
    let all = drawn-by-all workers h round unnamed in
    let sum = over-most workers (λ c. own_drawn c h round)
    (λ c. sum_of_takes (is_own workers c) (waits_of_job at) 0 jobs) most in
    omega (arith, all, sum, dealt-out workers (waits_of_job at) 0 jobs some)

-- what the jobs of a worker need of room before the first turn
pub all-needed : (plan : Plan) (workers worker at : ℕ) (first : List Stage) → length first ≡ length plan.jobs
    → ((place : ℕ) (s : Stage) → slice_get first place ≡ Some s → s ≡ starting_stage workers worker place)
    → sum_of_needs (room_needed at) 0 plan.jobs first
    ≡ sum_of_takes (is_own workers worker) (waits_of_job at) 0 plan.jobs
all-needed plan workers worker at first long starts =
    steps-needed (room_needed at) (is_own workers worker) (waits_of_job at) 0 plan.jobs first long
    (λ i job s got_job got. from-first i (λ n. room_needed at n job s
    ≡ (if is_own workers worker n then waits_of_job at job else 0))
    (subst (λ x. room_needed at i job x ≡ (if is_own workers worker i then waits_of_job at job else 0))
    (sym (starts i s got)) (go i job (i % workers == worker) refl)))
  where
    go : (i : ℕ) (job : Job) (b : Bool) → i % workers == worker ≡ b
        → room_needed at i job (starting_stage workers worker i)
        ≡ (if i % workers == worker then waits_of_job at job else 0)
    go i job true is =
        let whole : job.retry - 0 ≡ job.retry = omega arith in
        rw is
        (ap (λ n. count_by (may_wait at) job.steps + (if list_any (may_wait at) job.steps then n else 0)) whole)
    go i job false is = rw is (none (list_any (may_wait at) job.steps))
      where
        none : (b : Bool) → 0 + (if b then 0 else 0) ≡ 0
        none true = refl
        none false = refl

-- A step that may wait names a resource that is there.

holdable-there : (kinds : List Kind) (at : ℕ) (k : Option Kind) → slice_get kinds at ≡ k → IsHoldable k
    → at < length kinds
holdable-there kinds at (Some k) got holdable = get-below kinds at k got
holdable-there kinds at None got holdable = absurd holdable

latch-there : (kinds : List Kind) (at : ℕ) (k : Option Kind) → slice_get kinds at ≡ k → IsLatch k → at < length kinds
latch-there kinds at (Some k) got is = get-below kinds at k got
latch-there kinds at None got is = absurd is

round-there : (kinds : List Kind) (at round : ℕ) (k : Option Kind) → slice_get kinds at ≡ k → HasRound k round
    → at < length kinds
round-there kinds at round (Some k) got has = get-below kinds at k got
round-there kinds at round None got has = absurd has

pub waits-there : (kinds : List Kind) (holds : ℕ → Type 0) (round : ℕ → ℕ) (step : Step) (at : ℕ)
    → may_wait at step ≡ true → IsMakeable kinds holds round step → at < length kinds
waits-there kinds holds round (Take q) at may can =
    subst (λ n. n < length kinds) (eqb-true q at may) (holdable-there kinds q _ refl can)
waits-there kinds holds round (Await q) at may can =
    subst (λ n. n < length kinds) (eqb-true q at may) (latch-there kinds q _ refl can)
waits-there kinds holds round (Arrive q) at may can =
    subst (λ n. n < length kinds) (eqb-true q at may) (round-there kinds q (round q) _ refl can)
waits-there kinds holds round (Give q) at may can = absurd (cc)
waits-there kinds holds round (Down q) at may can = absurd (cc)
waits-there kinds holds round (Work turns) at may can = absurd (cc)
