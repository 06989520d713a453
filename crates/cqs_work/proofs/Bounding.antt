-- The takes that a worker made, beside the take steps of its jobs.
use Rattle.std.proofs.Common.{◌≡◌, ◌≢◌, ◌⊎◌, inl, inr, ℕ, suc, ◌+◌, ◌-◌, ◌%◌, ◌==◌, ◌&&◌, Bool, true, false, List, [], ◌∷◌, Some, length, slice_get, refl, sym, ap, subst, ◌∙◌, arith, ne_eqb, sum_by}
use Rattle.std.specs.Bool.{if◌then◌else◌}
use Rattle.std.proofs.lemmas.Bool.{cases_eq}
use Rattle.cqs_plan.specs.declared.plans.job.Job.{Job}
use Rattle.cqs_plan.specs.declared.plans.plan.Plan.{Plan}
use Rattle.cqs_turns_report.specs.declared.states.End.TheVariants as end
use Rattle.cqs_turns_report.specs.declared.states.Progress.{Progress}
use Rattle.cqs_turns_report.specs.declared.states.Progress.TheVariants.{Stepping, Working, Waiting, Ended}
use Rattle.cqs_plan.specs.FloorHistory.{History, of_permits, of_elements, of_latch, of_rounds}
use Rattle.cqs_floor_shared.specs.Entries.{own_history}
use Rattle.cqs_work.specs.declared.ends.JobEnd.{JobEnd}
use Rattle.cqs_work.specs.Accounts.{Weights, sum_in}
use Rattle.cqs_work.specs.Courses.{made_by, left_by}
use Rattle.cqs_work.specs.Ends.{job_end, is_done}
use Rattle.cqs_work.specs.Needs.{sum_of_needs}
use Rattle.cqs_work.specs.Opening.{starting_stage}
use Rattle.cqs_work.specs.Takes.{takes_in, take_steps, take_tries, takes_with_retries, sum_of_takes}
use Rattle.cqs_work.specs.Worked.{is_own, is_own_done, end_at}
use Rattle.cqs_work.specs.Stages.{Stage}
use Rattle.cqs_plan.specs.PlanSteps.{is_take}
use Rattle.std.specs.List.{list_any}

-- what is needed of each job is so much, where it counts
pub steps-needed : (w : ℕ → Job → Stage → ℕ) (counts : ℕ → Bool) (each : Job → ℕ) (k : ℕ) (jobs : List Job)
    (stages : List Stage) → length stages ≡ length jobs
    → ((i : ℕ) (job : Job) (s : Stage) → slice_get jobs i ≡ Some job → slice_get stages i ≡ Some s
    → w (k + i) job s ≡ (if counts (k + i) then each job else 0))
    → sum_of_needs w k jobs stages ≡ sum_of_takes counts each k jobs
steps-needed w counts each k [] stages long same = refl
steps-needed w counts each k (job ∷ jobs) [] long same = absurd (omega (arith, long))
steps-needed w counts each k (job ∷ jobs) (s ∷ stages) long same =
    let none : k + 0 ≡ k = omega arith in
    let first : w k job s ≡ (if counts k then each job else 0)
    = subst (λ n. w n job s ≡ (if counts n then each job else 0)) none (same 0 job s refl refl) in
    let later = steps-needed w counts each (k + 1) jobs stages (omega (arith, long))
    (λ i j x got_j got_x. subst (λ n. w n j x ≡ (if counts n then each j else 0)) (further i)
    (same (suc i) j x got_j got_x)) in
    omega (arith, first, later)
  where
    further : (i : ℕ) → k + suc i ≡ (k + 1) + i
    further i = omega arith

none-needed : (w : ℕ → Job → Stage → ℕ) (k : ℕ) (jobs : List Job) (stages : List Stage)
    → ((i : ℕ) (job : Job) (s : Stage) → slice_get jobs i ≡ Some job → slice_get stages i ≡ Some s
    → w (k + i) job s ≡ 0) → sum_of_needs w k jobs stages ≡ 0
none-needed w k [] stages none = refl
none-needed w k (job ∷ jobs) [] none = refl
none-needed w k (job ∷ jobs) (s ∷ stages) none =
    let zero_is : k + 0 ≡ k = omega arith in
    let first : w k job s ≡ 0 = subst (λ n. w n job s ≡ 0) zero_is (none 0 job s refl refl) in
    let later = none-needed w (k + 1) jobs stages
    (λ i j x got_j got_x. subst (λ n. w n j x ≡ 0) (further i) (none (suc i) j x got_j got_x)) in
    omega (arith, first, later)
  where
    further : (i : ℕ) → k + suc i ≡ (k + 1) + i
    further i = omega arith

-- counted from the first place
pub from-first : (i : ℕ) (P : ℕ → Type 0) → P i → P (0 + i)
from-first i P here = let same : i ≡ 0 + i = omega arith in subst P same here

both-true : (a b : Bool) → (a && b) ≡ true → (a ≡ true) × (b ≡ true)
both-true true b both = (refl, both)
both-true false b both = absurd (cc)

own-is : (m n : ℕ) → m == n ≡ true → m ≡ n
own-is m n same_by = go (cases_eq m n)
  where
    go : (m ≡ n) ⊎ (m ≢ n) → m ≡ n
    go (inl same) = same
    go (inr other) = absurd (cc (ne_eqb m n other, same_by))

done-is : (p : Progress) → is_done (job_end p) ≡ true → p ≡ Ended end.Done
done-is (Ended end.Done) done = refl
done-is (Ended end.GaveUp) done = absurd (cc)
done-is (Ended end.Late) done = absurd (cc)
done-is (Ended end.Crowded) done = absurd (cc)
done-is (Stepping next) done = absurd (cc)
done-is (Working next until) done = absurd (cc)
done-is (Waiting next at round number) done = absurd (cc)

module _ (plan : Plan) (workers worker at : ℕ) (ends : List JobEnd) (first last : List Stage)
    (first_long : length first ≡ length plan.jobs) (last_long : length last ≡ length plan.jobs)
    (starts : (place : ℕ) (s : Stage) → slice_get first place ≡ Some s → s ≡ starting_stage workers worker place)
    (ended : (place : ℕ) (s : Stage) → place % workers ≡ worker → slice_get last place ≡ Some s
    → end_at ends place ≡ job_end s.progress) where
  -- the jobs that are done have made all their takes
  pub done-made : sum_of_needs (made_by (is_own_done workers worker ends) at) 0 plan.jobs last
      ≡ take_steps (is_own_done workers worker ends) at 0 plan.jobs
  done-made = steps-needed (made_by (is_own_done workers worker ends) at)
      (is_own_done workers worker ends) (λ job. takes_in at job.steps) 0 plan.jobs last last_long
      (λ i job s got_job got. from-first i (λ n. made_by (is_own_done workers worker ends) at n job s
      ≡ (if is_own_done workers worker ends n then takes_in at job.steps else 0))
      (go i job s got (is_own_done workers worker ends i) refl))
    where
      go : (i : ℕ) (job : Job) (s : Stage) → slice_get last i ≡ Some s → (b : Bool)
          → is_own_done workers worker ends i ≡ b
          → made_by (is_own_done workers worker ends) at i job s
          ≡ (if is_own_done workers worker ends i then takes_in at job.steps else 0)
      go i job s got true is =
          let both = both-true (is_own workers worker i) (is_done (end_at ends i)) is in
          let own : i % workers ≡ worker = own-is (i % workers) worker both.0 in
          let done : is_done (job_end s.progress) ≡ true = ap is_done (sym (ended i s own got)) ∙ both.1 in
          let at_end : s.progress ≡ Ended end.Done = done-is s.progress done in
          rw (is, at_end) refl
      go i job s got false is = rw is refl

  -- and before the first turn none had made any
  pub none-made : sum_of_needs (made_by (is_own_done workers worker ends) at) 0 plan.jobs first ≡ 0
  none-made = none-needed (made_by (is_own_done workers worker ends) at) 0 plan.jobs first
      (λ i job s got_job got. from-first i (λ n. made_by (is_own_done workers worker ends) at n job s ≡ 0)
      (go i job s got (is_own_done workers worker ends i) refl))
    where
      go : (i : ℕ) (job : Job) (s : Stage) → slice_get first i ≡ Some s → (b : Bool)
          → is_own_done workers worker ends i ≡ b → made_by (is_own_done workers worker ends) at i job s ≡ 0
      go i job s got true is =
          let both = both-true (is_own workers worker i) (is_done (end_at ends i)) is in
          let own : i % workers == worker ≡ true = both.0 in
          let begun : s.progress ≡ Stepping 0 = ap (λ (x : Stage). x.progress) (starts i s got) ∙ rw own refl in
          rw (is, begun) refl
      go i job s got false is = rw is refl

  -- those of a worker may make all of theirs, with all retries
  pub all-left : sum_of_needs (left_by at) 0 plan.jobs first ≡ take_tries (is_own workers worker) at 0 plan.jobs
  all-left = steps-needed (left_by at) (is_own workers worker) (takes_with_retries at) 0 plan.jobs first first_long
      (λ i job s got_job got. from-first i (λ n. left_by at n job s
      ≡ (if is_own workers worker n then takes_with_retries at job else 0))
      (subst (λ x. left_by at i job x ≡ (if is_own workers worker i then takes_with_retries at job else 0))
      (sym (starts i s got)) (go i job (i % workers == worker) refl)))
    where
      go : (i : ℕ) (job : Job) (b : Bool) → i % workers == worker ≡ b
          → left_by at i job (starting_stage workers worker i)
          ≡ (if i % workers == worker then takes_with_retries at job else 0)
      go i job true is =
          let whole : job.retry - 0 ≡ job.retry = omega arith in
          rw is
          (ap (λ n. takes_in at job.steps + (if list_any (is_take at) job.steps then n else 0)) whole)
      go i job false is = rw is (none (list_any (is_take at) job.steps))
        where
          none : (b : Bool) → 0 + (if b then 0 else 0) ≡ 0
          none true = refl
          none false = refl

-- what a caller's entries add up to is told by them alone
abbrev sum_own : Weights → History → ℕ
sum_own w (of_permits h) = sum_by w.permit h
sum_own w (of_elements h) = sum_by w.element h
sum_own w (of_latch h) = 0
sum_own w (of_rounds all) = 0

sum-of-own : (w : Weights) (n : ℕ) (h : History) → sum_in w n h ≡ sum_own w (own_history n h)
sum-of-own w n (of_permits h) = refl
sum-of-own w n (of_elements h) = refl
sum-of-own w n (of_latch h) = refl
sum-of-own w n (of_rounds all) = refl

pub sum-kept : (w : Weights) (n : ℕ) (h all : History) → own_history n all ≡ own_history n h
    → sum_in w n all ≡ sum_in w n h
sum-kept w n h all same = sum-of-own w n all ∙ ap (sum_own w) same ∙ sym (sum-of-own w n h)
