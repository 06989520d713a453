-- A floor before the first call of its pass: its worker can begin, and nothing is to be accounted for.
use Rattle.std.proofs.Common.{◌≡◌, ◌≢◌, ◌⊎◌, inl, inr, ℕ, zero, suc, ◌<◌, ◌%◌, ◌==◌, Bool, true, false, List, [], ◌∷◌, Some, None, length, map, get_or, replicate, slice_get, sum_by, refl, sym, ap, subst, ◌∙◌, arith, ne_eqb}
use Rattle.std.specs.Bool.{if◌then◌else◌}
use Rattle.std.proofs.lemmas.Bool.{cases_eq}
use Rattle.std.proofs.lemmas.List.{length-map, length-replicate, get_or-replicate, ext_get_or}
use Rattle.std.proofs.lemmas.List.Sums.{sum_by-cons}
use Rattle.std.proofs.lemmas.List.FromFn.{length-map-range_with_len, get_or-map-range_with_len}
use Rattle.std.proofs.lemmas.Option.{get_or_from_slice_get}
use Rattle.cqs_core.proofs.Places.{get-below, get-there}
use Rattle.cqs_plan.specs.declared.plans.job.Job.{Job}
use Rattle.cqs_plan.specs.declared.plans.plan.Plan.{Plan}
use Rattle.cqs_plan.specs.declared.plans.resource.Resource.{Resource}
use Rattle.cqs_plan.specs.Floor.{PlainFloor, Holding, opening_floor}
use Rattle.cqs_plan.specs.Runnable.{IsRunnable}
use Rattle.cqs_turns_report.specs.declared.states.End.TheVariants as end
use Rattle.cqs_turns_report.specs.declared.states.JobState.{JobState}
use Rattle.cqs_turns_report.specs.declared.states.Progress.{Progress}
use Rattle.cqs_turns_report.specs.declared.states.Progress.TheVariants.{Stepping, Ended}
use Rattle.cqs_turns_report.specs.Ready.{IsReady, wait_in, steps_left}
use Rattle.cqs_turns_report.specs.Running.{IsRunning}
use Rattle.cqs_turns_report.specs.Turns.{opening_machine, places_held}
use Rattle.cqs_turns_report.proofs.Mapped.{get-map}
use Rattle.cqs_turns_report.proofs.Opened.{opening-running}
use Rattle.cqs_turns_report.proofs.Readied.{ready-to-end}
use Rattle.cqs_floor_shared.specs.Shared.{Shared, seen_at}
use Rattle.cqs_work.specs.Accounts.{Weights, gains, losses, doors, enters, sum_in, waits_at, held_at, IsAccounted}
use Rattle.cqs_work.specs.Adds.{IsOver}
use Rattle.cqs_work.specs.Causes.{IsCaused}
use Rattle.cqs_work.specs.Courses.{AreCaused, GoesOn}
use Rattle.cqs_work.specs.Desk.{Desk, desk}
use Rattle.cqs_work.specs.Gated.{Gated}
use Rattle.cqs_work.specs.Later.{IsSound}
use Rattle.cqs_work.specs.Needs.{IsInRounds, AreProvided, CanGoBackIn}
use Rattle.cqs_work.specs.Noted.{IsNoted}
use Rattle.cqs_work.specs.Takes.{takes, took}
use Rattle.cqs_work.specs.Opening.{starting_stage, starting, dealt, IsStarting, AreStarting, IsOpening}
use Rattle.cqs_work.specs.Works.{RunsOn}
use Rattle.cqs_work.proofs.Nothing.{nothing-unnamed, nothing-adds, nothing-draws}
use Rattle.cqs_work.proofs.Turning.{other-ready}
use Rattle.cqs_work.specs.Stages.{Stage, stage, stage_of, stages_of, done_stage}
use Rattle.cqs_turns_report.specs.declared.states.Patience.{Patience}
use Rattle.cqs_turns_report.specs.Machine.{fresh}

-- the stage of a job that is so far, and as patient
stage-as : (p q : Progress) (x y : Patience) → p ≡ q → x ≡ y → stage p x ≡ stage q y
stage-as p q x y far patient = ap (λ n. stage n x) far ∙ ap (stage q) patient

-- what the worker's code keeps is how far the plan's jobs are dealt to it
pub stages-dealt : (plan : Plan) (workers worker : ℕ) (states : List JobState)
    → AreStarting (length plan.jobs) workers worker states → stages_of states ≡ dealt plan workers worker
stages-dealt plan workers worker states starts =
    ext_get_or done_stage (stages_of states) (dealt plan workers worker)
    (length-map states (λ (s : JobState). stage_of s) ∙ starts.long
    ∙ sym (length-map-range_with_len (starting_stage workers worker) 0 (length plan.jobs)))
    (λ i below. at i (omega (arith, below, length-map states (λ (s : JobState). stage_of s))))
  where
    at : (i : ℕ) → i < length states → get_or (stages_of states) i done_stage
        ≡ get_or (dealt plan workers worker) i done_stage
    at i below =
        let there : (s : JobState) × (slice_get states i ≡ Some s) = get-there states i below in
        let its : IsStarting workers worker i there.0 = starts.each.at i there.0 there.1 in
        get_or_from_slice_get (stages_of states) i (stage_of there.0) done_stage
        (get-map (λ (s : JobState). stage_of s) states i there.0 there.1)
        ∙ stage-as there.0.progress (starting workers worker i) there.0.patience fresh its.progress its.patience
        ∙ sym (get_or-map-range_with_len (starting_stage workers worker) 0 (length plan.jobs) i i done_stage
        (omega (arith, below, starts.long)) (omega arith))

pub map-back : {X Y : Type 0} (h : X → Y) (xs : List X) (i : ℕ) (y : Y) → slice_get (map h xs) i ≡ Some y
    → (x : X) × (slice_get xs i ≡ Some x) × (h x ≡ y)
map-back h [] i y got = absurd (cc)
map-back h (x ∷ xs) zero y got = let same : h x ≡ y = cc in (x, refl, same)
map-back h (x ∷ xs) (suc i) y got = map-back h xs i y got

get-replicate : {X : Type 0} (n i : ℕ) (x : X) → i < n → slice_get (replicate n x) i ≡ Some x
get-replicate zero i x below = absurd (omega (arith, below))
get-replicate (suc n) zero x below = refl
get-replicate (suc n) (suc i) x below = get-replicate n i x (omega (arith, below))

module _ (plan : Plan) (workers worker : ℕ) (f : Shared) (runnable : IsRunnable plan)
    (opens : IsOpening plan workers worker f) where
  abbrev floor : PlainFloor
  floor = opening_floor plan

  running : IsRunning plan (opening_machine plan)
  running = opening-running plan runnable

  -- a job that begins, and one that has ended
  ready-by : (place : ℕ) (job : Job) → slice_get plan.jobs place ≡ Some job → (own : Bool)
      → IsReady f.board place (wait_in (if own then Stepping 0 else Ended end.Done))
      (steps_left job.steps (if own then Stepping 0 else Ended end.Done))
  ready-by place job got own = go own
    where
      below : place < length plan.jobs
      below = get-below plan.jobs place job got

      first : IsReady floor place None job.steps
      first = running.ready place job (Stepping 0) got (get-replicate (length plan.jobs) place (Stepping 0) below)

      here : IsReady f.board place None job.steps
      here =
          other-ready place place floor f.board None job.steps opens.kinds (ap length opens.waits)
          (ap length opens.holds) (ap length opens.rounds) (ap (λ l. get_or l place None) opens.waits)
          (ap (λ l. get_or l place []) opens.holds) (ap (λ l. get_or l place []) opens.rounds) first

      go : (own : Bool) → IsReady f.board place (wait_in (if own then Stepping 0 else Ended end.Done))
          (steps_left job.steps (if own then Stepping 0 else Ended end.Done))
      go true = here
      go false = ready-to-end f.board place None job.steps here

  rounds-by : (place : ℕ) (job : Job) → slice_get plan.jobs place ≡ Some job → (own : Bool)
      → IsInRounds f.board place job.steps (if own then Stepping 0 else Ended end.Done)
  rounds-by place job got true =
      let below : place < length plan.jobs = get-below plan.jobs place job got in
      λ at. ap (λ l. get_or (get_or l place []) at 0) opens.rounds
      ∙ running.rounds place job (Stepping 0) got (get-replicate (length plan.jobs) place (Stepping 0) below) at
  rounds-by place job got false = tt

  back-by : (place : ℕ) (job : Job) (own : Bool)
      → CanGoBackIn f place job.steps (if own then Stepping 0 else Ended end.Done)
  back-by place job true = tt
  back-by place job false = tt

  module _ (states : List JobState) (starts : AreStarting (length plan.jobs) workers worker states) where
    -- a worker whose floor is this can begin
    pub opening-runs : RunsOn plan f states
    opening-runs = record {
      jobs = starts.long;
      waits = ap length opens.waits ∙ length-replicate (length plan.jobs) None;
      holds = ap length opens.holds ∙ length-replicate (length plan.jobs) [];
      kinds = opens.kinds;
      ready = λ place job state got_job got.
          let its : state.progress ≡ starting workers worker place = (starts.each.at place state got).progress in
          subst (λ p. IsReady f.board place (wait_in p) (steps_left job.steps p)) (sym its)
          (ready-by place job got_job (place % workers == worker));
      rounds = λ place job state got_job got.
          let its : state.progress ≡ starting workers worker place = (starts.each.at place state got).progress in
          subst (IsInRounds f.board place job.steps) (sym its)
          (rounds-by place job got_job (place % workers == worker));
      back = λ place job state got_job got.
          let its : state.progress ≡ starting workers worker place = (starts.each.at place state got).progress in
          subst (CanGoBackIn f place job.steps) (sym its) (back-by place job (place % workers == worker));
      provided = subst (AreProvided f plan.jobs) (sym (stages-dealt plan workers worker states starts))
          opens.provided;
      kept = record {
        held = λ place state got.
            let below : place < length plan.jobs = omega (arith, get-below states place state got, starts.long) in
            let none : places_held f.board place ≡ []
            = ap (λ l. map (λ (h : Holding). h.at) (get_or l place [])) opens.holds
            ∙ ap (map (λ (h : Holding). h.at)) (get_or-replicate (length plan.jobs) place [] [] below) in
            (starts.each.at place state got).held ∙ sym none;
      };
    }

sum-replicate : {X : Type 0} (w : X → ℕ) (n : ℕ) (x : X) → w x ≡ 0 → sum_by w (replicate n x) ≡ 0
sum-replicate w zero x none = refl
sum-replicate w (suc n) x none = omega (arith, none, sum-replicate w n x none, sum_by-cons w x (replicate n x))

module _ (plan : Plan) (workers worker : ℕ) (f : Shared) (opens : IsOpening plan workers worker f) where
  pub opening-sound : IsSound f
  opening-sound = record {
    legal = opens.legal;
    unnamed = λ at n past.
        nothing-unnamed n (seen_at f at) (opens.unnamed at n (inr (omega (arith, past, opens.floors))));
  }

  no-sum : (w : Weights) (at : ℕ) → sum_in w f.number (seen_at f at) ≡ 0
  no-sum w at = nothing-adds w f.number (seen_at f at) (opens.unnamed at f.number (inl refl))

  pub opening-accounted : IsAccounted f
  opening-accounted = record {
    long =
        let kinds : length f.board.kinds ≡ length plan.resources
        = ap length opens.kinds ∙ length-map plan.resources (λ (r : Resource). r.kind) in
        omega (arith, kinds, opens.long);
    even = λ q holdable.
        let held : sum_by (held_at q) f.board.holds ≡ 0
        = ap (sum_by (held_at q)) opens.holds ∙ sum-replicate (held_at q) (length plan.jobs) [] refl in
        let waits : sum_by (waits_at q) f.board.waits ≡ 0
        = ap (sum_by (waits_at q)) opens.waits ∙ sum-replicate (waits_at q) (length plan.jobs) None refl in
        omega (arith, no-sum gains q, no-sum losses q, held, waits);
    entered = λ q. no-sum enters q ∙ sym (no-sum doors q);
  }

  -- no job was told a wait yet
  pub opening-noted : (gate : Gated) → IsNoted (desk f [] gate)
  opening-noted gate = record {
    long = opening-accounted.long;
    at = λ at permits. nothing-draws f.number (seen_at f at) (opens.unnamed at f.number (inl refl));
  }

  pub opening-took : (at : ℕ) → took f at ≡ 0
  opening-took at = no-sum takes at

-- how far a job is that was dealt
module _ (plan : Plan) (workers worker : ℕ) (states : List JobState)
    (starts : AreStarting (length plan.jobs) workers worker states) where
  pub starting-at : (place : ℕ) (s : Stage) → slice_get (stages_of states) place ≡ Some s
      → s ≡ starting_stage workers worker place
  starting-at place s got = go (map-back (λ (x : JobState). stage_of x) states place s got)
    where
      go : (x : JobState) × (slice_get states place ≡ Some x) × (stage_of x ≡ s)
          → s ≡ starting_stage workers worker place
      go (x, there, is) =
          let its : IsStarting workers worker place x = starts.each.at place x there in
          sym is ∙ stage-as x.progress (starting workers worker place) x.patience fresh its.progress its.patience

  progress-at : (place : ℕ) (s : Stage) → slice_get (stages_of states) place ≡ Some s
      → s.progress ≡ starting workers worker place
  progress-at place s got = ap (λ (x : Stage). x.progress) (starting-at place s got)

  pub opening-caused : (d : Desk) → AreCaused plan d (stages_of states)
  opening-caused d = record {
    at = λ place job s got_job got. subst (IsCaused job place d) (sym (progress-at place s got))
        (go job place (place % workers == worker));
  }
    where
      go : (job : Job) (place : ℕ) (own : Bool)
          → IsCaused job place d (if own then Stepping 0 else Ended end.Done)
      go job place true = tt
      go job place false = tt

  -- a job that goes on is the worker's
  pub opening-own : (place : ℕ) → GoesOn (stages_of states) place → place % workers ≡ worker
  opening-own place goes =
      go (cases_eq (place % workers) worker)
    where
      go : (place % workers ≡ worker) ⊎ (place % workers ≢ worker) → place % workers ≡ worker
      go (inl own) = own
      go (inr other) =
          let no_own : place % workers == worker ≡ false = ne_eqb (place % workers) worker other in
          let ended : goes.s.progress ≡ Ended end.Done = progress-at place goes.s goes.there ∙ rw no_own refl in
          absurd (goes.going (subst IsOver (sym ended) tt))
