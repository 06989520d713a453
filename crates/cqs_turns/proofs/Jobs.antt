-- One job of a running machine has its turn.
use Rattle.std.proofs.Common.{◌≡◌, ◌≢◌, ◌⊎◌, inl, inr, ℕ, ◌<◌, List, Some, Result, Ok, Err, OnOk, length, map, set, get_or, slice_get, sym, ap, subst, ◌∙◌, arith}
use Rattle.std.specs.Option.{option_map_or}
use Rattle.std.proofs.lemmas.Bool.{cases_eq}
use Rattle.std.proofs.lemmas.List.{map-set, length-map}
use Rattle.std.proofs.lemmas.Option.{get_or_from_slice_get, slice_get-get_or}
use Rattle.cqs_core.proofs.Places.{get-set_here, get-set_else}
use Rattle.cqs_plan.specs.declared.plans.plan.Plan.{Plan}
use Rattle.cqs_plan.specs.Floor.{PlainFloor, holds_of}
use Rattle.cqs_plan.specs.Runnable.{IsRunnable, kinds_of}
use Rattle.cqs_turns_report.specs.declared.states.JobState.{JobState}
use Rattle.cqs_turns_report.specs.declared.states.Patience.{Patience}
use Rattle.cqs_turns_report.specs.declared.states.Progress.{Progress}
use Rattle.cqs_turns_report.specs.declared.states.End.TheVariants as end
use Rattle.cqs_turns_report.specs.declared.states.Progress.TheVariants.{Ended}
use Rattle.cqs_turns_report.specs.Ready.{CanRetryIn, HasRoomFor}
use Rattle.cqs_turns_report.specs.Roles.{scene}
use Rattle.cqs_turns_report.specs.Running.{IsRunning, IsKept, machine_of, turn_at}
use Rattle.cqs_turns.specs.States.{IsSet}
use Rattle.cqs_turns_report.specs.Turns.{Role, Acted, Machine, after_acting, fresh, left_at, one_job, patience_after, places_held}
use Rattle.cqs_turns_report.proofs.Mapped.{get-map}
use Rattle.cqs_turns_report.proofs.RunningLemmas.{room-of}
use Rattle.cqs_turns_report.proofs.TurnKept.{Acts, acts, acts-again}

-- a clause on success, of two facts
pub on-ok-pair : {T E : Type 0} (P Q : Type 0) (r : Result T E) → OnOk r P → OnOk r Q → OnOk r (P × Q)
on-ok-pair P Q (Ok x) first second = (first, second)
on-ok-pair P Q (Err e) first second = tt

-- the job r, with this state, is about to act on a running machine
pub record Acting (plan : Plan) (r : Role) (f : PlainFloor) (text : List ℕ) (states : List JobState) (state : JobState)
    : Type 0 where
  pub resources : r.resources ≡ plan.resources
  pub job : slice_get plan.jobs r.place ≡ Some r.job
  pub its_state : slice_get states r.place ≡ Some state
  pub runnable : IsRunnable plan
  pub running : IsRunning plan (machine_of f text states)
  pub kept : IsKept f states

-- the machine after a job acted
abbrev turn_with : Role → List JobState → Acted → Patience → Machine
turn_with r states a y =
    record {
      scene = a.scene;
      progress = set (map (λ s. s.progress) states) r.place a.progress;
      patience = set (map (λ s. s.patience) states) r.place y;
    }

module _ (plan : Plan) (r : Role) (f : PlainFloor) (text : List ℕ) (states : List JobState) (state : JobState)
    (acting : Acting plan r f text states state) where
  its-progress : slice_get (map (λ s. s.progress) states) r.place ≡ Some state.progress
  its-progress = get-map (λ (s : JobState). s.progress) states r.place state acting.its_state

  its-patience : slice_get (map (λ s. s.patience) states) r.place ≡ Some state.patience
  its-patience = get-map (λ (s : JobState). s.patience) states r.place state acting.its_state

  pub acting-set : IsSet f r state
  acting-set = record {
    held = acting.kept.held r.place state acting.its_state;
    kinds = acting.running.kinds ∙ ap kinds_of (sym acting.resources);
    ready = acting.running.ready r.place r.job state.progress acting.job its-progress;
  }

  pub acting-room : HasRoomFor f r.place r.job.steps state.progress
  acting-room =
      room-of plan (machine_of f text states) r.place r.job acting.running acting.runnable acting.job state.progress
      its-progress

  pub acting-again : CanRetryIn f r state.patience state.progress
  acting-again =
      acts-again plan (machine_of f text states) r state.patience acting.running acting.runnable acting.job its-patience
      state.progress its-progress

  -- what the turn of the job is to the machine, and to its patience
  abbrev acted : Acted
  acted = after_acting r state.patience state.progress (scene f text)

  abbrev patience : Patience
  patience = patience_after r state.patience state.progress (scene f text)

  machine-turn : turn_at plan r.turn r.place (machine_of f text states) ≡ turn_with r states acted patience
  machine-turn =
      let m : Machine = machine_of f text states in
      let this_job : turn_at plan r.turn r.place m ≡ one_job plan.resources r.turn r.place r.job m
      = ap (λ o. option_map_or (λ job. one_job plan.resources r.turn r.place job m) o m) acting.job in
      let these_resources : one_job plan.resources r.turn r.place r.job m ≡ one_job r.resources r.turn r.place r.job m
      = ap (λ rs. one_job rs r.turn r.place r.job m) (sym acting.resources) in
      let its_progress : get_or (map (λ s. s.progress) states) r.place (Ended end.Done) ≡ state.progress
      = get_or_from_slice_get (map (λ (s : JobState). s.progress) states) r.place state.progress
      (Ended end.Done) its-progress in
      let its_patience : get_or (map (λ s. s.patience) states) r.place fresh ≡ state.patience
      = get_or_from_slice_get (map (λ (s : JobState). s.patience) states) r.place state.patience fresh its-patience in
      let Turn : Patience → Progress → Machine
      = λ x p. turn_with r states (after_acting r x p (scene f text)) (patience_after r x p (scene f text)) in
      this_job ∙ these_resources
      ∙ ap (Turn (get_or (map (λ s. s.patience) states) r.place fresh)) its_progress
      ∙ ap (λ x. Turn x state.progress) its_patience

  its-turn : Acts plan (machine_of f text states) r acted patience
  its-turn =
      acts plan (machine_of f text states) r state.patience acting.running acting.runnable acting.job its-patience
      state.progress its-progress

  module _ (g : PlainFloor) (new : List ℕ) (after : JobState) (is : left_at (scene g new) after.progress ≡ acted)
      (calm : after.patience ≡ patience) where
    machine-after : machine_of g new (set states r.place after) ≡ turn_with r states acted patience
    machine-after =
        ap (λ progress. record {
          scene = scene g new;
          progress = progress;
          patience = map (λ s. s.patience) (set states r.place after);
        }) (map-set (λ (s : JobState). s.progress) states r.place after)
        ∙ ap (λ patience. record {
          scene = scene g new;
          progress = set (map (λ s. s.progress) states) r.place after.progress;
          patience = patience;
        }) (map-set (λ (s : JobState). s.patience) states r.place after)
        ∙ ap (λ a. turn_with r states a after.patience) is ∙ ap (turn_with r states acted) calm

    pub acting-ok : machine_of g new (set states r.place after) ≡ turn_at plan r.turn r.place (machine_of f text states)
    acting-ok = machine-after ∙ sym machine-turn

    pub acting-running : IsRunning plan (machine_of g new (set states r.place after))
    acting-running = subst (IsRunning plan) (sym machine-after) its-turn.running

    pub acting-kept : after.held.items ≡ places_held g r.place → IsKept g (set states r.place after)
    acting-kept held = record { held = λ j s got. kept j s got (cases_eq j r.place) }
      where
        kept : (j : ℕ) (s : JobState) → slice_get (set states r.place after) j ≡ Some s → (j ≡ r.place) ⊎ (j ≢ r.place)
            → s.held.items ≡ places_held g j
        kept j s got (inl here) =
            let now : slice_get (set states r.place after) r.place ≡ Some after
            = get-set_here states r.place state after acting.its_state in
            let there : slice_get (set states r.place after) r.place ≡ Some s = rw here at got in
            let same : s ≡ after = cc in
            rw (here, same) held
        kept j s got (inr other) =
            let before : slice_get states j ≡ Some s
            = sym (get-set_else states r.place j after (λ e. other (sym e))) ∙ got in
            let floor_after : g ≡ acted.scene.floor = ap (λ (a : Acted). a.scene.floor) is in
            let unmoved : holds_of g j ≡ holds_of f j
            = ap (λ h. holds_of h j) floor_after ∙ its-turn.holds j other in
            acting.kept.held j s before ∙ ap (map (λ h. h.at)) (sym unmoved)

-- the job at a place of a running machine acts
pub acting-at : (plan : Plan) (r : Role) (f : PlainFloor) (text : List ℕ) (states : List JobState) (place : ℕ)
    (d : JobState) → r.resources ≡ plan.resources → r.place ≡ place → slice_get plan.jobs place ≡ Some r.job
    → IsRunnable plan → IsRunning plan (machine_of f text states) → IsKept f states → place < length plan.jobs
    → Acting plan r f text states (get_or states place d)
acting-at plan r f text states place d resources there job runnable running kept below = record {
  resources = resources;
  job = rw there job;
  its_state = rw there (slice_get-get_or states place d
      (omega (arith, below, running.jobs, length-map states (λ (s : JobState). s.progress))));
  runnable = runnable;
  running = running;
  kept = kept;
}

-- what the turn of the job at a place leaves
module _ (plan : Plan) (r : Role) (f : PlainFloor) (text : List ℕ) (states : List JobState) (state : JobState)
    (acting : Acting plan r f text states state) (turn place : ℕ) (at_turn : r.turn ≡ turn) (there : r.place ≡ place)
    (g : PlainFloor) (new : List ℕ) (after : JobState) where
  -- what the call of the turn told
  abbrev pub Turns : Type 0
  Turns = (left_at (scene g new) after.progress ≡ after_acting r state.patience state.progress (scene f text))
      × (after.patience ≡ patience_after r state.patience state.progress (scene f text))

  pub one-job-ok : Turns → machine_of g new (set states place after)
      ≡ turn_at plan turn place (machine_of f text states)
  one-job-ok is =
      rw (← there, ← at_turn) (acting-ok plan r f text states state acting g new after is.0 is.1)

  pub one-job-running : Turns → IsRunning plan (machine_of g new (set states place after))
  one-job-running is = rw (← there) (acting-running plan r f text states state acting g new after is.0 is.1)

  pub one-job-kept : Turns → after.held.items ≡ places_held g r.place → IsKept g (set states place after)
  one-job-kept is held =
      rw (← there) (acting-kept plan r f text states state acting g new after is.0 is.1 held)
