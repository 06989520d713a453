-- One job of a worker has its turn, then each, turn by turn.
use Rattle.std.proofs.Common.{◌≡◌, ◌≢◌, ◌⊎◌, inl, inr, ℕ, suc, ◌+◌, ◌<◌, ◌≤◌, true, List, [], ◌∷◌, ◌++◌, Option, Some, None, length, drop, map, set, get_or, slice_get, sym, ap, subst, ◌∙◌, arith}
use Rattle.std.specs.Option.{option_map_or}
use Rattle.std.proofs.lemmas.Bool.{cases_eq}
use Rattle.std.proofs.lemmas.List.{map-set, drop_all, length-set}
use Rattle.std.proofs.lemmas.Option.{get_or_from_slice_get, slice_get-get_or}
use Rattle.cqs_core.proofs.Places.{get-set_here, get-set_else, get-there}
use Rattle.cqs_plan.specs.declared.plans.job.Job.{Job}
use Rattle.cqs_plan.specs.declared.plans.plan.Plan.{Plan}
use Rattle.cqs_plan.specs.declared.plans.step.Step.{Step}
use Rattle.cqs_plan.specs.Floor.{PlainFloor, JobWait, HasRound, is_barrier_in, own_rounds}
use Rattle.cqs_plan.specs.Runnable.{IsRunnable, kinds_of}
use Rattle.cqs_turns_report.specs.declared.actors.Actor.{Actor}
use Rattle.cqs_turns_report.specs.declared.states.JobState.{JobState}
use Rattle.cqs_turns_report.specs.declared.states.End.TheVariants as end
use Rattle.cqs_turns_report.specs.declared.states.Progress.{Progress}
use Rattle.cqs_turns_report.specs.declared.states.Progress.TheVariants.{Stepping, Working, Waiting, Ended}
use Rattle.cqs_turns_report.specs.Machine.{MachineIn, fresh}
use Rattle.cqs_turns_report.specs.Machine as machine
use Rattle.cqs_turns_report.specs.Ready.{IsReady, wait_in, steps_left}
use Rattle.cqs_turns_report.specs.Roles.{role}
use Rattle.cqs_turns_report.specs.Turns.{places_held}
use Rattle.cqs_turns_report.proofs.Mapped.{get-map}
use Rattle.cqs_floor_shared.specs.Shared.{Shared}
use Rattle.cqs_work.specs.Desk.{Desk}
use Rattle.cqs_work.specs.Heard.{Heard, Hears, heard, heard_world}
use Rattle.cqs_work.specs.Roles.{turn, staged}
use Rattle.cqs_work.specs.Stages.{Stage, stage, stage_of, stages_of}
use Rattle.cqs_turns_report.specs.declared.states.Patience.{Patience}
use Rattle.cqs_work.specs.Needs.{IsInRounds, IsPartyPlace, CanGoBackIn, AreProvided}
use Rattle.cqs_work.specs.Doing.{Moves, HasTurn, HadTurn}
use Rattle.cqs_work.specs.Works.{machine_so, job_turn, job_turn_so, turn_of, turn_so, turns_of, RunsOn}
use Rattle.cqs_work.proofs.HeardLemmas.{hears-then, hears-on, hears-none}
use Rattle.cqs_work.proofs.StepNeeds.{drop-at}
use Rattle.cqs_work.specs.Courses.{Went}
use Rattle.cqs_work.proofs.Needing.{room-of, provided-of, provided-on}
use Rattle.cqs_work.proofs.Coursing.{went-none, went-then, went-one}

-- the job of the actor, with this state, is about to act
pub record Acting (plan : Plan) (a : Actor) (f : Shared) (states : List JobState) (state : JobState) : Type 0 where
  pub resources : (role a).resources ≡ plan.resources
  pub job : slice_get plan.jobs a.place ≡ Some (role a).job
  pub its_state : slice_get states a.place ≡ Some state
  pub runnable : IsRunnable plan
  pub runs : RunsOn plan f states

pub acting-at : (plan : Plan) (a : Actor) (f : Shared) (states : List JobState) (place : ℕ) (d : JobState)
    → (role a).resources ≡ plan.resources → (role a).place ≡ place → slice_get plan.jobs place ≡ Some (role a).job
    → IsRunnable plan → RunsOn plan f states → place < length plan.jobs
    → Acting plan a f states (get_or states place d)
acting-at plan a f states place d resources there job runnable runs below = record {
  resources = resources;
  job = rw there job;
  its_state = rw there (slice_get-get_or states place d (omega (arith, below, runs.jobs)));
  runnable = runnable;
  runs = runs;
}

-- what one job did leaves another ready, and in its rounds
pub other-ready : (place j : ℕ) (b c : PlainFloor) (wait : Option JobWait) (steps : List Step)
    → c.kinds ≡ b.kinds → length c.waits ≡ length b.waits → length c.holds ≡ length b.holds
    → length c.rounds ≡ length b.rounds → get_or c.waits j None ≡ get_or b.waits j None
    → get_or c.holds j [] ≡ get_or b.holds j [] → get_or c.rounds j [] ≡ get_or b.rounds j []
    → IsReady b j wait steps → IsReady c j wait steps
other-ready place j b c wait steps kinds waits holds rounds its_wait its_holds its_rounds ready =
    let held : places_held c j ≡ places_held b j = ap (map (λ h. h.at)) its_holds in
    record {
      job = record {
        waits = omega (arith, ready.job.waits, waits);
        holds = omega (arith, ready.job.holds, holds);
        rounds = omega (arith, ready.job.rounds, rounds);
        each = ap length its_rounds ∙ ready.job.each ∙ ap length (sym kinds);
      };
      waits = its_wait ∙ ready.waits;
      holdable = rw (kinds, held) ready.holdable;
      makeable = rw (kinds, held, its_rounds) ready.makeable;
    }

pub moved-ready : (place j : ℕ) (b : PlainFloor) (p : List (List ℕ)) (steps : List Step) (c : PlainFloor)
    (q : List (List ℕ)) (left : List Step) (wait : Option JobWait) (its_steps : List Step)
    → Moves place b p steps c q left → j ≢ place → IsReady b j wait its_steps → IsReady c j wait its_steps
moved-ready place j b p steps c q left wait its_steps moves other ready =
    other-ready place j b c wait its_steps moves.kinds moves.waits.long moves.holds.long moves.rounds.long
    (moves.waits.at j other) (moves.holds.at j other) (moves.rounds.at j other) ready

moved-rounds : (j : ℕ) (b c : PlainFloor) (steps : List Step) (p : Progress) → get_or c.rounds j []
    ≡ get_or b.rounds j []
    → IsInRounds b j steps p → IsInRounds c j steps p
moved-rounds j b c steps (Stepping next) same rounds = λ at. ap (λ row. get_or row at 0) same ∙ rounds at
moved-rounds j b c steps (Working next until) same rounds = λ at. ap (λ row. get_or row at 0) same ∙ rounds at
moved-rounds j b c steps (Waiting next at round number) same rounds = λ q. ap (λ row. get_or row q 0) same ∙ rounds q
moved-rounds j b c steps (Ended e) same rounds = tt

-- and in its wait, which may be taken back
moved-back : (j : ℕ) (f g : Shared) (steps : List Step) (p : Progress) → g.board.kinds ≡ f.board.kinds
    → places_held g.board j ≡ places_held f.board j → own_rounds g.board j ≡ own_rounds f.board j
    → ((at round : ℕ) → IsPartyPlace f.parties at round → IsPartyPlace g.parties at round)
    → CanGoBackIn f j steps p → CanGoBackIn g j steps p
moved-back j f g steps (Stepping next) kinds held own rows back = tt
moved-back j f g steps (Working next until) kinds held own rows back = tt
moved-back j f g steps (Ended e) kinds held own rows back = tt
moved-back j f g steps (Waiting next at round number) kinds held own rows back = record {
  back = record {
    some = back.back.some;
    below = back.back.below;
    makeable = rw (kinds, held, own) back.back.makeable;
    rounds = λ q. rw (kinds, own) (back.back.rounds q);
    arrived = λ barrier.
        let arrived = back.back.arrived (subst (λ ks. is_barrier_in ks at ≡ true) kinds barrier) in
        record {
          round = subst (λ ks. HasRound (slice_get ks at) round) (sym kinds) arrived.round;
          last = subst (λ row. get_or row at 0 ≤ round + 1) (sym own) arrived.last;
        };
  };
  party = λ barrier. rows at round (back.party (subst (λ ks. is_barrier_in ks at ≡ true) kinds barrier));
}

-- the state at a place, where one was written
state-at : (states : List JobState) (place : ℕ) (state after : JobState) (j : ℕ) (s : JobState)
    → slice_get states place ≡ Some state → slice_get (set states place after) j ≡ Some s
    → ((j ≡ place) × (s ≡ after)) ⊎ ((j ≢ place) × (slice_get states j ≡ Some s))
state-at states place state after j s its_state got = go (cases_eq j place)
  where
    go : (j ≡ place) ⊎ (j ≢ place) → ((j ≡ place) × (s ≡ after)) ⊎ ((j ≢ place) × (slice_get states j ≡ Some s))
    go (inl here) =
        let now : slice_get (set states place after) place ≡ Some after = get-set_here states place state after
        its_state in
        let here_too : slice_get (set states place after) place ≡ Some s = rw here at got in
        let same_state : s ≡ after = cc in
        inl (here, same_state)
    go (inr other) = inr (other, sym (get-set_else states place j after (λ e. other (sym e))) ∙ got)

module _ (plan : Plan) (a : Actor) (f : Desk) (states : List JobState) (state : JobState)
    (acting : Acting plan a f.floor states state) where
  its-stage : slice_get (stages_of states) a.place ≡ Some (stage_of state)
  its-stage = get-map (λ (s : JobState). stage_of s) states a.place state acting.its_state

  pub has-turn : a.turn ≤ 40000 → HasTurn a f.floor (stage_of state)
  has-turn turn = record {
    can = record {
      stands = record {
        kinds = acting.runs.kinds ∙ ap kinds_of (sym acting.resources);
        ready = acting.runs.ready a.place (role a).job state acting.job acting.its_state;
      };
      rounds = acting.runs.rounds a.place (role a).job state acting.job acting.its_state;
      provided = provided-of f.floor plan.jobs (stages_of states) a.place
          (role a).job (stage_of state) acting.job its-stage
          acting.runs.provided;
      back = acting.runs.back a.place (role a).job state acting.job acting.its_state;
      few_steps = acting.runnable.few_steps.at a.place (role a).job acting.job;
      turn = turn;
    };
    room = room-of f.floor plan.jobs (stages_of states) a.place (role a).job (stage_of state) acting.job its-stage
        acting.runs.provided;
    few_retries = acting.runnable.few_retries.at a.place (role a).job acting.job;
  }

  pub its-held : state.held.items ≡ places_held f.floor.board a.place
  its-held = acting.runs.kept.held a.place state acting.its_state

  module _ (g : Desk) (after : JobState) (acts : HadTurn a f (stage_of state) g (stage_of after))
      (held : after.held.items ≡ places_held g.floor.board a.place) where
    -- what the job's turn is to the machine
    abbrev whole : Heard × Stage → MachineIn Heard
    whole b = record {
      scene = b.0;
      progress = set (map (λ s. s.progress) (stages_of states)) a.place b.1.progress;
      patience = set (map (λ s. s.patience) (stages_of states)) a.place b.1.patience;
    }

    -- the turn by how far the job is and what its patience rests on
    abbrev by_stage : Progress → Patience → Heard → MachineIn Heard
    by_stage progress patience h = whole (turn a (stage progress patience) h)

    turn-is : (h : Heard) → job_turn_so plan a.turn a.place (stages_of states) h ≡ whole (turn a (stage_of state) h)
    turn-is h =
        let m : MachineIn Heard = machine_so (stages_of states) h in
        let this_job : job_turn plan a.turn a.place m
        ≡ machine.one_job heard_world plan.resources a.turn a.place (role a).job m
        = ap (λ o. option_map_or (λ job. machine.one_job heard_world plan.resources a.turn a.place job m) o m)
        acting.job in
        let these : machine.one_job heard_world plan.resources a.turn a.place (role a).job m
        ≡ machine.one_job heard_world (role a).resources a.turn a.place (role a).job m
        = ap (λ rs. machine.one_job heard_world rs a.turn a.place (role a).job m) (sym acting.resources) in
        let its_progress : get_or (map (λ (s : Stage). s.progress) (stages_of states)) a.place (Ended end.Done)
        ≡ state.progress
        = get_or_from_slice_get (map (λ (s : Stage). s.progress) (stages_of states)) a.place state.progress
        (Ended end.Done)
        (get-map (λ (s : Stage). s.progress) (stages_of states) a.place (stage_of state) its-stage) in
        let its_patience : get_or (map (λ (s : Stage). s.patience) (stages_of states)) a.place fresh ≡ state.patience
        = get_or_from_slice_get (map (λ (s : Stage). s.patience) (stages_of states)) a.place state.patience fresh
        (get-map (λ (s : Stage). s.patience) (stages_of states) a.place (stage_of state) its-stage) in
        this_job ∙ these ∙ ap (λ p. by_stage p (get_or (map (λ s. s.patience) (stages_of states)) a.place fresh) h)
        its_progress
        ∙ ap (λ x. by_stage state.progress x h) its_patience

    stages-after : stages_of (set states a.place after) ≡ set (stages_of states) a.place (stage_of after)
    stages-after = map-set (λ (s : JobState). stage_of s) states a.place after

    -- the machine with the stage written
    machine-after : (h : Heard) → whole (staged (stage_of after) h)
        ≡ machine_so (stages_of (set states a.place after)) h
    machine-after h =
        ap (λ ps. record {
          scene = h;
          progress = ps;
          patience = set (map (λ s. s.patience) (stages_of states)) a.place after.patience;
        }) (sym (map-set (λ (s : Stage). s.progress) (stages_of states) a.place (stage_of after)))
        ∙ ap (λ xs. record {
          scene = h;
          progress = map (λ s. s.progress) (set (stages_of states) a.place (stage_of after));
          patience = xs;
        }) (sym (map-set (λ (s : Stage). s.patience) (stages_of states) a.place (stage_of after)))
        ∙ ap (λ l. machine_so l h) (sym stages-after)

    job-heard : Hears f g (job_turn_so plan a.turn a.place (stages_of states))
        (machine_so (stages_of (set states a.place after)))
    job-heard = record {
      later = acts.hears.later;
      answers = acts.hears.answers;
      told = acts.hears.told;
      plays = λ rest. turn-is (heard f (acts.hears.answers ++ rest)) ∙ ap whole (acts.hears.plays rest)
          ∙ machine-after (heard g rest);
    }

    job-runs : RunsOn plan g.floor (set states a.place after)
    job-runs = record {
      jobs = length-set states a.place after ∙ acting.runs.jobs;
      kinds = acts.moves.kinds ∙ acting.runs.kinds;
      ready = λ j job s got_job got. ready j job s got_job (state-at states a.place state after j s acting.its_state
          got);
      rounds = λ j job s got_job got. rounds j job s got_job (state-at states a.place state after j s acting.its_state
          got);
      waits = acts.moves.waits.long ∙ acting.runs.waits;
      holds = acts.moves.holds.long ∙ acting.runs.holds;
      back = λ j job s got_job got. back j job s got_job (state-at states a.place state after j s acting.its_state
          got);
      provided = subst (λ stages. AreProvided g.floor plan.jobs stages) (sym stages-after)
          (provided-on f.floor plan.jobs (stages_of states) a.place
          (role a).job (stage_of state) acting.job its-stage
          acting.runs.provided g.floor (stage_of after) acts.moves);
      kept = record { held = λ j s got. kept j s (state-at states a.place state after j s acting.its_state got) };
    }
      where
        ready : (j : ℕ) (job : Job) (s : JobState) → slice_get plan.jobs j ≡ Some job
            → ((j ≡ a.place) × (s ≡ after)) ⊎ ((j ≢ a.place) × (slice_get states j ≡ Some s))
            → IsReady g.floor.board j (wait_in s.progress) (steps_left job.steps s.progress)
        ready j job s got_job (inl (here, same)) =
            let there : slice_get plan.jobs a.place ≡ Some job = rw here at got_job in
            let its_job : Some job ≡ Some (role a).job = sym there ∙ acting.job in
            let own : job ≡ (role a).job = cc in
            rw (here, same, own) acts.stands.ready
        ready j job s got_job (inr (other, got)) =
            other-ready a.place j f.floor.board g.floor.board (wait_in s.progress) (steps_left job.steps s.progress)
            acts.moves.kinds acts.moves.waits.long acts.moves.holds.long acts.moves.rounds.long
            (acts.moves.waits.at j other) (acts.moves.holds.at j other) (acts.moves.rounds.at j other)
            (acting.runs.ready j job s got_job got)

        rounds : (j : ℕ) (job : Job) (s : JobState) → slice_get plan.jobs j ≡ Some job
            → ((j ≡ a.place) × (s ≡ after)) ⊎ ((j ≢ a.place) × (slice_get states j ≡ Some s))
            → IsInRounds g.floor.board j job.steps s.progress
        rounds j job s got_job (inl (here, same)) =
            let there : slice_get plan.jobs a.place ≡ Some job = rw here at got_job in
            let its_job : Some job ≡ Some (role a).job = sym there ∙ acting.job in
            let own : job ≡ (role a).job = cc in
            rw (here, same, own) acts.rounds
        rounds j job s got_job (inr (other, got)) =
            moved-rounds j f.floor.board g.floor.board job.steps s.progress (acts.moves.rounds.at j other)
            (acting.runs.rounds j job s got_job got)

        back : (j : ℕ) (job : Job) (s : JobState) → slice_get plan.jobs j ≡ Some job
            → ((j ≡ a.place) × (s ≡ after)) ⊎ ((j ≢ a.place) × (slice_get states j ≡ Some s))
            → CanGoBackIn g.floor j job.steps s.progress
        back j job s got_job (inl (here, same)) =
            let there : slice_get plan.jobs a.place ≡ Some job = rw here at got_job in
            let its_job : Some job ≡ Some (role a).job = sym there ∙ acting.job in
            let own : job ≡ (role a).job = cc in
            rw (here, same, own) acts.back
        back j job s got_job (inr (other, got)) =
            moved-back j f.floor g.floor job.steps s.progress acts.moves.kinds
            (ap (map (λ h. h.at)) (acts.moves.holds.at j other)) (acts.moves.rounds.at j other) acts.moves.rows
            (acting.runs.back j job s got_job got)

        kept : (j : ℕ) (s : JobState) → ((j ≡ a.place) × (s ≡ after)) ⊎ ((j ≢ a.place) × (slice_get states j ≡ Some s))
            → s.held.items ≡ places_held g.floor.board j
        kept j s (inl (here, same)) = rw (here, same) held
        kept j s (inr (other, got)) =
            acting.runs.kept.held j s got ∙ ap (map (λ h. h.at)) (sym (acts.moves.holds.at j other))

    job-went : Went plan f (stages_of states) g (stages_of (set states a.place after))
    job-went =
        subst (Went plan f (stages_of states) g) (sym stages-after)
        (went-one plan f g a.place (role a).job (stage_of state) (stage_of after) (stages_of states) acting.job
        its-stage acts.hears.later acts.adds acts.moves.room)

    module _ (turn place : ℕ) (at_turn : (role a).turn ≡ turn) (there : (role a).place ≡ place) where
      pub one-job-heard : Hears f g (job_turn_so plan turn place (stages_of states))
          (machine_so (stages_of (set states place after)))
      one-job-heard = rw (← there, ← at_turn) job-heard

      pub one-job-runs : RunsOn plan g.floor (set states place after)
      one-job-runs = rw (← there) job-runs

      pub one-job-went : Went plan f (stages_of states) g (stages_of (set states place after))
      one-job-went = rw (← there) job-went

-- the jobs before `place` have had their turns since the start
pub record TurningOn (plan : Plan) (turn place : ℕ) (f g : Desk) (before now : List Stage) : Type 0 where
  pub heard : Hears f g (turn_so plan turn before)
      (λ h. machine.each_job heard_world plan.resources turn place (drop place plan.jobs) (machine_so now h))
  pub went : Went plan f before g now

pub turning-starts : (plan : Plan) (turn : ℕ) (f : Desk) (before : List Stage)
    → TurningOn plan turn 0 f f before before
turning-starts plan turn f before = record {
  heard = hears-none f (turn_so plan turn before);
  went = went-none plan f before;
}

-- what remains, seen as the next job and the rest
unrolled : (plan : Plan) (turn place : ℕ) (m : MachineIn Heard) → place < length plan.jobs
    → machine.each_job heard_world plan.resources turn place (drop place plan.jobs) m
    ≡ machine.each_job heard_world plan.resources turn (place + 1) (drop (place + 1) plan.jobs)
    (job_turn plan turn place m)
unrolled plan turn place m below =
    let next : (job : Job) × (slice_get plan.jobs place ≡ Some job) = get-there plan.jobs place below in
    let split : drop place plan.jobs ≡ next.0 ∷ drop (place + 1) plan.jobs = drop-at plan.jobs place next.0 next.1 in
    let its_turn : job_turn plan turn place m ≡ machine.one_job heard_world plan.resources turn place next.0 m
    = ap (λ o. option_map_or (λ job. machine.one_job heard_world plan.resources turn place job m) o m) next.1 in
    ap (λ jobs. machine.each_job heard_world plan.resources turn place jobs m) split
    ∙ ap (machine.each_job heard_world plan.resources turn (place + 1) (drop (place + 1) plan.jobs)) (sym its_turn)

pub turns-on : (plan : Plan) (turn place : ℕ) (f g k : Desk) (before now after : List Stage)
    → TurningOn plan turn place f g before now → place < length plan.jobs
    → Hears g k (job_turn_so plan turn place now) (machine_so after) → Went plan g now k after
    → TurningOn plan turn (place + 1) f k before after
turns-on plan turn place f g k before now after on below job went =
    let rest : MachineIn Heard → MachineIn Heard
    = machine.each_job heard_world plan.resources turn (place + 1) (drop (place + 1) plan.jobs) in
    let step : Hears g k (λ h. machine.each_job heard_world plan.resources turn place (drop place plan.jobs)
    (machine_so now h))
    (λ h. rest (machine_so after h))
    = record {
      later = job.later;
      answers = job.answers;
      told = job.told;
      plays = λ more. unrolled plan turn place (machine_so now (heard g (job.answers ++ more))) below
          ∙ ap rest (job.plays more);
    } in
    record {
      heard = hears-then f g k (turn_so plan turn before)
          (λ h. machine.each_job heard_world plan.resources turn place (drop place plan.jobs) (machine_so now h))
          (λ h. rest (machine_so after h)) on.heard step;
      went = went-then plan f g k before now after on.heard.later on.went went;
    }

pub turn-ends : (plan : Plan) (turn place : ℕ) (f g : Desk) (before now : List Stage)
    → TurningOn plan turn place f g before now → length plan.jobs ≡ place
    → Hears f g (turn_so plan turn before) (machine_so now)
turn-ends plan turn place f g before now on all =
    subst (λ jobs. Hears f g (turn_so plan turn before)
    (λ h. machine.each_job heard_world plan.resources turn place jobs (machine_so now h)))
    (drop_all place plan.jobs (omega (arith, all))) on.heard

-- a further turn
pub next-turn : (plan : Plan) (turn : ℕ) (f g k : Desk) (first now after : List Stage)
    → Hears f g (turns_of plan turn first) (machine_so now) → Hears g k (turn_so plan turn now) (machine_so after)
    → Hears f k (turns_of plan (turn + 1) first) (machine_so after)
next-turn plan turn f g k first now after so_far this =
    let on : Hears f g (turns_of plan (suc turn) first) (λ h. turn_of plan turn (machine_so now h))
    = hears-on (turn_of plan turn) f g (turns_of plan turn first) (machine_so now) so_far in
    let all : Hears f k (turns_of plan (suc turn) first) (machine_so after)
    = hears-then f g k (turns_of plan (suc turn) first) (turn_so plan turn now) (machine_so after) on this in
    let next : turn + 1 ≡ suc turn = omega arith in
    rw next all
