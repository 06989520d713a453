-- After the last turn: every job leaves its line and gives back what it holds.
use Rattle.std.proofs.Common.{◌≡◌, ◌≢◌, ◌⊎◌, inl, inr, ℕ, ◌+◌, ◌<◌, ◌≤◌, List, [], ◌∷◌, ◌++◌, Some, None, Result, Ok, Err, OnOk, length, drop, map, set, get_or, slice_get, refl, sym, ap, subst, ◌∙◌, arith}
use Rattle.std.proofs.lemmas.Bool.{cases_eq}
use Rattle.std.proofs.lemmas.List.{map-set, drop_all, length-set, length-map}
use Rattle.std.proofs.lemmas.Option.{get_or_from_slice_get, slice_get-get_or}
use Rattle.cqs_core.proofs.Places.{get-set_here, get-set_else, set-same, get-below, get-there}
use Rattle.cqs_plan.specs.declared.plans.job.Job.{Job}
use Rattle.cqs_plan.specs.declared.plans.plan.Plan.{Plan}
use Rattle.cqs_plan.specs.Runnable.{kinds_of}
use Rattle.cqs_turns_report.specs.declared.actors.Actor.{Actor}
use Rattle.cqs_turns_report.specs.declared.states.End.{End}
use Rattle.cqs_turns_report.specs.declared.states.JobState.{JobState}
use Rattle.cqs_turns_report.specs.declared.states.Progress.{Progress}
use Rattle.cqs_turns_report.specs.declared.states.Progress.TheVariants.{Stepping, Working, Waiting, Ended}
use Rattle.cqs_turns_report.specs.Machine as machine
use Rattle.cqs_turns_report.specs.Ready.{IsReady, wait_in, steps_left}
use Rattle.cqs_turns_report.specs.Roles.{role}
use Rattle.cqs_turns_report.specs.Turns.{places_held}
use Rattle.cqs_turns_report.proofs.Mapped.{get-map}
use Rattle.cqs_turns_report.proofs.Readied.{ready-to-end}
use Rattle.cqs_work.specs.Desk.{Desk}
use Rattle.cqs_work.specs.Heard.{Heard, Hears, heard, heard_world}
use Rattle.cqs_work.specs.Roles.{same, give_each, leave_end, ended_so}
use Rattle.cqs_work.specs.Doing.{Stands, GaveUp}
use Rattle.cqs_work.specs.Works.{HasWorkedOn, RunsOn, HasWorked, turns_of, machine_so, line_left_so, close, after_last_gives, close_from, close_all, IsClear, AllClear, AreKept}
use Rattle.cqs_work.specs.Adds.{Keeps}
use Rattle.cqs_work.specs.Courses.{Went}
use Rattle.cqs_work.proofs.Adding.{keeps-none, keeps-then}
use Rattle.cqs_work.proofs.Lasting.{later-none}
use Rattle.cqs_work.proofs.Gating.{told-none}
use Rattle.cqs_work.proofs.HeardLemmas.{hears-then, hears-on, hears-none}
use Rattle.cqs_work.proofs.Moving.{moves-none, moves-on}
use Rattle.cqs_work.proofs.StepNeeds.{drop-at}
use Rattle.cqs_work.proofs.Turning.{moved-ready}
use Rattle.cqs_work.specs.Stages.{Stage, stage_of, stages_of, progress_at, done_stage}

-- a job that waits leaves its line
pub left-line : (a : Actor) (f g : Desk) (p : Progress) (next at round number : ℕ) (e : End)
    → p ≡ Waiting next at round number → GaveUp a f (leave_end a at round number) (ended_so e) g
    → GaveUp a f (line_left_so a p) same g
left-line a f g p next at round number e is left =
    let Goal : Progress → Type 0 = λ x. GaveUp a f (line_left_so a x) same g in
    subst Goal (sym is) (record {
      hears = record {
        later = left.hears.later;
        answers = left.hears.answers;
        told = left.hears.told;
        plays = λ rest. ap (λ x. x.0)
            (left.hears.plays rest);
      };
      stands = left.stands;
      moves = left.moves;
      keeps = left.keeps;
    })

-- one that doesn't wait has no line to leave
no-line : (a : Actor) (f : Desk) (p : Progress) → ((h : Heard) → line_left_so a p h ≡ h) → wait_in p ≡ None
    → Stands a f.floor (wait_in p) [] → GaveUp a f (line_left_so a p) same f
no-line a f p stays none stands = record {
  hears = record {
    later = later-none f.floor;
    answers = [];
    told = told-none f.gate;
    plays = λ rest. stays (heard f rest);
  };
  stands = rw none at stands;
  moves = moves-none a.place f.floor.board f.floor.parties [];
  keeps = keeps-none f;
}

pub no-line-else : (a : Actor) (f : Desk) (p : Progress)
    → ((next : ℕ) × (p ≡ Stepping next))
    ⊎ (((next : ℕ) × (until : ℕ) × (p ≡ Working next until)) ⊎ ((e : End) × (p ≡ Ended e)))
    → Stands a f.floor (wait_in p) [] → GaveUp a f (line_left_so a p) same f
no-line-else a f p (inl steps) stands = no-line a f p (λ h. rw steps.1 refl) (ap wait_in steps.1) stands
no-line-else a f p (inr (inl works)) stands = no-line a f p (λ h. rw works.2 refl) (ap wait_in works.2) stands
no-line-else a f p (inr (inr ended)) stands = no-line a f p (λ h. rw ended.1 refl) (ap wait_in ended.1) stands

-- and then gives back all that it holds
pub closes : (a : Actor) (f g k : Desk) (p : Progress) (held : List ℕ) → GaveUp a f (line_left_so a p) same g
    → held ≡ places_held g.floor.board a.place → GaveUp a g (give_each a held) same k → GaveUp a f (close a p) same k
closes a f g k p held left is gives =
    let on : Hears f g (close a p) (machine.after_all_gives heard_world (role a))
    = hears-on (machine.after_all_gives heard_world (role a)) f g (line_left_so a p) same left.hears in
    let back : Hears g k (give_each a (places_held g.floor.board a.place)) same
    = subst (λ l. Hears g k (give_each a l) same) is gives.hears in
    record {
      hears = hears-then f g k (close a p) (machine.after_all_gives heard_world (role a)) same on
          (record { later = back.later; answers = back.answers; told = back.told; plays = back.plays });
      stands = gives.stands;
      moves = moves-on a.place f.floor.board f.floor.parties [] g.floor.board g.floor.parties [] k.floor.board
          k.floor.parties [] left.moves gives.moves;
      keeps = keeps-then f g k left.moves.kinds left.keeps gives.keeps;
    }

-- the jobs before `place` are clear, and the others can close
pub record ClosingOn (plan : Plan) (place : ℕ) (f g : Desk) (first states : List JobState) : Type 0 where
  pub heard : Hears f g (close_all plan (stages_of first))
      (close_from plan place (drop place plan.jobs) (stages_of first))
  pub keeps : Keeps f g
  pub same_kinds : g.floor.board.kinds ≡ f.floor.board.kinds
  pub stages : stages_of states ≡ stages_of first
  pub jobs : length states ≡ length plan.jobs
  pub kinds : g.floor.board.kinds ≡ kinds_of plan.resources
  pub ready : (j : ℕ) (state : JobState) → place ≤ j → slice_get states j ≡ Some state
      → IsReady g.floor.board j (wait_in state.progress) []
  pub kept : AreKept g.floor.board states
  pub clear : (j : ℕ) → j < place → IsClear g.floor.board j
  pub waits : length g.floor.board.waits ≡ length plan.jobs
  pub holds : length g.floor.board.holds ≡ length plan.jobs

-- a worker between two turns can close
pub closing-starts : (plan : Plan) (f : Desk) (states : List JobState) → RunsOn plan f.floor states
    → ClosingOn plan 0 f f states states
closing-starts plan f states runs = record {
  heard = hears-none f (close_all plan (stages_of states));
  keeps = keeps-none f;
  same_kinds = refl;
  stages = refl;
  jobs = runs.jobs;
  kinds = runs.kinds;
  ready = λ j state past got.
      let there : (job : Job) × (slice_get plan.jobs j ≡ Some job)
      = get-there plan.jobs j (omega (arith, get-below states j state got, runs.jobs)) in
      ready-to-end f.floor.board j (wait_in state.progress) (steps_left there.0.steps state.progress)
      (runs.ready j there.0 state there.1 got);
  kept = runs.kept;
  clear = λ j below. absurd (omega (arith, below));
  waits = runs.waits;
  holds = runs.holds;
}

module _ (plan : Plan) (place : ℕ) (f g k : Desk) (first states : List JobState) (state after d : JobState) (a : Actor)
    (on : ClosingOn plan place f g first states) (below : place < length plan.jobs)
    (is : state ≡ get_or states place d) where
  its-state : slice_get states place ≡ Some state
  its-state = rw is (slice_get-get_or states place d (omega (arith, below, on.jobs)))

  pub close-held : (role a).place ≡ place → state.held.items ≡ places_held g.floor.board a.place
  close-held there = rw there (on.kept.held place state its-state)

  pub close-stands : (role a).place ≡ place → (role a).resources ≡ plan.resources
      → Stands a g.floor (wait_in state.progress) []
  close-stands there resources = record {
    kinds = on.kinds ∙ ap kinds_of (sym resources);
    ready = rw there (on.ready place state (omega arith) its-state);
  }

  module _ (resources : (role a).resources ≡ plan.resources) (turn : (role a).turn ≡ plan.turns)
      (there : (role a).place ≡ place) (job : slice_get plan.jobs place ≡ Some (role a).job)
      (gave : GaveUp a g (close a state.progress) same k) (clear : IsClear k.floor.board a.place)
      (held : after.held.items ≡ places_held k.floor.board a.place) (same_stage : stage_of after ≡ stage_of state) where
    abbrev rest : Heard → Heard
    rest h = close_from plan (place + 1) (drop (place + 1) plan.jobs) (stages_of first) h

    step-is : (h : Heard) → close_from plan place (drop place plan.jobs) (stages_of first) h
        ≡ rest (close a state.progress h)
    step-is h =
        let split : drop place plan.jobs ≡ (role a).job ∷ drop (place + 1) plan.jobs
        = drop-at plan.jobs place (role a).job job in
        let its_stage : slice_get (stages_of first) place ≡ Some (stage_of state)
        = ap (λ ps. slice_get ps place) (sym on.stages)
        ∙ get-map (λ (s : JobState). stage_of s) states place state its-state in
        let found : progress_at (stages_of first) place ≡ state.progress
        = ap (λ (s : Stage). s.progress)
        (get_or_from_slice_get (stages_of first) place (stage_of state) done_stage its_stage) in
        ap (λ jobs. close_from plan place jobs (stages_of first) h) split
        ∙ ap rest (λ i. after_last_gives (record {
          resources = sym resources i;
          turn = sym turn i;
          place = sym there i;
          job = (role a).job;
        }) (found i) h)

    other-place : (j : ℕ) → j ≢ place → j ≢ a.place
    other-place j other = λ e. other (e ∙ there)

    clears : (j : ℕ) → j < place + 1 → (j ≡ place) ⊎ (j ≢ place) → IsClear k.floor.board j
    clears j before (inl here) = rw (here, ← there) clear
    clears j before (inr other) =
        let was : IsClear g.floor.board j = on.clear j (omega (arith, before, other)) in
        record {
          waits = gave.moves.waits.at j (other-place j other) ∙ was.waits;
          holds = ap (map (λ h. h.at)) (gave.moves.holds.at j (other-place j other)) ∙ was.holds;
        }

    keeps : (j : ℕ) (s : JobState) → slice_get (set states place after) j ≡ Some s → (j ≡ place) ⊎ (j ≢ place)
        → s.held.items ≡ places_held k.floor.board j
    keeps j s got (inl here) =
        let now : slice_get (set states place after) place ≡ Some after = get-set_here states place state after
        its-state in
        let here_too : slice_get (set states place after) place ≡ Some s = rw here at got in
        let same_state : s ≡ after = cc in
        rw (here, same_state, ← there) held
    keeps j s got (inr other) =
        let before : slice_get states j ≡ Some s
        = sym (get-set_else states place j after (λ e. other (sym e))) ∙ got in
        on.kept.held j s before ∙ ap (map (λ h. h.at)) (sym (gave.moves.holds.at j (other-place j other)))

    pub closes-next : ClosingOn plan (place + 1) f k first (set states place after)
    closes-next =
        let step : Hears g k (close_from plan place (drop place plan.jobs) (stages_of first)) rest = record {
          later = gave.hears.later;
          answers = gave.hears.answers;
          told = gave.hears.told;
          plays = λ more. step-is (heard g (gave.hears.answers ++ more)) ∙ ap rest (gave.hears.plays more);
        } in
        record {
          heard = hears-then f g k (close_all plan (stages_of first))
              (close_from plan place (drop place plan.jobs) (stages_of first)) rest on.heard step;
          keeps = keeps-then f g k on.same_kinds on.keeps gave.keeps;
          same_kinds = gave.moves.kinds ∙ on.same_kinds;
          stages = map-set (λ (s : JobState). stage_of s) states place after
              ∙ ap (set (stages_of states) place) same_stage
              ∙ set-same (stages_of states) place (stage_of state)
              (get-map (λ (s : JobState). stage_of s) states place state its-state) ∙ on.stages;
          jobs = length-set states place after ∙ on.jobs;
          kinds = gave.moves.kinds ∙ on.kinds;
          ready = λ j s past got.
              let other : j ≢ place = λ e. absurd (omega (arith, past, e)) in
              let before : slice_get states j ≡ Some s
              = sym (get-set_else states place j after (λ e. other (sym e))) ∙ got in
              moved-ready a.place j g.floor.board g.floor.parties [] k.floor.board k.floor.parties []
              (wait_in s.progress) [] gave.moves
              (other-place j other) (on.ready j s (omega (arith, past)) before);
          kept = record { held = λ j s got. keeps j s got (cases_eq j place) };
          clear = λ j before. clears j before (cases_eq j place);
          waits = gave.moves.waits.long ∙ on.waits;
          holds = gave.moves.holds.long ∙ on.holds;
        }

pub closing-ends : (plan : Plan) (place : ℕ) (f g : Desk) (first states : List JobState)
    → ClosingOn plan place f g first states → length plan.jobs ≡ place
    → Hears f g (close_all plan (stages_of first)) same
closing-ends plan place f g first states on all =
    subst (λ jobs. Hears f g (close_all plan (stages_of first)) (close_from plan place jobs (stages_of first)))
    (drop_all place plan.jobs (omega (arith, all))) on.heard

pub all-clear : (plan : Plan) (place : ℕ) (f g : Desk) (first states : List JobState)
    → ClosingOn plan place f g first states → length plan.jobs ≡ place → AllClear plan g.floor
all-clear plan place f g first states on all = record {
  at = λ j below. on.clear j (omega (arith, below, all));
  waits = on.waits;
  holds = on.holds;
}

-- a worker's work
worked : (plan : Plan) (f last g : Desk) (states mid ends : List JobState)
    → Hears f last (turns_of plan plan.turns (stages_of states)) (machine_so (stages_of mid))
    → RunsOn plan last.floor mid
    → Went plan f (stages_of states) last (stages_of mid) → Hears last g (close_all plan (stages_of mid)) same
    → Keeps last g → AllClear plan g.floor → stages_of ends ≡ stages_of mid → HasWorked plan f states ends g
worked plan f last g states mid ends turns runs went closing keeps clear stages = record {
  last = last;
  long = sym (length-map ends (λ (s : JobState). stage_of s)) ∙ ap length stages
      ∙ length-map mid (λ (s : JobState). stage_of s) ∙ runs.jobs;
  turns = subst (λ p. Hears f last (turns_of plan plan.turns (stages_of states)) (machine_so p)) (sym stages) turns;
  went = subst (λ p. Went plan f (stages_of states) last p) (sym stages) went;
  closing = subst (λ p. Hears last g (close_all plan p) same) (sym stages) closing;
  keeps = keeps;
  clear = clear;
}

-- the same, where both were made
pub worked-ok : {T E : Type 0} (r : Result T E) (plan : Plan) (f last g : Desk) (states mid ends : List JobState)
    → Hears f last (turns_of plan plan.turns (stages_of states)) (machine_so (stages_of mid))
    → RunsOn plan last.floor mid
    → Went plan f (stages_of states) last (stages_of mid)
    → OnOk r (Hears last g (close_all plan (stages_of mid)) same) → OnOk r (Keeps last g)
    → OnOk r (AllClear plan g.floor) → OnOk r (stages_of ends ≡ stages_of mid)
    → OnOk r (HasWorkedOn plan f states ends g.floor g.waits)
worked-ok (Ok x) plan f last g states mid ends turns runs went closing keeps clear stages = record {
  gate = g.gate;
  works = worked plan f last g states mid ends turns runs went closing keeps clear stages;
}
worked-ok (Err e) plan f last g states mid ends turns runs went closing keeps clear stages = tt
