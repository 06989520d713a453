-- What each part of a job's turn adds to its story.
use Rattle.std.proofs.Common.{◌≡◌, ◌≢◌, ◌⊎◌, inl, inr, ℕ, suc, ◌+◌, ◌-◌, ◌<◌, ◌≤◌, ◌==◌, List, [], ◌∷◌, ◌++◌, Bool, true, false, nat_lt, Some, None, length, drop, slice_get, refl, sym, ap, subst, ◌∙◌, eq-eqb, ltb-true, ltb-false, arith}
use Rattle.std.specs.Bool.{if◌then◌else◌}
use Rattle.std.specs.Option.{option_map_or}
use Rattle.cqs_plan.specs.declared.plans.plan.Plan.{Plan}
use Rattle.cqs_plan.specs.declared.plans.step.Step.{Step}
use Rattle.cqs_plan.specs.declared.plans.step.Step.TheVariants.{Take, Give, Down, Await, Arrive, Work}
use Rattle.cqs_plan.specs.declared.floors.answers.FloorTake.{FloorTake}
use Rattle.cqs_plan.specs.declared.floors.answers.FloorTake.TheVariants.{Now, Waits}
use Rattle.cqs_plan.specs.declared.floors.answers.FloorGive.{FloorGive}
use Rattle.cqs_plan.specs.declared.floors.answers.FloorDown.{FloorDown}
use Rattle.cqs_plan.specs.declared.floors.answers.FloorLook.{FloorLook}
use Rattle.cqs_plan.specs.declared.floors.answers.FloorLook.TheVariants.{Pending, Granted}
use Rattle.cqs_plan.specs.declared.floors.answers.FloorLeave.{FloorLeave}
use Rattle.cqs_plan.specs.declared.floors.answers.FloorLeave.TheVariants as leave
use Rattle.cqs_plan.specs.PlanSteps.{may_wait}
use Rattle.cqs_plan.specs.Floor.{round_of}
use Rattle.cqs_core.specs.Keyed.{without}
use Rattle.cqs_plan.specs.FloorCalls.{take_answer, give_answer, down_answer, wait_answer, arrive_answer, look_answer, leave_answer, after_give, after_look}
use Rattle.cqs_plan.specs.Runnable.{AreMakeable, kinds_of}
use Rattle.cqs_turns_report.specs.declared.lines.Told.{Told}
use Rattle.cqs_turns_report.specs.declared.lines.Told.TheVariants as told
use Rattle.cqs_turns_report.specs.declared.states.End.{End}
use Rattle.cqs_turns_report.specs.declared.states.End.TheVariants as end
use Rattle.cqs_turns_report.specs.declared.states.Patience.{Patience}
use Rattle.cqs_turns_report.specs.declared.states.Progress.{Progress}
use Rattle.cqs_turns_report.specs.declared.states.Progress.TheVariants.{Stepping, Working, Waiting, Ended}
use Rattle.cqs_turns_report.specs.Ready.{IsReady, CanRetry, CanRetryIn, wait_in, steps_left, is_held, held_next, with_place}
use Rattle.cqs_turns_report.specs.Roles.{wait_at, is_holdable_at, left_with}
use Rattle.cqs_turns_report.specs.Turns.{Role, Scene, Acted, event, take_told, give_told, leave_told, down_told, wait_told, arrive_told, on_take, on_give, on_down, on_wait, on_arrive, on_leave, on_retry, after_gives, after_coming, stop_or, after_steps, after_last_step, after_giving_up, after_leave_at, after_look_at, after_looking, after_retrying, after_waiting_long, after_acting, is_over_time, may_retry, retries, moved, retried, patience_after, end_of, places_held, left_at, go_on}
use Rattle.cqs_turns_report.proofs.Readied.{first-given, first-ready, leave-held, leave-ready, look-held, after_looking-ready, can-give, on_arrive-held, on_down-held, on_give-left, on_wait-held}
use Rattle.cqs_turns_report.proofs.Stepping.{after_step-ready}
use Rattle.cqs_turns_laws.specs.Events.{Line}
use Rattle.cqs_turns_laws.specs.Stories.{TellsOf, Stage, AtStep, InWait, Closing, Over, Story, IsDue, IsInTime, IsOutwaited, lasts, AreInOrder, is_retry, own_lines, retries_in}
use Rattle.cqs_turns_laws.specs.Stories as story
use Rattle.cqs_turns_laws.proofs.Lifting.{IsActor, CanGive, HasWait, IsToldByEvents, line_of}
use Rattle.cqs_turns_laws.proofs.OwnTurn.{retries-gone, retries-may}
use Rattle.cqs_turns_laws.proofs.StoryLines.{own-push, other-push, order-push, each-push, IsPast, past-before}
use Rattle.cqs_turns_laws.proofs.StoryStages.{give-tells, down-tells, held_at, IsAt, came-held, count-plain, count-retry, held_left, in-time, left-held, may-not, may-so, over-time, take-held, tells-plain, works-so, not-come, ends-of, step-there, steps-past, rest-there}

-- a look uses up no retry
look-used : (r : Role) (x : Patience) (answer : FloorLook) → (after_look_at r x answer).used ≡ x.used
look-used r x Pending = refl
look-used r x (Granted element) = refl

module _ (plan : Plan) (P : Scene → List Line → Type 0) (told_so : IsToldByEvents plan P) where
  module _ (r : Role) (actor : IsActor plan r) (able : AreMakeable (kinds_of plan.resources) r.job.steps)
      (before : List Line) (used : ℕ) where
    -- In the job's turn: its own lines are its story so far, with so many retries, and those of the others are as
    -- before; and it holds what its story says.
    pub record Walked (s : Scene) (stage : Stage) : Type 0 where
      pub lines : List Line
      pub holds : P s lines
      pub story : Story r.job (own_lines r.place lines) stage
      pub count : retries_in (own_lines r.place lines) ≡ used
      pub others : (j : ℕ) → j ≢ r.place → own_lines j lines ≡ own_lines j before
      pub held : places_held s.floor r.place ≡ held_at stage
      pub past : (n : ℕ) (x : Line) → slice_get lines n ≡ Some x → IsPast r.turn (r.place + 1) x
      pub order : AreInOrder lines

    -- what the job's turn comes to, where it last moved in a turn
    pub record Acts (moved : ℕ) (a : Acted) : Type 0 where
      pub stage : Stage
      pub walked : Walked a.scene stage
      pub is : IsAt r.job (suc r.turn) moved a.progress stage

    -- one more line of the job
    tells : (s t : Scene) (stage next : Stage) (words : Told) (w : Walked s stage) → is_retry words ≡ false
        → P t (w.lines ++ line_of r words ∷ [])
        → Story r.job (own_lines r.place w.lines ++ line_of r words ∷ []) next
        → places_held t.floor r.place ≡ held_at next → Walked t next
    tells s t stage next words w plain holds goes held = record {
      lines = w.lines ++ line_of r words ∷ [];
      holds = holds;
      story = subst (λ ls. Story r.job ls next) (sym (own-push r.place w.lines (line_of r words) refl)) goes;
      count = ap retries_in (own-push r.place w.lines (line_of r words) refl)
          ∙ count-plain (own_lines r.place w.lines) (line_of r words) plain ∙ w.count;
      others = λ j other.
          other-push j w.lines (line_of r words) (λ same. other (sym same)) ∙ w.others j other;
      held = held;
      past = each-push (IsPast r.turn (r.place + 1)) w.lines (line_of r words) w.past (inr (refl, omega arith));
      order = order-push w.lines (line_of r words) w.order (λ n x got. past-before r words x (w.past n x got));
    }

    -- no more line
    still : (s : Scene) (stage next : Stage) (w : Walked s stage) → Story r.job (own_lines r.place w.lines) next
        → places_held s.floor r.place ≡ held_at next → Walked s next
    still s stage next w goes held =
        record {
          lines = w.lines;
          holds = w.holds;
          story = goes;
          count = w.count;
          others = w.others;
          held = held;
          past = w.past;
          order = w.order;
        }

    after_gives-walks : (e : End) (places : List ℕ) (s : Scene) → IsReady s.floor r.place None []
        → Walked s (Closing e r.turn places) → Walked (after_gives r places s) (Closing e r.turn [])
    after_gives-walks e [] s ready w = w
    after_gives-walks e (at ∷ places) s ready w =
        let held : places_held s.floor r.place ≡ at ∷ places = w.held in
        let first : at == at ≡ true = eq-eqb at at refl in
        let there : is_held at (at ∷ places) ≡ true = rw first refl in
        let can : CanGive s.floor r.place at = record {
          job = ready.job;
          held = rw held there;
          kind = (rw held at ready.holdable).0;
        } in
        let answer : FloorGive = give_answer s.floor at r.place in
        after_gives-walks e places (on_give r at s) (first-ready s.floor r.place at answer ready)
        (tells s (on_give r at s) (Closing e r.turn (at ∷ places)) (Closing e r.turn places) (give_told at answer) w
        (tells-plain (give-tells at answer))
        (told_so.gives r at s w.lines actor can w.holds)
        (story.gives_back (own_lines r.place w.lines) e at places (line_of r (give_told at answer))
        (give-tells at answer)
        w.story) (first-given s.floor r.place at places answer ready.job held))

    after_last_step-walks : (next from : ℕ) (held : List ℕ) (s : Scene) → IsReady s.floor r.place None []
        → length r.job.steps ≤ next → from ≡ r.turn → Walked s (AtStep next from held)
        → Acts r.turn (after_last_step r s)
    after_last_step-walks next from held s ready past early w =
        let made : Walked s (Closing end.Done r.turn held)
        = still s (AtStep next from held) (Closing end.Done r.turn held) w
        (subst (λ n. Story r.job (own_lines r.place w.lines) (Closing end.Done n held)) early
        (story.has_made_all (own_lines r.place w.lines) next from held past w.story)) w.held in
        let own : Walked s (Closing end.Done r.turn (places_held s.floor r.place))
        = subst (λ h. Walked s (Closing end.Done r.turn h)) (sym w.held) made in
        let t : Scene = after_gives r (places_held s.floor r.place) s in
        let given : Walked t (Closing end.Done r.turn [])
        = after_gives-walks end.Done (places_held s.floor r.place) s ready own in
        record {
          stage = Over end.Done;
          walked = tells t (event r t t.floor told.Done) (Closing end.Done r.turn []) (Over end.Done) told.Done given
              refl
              (told_so.ends r t given.lines actor given.holds)
              (story.is_done (own_lines r.place given.lines) (line_of r told.Done) refl given.story) given.held;
          is = refl;
        }

    -- a step that is made at once, with its line
    makes : (next from : ℕ) (held : List ℕ) (step : Step) (words : Told) (s t : Scene)
        → slice_get r.job.steps next ≡ Some step
        → TellsOf step words → from ≡ r.turn → (w : Walked s (AtStep next from held))
        → P t (w.lines ++ line_of r words ∷ [])
        → places_held t.floor r.place ≡ held_next (places_held s.floor r.place) step
        → Walked t (AtStep (next + 1) r.turn (held_next held step))
    makes next from held step words s t is tells_of early w holds then_held =
        tells s t (AtStep next from held) (AtStep (next + 1) r.turn (held_next held step)) words w
        (tells-plain tells_of) holds
        (story.makes (own_lines r.place w.lines) next from held step (line_of r words) is tells_of (sym early) w.story)
        (then_held ∙ ap (λ h. held_next h step) w.held)

    -- the job goes on with these steps
    abbrev GoesOnWith : ℕ → List ℕ → List Step → Type 0
    GoesOnWith next held rest =
        (t : Scene) → IsReady t.floor r.place None rest → Walked t (AtStep (next + 1) r.turn held)
        → Acts r.turn (after_steps r rest (next + 1) t)

    -- a step that may have to wait
    coming-walks : (next from at round : ℕ) (held : List ℕ) (step : Step) (rest : List Step)
        (on : FloorTake → Scene → Scene)
        (words : FloorTake → Told) (answer : FloorTake) (s : Scene) → slice_get r.job.steps next ≡ Some step
        → may_wait at step ≡ true → ((element : ℕ) → TellsOf step (words (Now element)))
        → ((number : ℕ) → words (Waits number) ≡ told.Waits at round number)
        → ((element : ℕ) → places_held (on (Now element) s).floor r.place
        ≡ held_next (places_held s.floor r.place) step)
        → ((number : ℕ) → places_held (on (Waits number) s).floor r.place ≡ places_held s.floor r.place)
        → from ≡ r.turn
        → (w : Walked s (AtStep next from held)) → P (on answer s) (w.lines ++ line_of r (words answer) ∷ [])
        → IsReady (after_coming next at round on answer s).scene.floor r.place
        (option_map_or wait_in (after_coming next at round on answer s).stops None) rest
        → GoesOnWith next (held_next held step) rest
        → Acts r.turn (stop_or (after_coming next at round on answer s)
        (after_steps r rest (next + 1) (after_coming next at round on answer s).scene))
    coming-walks next from at round held step rest on words (Now element) s is may now later takes keeps early w holds
        ready onward =
        onward (on (Now element) s) ready
        (makes next from held step (words (Now element)) s (on (Now element) s) is (now element) early w holds
        (takes element))
    coming-walks next from at round held step rest on words (Waits number) s is may now later takes keeps early w holds
        ready onward =
        record {
          stage = InWait next at round number r.turn held;
          walked = tells s (on (Waits number) s) (AtStep next from held) (InWait next at round number r.turn held)
              (words (Waits number)) w (ap is_retry (later number)) holds
              (story.waits (own_lines r.place w.lines) next from at round number held step
              (line_of r (words (Waits number))) is may (later number) (sym early) w.story)
              (keeps number ∙ w.held);
          is = (
            next,
            r.turn,
            held,
            step,
            refl,
            is,
            may,
            refl,
            omega arith,
            record { deadline = λ d has. inr (omega arith); within = λ n has. inr (omega arith) },
            refl,
          );
        }

    step-walks : (next from : ℕ) (held : List ℕ) (step : Step) (rest : List Step) (s : Scene)
        → slice_get r.job.steps next ≡ Some step → IsReady s.floor r.place None (step ∷ rest) → from ≡ r.turn
        → Walked s (AtStep next from held) → GoesOnWith next (held_next held step) rest
        → Acts r.turn (after_steps r (step ∷ rest) next s)
    step-walks next from held (Work turns) rest s is ready early w onward = record {
      stage = AtStep (next + 1) (from + lasts turns) held;
      walked = still s (AtStep next from held) (AtStep (next + 1) (from + lasts turns) held) w
          (story.works (own_lines r.place w.lines) next from turns held is w.story) w.held;
      is = (
        from + lasts turns,
        held,
        refl,
        rw early (works-so r.turn turns).0,
        rw early (works-so r.turn turns).1,
      );
    }
    step-walks next from held (Take at) rest s is ready early w onward =
        let answer : FloorTake = take_answer s.floor at r.place in
        coming-walks next from at 0 held (Take at) rest (on_take r at) (take_told at) answer s is (eq-eqb at at refl)
        (λ element. story.takes at element) (λ number. refl)
        (λ element. take-held s.floor r.place at element ready.job) (λ number. refl) early w
        (told_so.takes r at s w.lines actor
        (record { job = ready.job; idle = ready.waits; kind = ready.makeable.0 }) w.holds)
        (after_step-ready r next (Take at) rest s ready) onward
    step-walks next from held (Give at) rest s is ready early w onward =
        let answer : FloorGive = give_answer s.floor at r.place in
        onward (on_give r at s) (after_step-ready r next (Give at) rest s ready)
        (makes next from held (Give at) (give_told at answer) s (on_give r at s) is (give-tells at answer) early w
        (told_so.gives r at s w.lines actor
        (record { job = ready.job; held = ready.makeable.0; kind = can-give s.floor r.place at rest ready }) w.holds)
        (sym (on_give-left s.floor (after_give s.floor at r.place answer) r.place at answer
        (places_held s.floor r.place) (without (λ p. p) at (places_held s.floor r.place)) ready.job refl refl refl)))
    step-walks next from held (Down at) rest s is ready early w onward =
        let answer : FloorDown = down_answer s.floor at in
        onward (on_down r at s) (after_step-ready r next (Down at) rest s ready)
        (makes next from held (Down at) (down_told at answer) s (on_down r at s) is (down-tells at answer) early w
        (told_so.downs r at s w.lines actor ready.makeable.0 w.holds) (on_down-held s.floor r.place at answer))
    step-walks next from held (Await at) rest s is ready early w onward =
        let answer : FloorTake = wait_answer s.floor at in
        coming-walks next from at 0 held (Await at) rest (on_wait r at) (wait_told at) answer s is (eq-eqb at at refl)
        (λ element. story.passes at) (λ number. refl)
        (λ element. on_wait-held s.floor r.place at (Now element))
        (λ number. on_wait-held s.floor r.place at (Waits number)) early w
        (told_so.awaits r at s w.lines actor
        (record { job = ready.job; idle = ready.waits; kind = ready.makeable.0 }) w.holds)
        (after_step-ready r next (Await at) rest s ready) onward
    step-walks next from held (Arrive at) rest s is ready early w onward =
        let answer : FloorTake = arrive_answer s.floor at r.place in
        let round : ℕ = round_of s.floor r.place at in
        coming-walks next from at round held (Arrive at) rest (on_arrive r at) (arrive_told at round) answer s is
        (eq-eqb at at refl)
        (λ element. story.arrives_last at round) (λ number. refl)
        (λ element. on_arrive-held s.floor r.place at (Now element))
        (λ number. on_arrive-held s.floor r.place at (Waits number)) early w
        (told_so.arrives r at s w.lines actor
        (record { job = ready.job; idle = ready.waits; kind = ready.makeable.0 }) w.holds)
        (after_step-ready r next (Arrive at) rest s ready) onward

    after_steps-walks : (steps : List Step) (next from : ℕ) (held : List ℕ) (s : Scene)
        → drop next r.job.steps ≡ steps
        → IsReady s.floor r.place None steps → from ≡ r.turn → Walked s (AtStep next from held)
        → Acts r.turn (after_steps r steps next s)
    after_steps-walks [] next from held s split ready early w =
        after_last_step-walks next from held s ready (steps-past r.job.steps next split) early w
    after_steps-walks (step ∷ rest) next from held s split ready early w =
        step-walks next from held step rest s (step-there r.job.steps next step rest split) ready early w
        (λ t so_ready walked.
        after_steps-walks rest (next + 1) r.turn (held_next held step) t
        (rest-there r.job.steps next step rest split) so_ready refl walked)

    -- why a job gives up: it is due, or has waited too long and has no retry left
    ends-why : (since : ℕ) (lines : List Line) → retries_in lines ≡ used
        → IsDue r.job r.turn ⊎ IsOutwaited r.job since r.turn → IsDue r.job r.turn ⊎ (r.job.retry ≤ used)
        → IsDue r.job r.turn ⊎ (IsOutwaited r.job since r.turn × (r.job.retry ≤ retries_in lines))
    ends-why since lines count (inl due) none = inl due
    ends-why since lines count (inr out) (inl due) = inl due
    ends-why since lines count (inr out) (inr none) = inr (out, omega (arith, none, count))

    -- the job leaves its wait
    leaves-walks : (index at round number since : ℕ) (held : List ℕ) (step : Step) (answer : FloorLeave)
        (s : Scene)
        → slice_get r.job.steps index ≡ Some step → since < r.turn
        → IsDue r.job r.turn ⊎ IsOutwaited r.job since r.turn
        → (answer ≡ leave.Gone → IsDue r.job r.turn ⊎ (r.job.retry ≤ used))
        → (w : Walked s (InWait index at round number since held))
        → P (on_leave r at round number answer s) (w.lines ++ line_of r (leave_told at round number answer) ∷ [])
        → places_held (on_leave r at round number answer s).floor r.place ≡ held_left held step answer
        → Walked (on_leave r at round number answer s) (Closing (end_of answer) r.turn (held_left held step answer))
    leaves-walks index at round number since held step leave.Gone s is early over none w holds then_held =
        tells s (on_leave r at round number leave.Gone s) (InWait index at round number since held)
        (Closing end.GaveUp r.turn held)
        (told.GaveUp at round number) w refl holds
        (story.gives_up (own_lines r.place w.lines) index at round number since held
        (line_of r (told.GaveUp at round number)) refl early
        (ends-why since (own_lines r.place w.lines) w.count over (none refl)) w.story) then_held
    leaves-walks index at round number since held step (leave.Late element) s is early over none w holds then_held =
        tells s (on_leave r at round number (leave.Late element) s) (InWait index at round number since held)
        (Closing end.Late r.turn (held_next held step)) (told.Late at round number) w refl holds
        (story.is_late (own_lines r.place w.lines) index at round number since held step
        (line_of r (told.Late at round number)) is refl early over w.story) then_held

    has-wait : (s : Scene) (at round number : ℕ) (steps : List Step)
        → IsReady s.floor r.place (Some (wait_at at round number)) steps
        → HasWait s.floor r.place at round number
    has-wait s at round number steps ready = record { job = ready.job; waits = ready.waits }

    -- what came for a step is held where it can be
    comes-held : (index at : ℕ) (step : Step) (held : List ℕ) → slice_get r.job.steps index ≡ Some step
        → may_wait at step ≡ true → with_place (is_holdable_at plan.resources at) held at ≡ held_next held step
    comes-held index at step held is may =
        came-held plan.resources at step _ _ held may (able.at index step is)

    after_giving_up-walks : (moved index at round number since : ℕ) (held : List ℕ) (step : Step) (s : Scene)
        (steps : List Step)
        → s.floor.kinds ≡ kinds_of plan.resources
        → IsReady s.floor r.place (Some (wait_at at round number)) steps
        → slice_get r.job.steps index ≡ Some step → may_wait at step ≡ true → since < r.turn
        → IsDue r.job r.turn ⊎ IsOutwaited r.job since r.turn
        → (leave_answer s.floor r.place ≡ leave.Gone → IsDue r.job r.turn ⊎ (r.job.retry ≤ used))
        → Walked s (InWait index at round number since held)
        → Acts moved (after_giving_up r at round number (leave_answer s.floor r.place) s)
    after_giving_up-walks moved index at round number since held step s steps kinds ready is may early over none w =
        let answer : FloorLeave = leave_answer s.floor r.place in
        let t : Scene = on_leave r at round number answer s in
        let then_held : places_held t.floor r.place ≡ held_left held step answer
        = leave-held s.floor plan.resources r.place (wait_at at round number) answer kinds ready.job ready.waits
        ∙ ap (λ h. left_with plan.resources h at answer) w.held
        ∙ left-held plan.resources at step held answer (comes-held index at step held is may) in
        let left : Walked t (Closing (end_of answer) r.turn (held_left held step answer))
        = leaves-walks index at round number since held step answer s is early over none w
        (told_so.leaves r at round number s w.lines actor (has-wait s at round number steps ready) w.holds)
        then_held in
        let own : Walked t (Closing (end_of answer) r.turn (places_held t.floor r.place))
        = subst (λ h. Walked t (Closing (end_of answer) r.turn h)) (sym then_held) left in
        let u : Scene = after_gives r (places_held t.floor r.place) t in
        let given : Walked u (Closing (end_of answer) r.turn [])
        = after_gives-walks (end_of answer) (places_held t.floor r.place) t
        (leave-ready s.floor r.place (wait_at at round number) answer steps ready) own in
        record {
          stage = Over (end_of answer);
          walked = still u (Closing (end_of answer) r.turn []) (Over (end_of answer)) given
              (story.has_left (own_lines r.place given.lines) (end_of answer) r.turn (ends-of answer) given.story)
              given.held;
          is = refl;
        }

    after_looking-walks : (x : Patience) (next index at round number : ℕ) (held : List ℕ) (step : Step)
        (answer : FloorLook) (s : Scene)
        → s.floor.kinds ≡ kinds_of plan.resources
        → IsReady s.floor r.place (Some (wait_at at round number)) (drop next r.job.steps)
        → look_answer s.floor r.place ≡ answer → next ≡ index + 1
        → slice_get r.job.steps index ≡ Some step → may_wait at step ≡ true → x.since < r.turn
        → IsInTime r.job x.since r.turn → Walked s (InWait index at round number x.since held)
        → Acts (after_look_at r x answer).since (after_looking r next at round number answer s)
    after_looking-walks x next index at round number held step Pending s kinds ready same after is may early calm w =
        record {
          stage = InWait index at round number x.since held;
          walked = w;
          is = (
            index,
            x.since,
            held,
            step,
            after,
            is,
            may,
            refl,
            omega (arith, early),
            record {
              deadline = λ d has. inl (omega (arith, calm.deadline d has));
              within = λ n has. inl (omega (arith, calm.within n has));
            },
            refl,
          );
        }
    after_looking-walks x next index at round number held step (Granted element) s kinds ready same after is may
        early calm w =
        let words : Told = told.Served at round number element in
        let t : Scene = event r s (after_look s.floor r.place (Granted element)) words in
        let then_held : places_held t.floor r.place ≡ held_next held step
        = look-held s.floor plan.resources r.place (wait_at at round number) element kinds ready.job ready.waits
        ∙ ap (λ h. with_place (is_holdable_at plan.resources at) h at) w.held
        ∙ comes-held index at step held is may in
        let served : Walked t (AtStep (index + 1) r.turn (held_next held step))
        = tells s t (InWait index at round number x.since held) (AtStep (index + 1) r.turn (held_next held step)) words
        w refl
        (told_so.serves r at round number element s w.lines actor
        (has-wait s at round number (drop next r.job.steps) ready) same w.holds)
        (story.is_served (own_lines r.place w.lines) index at round number x.since element held step
        (line_of r words) is refl early calm w.story) then_held in
        after_steps-walks (drop next r.job.steps) next r.turn (held_next held step) t refl
        (after_looking-ready s.floor r.place (wait_at at round number) element (drop next r.job.steps) ready)
        refl (subst (λ n. Walked t (AtStep n r.turn (held_next held step))) (sym after) served)

  module _ (r : Role) (actor : IsActor plan r) (able : AreMakeable (kinds_of plan.resources) r.job.steps)
      (before : List Line) where
    -- what the turn of the job comes to, and its patience then
    pub record Turns (a : Acted) (y : Patience) : Type 0 where
      pub stage : Stage
      pub walked : Walked r actor able before y.used a.scene stage
      pub is : IsAt r.job (suc r.turn) y.since a.progress stage

    -- a turn in which no retry is used up
    calm-turns : (used : ℕ) (y : Patience) (a : Acted) → Acts r actor able before used y.since a → y.used ≡ used
        → Turns a y
    calm-turns used y a acts same = record {
      stage = acts.stage;
      walked = subst (λ n. Walked r actor able before n a.scene acts.stage) (sym same) acts.walked;
      is = acts.is;
    }

    -- one in which the job makes the step again at which it waits
    retrying-turns : (x : Patience) (next index at round number : ℕ) (held : List ℕ) (s : Scene)
        → s.floor.kinds ≡ kinds_of plan.resources
        → IsReady s.floor r.place (Some (wait_at at round number)) (drop next r.job.steps)
        → (may_retry r x ≡ true → CanRetry s.floor r.place r.job.steps next) → next ≡ index + 1
        → x.since < r.turn → is_over_time r x ≡ true → may_retry r x ≡ true
        → leave_answer s.floor r.place ≡ leave.Gone
        → Walked r actor able before x.used s (InWait index at round number x.since held)
        → Turns (after_retrying r next at round number s) (retried r x)
    retrying-turns x next index at round number held s kinds ready again after early over may gone w =
        let words : Told = told.Retries at round number in
        let t : Scene = on_retry r at round number s in
        let own : List Line = own_lines r.place w.lines in
        let so = may-so r x may in
        let out : IsOutwaited r.job x.since r.turn = not-due (over-time r x over) in
        let then_held : places_held t.floor r.place ≡ held
        = leave-held s.floor plan.resources r.place (wait_at at round number) leave.Gone kinds ready.job ready.waits
        ∙ w.held in
        let told_it : Story r.job (own ++ line_of r words ∷ []) (AtStep index r.turn held)
        = story.tries_again own index at round number x.since held (line_of r words) refl early out
        (λ d has. not-come r.job.deadline r.turn d so.0 has) (omega (arith, so.1, w.count)) w.story in
        let walked : Walked r actor able before (x.used + 1) t (AtStep index r.turn held) = record {
          lines = w.lines ++ line_of r words ∷ [];
          holds = told_so.retries r at round number s w.lines actor
              (record { job = ready.job; waits = ready.waits }) gone w.holds;
          story = subst (λ ls. Story r.job ls (AtStep index r.turn held))
              (sym (own-push r.place w.lines (line_of r words) refl)) told_it;
          count = ap retries_in (own-push r.place w.lines (line_of r words) refl)
              ∙ count-retry own (line_of r words) refl ∙ ap (λ n. n + 1) w.count;
          others = λ j other.
              other-push j w.lines (line_of r words) (λ same. other (sym same)) ∙ w.others j other;
          held = then_held;
          past = each-push (IsPast r.turn (r.place + 1)) w.lines (line_of r words) w.past (inr (refl, omega arith));
          order = order-push w.lines (line_of r words) w.order (λ n y got. past-before r words y (w.past n y got));
        } in
        let first : next - 1 ≡ index = omega (arith, after) in
        calm-turns (x.used + 1) (retried r x) (after_retrying r next at round number s)
        (after_steps-walks r actor able before (x.used + 1) (drop (next - 1) r.job.steps) (next - 1) r.turn held t refl
        (again may).ready refl
        (subst (λ n. Walked r actor able before (x.used + 1) t (AtStep n r.turn held)) (sym first) walked)) refl
      where
        not-due : IsDue r.job r.turn ⊎ IsOutwaited r.job x.since r.turn → IsOutwaited r.job x.since r.turn
        not-due (inr out) = out
        not-due (inl due) =
            let late : r.turn < due.0 = not-come r.job.deadline r.turn due.0 (may-so r x may).0 due.1 in
            absurd (omega (arith, late, due.2))

    none-left : (x : Patience) (answer : FloorLeave) → retries r x answer ≡ false → answer ≡ leave.Gone
        → IsDue r.job r.turn ⊎ (r.job.retry ≤ x.used)
    none-left x answer not gone =
        may-not r x (ap (retries r x) (sym gone) ∙ not)

    if-turns : (b : Bool) (a c : Acted) (y z : Patience) → (b ≡ true → Turns a y) → (b ≡ false → Turns c z)
        → Turns (if b then a else c) (if b then y else z)
    if-turns true a c y z here there = here refl
    if-turns false a c y z here there = there refl

    pub after_acting-walks : (x : Patience) (p : Progress) (stage : Stage) (s : Scene)
        → s.floor.kinds ≡ kinds_of plan.resources → IsAt r.job r.turn x.since p stage
        → IsReady s.floor r.place (wait_in p) (steps_left r.job.steps p) → CanRetryIn s.floor r x p
        → Walked r actor able before x.used s stage
        → Turns (after_acting r x p s) (patience_after r x p s)
    after_acting-walks x (Stepping next) stage s kinds is ready again w =
        calm-turns x.used (moved r x) (go_on r next s)
        (after_steps-walks r actor able before x.used (drop next r.job.steps) next r.turn is.0 s refl ready refl
        (subst (λ y. Walked r actor able before x.used s y) is.1 w)) refl
    after_acting-walks x (Working next until) stage s kinds is ready again w =
        if-turns (nat_lt r.turn until) (left_at s (Working next until)) (go_on r next s) x (moved r x)
        (λ early.
        let within : r.turn < until = ltb-true r.turn until early in
        let own : is.0 ≡ until = is.4 (omega (arith, within)) in
        record {
          stage = stage;
          walked = w;
          is = (is.0, is.1, is.2, λ past. omega (arith, past, within, own), λ more. own);
        })
        (λ late.
        let past : until ≤ r.turn = ltb-false r.turn until late in
        calm-turns x.used (moved r x) (go_on r next s)
        (after_steps-walks r actor able before x.used (drop next r.job.steps) next is.0 is.1 s refl ready (is.3 past)
        (subst (λ y. Walked r actor able before x.used s y) is.2 w)) refl)
    after_acting-walks x (Waiting next at round number) stage s kinds is ready again w =
        let since : x.since ≡ is.1 = is.10 in
        let waits : Walked r actor able before x.used s (InWait is.0 at round number x.since is.2)
        = subst (λ n. Walked r actor able before x.used s (InWait is.0 at round number n is.2)) (sym since)
        (subst (λ y. Walked r actor able before x.used s y) is.7 w) in
        let early : x.since < r.turn = omega (arith, since, is.8) in
        let answer : FloorLeave = leave_answer s.floor r.place in
        let look : FloorLook = look_answer s.floor r.place in
        if-turns (is_over_time r x) (after_waiting_long r x next at round number answer s)
        (after_looking r next at round number look s) (after_leave_at r x answer) (after_look_at r x look)
        (λ over.
        if-turns (retries r x answer) (after_retrying r next at round number s)
        (after_giving_up r at round number answer s) (retried r x) x
        (λ more.
        retrying-turns x next is.0 at round number is.2 s kinds ready again is.4 early over
        (retries-may r x answer more) (retries-gone r x answer more) waits)
        (λ none.
        calm-turns x.used x (after_giving_up r at round number answer s)
        (after_giving_up-walks r actor able before x.used x.since is.0 at round number x.since is.2 is.3 s
        (drop next r.job.steps) kinds ready is.5 is.6 early (over-time r x over) (none-left x answer none) waits) refl))
        (λ calm.
        calm-turns x.used (after_look_at r x look) (after_looking r next at round number look s)
        (after_looking-walks r actor able before x.used x next is.0 at round number is.2 is.3 look s kinds ready refl
        is.4 is.5 is.6 early (in-time r x calm) waits) (look-used r x look))
    after_acting-walks x (Ended e) stage s kinds is ready again w =
        record { stage = stage; walked = w; is = is }
