-- What a step of a worker's job adds to the waits that it was told, and to what was taken.
use Rattle.std.proofs.Common.{◌≡◌, ℕ, ◌+◌, ◌<◌, ◌≤◌, List, [], true, false, cond, Option, Some, None, IsSome, map, set, get_or, slice_get, length, eq-eqb, ne_eqb, ◌≢◌, ◌⊎◌, inl, inr, refl, sym, ap, subst, ◌∙◌, arith}
use Rattle.std.proofs.lemmas.List.{append-nil, get_or-set_same, get_or-set_other, get_or_past, length-set}
use Rattle.std.proofs.lemmas.List.Elements.{All-nil}
use Rattle.cqs_plan.specs.declared.plans.step.Step.{Step}
use Rattle.cqs_plan.specs.declared.plans.step.Step.TheVariants.{Take}
use Rattle.cqs_plan.specs.declared.floors.answers.FloorTake.{FloorTake}
use Rattle.cqs_plan.specs.declared.floors.answers.FloorTake.TheVariants.{Now, Waits}
use Rattle.cqs_plan.specs.declared.plans.kind.Kind.{Kind}
use Rattle.cqs_plan.specs.declared.plans.kind.Kind.TheVariants as kind
use Rattle.cqs_plan.specs.PlanSteps.{is_take, may_wait}
use Rattle.cqs_plan.specs.Floor.{PlainFloor, IsHoldable, IsLatch, HasRound}
use Rattle.cqs_turns_report.specs.declared.actors.Actor.{Actor}
use Rattle.cqs_turns_report.specs.declared.states.End.TheVariants as end
use Rattle.cqs_turns_report.specs.declared.states.Progress.{Progress}
use Rattle.cqs_turns_report.specs.declared.states.Progress.TheVariants.{Stepping, Waiting, Ended}
use Rattle.cqs_turns_report.proofs.Moved.{may-take}
use Rattle.std.proofs.lemmas.Bool.{cases_eq, cases_lt}
use Rattle.cqs_floor_shared.specs.AnswerEntries.{came_entries}
use Rattle.cqs_floor_shared.specs.Shared.{kind_at, came_of}
use Rattle.cqs_floor_shared.specs.Calls.{Takes, Comes}
use Rattle.cqs_work.specs.Desk.{Desk, with_answer}
use Rattle.cqs_work.specs.Roles.{same}
use Rattle.cqs_work.specs.Doing.{after_stop}
use Rattle.cqs_work.specs.declared.waits.Waited.{Waited}
use Rattle.cqs_work.specs.Noted.{drawn_by, HasPermits, told_at, as_draw, IsNoted}
use Rattle.cqs_work.specs.Takes.{Tallies, took}
use Rattle.cqs_work.specs.Causes.{IsCaused, last_wait}
use Rattle.cqs_work.specs.Adds.{Adds, Keeps}
use Rattle.cqs_work.proofs.Adding.{took-here, took-else, call-noted, told-is, told-whose, told-else, ones_of, take-told}
use Rattle.cqs_work.proofs.Causing.{last-own, IsNext, tally-next, tally-crowded}
use Rattle.cqs_work.proofs.StepNeeds.{drop-at}

-- how a job's turn ends with a step that may wait
abbrev pub stop_of : ℕ → ℕ → ℕ → Option FloorTake → Option Progress
stop_of next at round (Some (Now element)) = None
stop_of next at round (Some (Waits number)) = Some (Waiting (next + 1) at round number)
stop_of next at round None = Some (Ended end.Crowded)

-- a step by which the job is told no wait, and takes nothing
pub adds-plain : (a : Actor) (f g : Desk) (next : ℕ) (step : Step) (q : Progress)
    → slice_get a.job.now.steps next ≡ Some step → IsNext next q → ((at : ℕ) → is_take at step ≡ false)
    → IsCaused a.job.now a.place g q → Keeps f g → Adds a.job.now a.place f (Stepping next) g q
adds-plain a f g next step q its_step goes_on no_take cause keeps = record {
  more = [];
  waits = keeps.waits ∙ sym (append-nil f.waits);
  whose = All-nil (λ (w : Waited). w.job ≡ a.place);
  over = λ over. absurd over;
  came = λ j other. keeps.came j;
  noted = keeps.noted;
  tally = λ noted at permits.
      let none : cond {A = ℕ} (is_take at step) 1 0 ≡ 0 = ap (λ b. cond {A = ℕ} b 1 0) (no_take at) in
      tally-next at a.job.now.steps next step (took f.floor at) (took g.floor at) q its_step
      (drop-at a.job.now.steps next step its_step) goes_on (omega (arith, keeps.tally noted at permits, none));
  caused = λ noted its. cause;
}

-- how many takes of a resource a step is that was answered so
abbrev takes_of : ℕ → Step → Option FloorTake → ℕ
takes_of q step (Some answer) = cond {A = ℕ} (is_take q step) 1 0
takes_of q step None = 0

-- a step by which the job comes to take, to wait or to arrive, and may be told a wait
module _ (a : Actor) (f g : Desk) (next at round : ℕ) (step : Step) (after : PlainFloor) (held : List (List ℕ))
    (its_step : slice_get a.job.now.steps next ≡ Some step) (may : may_wait at step ≡ true)
    (some : IsSome (kind_at f.floor at)) (kinds : g.floor.board.kinds ≡ f.floor.board.kinds) where
  came-with : (got : Option FloorTake) (comes : Comes f.floor at round a.place after held got g.floor)
      → came_of g.floor a.place ≡ true → comes.with_it ≡ true
  came-with got comes had = go (cases_lt a.place (length f.floor.came))
    where
      now : came_of g.floor a.place ≡ get_or (set f.floor.came a.place comes.with_it) a.place false
      now = ap (λ l. get_or l a.place false) comes.came

      go : (a.place < length f.floor.came) ⊎ (length f.floor.came ≤ a.place) → comes.with_it ≡ true
      go (inl below) = sym (get_or-set_same f.floor.came a.place comes.with_it false below) ∙ sym now ∙ had
      go (inr past) =
          let none : get_or (set f.floor.came a.place comes.with_it) a.place false ≡ false
          = get_or_past (set f.floor.came a.place comes.with_it) a.place false
          (omega (arith, past, length-set f.floor.came a.place comes.with_it)) in
          absurd (cc (now, none, had))

  came-cause : (got : Option FloorTake) → Comes f.floor at round a.place after held got g.floor
      → g.waits ≡ with_answer f.waits at round a.place got
      → IsCaused a.job.now a.place g (after_stop next (stop_of next at round got))
  came-cause (Some (Now element)) comes waits = tt
  came-cause (Some (Waits number)) comes waits = record {
    last = ap (last_wait a.place) waits
        ∙ last-own a.place f.waits (record { at = at; round = round; number = number; job = a.place }) refl;
    kind = subst IsSome (ap (λ ks. slice_get ks at) (sym kinds)) some;
    served = λ had. comes.delivered number (came-with (Some (Waits number)) comes had) refl;
  }
  came-cause None comes waits = record {
    at = at;
    round = round;
    step = step;
    its_step = record { place = next; there = its_step };
    waits = may;
    worn = let worn = comes.worn refl in omega (arith, worn, ap (λ l. get_or l at 0) comes.sees.same.limits);
  }

  came-tally : (got : Option FloorTake) (q : ℕ) → took g.floor q ≡ took f.floor q + takes_of q step got
      → Tallies q a.job.now.steps (took f.floor q) (Stepping next) (took g.floor q)
      (after_stop next (stop_of next at round got))
  came-tally (Some (Now element)) q is =
      tally-next q a.job.now.steps next step (took f.floor q) (took g.floor q) (Stepping (next + 1)) its_step
      (drop-at a.job.now.steps next step its_step) refl is
  came-tally (Some (Waits number)) q is =
      tally-next q a.job.now.steps next step (took f.floor q) (took g.floor q) (Waiting (next + 1) at round number)
      its_step (drop-at a.job.now.steps next step its_step) refl is
  came-tally None q is =
      tally-crowded q a.job.now.steps next (took f.floor q) (took g.floor q) (omega (arith, is))

  came-adds : (got : Option FloorTake) (comes : Comes f.floor at round a.place after held got g.floor)
      → g.waits ≡ with_answer f.waits at round a.place got
      → (HasPermits (kind_at f.floor at)
      → drawn_by (came_entries (kind_at f.floor at) round f.floor.number got comes.drew)
      ≡ map (as_draw f.floor.number) (told_at at (with_answer [] at round a.place got)))
      → (IsNoted f → (q : ℕ) → HasPermits (kind_at f.floor q)
      → took g.floor q ≡ took f.floor q + takes_of q step got)
      → Adds a.job.now a.place f (Stepping next) g (after_stop next (stop_of next at round got))
  came-adds got comes waits draws takes = record {
    more = with_answer [] at round a.place got;
    waits = waits ∙ told-is f.waits at round a.place got;
    whose = told-whose at round a.place got;
    over = λ over. absurd over;
    came = λ j other. ap (λ l. get_or l j false) comes.came
        ∙ get_or-set_other f.floor.came a.place j comes.with_it false other;
    noted = call-noted f at _ g comes.sees kinds (with_answer [] at round a.place got)
        (waits ∙ told-is f.waits at round a.place got) draws (told-else at round a.place got);
    tally = λ noted q permits. came-tally got q (takes noted q permits);
    caused = λ noted its. came-cause got comes waits;
  }

-- what is no semaphore or mutex
pub latch-else : (k : Option Kind) → IsLatch k → HasPermits k → ⊥
latch-else (Some (kind.Latch count)) latch permits = permits
latch-else (Some (kind.Semaphore permits)) latch has = latch
latch-else (Some kind.Mutex) latch has = latch
latch-else (Some (kind.Pool elements)) latch has = latch
latch-else (Some (kind.Rounds parties rounds)) latch has = latch
latch-else None latch has = latch

pub round-else : (k : Option Kind) (round : ℕ) → HasRound k round → HasPermits k → ⊥
round-else (Some (kind.Rounds parties rounds)) round has permits = permits
round-else (Some (kind.Latch count)) round has permits = permits
round-else (Some (kind.Semaphore permits)) round has is = has
round-else (Some kind.Mutex) round has is = has
round-else (Some (kind.Pool elements)) round has is = has
round-else None round has is = has

holdable-some : (k : Option Kind) → IsHoldable k → IsSome k
holdable-some (Some k) holdable = refl
holdable-some None holdable = absurd holdable

pub latch-some : (k : Option Kind) → IsLatch k → IsSome k
latch-some (Some k) latch = refl
latch-some None latch = absurd latch

pub round-some : (k : Option Kind) (round : ℕ) → HasRound k round → IsSome k
round-some (Some k) round has = refl
round-some None round has = absurd has

no-takes : (q : ℕ) (step : Step) (got : Option FloorTake) → is_take q step ≡ false → takes_of q step got ≡ 0
no-takes q step (Some answer) none = ap (λ b. cond {A = ℕ} b 1 0) none
no-takes q step None none = refl

-- a take
pub take-adds : (a : Actor) (f g : Desk) (next at : ℕ) (got : Option FloorTake)
    → slice_get a.job.now.steps next ≡ Some (Take at) → IsHoldable (kind_at f.floor at)
    → g.floor.board.kinds ≡ f.floor.board.kinds → Takes f.floor at a.place got g.floor
    → g.waits ≡ with_answer f.waits at 0 a.place got
    → Adds a.job.now a.place f (Stepping next) g (after_stop next (stop_of next at 0 got))
take-adds a f g next at got its_step holdable kinds comes waits =
    came-adds a f g next at 0 (Take at) _ _ its_step (may-take at) (holdable-some (kind_at f.floor at) holdable) kinds
    got comes waits
    (λ permits. (take-told (kind_at f.floor at) at a.place f.floor.number got comes.drew permits).drawn)
    (λ noted q permits. go noted q permits (cases_eq q at))
  where
    one-take : (answer : Option FloorTake) → ones_of answer ≡ takes_of at (Take at) answer
    one-take (Some answer) = ap (λ b. cond {A = ℕ} b 1 0) (sym (eq-eqb at at refl))
    one-take None = refl

    go : IsNoted f → (q : ℕ) → HasPermits (kind_at f.floor q) → (q ≡ at) ⊎ (q ≢ at)
        → took g.floor q ≡ took f.floor q + takes_of q (Take at) got
    go noted q permits (inl same) =
        let here : HasPermits (kind_at f.floor at) = subst (λ n. HasPermits (kind_at f.floor n)) same permits in
        let told = take-told (kind_at f.floor at) at a.place f.floor.number got comes.drew here in
        let more = took-here f at _ g comes.sees kinds noted here in
        let so : took g.floor at ≡ took f.floor at + takes_of at (Take at) got
        = omega (arith, more, told.taken, one-take got) in
        subst (λ n. took g.floor n ≡ took f.floor n + takes_of n (Take at) got) (sym same) so
    go noted q permits (inr other) =
        let none : takes_of q (Take at) got ≡ 0
        = no-takes q (Take at) got (ne_eqb at q (λ e. other (sym e))) in
        omega (arith, took-else f at _ g comes.sees kinds q other, none)

-- a wait at a latch, an arrival
pub else-adds : (a : Actor) (f g : Desk) (next at round : ℕ) (step : Step) (after : PlainFloor) (held : List (List ℕ))
    (got : Option FloorTake) → slice_get a.job.now.steps next ≡ Some step → may_wait at step ≡ true
    → ((q : ℕ) → is_take q step ≡ false) → IsSome (kind_at f.floor at) → (HasPermits (kind_at f.floor at) → ⊥)
    → g.floor.board.kinds ≡ f.floor.board.kinds → Comes f.floor at round a.place after held got g.floor
    → g.waits ≡ with_answer f.waits at round a.place got
    → Adds a.job.now a.place f (Stepping next) g (after_stop next (stop_of next at round got))
else-adds a f g next at round step after held got its_step may no_take some never kinds comes waits =
    came-adds a f g next at round step after held its_step may some kinds got comes waits
    (λ permits. absurd (never permits))
    (λ noted q permits. go q permits (cases_eq q at))
  where
    go : (q : ℕ) → HasPermits (kind_at f.floor q) → (q ≡ at) ⊎ (q ≢ at)
        → took g.floor q ≡ took f.floor q + takes_of q step got
    go q permits (inl same) = absurd (never (subst (λ n. HasPermits (kind_at f.floor n)) same permits))
    go q permits (inr other) =
        omega (arith, took-else f at _ g comes.sees kinds q other, no-takes q step got (no_take q))
