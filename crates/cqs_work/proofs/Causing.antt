-- What stands behind how far a job is, and what it adds by its calls.
use Rattle.std.proofs.Common.{◌≡◌, ◌≢◌, ◌⊎◌, inl, inr, ℕ, suc, ◌+◌, ◌≤◌, ◌==◌, Bool, ◌||◌, true, false, cond, List, [], ◌∷◌, ◌++◌, Option, Some, None, IsSome, All, length, get_or, take, drop, slice_get, count_by, refl, sym, ap, subst, ◌∙◌, append_assoc, arith, eq-eqb, ne_eqb}
use Rattle.std.specs.Bool.{if◌then◌else◌}
use Rattle.std.specs.List.{fold}
use Rattle.std.specs.Option.{option_map}
use Rattle.std.proofs.lemmas.List.{append-nil, take_all}
use Rattle.std.proofs.lemmas.List.Elements.{All-append, All-nil}
use Rattle.std.proofs.lemmas.List.Sums.{fold-append, sum_by_push, sum_by-cons}
use Rattle.cqs_core.proofs.Histories.{take-next}
use Rattle.cqs_plan.specs.declared.plans.job.Job.{Job}
use Rattle.cqs_plan.specs.declared.plans.step.Step.{Step}
use Rattle.cqs_plan.specs.PlanSteps.{is_take}
use Rattle.cqs_turns_report.specs.declared.states.End.{End}
use Rattle.cqs_turns_report.specs.declared.states.End.TheVariants as end
use Rattle.cqs_turns_report.specs.declared.states.Progress.{Progress}
use Rattle.cqs_turns_report.specs.declared.states.Progress.TheVariants.{Stepping, Working, Waiting, Ended}
use Rattle.cqs_turns_report.specs.Machine.{Role, is_due, is_outwaited, is_over_time}
use Rattle.cqs_turns_report.specs.declared.states.Patience.{Patience}
use Rattle.cqs_floor_shared.specs.Entries.{IsBefore}
use Rattle.cqs_floor_shared.specs.Shared.{seen_at, came_of}
use Rattle.cqs_work.specs.declared.waits.Waited.{Waited}
use Rattle.cqs_work.specs.Desk.{Desk}
use Rattle.cqs_work.specs.Later.{Later}
use Rattle.cqs_work.specs.Noted.{HasPermits}
use Rattle.cqs_work.specs.Takes.{takes_in, takes_made, takes_left, Tallies, took}
use Rattle.cqs_work.specs.Causes.{IsCaused, IsInLine, IsCauseOf, HasCause, MayBeOverTime, WasTooLate, WasServed, last_wait}
use Rattle.cqs_work.specs.Ends.{job_end}
use Rattle.cqs_work.specs.Adds.{Adds, Keeps, IsOver, AddsSo}
use Rattle.cqs_work.proofs.Growing.{left-stays, late-stays, served-stays, drawn-stays}

-- who waits for something else is told nothing here
last-else : (job : ℕ) (waits more : List Waited) → All (λ (w : Waited). w.job ≢ job) more
    → last_wait job (waits ++ more) ≡ last_wait job waits
last-else job waits more others =
    fold-append _ None waits more ∙ go more (last_wait job waits) others
  where
    go : (l : List Waited) (so_far : Option Waited) → All (λ (w : Waited). w.job ≢ job) l
        → fold (λ last wait. if wait.job == job then Some wait else last) so_far l ≡ so_far
    go [] so_far none = refl
    go (w ∷ l) so_far none =
        let other : w.job == job ≡ false = ne_eqb w.job job (none 0 w (omega arith)) in
        let next : (if w.job == job then Some w else so_far) ≡ so_far = rw other refl in
        rw next (go l so_far (λ i d below. none (suc i) d (omega (arith, below))))

pub last-own : (job : ℕ) (waits : List Waited) (w : Waited) → w.job ≡ job
    → last_wait job (waits ++ w ∷ []) ≡ Some w
last-own job waits w own =
    let same : w.job == job ≡ true = eq-eqb w.job job own in
    fold-append _ None waits (w ∷ []) ∙ rw same refl

-- why a job ended stays so
pub cause-stays : (place at round number : ℕ) (f g : Desk) (e : End) → Later f.floor g.floor
    → came_of g.floor place ≡ came_of f.floor place → IsCauseOf place at round number f e
    → IsCauseOf place at round number g e
cause-stays place at round number f g end.GaveUp later came cause =
    rw later.same.number
    (left-stays (seen_at f.floor at) (seen_at g.floor at) round f.floor.number number (later.before at) cause)
cause-stays place at round number f g end.Late later came (inl late) =
    inl (rw later.same.number
    (late-stays (seen_at f.floor at) (seen_at g.floor at) round f.floor.number number (later.before at) late))
cause-stays place at round number f g end.Late later came (inr (had, served)) =
    inr (came ∙ had, served-stays (seen_at f.floor at) (seen_at g.floor at) round number (later.before at) served)
cause-stays place at round number f g end.Done later came cause = absurd cause
cause-stays place at round number f g end.Crowded later came cause = absurd cause

pub line-stays : (place at round number : ℕ) (f g : Desk) → Later f.floor g.floor
    → last_wait place g.waits ≡ last_wait place f.waits → came_of g.floor place ≡ came_of f.floor place
    → IsInLine place f at round number → IsInLine place g at round number
line-stays place at round number f g later waits came line = record {
  last = waits ∙ line.last;
  kind = subst IsSome (ap (λ ks. slice_get ks at) (sym later.kinds)) line.kind;
  served = λ had.
      served-stays (seen_at f.floor at) (seen_at g.floor at) round number (later.before at)
      (line.served (sym came ∙ had));
}

pub caused-stays : (job : Job) (place : ℕ) (f g : Desk) (p : Progress) → Later f.floor g.floor
    → last_wait place g.waits ≡ last_wait place f.waits → came_of g.floor place ≡ came_of f.floor place
    → IsCaused job place f p → IsCaused job place g p
caused-stays job place f g (Stepping next) later waits came cause = tt
caused-stays job place f g (Working next until) later waits came cause = tt
caused-stays job place f g (Waiting next at round number) later waits came cause =
    line-stays place at round number f g later waits came cause
caused-stays job place f g (Ended end.Done) later waits came cause = tt
caused-stays job place f g (Ended end.GaveUp) later waits came cause = record {
  time = cause.time;
  wait = cause.wait;
  last = waits ∙ cause.last;
  left = cause-stays place cause.wait.at cause.wait.round cause.wait.number f g end.GaveUp later came cause.left;
}
caused-stays job place f g (Ended end.Late) later waits came cause = record {
  time = cause.time;
  wait = cause.wait;
  last = waits ∙ cause.last;
  late = cause-stays place cause.wait.at cause.wait.round cause.wait.number f g end.Late later came cause.late;
}
caused-stays job place f g (Ended end.Crowded) later waits came cause = record {
  at = cause.at;
  round = cause.round;
  step = cause.step;
  its_step = cause.its_step;
  waits = cause.waits;
  worn =
      let more = drawn-stays (seen_at f.floor cause.at) (seen_at g.floor cause.at) cause.round
      (later.before cause.at) in
      omega (arith, cause.worn, more, ap (λ l. get_or l cause.at 0) later.same.limits);
}

-- the calls of one job leave what stands behind another as it is
pub others-caused : {tallies : ℕ → Type 0} (job other : Job) (place j : ℕ) (f g : Desk) (p q x : Progress)
    → Later f.floor g.floor → AddsSo job place f p g q tallies → j ≢ place → IsCaused other j f x → IsCaused other j g x
others-caused job other place j f g p q x later adds away cause =
    caused-stays other j f g x later
    (ap (last_wait j) adds.waits ∙ last-else j f.waits adds.more
    (λ i d below is. away (sym is ∙ adds.whose i d below))) (adds.came j away) cause

-- no step
tally-same : (at : ℕ) (steps : List Step) (before after : ℕ) (p : Progress) → after ≡ before
    → Tallies at steps before p after p
tally-same at steps before after p same =
    record { grows = omega (arith, same); least = omega (arith, same); most = omega (arith, same) }

pub adds-keeps : (job : Job) (place : ℕ) (f g : Desk) (p : Progress) → Later f.floor g.floor → Keeps f g
    → Adds job place f p g p
adds-keeps job place f g p later keeps = record {
  more = [];
  waits = keeps.waits ∙ sym (append-nil f.waits);
  whose = All-nil (λ (w : Waited). w.job ≡ place);
  over = λ over. (refl, refl);
  came = λ j other. keeps.came j;
  noted = keeps.noted;
  tally = λ noted at permits.
      tally-same at job.steps (took f.floor at) (took g.floor at) p (keeps.tally noted at permits);
  caused = λ noted cause.
      caused-stays job place f g p later (ap (last_wait place) keeps.waits) (keeps.came place) cause;
}

-- a job that is as far in other words
pub adds-as : (job : Job) (place : ℕ) (f g : Desk) (p x q : Progress)
    → ((at : ℕ) → takes_made at job.steps x ≡ takes_made at job.steps p)
    → ((at : ℕ) → takes_left at job.steps x ≡ takes_left at job.steps p) → (IsOver x → ⊥)
    → (IsCaused job place f x → IsCaused job place f p) → Adds job place f p g q → Adds job place f x g q
adds-as job place f g p x q made left going cause adds = record {
  more = adds.more;
  waits = adds.waits;
  whose = adds.whose;
  over = λ over. absurd (going over);
  came = adds.came;
  noted = adds.noted;
  tally = λ noted at permits.
      let tally = adds.tally noted at permits in
      record {
        grows = tally.grows;
        least = omega (arith, tally.least, made at);
        most = omega (arith, tally.most, left at);
      };
  caused = λ noted its. adds.caused noted (cause its);
}

pub adds-then : (job : Job) (place : ℕ) (f g k : Desk) (p q s : Progress) → Later f.floor g.floor
    → Adds job place f p g q → Adds job place g q k s → Adds job place f p k s
adds-then job place f g k p q s later first second = record {
  more = first.more ++ second.more;
  waits = second.waits ∙ ap (λ l. l ++ second.more) first.waits
      ∙ append_assoc f.waits first.more second.more;
  whose = All-append (λ (w : Waited). w.job ≡ place) first.more second.more first.whose second.whose;
  over = over;
  came = λ j other. second.came j other ∙ first.came j other;
  noted = λ noted. second.noted (first.noted noted);
  tally = λ noted at permits.
      let one = first.tally noted at permits in
      let two = second.tally (first.noted noted) at
      (subst HasPermits (ap (λ ks. slice_get ks at) (sym later.kinds)) permits) in
      record {
        grows = omega (arith, one.grows, two.grows);
        least = omega (arith, one.least, two.least);
        most = omega (arith, one.most, two.most);
      };
  caused = λ noted cause. second.caused (first.noted noted) (first.caused noted cause);
}
  where
    over : IsOver p → (s ≡ p) × (first.more ++ second.more ≡ [])
    over ended =
        let (same, none) = first.over ended in
        let (later_same, later_none) = second.over (subst IsOver (sym same) ended) in
        (later_same ∙ same, ap (λ l. l ++ second.more) none ∙ later_none)

-- A step that may have been a take, after which its pass has so many more
record StepTally (at : ℕ) (steps : List Step) (next before after : ℕ) : Type 0 where
  grows : before ≤ after
  least : before + takes_in at (take (next + 1) steps) ≤ after + takes_in at (take next steps)
  most : after + takes_in at (drop (next + 1) steps) ≤ before + takes_in at (drop next steps)

takes-cons : (at : ℕ) (step : Step) (steps : List Step)
    → takes_in at (step ∷ steps) ≡ cond {A = ℕ} (is_take at step) 1 0 + takes_in at steps
takes-cons at step steps = sum_by-cons (λ s. cond {A = ℕ} (is_take at s) 1 0) step steps

pub takes-next : (at : ℕ) (steps : List Step) (next : ℕ) (step : Step) → slice_get steps next ≡ Some step
    → takes_in at (take (next + 1) steps)
    ≡ takes_in at (take next steps) + cond {A = ℕ} (is_take at step) 1 0
takes-next at steps next step got =
    let one_more : next + 1 ≡ suc next = omega arith in
    rw one_more (ap (count_by (is_take at)) (take-next steps next step got)
    ∙ sum_by_push (λ s. cond {A = ℕ} (is_take at s) 1 0) (take next steps) step)

step-tally : (at : ℕ) (steps : List Step) (next : ℕ) (step : Step) (before after : ℕ)
    → slice_get steps next ≡ Some step → drop next steps ≡ step ∷ drop (next + 1) steps
    → after ≡ before + cond {A = ℕ} (is_take at step) 1 0 → StepTally at steps next before after
step-tally at steps next step before after got split is =
    let made = takes-next at steps next step got in
    let left : takes_in at (drop next steps)
    ≡ cond {A = ℕ} (is_take at step) 1 0 + takes_in at (drop (next + 1) steps)
    = ap (takes_in at) split ∙ takes-cons at step (drop (next + 1) steps) in
    record {
      grows = omega (arith, is);
      least = omega (arith, is, made);
      most = omega (arith, is, left);
    }

-- how far a job is after a step by which it goes on
abbrev pub IsNext : ℕ → Progress → Type 0
IsNext next (Stepping after) = after ≡ next + 1
IsNext next (Working after until) = after ≡ next + 1
IsNext next (Waiting after at round number) = after ≡ next + 1
IsNext next (Ended end) = ⊥

pub tally-next : (at : ℕ) (steps : List Step) (next : ℕ) (step : Step) (before after : ℕ) (q : Progress)
    → slice_get steps next ≡ Some step → drop next steps ≡ step ∷ drop (next + 1) steps → IsNext next q
    → after ≡ before + cond {A = ℕ} (is_take at step) 1 0 → Tallies at steps before (Stepping next) after q
tally-next at steps next step before after (Stepping n) got split is adds =
    let t = step-tally at steps next step before after got split adds in
    rw is (record { grows = t.grows; least = t.least; most = t.most })
tally-next at steps next step before after (Working n until) got split is adds =
    let t = step-tally at steps next step before after got split adds in
    rw is (record { grows = t.grows; least = t.least; most = t.most })
tally-next at steps next step before after (Waiting n waits round number) got split is adds =
    let t = step-tally at steps next step before after got split adds in
    rw is (record { grows = t.grows; least = t.least; most = t.most })
tally-next at steps next step before after (Ended e) got split is adds = absurd is

-- a job that is turned away
pub tally-crowded : (at : ℕ) (steps : List Step) (next before after : ℕ) → after ≡ before
    → Tallies at steps before (Stepping next) after (Ended end.Crowded)
tally-crowded at steps next before after same =
    record { grows = omega (arith, same); least = omega (arith, same); most = omega (arith, same) }

-- one that has made all its steps
pub tally-done : (at : ℕ) (steps : List Step) (next before after : ℕ) → length steps ≤ next → after ≡ before
    → Tallies at steps before (Stepping next) after (Ended end.Done)
tally-done at steps next before after past same =
    let whole : takes_in at (take next steps) ≡ takes_in at steps
    = ap (takes_in at) (take_all next steps past) in
    record {
      grows = omega (arith, same);
      least = omega (arith, same, whole);
      most = omega (arith, same);
    }

-- one that gives up
pub tally-gave-up : (at : ℕ) (steps : List Step) (next waits round number before after : ℕ) (e : End)
    → (e ≡ end.GaveUp) ⊎ (e ≡ end.Late) → after ≡ before
    → Tallies at steps before (Waiting next waits round number) after (Ended e)
tally-gave-up at steps next waits round number before after e (inl is) same =
    rw is (record { grows = omega (arith, same); least = omega (arith, same); most = omega (arith, same) })
tally-gave-up at steps next waits round number before after e (inr is) same =
    rw is (record { grows = omega (arith, same); least = omega (arith, same); most = omega (arith, same) })

due-some : (deadline : Option ℕ) (turn : ℕ) → is_due deadline turn ≡ true → IsSome deadline
due-some (Some d) turn due = refl
due-some None turn due = absurd (cc)

out-some : (within : Option ℕ) (since turn : ℕ) → is_due (option_map (λ w. since + w) within) turn ≡ true
    → IsSome within
out-some (Some w) since turn out = refl
out-some None since turn out = absurd (cc)

-- a job that is over time may be so
pub over-some : (r : Role) (x : Patience) → is_over_time r x ≡ true → MayBeOverTime r.job
over-some r x long = go (is_due r.job.deadline r.turn) refl long
  where
    go : (b : Bool) → is_due r.job.deadline r.turn ≡ b → (b || is_outwaited r x) ≡ true → MayBeOverTime r.job
    go true due either = inl (due-some r.job.deadline r.turn due)
    go false none either = inr (out-some r.job.within x.since r.turn either)

-- what stands behind an end is in all histories, too
module _ (job : Job) (place : ℕ) (f g : Desk) (before : (at : ℕ) → IsBefore (seen_at f.floor at) (seen_at g.floor at))
    (number : g.floor.number ≡ f.floor.number) (limits : g.floor.limits ≡ f.floor.limits)
    (came : g.floor.came ≡ f.floor.came) (waits : g.waits ≡ f.waits) where
  pub seen-cause : (p : Progress) → IsCaused job place f p → HasCause job place g (job_end p)
  seen-cause (Stepping next) cause = tt
  seen-cause (Working next until) cause = tt
  seen-cause (Waiting next at round wait) cause = tt
  seen-cause (Ended end.Done) cause = tt
  seen-cause (Ended end.GaveUp) cause = record {
    time = cause.time;
    wait = cause.wait;
    last = ap (last_wait place) waits ∙ cause.last;
    left = rw number (left-stays (seen_at f.floor cause.wait.at) (seen_at g.floor cause.wait.at) cause.wait.round
        f.floor.number cause.wait.number (before cause.wait.at) cause.left);
  }
  seen-cause (Ended end.Late) cause = record {
    time = cause.time;
    wait = cause.wait;
    last = ap (last_wait place) waits ∙ cause.last;
    late = late cause.late;
  }
    where
      late : WasTooLate (seen_at f.floor cause.wait.at) cause.wait.round f.floor.number cause.wait.number
          ⊎ ((came_of f.floor place ≡ true) × WasServed (seen_at f.floor cause.wait.at) cause.wait.round
          cause.wait.number)
          → WasTooLate (seen_at g.floor cause.wait.at) cause.wait.round g.floor.number cause.wait.number
          ⊎ ((came_of g.floor place ≡ true) × WasServed (seen_at g.floor cause.wait.at) cause.wait.round
          cause.wait.number)
      late (inl there) =
          inl (rw number (late-stays (seen_at f.floor cause.wait.at) (seen_at g.floor cause.wait.at) cause.wait.round
          f.floor.number cause.wait.number (before cause.wait.at) there))
      late (inr (had, served)) =
          inr (
            ap (λ l. get_or l place false) came ∙ had,
            served-stays (seen_at f.floor cause.wait.at) (seen_at g.floor cause.wait.at) cause.wait.round
                cause.wait.number (before cause.wait.at) served,
          )
  seen-cause (Ended end.Crowded) cause = record {
    at = cause.at;
    round = cause.round;
    step = cause.step;
    its_step = cause.its_step;
    waits = cause.waits;
    worn =
        let more = drawn-stays (seen_at f.floor cause.at) (seen_at g.floor cause.at) cause.round (before cause.at) in
        omega (arith, cause.worn, more, ap (λ l. get_or l cause.at 0) limits);
  }
