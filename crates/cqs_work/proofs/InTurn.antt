-- The whole turn of a worker's job, by the stage at which it is.
use Rattle.std.proofs.Common.{◌≡◌, ℕ, ◌-◌, ◌<◌, ◌≤◌, ◌∷◌, [], ◌++◌, Bool, true, false, nat_lt, lt-ltb, le-ltb, refl, sym, ap, subst, ◌∙◌, arith}
use Rattle.std.specs.Bool.{if◌then◌else◌}
use Rattle.std.specs.List.{list_any}
use Rattle.cqs_plan.specs.declared.plans.job.Job.{Job}
use Rattle.cqs_plan.specs.declared.plans.step.Step.{Step}
use Rattle.cqs_plan.specs.PlanSteps.{is_take, may_wait}
use Rattle.cqs_plan.specs.declared.floors.answers.FloorLeave.{FloorLeave}
use Rattle.cqs_plan.specs.declared.floors.answers.FloorLook.{FloorLook}
use Rattle.cqs_plan.specs.declared.floors.answers.FloorLook.TheVariants.{Pending, Granted}
use Rattle.cqs_turns_report.specs.declared.actors.Actor.{Actor}
use Rattle.cqs_turns_report.specs.declared.states.End.{End}
use Rattle.cqs_turns_report.specs.declared.states.Patience.{Patience}
use Rattle.cqs_turns_report.specs.declared.states.Progress.{Progress}
use Rattle.cqs_turns_report.specs.declared.states.Progress.TheVariants.{Stepping, Working, Waiting, Ended}
use Rattle.cqs_turns_report.specs.Machine.{is_over_time, after_leave_at, after_look_at, moved, retried}
use Rattle.cqs_turns_report.specs.Machine as machine
use Rattle.cqs_turns_report.specs.Ready.{steps_left}
use Rattle.cqs_turns_report.specs.Roles.{role, wait_at}
use Rattle.cqs_floor_shared.specs.Calls.{HasLooked, Looks}
use Rattle.cqs_work.specs.Adds.{IsOver}
use Rattle.cqs_work.specs.Desk.{Desk}
use Rattle.cqs_work.specs.Gated.{HasTold}
use Rattle.cqs_work.specs.Heard.{Heard, Hears, heard, heard_world, leave_heard, look_heard}
use Rattle.cqs_work.specs.Heard as answer
use Rattle.cqs_work.specs.Roles.{left_so, go_on, go_back, look_at, patiently, turn, staged}
use Rattle.cqs_work.specs.Stages.{Stage, stage, unused, retries_for}
use Rattle.cqs_work.specs.Doing.{CanAct, HasTurn, Did, HadTurn}
use Rattle.cqs_work.proofs.Acting.{did-then}
use Rattle.cqs_work.proofs.Adding.{keeps-none}
use Rattle.cqs_work.proofs.Causing.{adds-keeps, adds-as}
use Rattle.cqs_work.proofs.Gating.{told-none, told-then}
use Rattle.cqs_work.proofs.HeardLemmas.{hears-none, looked-is}
use Rattle.cqs_work.proofs.Lasting.{later-none}
use Rattle.cqs_work.proofs.Moving.{moves-none}
use Rattle.cqs_work.proofs.WaitCalls.{pending-did, granted-did}

-- who uses up no retry has no more of them left
unused-most : (job : Job) (q : Progress) (x y : ℕ) → y ≡ x → unused job q y ≤ job.retry - x
unused-most job (Stepping next) x y same = rw same (omega arith)
unused-most job (Working next until) x y same = rw same (omega arith)
unused-most job (Waiting next at round number) x y same = rw same (omega arith)
unused-most job (Ended e) x y same = omega arith

unused-kept : (job : Job) (p q : Progress) (x y : ℕ) → (IsOver p → q ≡ p) → y ≡ x
    → unused job q y ≤ unused job p x
unused-kept job (Stepping next) q x y over same = unused-most job q x y same
unused-kept job (Working next until) q x y over same = unused-most job q x y same
unused-kept job (Waiting next at round number) q x y over same = unused-most job q x y same
unused-kept job (Ended e) q x y over same = let is : q ≡ Ended e = over tt in rw is (omega arith)

pub retries-less : (which : Step → Bool) (job : Job) (s q : Stage)
    → unused job q.progress q.patience.used ≤ unused job s.progress s.patience.used
    → retries_for which job q ≤ retries_for which job s
retries-less which job s q less = go (list_any which job.steps)
  where
    go : (b : Bool)
        → (if b then unused job q.progress q.patience.used else 0)
        ≤ (if b then unused job s.progress s.patience.used else 0)
    go true = less
    go false = omega arith

-- a turn that uses up no retry
pub turned : {X : Type 0} (a : Actor) (f g : Desk) (s q : Stage) (go after : Heard → X)
    → q.patience.used ≡ s.patience.used → Did a f s.progress go after g q.progress
    → Hears f g (turn a s) (staged q) → HadTurn a f s g q
turned a f g s q go after used did hears =
    let less : unused a.job.now q.progress q.patience.used ≤ unused a.job.now s.progress s.patience.used
    = unused-kept a.job.now s.progress q.progress s.patience.used q.patience.used
    (λ over. (did.adds.over over).0) used in
    record {
      hears = hears;
      stands = did.stands;
      rounds = did.rounds;
      moves = record {
        kinds = did.moves.kinds;
        waits = did.moves.waits;
        holds = did.moves.holds;
        rounds = did.moves.rounds;
        room = λ at. omega (arith, did.moves.room at, retries-less (may_wait at) a.job.now s q less);
        comes = did.moves.comes;
        rows = did.moves.rows;
      };
      back = did.back;
      adds = record {
        more = did.adds.more;
        waits = did.adds.waits;
        whose = did.adds.whose;
        over = did.adds.over;
        came = did.adds.came;
        noted = did.adds.noted;
        tally = λ noted at permits.
            let tally = did.adds.tally noted at permits in
            record {
              grows = tally.grows;
              least = tally.least;
              most = omega (arith, tally.most, retries-less (is_take at) a.job.now s q less);
            };
        caused = did.adds.caused;
      };
    }

-- a job that does nothing in its turn
still : (a : Actor) (f : Desk) (p : Progress) (x : Patience) → HasTurn a f.floor (stage p x)
    → ((h : Heard) → turn a (stage p x) h ≡ staged (stage p x) h) → HadTurn a f (stage p x) f (stage p x)
still a f p x has same =
    turned a f f (stage p x) (stage p x) (left_so p) (left_so p) refl
    (record {
      hears = hears-none f (left_so p);
      stands = has.can.stands;
      rounds = has.can.rounds;
      moves = moves-none a.place f.floor.board f.floor.parties (steps_left a.job.now.steps p);
      back = has.can.back;
      adds = adds-keeps a.job.now a.place f f p (later-none f.floor) (keeps-none f);
    })
    (record { later = later-none f.floor; answers = []; told = told-none f.gate; plays = λ rest. same (heard f rest) })

pub works-on : (a : Actor) (f : Desk) (p : Progress) (x : Patience) (next until : ℕ) → p ≡ Working next until
    → a.turn < until → HasTurn a f.floor (stage p x) → HadTurn a f (stage p x) f (stage p x)
works-on a f p x next until is below has =
    let later : nat_lt a.turn until ≡ true = lt-ltb a.turn until below in
    still a f p x has (λ h. rw (is, later) refl)

pub rests-on : (a : Actor) (f : Desk) (p : Progress) (x : Patience) (e : End) → p ≡ Ended e
    → HasTurn a f.floor (stage p x) → HadTurn a f (stage p x) f (stage p x)
rests-on a f p x e is has = still a f p x has (λ h. rw is refl)

-- a job that makes its steps
pub stepping-can : (a : Actor) (f : Desk) (p : Progress) (x : Patience) (next : ℕ) → p ≡ Stepping next
    → HasTurn a f.floor (stage p x) → CanAct a f.floor (Stepping next)
stepping-can a f p x next is has = subst (CanAct a f.floor) is has.can

pub stepped-turned : (a : Actor) (f g : Desk) (p : Progress) (x : Patience) (next : ℕ) (q : Progress) (y : Patience)
    → p ≡ Stepping next → y ≡ moved (role a) x → Did a f (Stepping next) (go_on a next) (left_so q) g q
    → HadTurn a f (stage p x) g (stage q y)
stepped-turned a f g p x next q y is same did =
    subst (λ n. HadTurn a f (stage n x) g (stage q y)) (sym is)
    (subst (λ z. HadTurn a f (stage (Stepping next) x) g (stage q z)) (sym same)
    (turned a f g (stage (Stepping next) x) (stage q (moved (role a) x)) (go_on a next) (left_so q) refl did
    (record {
      later = did.hears.later;
      answers = did.hears.answers;
      told = did.hears.told;
      plays = λ rest. ap (patiently (moved (role a) x)) (did.hears.plays rest);
    })))

-- one that worked until now
pub worked-can : (a : Actor) (f : Desk) (p : Progress) (x : Patience) (next until : ℕ) → p ≡ Working next until
    → HasTurn a f.floor (stage p x) → CanAct a f.floor (Stepping next)
worked-can a f p x next until is has =
    let here : CanAct a f.floor (Working next until) = subst (CanAct a f.floor) is has.can in
    record {
      stands = here.stands;
      rounds = here.rounds;
      provided = here.provided;
      back = tt;
      few_steps = here.few_steps;
      turn = here.turn;
    }

pub worked-turned : (a : Actor) (f g : Desk) (p : Progress) (x : Patience) (next until : ℕ) (q : Progress)
    (y : Patience) → p ≡ Working next until → until ≤ a.turn → y ≡ moved (role a) x
    → Did a f (Stepping next) (go_on a next) (left_so q) g q → HadTurn a f (stage p x) g (stage q y)
worked-turned a f g p x next until q y is past same made =
    let later : nat_lt a.turn until ≡ false = le-ltb a.turn until past in
    let did : Did a f (Working next until) (go_on a next) (left_so q) g q = record {
      hears = made.hears;
      stands = made.stands;
      rounds = made.rounds;
      moves = made.moves;
      back = made.back;
      adds = adds-as a.job.now a.place f g (Stepping next) (Working next until) q (λ at. refl) (λ at. refl)
          (λ over. over) (λ its. tt) made.adds;
    } in
    subst (λ n. HadTurn a f (stage n x) g (stage q y)) (sym is)
    (subst (λ z. HadTurn a f (stage (Working next until) x) g (stage q z)) (sym same)
    (turned a f g (stage (Working next until) x) (stage q (moved (role a) x)) (go_on a next) (left_so q) refl did
    (record {
      later = made.hears.later;
      answers = made.hears.answers;
      told = made.hears.told;
      plays = λ rest. rw later (ap (patiently (moved (role a) x)) (made.hears.plays rest));
    })))

-- the turn of a job that waits, by whether it is over time
abbrev pub waited_turn : Actor → Patience → ℕ → ℕ → ℕ → ℕ → Heard → Bool → Heard × Stage
waited_turn a x next at round number h long =
    patiently
    (if long
    then after_leave_at (role a) x (leave_heard h.answers)
    else after_look_at (role a) x (look_heard h.answers))
    (if long
    then machine.after_waiting_long heard_world (role a) x next at round number (leave_heard h.answers) h
    else look_at a next at round number h)

-- and if it is, by whether it makes the step again
abbrev pub left_turn : Actor → Patience → ℕ → ℕ → ℕ → ℕ → FloorLeave → Heard → Bool → Heard × Stage
left_turn a x next at round number got h again =
    patiently (if again then retried (role a) x else x)
    (if again then go_back a next at round number h
    else machine.after_giving_up heard_world (role a) at round number got h)

-- a job that looks
pub pending-turned : (a : Actor) (f g : Desk) (p : Progress) (x : Patience) (next at round number : ℕ) (got : FloorLook)
    → p ≡ Waiting next at round number → is_over_time (role a) x ≡ false → HasTurn a f.floor (stage p x)
    → HasLooked f.floor a.place got g.floor → g.waits ≡ f.waits → HasTold f.gate g.gate 1 → got ≡ Pending
    → HadTurn a f (stage p x) g (stage p x)
pending-turned a f g p x next at round number got is calm has looked waits told pending =
    let w : Progress = Waiting next at round number in
    let can : CanAct a f.floor (Waiting next at round number) = subst (CanAct a f.floor) is has.can in
    let did : Did a f (Waiting next at round number) (look_at a next at round number)
    (left_so (Waiting next at round number)) g (Waiting next at round number)
    = pending-did a f g next at round number got can looked waits told pending in
    let Goes : FloorLook → Type 0 = λ o. Looks f.floor a.place (wait_at at round number) o g.floor in
    let looks : Looks f.floor a.place (wait_at at round number) Pending g.floor
    = subst Goes pending (looked.at (wait_at at round number) can.stands.ready.waits) in
    subst (λ n. HadTurn a f (stage n x) g (stage n x)) (sym is)
    (turned a f g (stage w x) (stage w x) (look_at a next at round number) (left_so w) refl did (record {
      later = did.hears.later;
      answers = answer.looked Pending ∷ [];
      told = told;
      plays = λ rest.
          ap (waited_turn a x next at round number (heard f (answer.looked Pending ∷ rest))) calm
          ∙ ap (staged (stage w x)) (looked-is f (role a) (wait_at at round number) Pending g looks waits rest);
    }))

pub granted-turned : (a : Actor) (f g k : Desk) (p : Progress) (x : Patience) (next at round number element : ℕ)
    (got : FloorLook) (q : Progress) (y : Patience)
    → p ≡ Waiting next at round number → is_over_time (role a) x ≡ false → HasTurn a f.floor (stage p x)
    → HasLooked f.floor a.place got g.floor → g.waits ≡ f.waits → HasTold f.gate g.gate 1 → got ≡ Granted element
    → y ≡ moved (role a) x → Did a g (Stepping next) (go_on a next) (left_so q) k q
    → HadTurn a f (stage p x) k (stage q y)
granted-turned a f g k p x next at round number element got q y is calm has looked waits told granted same made =
    let w : Progress = Waiting next at round number in
    let can : CanAct a f.floor (Waiting next at round number) = subst (CanAct a f.floor) is has.can in
    let did : Did a f (Waiting next at round number) (look_at a next at round number) (left_so q) k q
    = did-then a f (Waiting next at round number) (look_at a next at round number) (go_on a next) (left_so q) g
    (Stepping next) k q
    (granted-did a f g next at round number element got can looked waits told granted) made in
    let Goes : FloorLook → Type 0 = λ o. Looks f.floor a.place (wait_at at round number) o g.floor in
    let looks : Looks f.floor a.place (wait_at at round number) (Granted element) g.floor
    = subst Goes granted (looked.at (wait_at at round number) can.stands.ready.waits) in
    subst (λ n. HadTurn a f (stage n x) k (stage q y)) (sym is)
    (subst (λ z. HadTurn a f (stage w x) k (stage q z)) (sym same)
    (turned a f k (stage w x) (stage q (moved (role a) x)) (look_at a next at round number) (left_so q) refl did
    (record {
      later = did.hears.later;
      answers = answer.looked (Granted element) ∷ made.hears.answers;
      told = told-then f.gate g.gate k.gate 1 _ _ told made.hears.told (omega arith);
      plays = λ rest.
          ap (waited_turn a x next at round number
          (heard f (answer.looked (Granted element) ∷ (made.hears.answers ++ rest)))) calm
          ∙ ap (λ h. patiently (moved (role a) x) (go_on a next h))
          (looked-is f (role a) (wait_at at round number) (Granted element) g looks waits (made.hears.answers ++ rest))
          ∙ ap (patiently (moved (role a) x)) (made.hears.plays rest);
    })))

pub waiting-can : (a : Actor) (f : Desk) (p : Progress) (x : Patience) (next at round number : ℕ)
    → p ≡ Waiting next at round number → HasTurn a f.floor (stage p x) → CanAct a f.floor (Waiting next at round number)
waiting-can a f p x next at round number is has = subst (CanAct a f.floor) is has.can
