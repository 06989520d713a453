-- What a worker's job does in its turn: one step after another, by how far it is.
use Rattle.std.proofs.Common.{◌≡◌, ℕ, ◌+◌, ◌<◌, ◌≤◌, List, [], Some, None, Result, Ok, Err, IfOk, OnOk, drop, get_or, slice_get, length, sym, subst, ◌∙◌, arith}
use Rattle.std.proofs.lemmas.List.{append-nil, drop_all}
use Rattle.std.proofs.lemmas.List.Elements.{All-nil}
use Rattle.std.proofs.lemmas.Option.{slice_get-get_or}
use Rattle.cqs_plan.specs.declared.plans.step.Step.{Step}
use Rattle.cqs_turns_report.specs.declared.actors.Actor.{Actor}
use Rattle.cqs_turns_report.specs.declared.states.End.TheVariants as end
use Rattle.cqs_turns_report.specs.declared.states.Progress.{Progress}
use Rattle.cqs_turns_report.specs.declared.states.Progress.TheVariants.{Stepping, Ended}
use Rattle.cqs_turns_report.specs.Machine.{MadeIn, ActedIn, stop_or}
use Rattle.cqs_turns_report.specs.Machine as machine
use Rattle.cqs_turns_report.specs.Ready.{steps_left}
use Rattle.cqs_turns_report.specs.Roles.{role}
use Rattle.cqs_turns_report.proofs.Readied.{ready-to-end}
use Rattle.cqs_work.specs.Desk.{Desk}
use Rattle.cqs_work.specs.Heard.{Heard, Hears, heard_world}
use Rattle.cqs_work.specs.Roles.{left_so, made_so, finish, make_step, go_on}
use Rattle.cqs_work.specs.Doing.{Moves, Stands, CanAct, Did, GaveUp}
use Rattle.cqs_work.specs.declared.waits.Waited.{Waited}
use Rattle.cqs_work.specs.Takes.{took}
use Rattle.cqs_work.specs.Adds.{Adds}
use Rattle.cqs_work.proofs.Lasting.{later-none}
use Rattle.cqs_work.proofs.Adding.{keeps-none}
use Rattle.cqs_work.proofs.Causing.{adds-keeps, adds-then, tally-done}
use Rattle.cqs_work.proofs.HeardLemmas.{hears-none, hears-then, hears-on}
use Rattle.cqs_work.proofs.Moving.{moves-none, moves-end, moves-on}
use Rattle.cqs_work.proofs.StepNeeds.{drop-at}

-- what a job did, and then further
pub did-then : {X : Type 0} (a : Actor) (f : Desk) (p : Progress) (go mid after : Heard → X) (g : Desk) (q : Progress)
    (k : Desk) (s : Progress) → Did a f p go mid g q → Did a g q mid after k s → Did a f p go after k s
did-then a f p go mid after g q k s first second = record {
  hears = hears-then f g k go mid after first.hears second.hears;
  stands = second.stands;
  rounds = second.rounds;
  moves = moves-on a.place f.floor.board f.floor.parties (steps_left a.job.now.steps p) g.floor.board g.floor.parties
      (steps_left a.job.now.steps q) k.floor.board k.floor.parties
      (steps_left a.job.now.steps s) first.moves second.moves;
  back = second.back;
  adds = adds-then a.job.now a.place f g k p q s first.hears.later first.adds second.adds;
}

-- under what follows in the machine
pub did-on : {X Y : Type 0} (on : X → Y) (a : Actor) (f : Desk) (p : Progress) (go after : Heard → X) (g : Desk)
    (q : Progress) → Did a f p go after g q → Did a f p (λ h. on (go h)) (λ h. on (after h)) g q
did-on on a f p go after g q first = record {
  hears = hears-on on f g go after first.hears;
  stands = first.stands;
  rounds = first.rounds;
  moves = first.moves;
  back = first.back;
  adds = first.adds;
}

-- a job that did something can go on
pub can-then : {X : Type 0} (a : Actor) (f : Desk) (p : Progress) (go after : Heard → X) (g : Desk) (q : Progress)
    → CanAct a f.floor p → Did a f p go after g q → CanAct a g.floor q
can-then a f p go after g q can done = record {
  stands = done.stands;
  rounds = done.rounds;
  provided = record {
    room = λ at. omega (arith, done.moves.room at, can.provided.room at);
    parties = λ at round. omega (arith, done.moves.comes at round, can.provided.parties at round);
  };
  back = done.back;
  few_steps = can.few_steps;
  turn = can.turn;
}

-- a job that makes its steps
pub record SteppingOn (a : Actor) (f : Desk) (first next : ℕ) (g : Desk) : Type 0 where
  pub did : Did a f (Stepping first) (go_on a first) (go_on a next) g (Stepping next)
  pub can : CanAct a g.floor (Stepping next)

pub stepping-starts : (a : Actor) (f : Desk) (first : ℕ) → CanAct a f.floor (Stepping first)
    → SteppingOn a f first first f
stepping-starts a f first can = record {
  did = record {
    hears = hears-none f (go_on a first);
    stands = can.stands;
    rounds = can.rounds;
    moves = moves-none a.place f.floor.board f.floor.parties (drop first a.job.now.steps);
    back = tt;
    adds = adds-keeps a.job.now a.place f f (Stepping first) (later-none f.floor) (keeps-none f);
  };
  can = can;
}

pub step-at : (steps : List Step) (next : ℕ) (step d : Step) → next < length steps → step ≡ get_or steps next d
    → slice_get steps next ≡ Some step
step-at steps next step d below is = rw is (slice_get-get_or steps next d below)

module _ (a : Actor) (f g k : Desk) (first next : ℕ) (step : Step) (on : SteppingOn a f first next g)
    (its_step : slice_get a.job.now.steps next ≡ Some step) where
  -- what remains after the step
  abbrev onward : MadeIn Heard → ActedIn Heard
  onward m = stop_or m (machine.after_steps heard_world (role a) (drop (next + 1) a.job.now.steps) (next + 1) m.scene)

  so-far : Did a f (Stepping first) (go_on a first) (λ h. onward (make_step a next step h)) g (Stepping next)
  so-far =
      let Goal : List Step → Type 0 = λ steps.
      Did a f (Stepping first) (go_on a first) (λ h. machine.after_steps heard_world (role a) steps next h) g
      (Stepping next) in
      subst Goal (drop-at a.job.now.steps next step its_step) on.did

  pub stops-with : (p : Progress) → Did a g (Stepping next) (make_step a next step) (made_so (Some p)) k p
      → Did a f (Stepping first) (go_on a first) (left_so p) k p
  stops-with p makes =
      did-then a f (Stepping first) (go_on a first) (λ h. onward (make_step a next step h)) (left_so p) g
      (Stepping next) k p
      so-far (did-on onward a g (Stepping next) (make_step a next step) (made_so (Some p)) k p makes)

  pub steps-on : Did a g (Stepping next) (make_step a next step) (made_so None) k (Stepping (next + 1))
      → SteppingOn a f first (next + 1) k
  steps-on makes = record {
    did = did-then a f (Stepping first) (go_on a first) (λ h. onward (make_step a next step h)) (go_on a (next + 1)) g
        (Stepping next) k (Stepping (next + 1)) so-far
        (did-on onward a g (Stepping next) (make_step a next step) (made_so None) k (Stepping (next + 1)) makes);
    can = can-then a g (Stepping next) (make_step a next step) (made_so None) k (Stepping (next + 1)) on.can makes;
  }

-- after its last step
pub finish-stands : (a : Actor) (f g : Desk) (first next : ℕ) → SteppingOn a f first next g
    → length a.job.now.steps ≤ next → Stands a g.floor None []
finish-stands a f g first next on past = record {
  kinds = on.can.stands.kinds;
  ready = ready-to-end g.floor.board a.place None (drop next a.job.now.steps) on.can.stands.ready;
}

pub finishes : (a : Actor) (f g k : Desk) (first next : ℕ) (p : Progress) → SteppingOn a f first next g
    → length a.job.now.steps ≤ next → GaveUp a g (finish a) (left_so p) k → p ≡ Ended end.Done
    → Did a f (Stepping first) (go_on a first) (left_so p) k p
finishes a f g k first next p on past gave is =
    let none : drop next a.job.now.steps ≡ [] = drop_all next a.job.now.steps past in
    let before : Hears f g (go_on a first) (finish a)
    = subst (λ steps. Hears f g (go_on a first) (λ h. machine.after_steps heard_world (role a) steps next h)) none
    on.did.hears in
    let heard_all : Hears f k (go_on a first) (left_so p) = hears-then f g k (go_on a first) (finish a)
    (left_so p) before gave.hears in
    let moved : Moves a.place f.floor.board f.floor.parties (drop first a.job.now.steps) k.floor.board k.floor.parties
    []
    = moves-on a.place f.floor.board f.floor.parties (drop first a.job.now.steps) g.floor.board g.floor.parties
    (drop next a.job.now.steps) k.floor.board
    k.floor.parties [] on.did.moves (moves-on a.place g.floor.board g.floor.parties
    (drop next a.job.now.steps) g.floor.board g.floor.parties []
    k.floor.board k.floor.parties [] (moves-end a.place g.floor.board g.floor.parties (drop next a.job.now.steps))
    gave.moves) in
    let steps : List Step = a.job.now.steps in
    let last : Adds a.job.now a.place g (Stepping next) k (Ended end.Done) = record {
      more = [];
      waits = gave.keeps.waits ∙ sym (append-nil g.waits);
      whose = All-nil (λ (w : Waited). w.job ≡ a.place);
      over = λ over. absurd over;
      came = λ j other. gave.keeps.came j;
      noted = gave.keeps.noted;
      tally = λ noted at permits.
          tally-done at steps next (took g.floor at) (took k.floor at) past (gave.keeps.tally noted at permits);
      caused = λ noted its. tt;
    } in
    let Goal : Progress → Type 0 = λ q. Did a f (Stepping first) (go_on a first) (left_so p) k q in
    subst Goal (sym is) (record {
      hears = heard_all;
      stands = gave.stands;
      rounds = tt;
      moves = moved;
      back = tt;
      adds = adds-then a.job.now a.place f g k (Stepping first) (Stepping next) (Ended end.Done) on.did.hears.later
          on.did.adds last;
    })

-- from a clause on success to another
pub if-ok : {T E : Type 0} {P Q : T → Type 0} (r : Result T E) → ((x : T) → P x → Q x) → IfOk r P → IfOk r Q
if-ok (Ok x) from fact = from x fact
if-ok (Err e) from fact = tt

pub on-ok : {T E P Q : Type 0} (r : Result T E) → (P → Q) → OnOk r P → OnOk r Q
on-ok (Ok x) from fact = from fact
on-ok (Err e) from fact = tt

-- of both clauses
pub on-ok-both : {T E P Q S : Type 0} (r : Result T E) → (P → Q → S) → OnOk r P → OnOk r Q → OnOk r S
on-ok-both (Ok x) from first second = from first second
on-ok-both (Err e) from first second = tt
