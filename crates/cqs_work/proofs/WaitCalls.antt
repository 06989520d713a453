-- What a worker's job does that waits: it looks, or it leaves.
use Rattle.std.proofs.Common.{◌≡◌, ℕ, ◌+◌, ◌≤◌, List, [], ◌∷◌, Bool, true, false, Option, Some, None, drop, get_or, inl, inr, refl, sym, ap, subst, ◌∙◌, arith}
use Rattle.cqs_plan.specs.declared.plans.step.Step.{Step}
use Rattle.cqs_plan.specs.declared.floors.answers.FloorLook.{FloorLook}
use Rattle.cqs_plan.specs.declared.floors.answers.FloorLook.TheVariants.{Pending, Granted}
use Rattle.cqs_plan.specs.declared.floors.answers.FloorLeave.{FloorLeave}
use Rattle.cqs_plan.specs.declared.floors.answers.FloorLeave.TheVariants.{Gone, Late}
use Rattle.cqs_plan.specs.declared.plans.kind.Kind.{Kind}
use Rattle.cqs_plan.specs.declared.plans.kind.Kind.TheVariants as kind
use Rattle.cqs_plan.specs.FloorCalls.{after_look, after_leave}
use Rattle.cqs_plan.specs.Floor.{PlainFloor, JobWait, round_of}
use Rattle.cqs_turns_report.specs.declared.actors.Actor.{Actor}
use Rattle.cqs_turns_report.specs.declared.states.End.{End}
use Rattle.cqs_turns_report.specs.declared.states.Progress.{Progress}
use Rattle.cqs_turns_report.specs.declared.states.Progress.TheVariants.{Stepping, Waiting}
use Rattle.cqs_turns_report.specs.Machine.{end_of}
use Rattle.cqs_turns_report.specs.Roles.{role, wait_at}
use Rattle.cqs_turns_report.proofs.Readied.{after_looking-ready, leave-ready}
use Rattle.cqs_floor_shared.specs.Shared.{Shared, kind_at, seen_at, came_of, parties_in, parties_at}
use Rattle.cqs_floor_shared.specs.Calls.{HasLooked, HasLeft, Leaves, Looks, parties_left, parties_left_at}
use Rattle.cqs_work.specs.Desk.{Desk}
use Rattle.cqs_work.specs.Heard as answer
use Rattle.cqs_work.specs.Roles.{left_so, go_on, leave_end, ended_so, look_at}
use Rattle.cqs_work.specs.Doing.{Moves, Stands, CanAct, Did, GaveUp}
use Rattle.cqs_work.specs.Later.{Later}
use Rattle.cqs_work.specs.Noted.{IsNoted}
use Rattle.cqs_work.specs.Causes.{IsInLine, IsCauseOf}
use Rattle.cqs_work.specs.Adds.{Keeps}
use Rattle.cqs_work.proofs.Draws.{left-room, looked-room}
use Rattle.cqs_work.proofs.Growing.{served-stays}
use Rattle.cqs_work.proofs.Leaving.{gone-told, late-told}
use Rattle.cqs_work.proofs.Adding.{call-keeps, looked-plain, left-plain}
use Rattle.cqs_work.proofs.Causing.{adds-keeps, adds-as}
use Rattle.cqs_work.proofs.LeaveAccounts.{leave-later}
use Rattle.cqs_work.proofs.LookAccounts.{look-later}
use Rattle.cqs_work.specs.Gated.{HasTold}
use Rattle.cqs_work.proofs.HeardLemmas.{looked-is, left-is}
use Rattle.cqs_work.proofs.Parties.{parties-more, place-stays}
use Rattle.cqs_work.specs.Needs.{IsPartyPlace}
use Rattle.cqs_work.proofs.Moving.{moves-none, moves-looked, looked-rounds, moves-left, moves-late}

-- a look
look-by : (a : Actor) (f g : Desk) (next at round number : ℕ) (got : FloorLook)
    → CanAct a f.floor (Waiting next at round number) → HasLooked f.floor a.place got g.floor
    → Looks f.floor a.place (wait_at at round number) got g.floor
look-by a f g next at round number got can looked = looked.at (wait_at at round number) can.stands.ready.waits

looked-keeps : (place : ℕ) (f g : Desk) (wait : JobWait) (got : FloorLook) → Looks f.floor place wait got g.floor
    → g.floor.board.kinds ≡ f.floor.board.kinds → g.waits ≡ f.waits → Keeps f g
looked-keeps place f g wait got looks kinds waits =
    call-keeps f wait.at _ g looks.sees kinds
    (looked-plain (came_of f.floor place) (kind_at f.floor wait.at) wait.round f.floor.number wait.number got) waits
    looks.came (ap (λ b. b.room) looks.board ∙ looked-room f.floor.board place got)

pub pending-did : (a : Actor) (f g : Desk) (next at round number : ℕ) (got : FloorLook)
    → CanAct a f.floor (Waiting next at round number) → HasLooked f.floor a.place got g.floor
    → g.waits ≡ f.waits → HasTold f.gate g.gate 1 → got ≡ Pending
    → Did a f (Waiting next at round number) (look_at a next at round number)
    (left_so (Waiting next at round number)) g (Waiting next at round number)
pending-did a f g next at round number got can looked waits told is =
    let Same : FloorLook → Type 0 = λ o. Looks f.floor a.place (wait_at at round number) o g.floor in
    let looks : Looks f.floor a.place (wait_at at round number) Pending g.floor
    = subst Same is (look-by a f g next at round number got can looked) in
    let p : Progress = Waiting next at round number in
    record {
      hears = record {
        later = look-later f.floor a.place (wait_at at round number) Pending g.floor looks can.stands.ready.job
            can.stands.ready.waits;
        answers = answer.looked Pending ∷ [];
        told = told;
        plays = λ more. ap (left_so p) (looked-is f (role a) (wait_at at round number) Pending g looks waits more);
      };
      stands = record {
        kinds = ap (λ c. c.kinds) looks.board ∙ can.stands.kinds;
        ready = rw looks.board
            can.stands.ready;
      };
      rounds = λ q. ap (λ c. round_of c a.place q) looks.board ∙ can.rounds q;
      moves = rw (looks.board, looks.parties) (moves-none a.place f.floor.board f.floor.parties
          (drop next a.job.now.steps));
      back = record {
        back = rw looks.board can.back.back;
        party = rw (looks.board, looks.parties) can.back.party;
      };
      adds = adds-keeps a.job.now a.place f g p
          (look-later f.floor a.place (wait_at at round number) Pending g.floor looks can.stands.ready.job
          can.stands.ready.waits)
          (looked-keeps a.place f g (wait_at at round number) Pending looks (ap (λ c. c.kinds) looks.board) waits);
    }

pub granted-did : (a : Actor) (f g : Desk) (next at round number element : ℕ) (got : FloorLook)
    → CanAct a f.floor (Waiting next at round number) → HasLooked f.floor a.place got g.floor
    → g.waits ≡ f.waits → HasTold f.gate g.gate 1 → got ≡ Granted element
    → Did a f (Waiting next at round number) (look_at a next at round number) (go_on a next) g (Stepping next)
granted-did a f g next at round number element got can looked waits told is =
    let Same : FloorLook → Type 0 = λ o. Looks f.floor a.place (wait_at at round number) o g.floor in
    let looks : Looks f.floor a.place (wait_at at round number) (Granted element) g.floor
    = subst Same is (look-by a f g next at round number got can looked) in
    let steps : List Step = drop next a.job.now.steps in
    let b : PlainFloor = after_look f.floor.board a.place (Granted element) in
    let moved : Moves a.place f.floor.board f.floor.parties steps b f.floor.parties steps
    = moves-looked a.place f.floor.board f.floor.parties element steps in
    record {
      hears = record {
        later = look-later f.floor a.place (wait_at at round number)
            (Granted element) g.floor looks can.stands.ready.job
            can.stands.ready.waits;
        answers = answer.looked (Granted element) ∷ [];
        told = told;
        plays = λ more. ap (go_on a next) (looked-is f (role a) (wait_at at round number)
            (Granted element) g looks waits more);
      };
      stands = record {
        kinds = ap (λ c. c.kinds) looks.board ∙ moved.kinds ∙ can.stands.kinds;
        ready = rw looks.board (after_looking-ready f.floor.board a.place
            (wait_at at round number) element steps can.stands.ready);
      };
      rounds = λ q. ap (λ c. round_of c a.place q) looks.board
          ∙ ap (λ rs. get_or (get_or rs a.place []) q 0) (looked-rounds a.place f.floor.board element) ∙ can.rounds q;
      moves = rw (looks.board, looks.parties) moved;
      back = tt;
      adds = adds-as a.job.now a.place f g (Stepping next) (Waiting next at round number) (Stepping next) (λ q. refl)
          (λ q. refl) (λ over. over) (λ its. tt)
          (adds-keeps a.job.now a.place f g (Stepping next)
          (look-later f.floor a.place (wait_at at round number) (Granted element) g.floor looks can.stands.ready.job
          can.stands.ready.waits)
          (looked-keeps a.place f g (wait_at at round number) (Granted element) looks
          (ap (λ c. c.kinds) looks.board ∙ moved.kinds) waits));
    }

-- a leave
pub more-left : (k : Option Kind) (f : Shared) (wait : JobWait) (q r : ℕ)
    → parties_in f.parties q r ≤ parties_in (parties_left_at k f wait) q r
more-left (Some (kind.Rounds parties rounds)) f wait q r = parties-more f.parties wait.at wait.round q r
more-left (Some (kind.Semaphore permits)) f wait q r = omega arith
more-left (Some kind.Mutex) f wait q r = omega arith
more-left (Some (kind.Pool elements)) f wait q r = omega arith
more-left (Some (kind.Latch count)) f wait q r = omega arith
more-left None f wait q r = omega arith

-- a place for parties stays
pub rows-left : (k : Option Kind) (f : Shared) (wait : JobWait) (q r : ℕ) → IsPartyPlace f.parties q r
    → IsPartyPlace (parties_left_at k f wait) q r
rows-left (Some (kind.Rounds parties rounds)) f wait q r there =
    place-stays f.parties wait.at wait.round (parties_at f wait.at wait.round + 1) q r there
rows-left (Some (kind.Semaphore permits)) f wait q r there = there
rows-left (Some kind.Mutex) f wait q r there = there
rows-left (Some (kind.Pool elements)) f wait q r there = there
rows-left (Some (kind.Latch count)) f wait q r there = there
rows-left None f wait q r there = there

leave-moves : (place : ℕ) (f : Shared) (wait : JobWait) (got : FloorLeave)
    → Moves place f.board f.parties [] (after_leave f.board place got) (parties_left f wait got) []
leave-moves place f wait Gone =
    moves-left place f.board f.parties (parties_left f wait Gone) (more-left (kind_at f wait.at) f wait)
    (rows-left (kind_at f wait.at) f wait)
leave-moves place f wait (Late element) = moves-late place f.board f.parties element []

pub leaves-line : (a : Actor) (f g : Desk) (at round number : ℕ) (got : FloorLeave)
    → Stands a f.floor (Some (wait_at at round number)) [] → HasLeft f.floor a.place got g.floor
    → g.waits ≡ f.waits → HasTold f.gate g.gate 1
    → GaveUp a f (leave_end a at round number) (ended_so (end_of got)) g
leaves-line a f g at round number got stands left waits told =
    let wait : JobWait = wait_at at round number in
    let leaves : Leaves f.floor a.place wait got g.floor = left.at wait stands.ready.waits in
    let moved : Moves a.place f.floor.board f.floor.parties [] (after_leave f.floor.board a.place got)
    (parties_left f.floor wait got) []
    = leave-moves a.place f.floor wait got in
    record {
      hears = record {
        later = leave-later f.floor a.place wait got g.floor leaves stands.ready.job stands.ready.waits;
        answers = answer.left got leaves.stays ∷ [];
        told = told;
        plays = λ more. ap (λ h. (h, end_of got)) (left-is f (role a) wait got g leaves waits more);
      };
      stands = record {
        kinds = ap (λ c. c.kinds) leaves.board ∙ moved.kinds ∙ stands.kinds;
        ready = rw leaves.board (leave-ready f.floor.board a.place wait got [] stands.ready);
      };
      moves = rw (leaves.board, leaves.parties) moved;
      keeps = call-keeps f at _ g leaves.sees (ap (λ c. c.kinds) leaves.board ∙ moved.kinds)
          (left-plain (came_of f.floor a.place) (kind_at f.floor at) round f.floor.number number got leaves.stays) waits
          leaves.came (ap (λ b. b.room) leaves.board ∙ left-room f.floor.board a.place got);
    }

pub leave-did : (a : Actor) (f g : Desk) (at round number : ℕ) (got : FloorLeave) (e : End)
    → Stands a f.floor (Some (wait_at at round number)) [] → HasLeft f.floor a.place got g.floor
    → g.waits ≡ f.waits → HasTold f.gate g.gate 1 → e ≡ end_of got
    → GaveUp a f (leave_end a at round number) (ended_so e) g
leave-did a f g at round number got e stands left waits told is =
    subst (λ x. GaveUp a f (leave_end a at round number) (ended_so x) g) (sym is)
    (leaves-line a f g at round number got stands left waits told)

-- and what stands behind its end
leave-cause : (a : Actor) (f g : Desk) (wait : JobWait) (got : FloorLeave) (came : Bool) → came_of f.floor a.place
    ≡ came
    → Leaves f.floor a.place wait got g.floor → Later f.floor g.floor → IsNoted f
    → IsInLine a.place f wait.at wait.round wait.number
    → IsCauseOf a.place wait.at wait.round wait.number g (end_of got)
leave-cause a f g wait Gone came had leaves later noted line =
    gone-told f.floor a.place wait g.floor line.kind noted.long leaves
leave-cause a f g wait (Late element) true had leaves later noted line =
    inr (
      ap (λ l. get_or l a.place false) leaves.came ∙ had,
      served-stays (seen_at f.floor wait.at) (seen_at g.floor wait.at) wait.round wait.number (later.before wait.at)
          (line.served had),
    )
leave-cause a f g wait (Late element) false had leaves later noted line =
    inl (late-told f.floor a.place wait g.floor line.kind noted.long element had leaves)

pub leave-told : (a : Actor) (f g : Desk) (at round number : ℕ) (got : FloorLeave)
    → Stands a f.floor (Some (wait_at at round number)) [] → HasLeft f.floor a.place got g.floor
    → IsNoted f → IsInLine a.place f at round number → IsCauseOf a.place at round number g (end_of got)
leave-told a f g at round number got stands left noted line =
    let wait : JobWait = wait_at at round number in
    let leaves : Leaves f.floor a.place wait got g.floor = left.at wait stands.ready.waits in
    let later : Later f.floor g.floor
    = leave-later f.floor a.place wait got g.floor leaves stands.ready.job stands.ready.waits in
    leave-cause a f g wait got (came_of f.floor a.place) refl leaves later noted line
