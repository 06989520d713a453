-- A worker's job that is over time, and has ended: it gave back all that it held.
use Rattle.std.proofs.Common.{◌≡◌, ◌⊎◌, inl, inr, ℕ, [], ◌∷◌, ◌++◌, true, false, Some, None, drop, refl, sym, ap, subst, ◌∙◌, arith}
use Rattle.std.proofs.lemmas.List.{append-nil}
use Rattle.std.proofs.lemmas.List.Elements.{All-nil}
use Rattle.cqs_plan.specs.declared.floors.answers.FloorLeave.{FloorLeave}
use Rattle.cqs_plan.specs.declared.floors.answers.FloorLeave.TheVariants.{Gone, Late}
use Rattle.cqs_turns_report.specs.declared.actors.Actor.{Actor}
use Rattle.cqs_turns_report.specs.declared.states.End.{End}
use Rattle.cqs_turns_report.specs.declared.states.End.TheVariants as end
use Rattle.cqs_turns_report.specs.declared.states.Patience.{Patience}
use Rattle.cqs_turns_report.specs.declared.states.Progress.{Progress}
use Rattle.cqs_turns_report.specs.declared.states.Progress.TheVariants.{Waiting, Ended}
use Rattle.cqs_turns_report.specs.Machine.{ActedIn, end_of, left_at, is_over_time, retries}
use Rattle.cqs_turns_report.specs.Machine as machine
use Rattle.cqs_turns_report.specs.Roles.{role, wait_at}
use Rattle.cqs_turns_report.specs.Turns.{places_held}
use Rattle.cqs_turns_report.proofs.Readied.{ready-to-end}
use Rattle.cqs_floor_shared.specs.Calls.{HasLeft, Leaves}
use Rattle.cqs_work.specs.declared.waits.Waited.{Waited}
use Rattle.cqs_work.specs.Desk.{Desk}
use Rattle.cqs_work.specs.Gated.{HasTold}
use Rattle.cqs_work.specs.Heard as answer
use Rattle.cqs_work.specs.Heard.{Heard, Hears, heard, heard_world}
use Rattle.cqs_work.specs.Takes.{took}
use Rattle.cqs_work.specs.Causes.{IsCaused, IsInLine, IsCauseOf, MayBeOverTime, last_wait}
use Rattle.cqs_work.specs.Adds.{Adds}
use Rattle.cqs_work.specs.Roles.{same, left_so, give_each, leave_end, ended_so, give_up, patiently, staged}
use Rattle.cqs_work.specs.Stages.{stage}
use Rattle.cqs_work.specs.Doing.{Stands, HasTurn, Did, HadTurn, GaveUp}
use Rattle.cqs_work.proofs.Adding.{keeps-then}
use Rattle.cqs_work.proofs.Causing.{cause-stays, tally-gave-up, over-some}
use Rattle.cqs_work.proofs.HeardLemmas.{hears-then, hears-on, left-is}
use Rattle.cqs_work.proofs.Gating.{told-then}
use Rattle.cqs_work.proofs.Moving.{moves-end, moves-on}
use Rattle.cqs_work.proofs.WaitCalls.{leaves-line, leave-told}
use Rattle.cqs_work.proofs.InTurn.{turned, waited_turn, left_turn}

-- it left with its wait, and then gave back all
abbrev give_up_all : Actor → Heard × End → ActedIn Heard
give_up_all a left = left_at (machine.after_all_gives heard_world (role a) left.0) (Ended left.1)

gives-up : (a : Actor) (f g k : Desk) (at round number : ℕ) (e : End)
    → GaveUp a f (leave_end a at round number) (ended_so e) g
    → GaveUp a g (give_each a (places_held g.floor.board a.place)) same k
    → GaveUp a f (give_up a at round number) (left_so (Ended e)) k
gives-up a f g k at round number e left gives =
    let on : Hears f g (give_up a at round number) (λ h. give_up_all a (h, e))
    = hears-on (give_up_all a) f g (leave_end a at round number) (ended_so e) left.hears in
    let all : Hears g k (λ h. give_up_all a (h, e)) (left_so (Ended e)) = record {
      later = gives.hears.later;
      answers = gives.hears.answers;
      told = gives.hears.told;
      plays = λ rest. ap (left_so (Ended e)) (gives.hears.plays rest);
    } in
    record {
      hears = hears-then f g k (give_up a at round number) (λ h. give_up_all a (h, e)) (left_so (Ended e)) on all;
      stands = gives.stands;
      moves = moves-on a.place f.floor.board f.floor.parties [] g.floor.board g.floor.parties [] k.floor.board
          k.floor.parties [] left.moves gives.moves;
      keeps = keeps-then f g k left.moves.kinds left.keeps gives.keeps;
    }

-- what stands behind its end
gave-up-cause : (a : Actor) (f g : Desk) (at in_round number : ℕ) (got : FloorLeave) → MayBeOverTime a.job.now
    → g.waits ≡ f.waits → IsInLine a.place f at in_round number → IsCauseOf a.place at in_round number g (end_of got)
    → IsCaused a.job.now a.place g (Ended (end_of got))
gave-up-cause a f g at in_round number Gone time waits line cause = record {
  time = time;
  wait = record { at = at; round = in_round; number = number; job = a.place };
  last = ap (last_wait a.place) waits ∙ line.last;
  left = cause;
}
gave-up-cause a f g at in_round number (Late element) time waits line cause = record {
  time = time;
  wait = record { at = at; round = in_round; number = number; job = a.place };
  last = ap (last_wait a.place) waits ∙ line.last;
  late = cause;
}

either-end : (got : FloorLeave) → (end_of got ≡ end.GaveUp) ⊎ (end_of got ≡ end.Late)
either-end Gone = inl refl
either-end (Late element) = inr refl

module _ (a : Actor) (f g k : Desk) (next at round number : ℕ) (got : FloorLeave) (x : Patience)
    (turn : HasTurn a f.floor (stage (Waiting next at round number) x)) (left : HasLeft f.floor a.place got g.floor)
    (waits : g.waits ≡ f.waits) (told : HasTold f.gate g.gate 1)
    (long : is_over_time (role a) x ≡ true) (over : retries (role a) x got ≡ false)
    (gives : GaveUp a g (give_each a (places_held g.floor.board a.place)) same k) where
  stands : Stands a f.floor (Some (wait_at at round number)) []
  stands = record {
    kinds = turn.can.stands.kinds;
    ready = ready-to-end f.floor.board a.place (Some (wait_at at round number)) (drop next a.job.now.steps)
        turn.can.stands.ready;
  }

  leave : Leaves f.floor a.place (wait_at at round number) got g.floor
  leave = left.at (wait_at at round number) turn.can.stands.ready.waits

  leaves : GaveUp a f (leave_end a at round number) (ended_so (end_of got)) g
  leaves = leaves-line a f g at round number got stands left waits told

  gave : GaveUp a f (give_up a at round number) (left_so (Ended (end_of got))) k
  gave = gives-up a f g k at round number (end_of got) leaves gives

  adds : Adds a.job.now a.place f (Waiting next at round number) k (Ended (end_of got))
  adds = record {
    more = [];
    waits = gave.keeps.waits ∙ sym (append-nil f.waits);
    whose = All-nil (λ (w : Waited). w.job ≡ a.place);
    over = λ over. absurd over;
    came = λ j other. gave.keeps.came j;
    noted = gave.keeps.noted;
    tally = λ noted q permits.
        tally-gave-up q a.job.now.steps next at round number (took f.floor q) (took k.floor q) (end_of got)
        (either-end got) (gave.keeps.tally noted q permits);
    caused = λ noted line.
        gave-up-cause a f k at round number got (over-some (role a) x long) gave.keeps.waits line
        (cause-stays a.place at round number g k (end_of got) gives.hears.later (gives.keeps.came a.place)
        (leave-told a f g at round number got stands left noted line));
  }

  did : Did a f (Waiting next at round number) (give_up a at round number) (left_so (Ended (end_of got))) k
      (Ended (end_of got))
  did = record {
    hears = gave.hears;
    stands = gave.stands;
    rounds = tt;
    moves = moves-on a.place f.floor.board f.floor.parties (drop next a.job.now.steps) f.floor.board f.floor.parties
        [] k.floor.board k.floor.parties []
        (moves-end a.place f.floor.board f.floor.parties (drop next a.job.now.steps)) gave.moves;
    back = tt;
    adds = adds;
  }

  -- the turn in which it ended
  pub ended-turned : HadTurn a f (stage (Waiting next at round number) x) k (stage (Ended (end_of got)) x)
  ended-turned =
      turned a f k (stage (Waiting next at round number) x) (stage (Ended (end_of got)) x)
      (give_up a at round number) (left_so (Ended (end_of got))) refl did (record {
        later = gave.hears.later;
        answers = answer.left got leave.stays ∷ gives.hears.answers;
        told = told-then f.gate g.gate k.gate 1 _ _ told gives.hears.told (omega arith);
        plays = λ rest.
            ap (waited_turn a x next at round number
            (heard f (answer.left got leave.stays ∷ (gives.hears.answers ++ rest)))) long
            ∙ ap (left_turn a x next at round number got
            (heard f (answer.left got leave.stays ∷ (gives.hears.answers ++ rest)))) over
            ∙ ap (λ h. patiently x (give_up_all a (h, end_of got)))
            (left-is f (role a) (wait_at at round number) got g leave waits (gives.hears.answers ++ rest))
            ∙ ap (staged (stage (Ended (end_of got)) x)) (gives.hears.plays rest);
      })

-- as the code has it
pub gave-up-turned : (a : Actor) (f g k : Desk) (p : Progress) (next at round number : ℕ) (got : FloorLeave)
    (x : Patience) (e : End) → p ≡ Waiting next at round number → HasTurn a f.floor (stage p x)
    → HasLeft f.floor a.place got g.floor → g.waits ≡ f.waits → HasTold f.gate g.gate 1
    → is_over_time (role a) x ≡ true → retries (role a) x got ≡ false → e ≡ end_of got
    → GaveUp a g (give_each a (places_held g.floor.board a.place)) same k
    → HadTurn a f (stage p x) k (stage (Ended e) x)
gave-up-turned a f g k p next at round number got x e is turn left waits told long over ends gives =
    subst (λ n. HadTurn a f (stage n x) k (stage (Ended e) x)) (sym is)
    (subst (λ z. HadTurn a f (stage (Waiting next at round number) x) k (stage (Ended z) x)) (sym ends)
    (ended-turned a f g k next at round number got x (subst (λ n. HasTurn a f.floor (stage n x)) is turn) left waits
    told long over gives))

-- what it stands on then, to give back all that it holds
pub left-stands : (a : Actor) (f g : Desk) (p : Progress) (next at round number : ℕ) (got : FloorLeave) (x : Patience)
    → p ≡ Waiting next at round number → HasTurn a f.floor (stage p x) → HasLeft f.floor a.place got g.floor
    → g.waits ≡ f.waits → HasTold f.gate g.gate 1 → Stands a g.floor None []
left-stands a f g p next at round number got x is turn left waits told =
    let now : HasTurn a f.floor (stage (Waiting next at round number) x)
    = subst (λ n. HasTurn a f.floor (stage n x)) is turn in
    (leaves-line a f g at round number got (record {
      kinds = now.can.stands.kinds;
      ready = ready-to-end f.floor.board a.place (Some (wait_at at round number)) (drop next a.job.now.steps)
          now.can.stands.ready;
    }) left waits told).stands
