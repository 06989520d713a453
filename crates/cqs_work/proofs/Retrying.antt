-- A worker's job whose wait is gone makes the step again at which it waited.
use Rattle.std.proofs.Common.{◌≡◌, ◌≢◌, ◌⊎◌, inl, inr, ℕ, zero, suc, ◌+◌, ◌-◌, ◌<◌, ◌≤◌, nat_lt, Bool, true, false, ◌||◌, not, cond, List, [], ◌∷◌, ◌++◌, Option, Some, None, length, set, get_or, take, drop, slice_get, count_by, refl, sym, ap, ◌∙◌, subst, ltb-true, arith}
use Rattle.std.specs.Bool.{if◌then◌else◌}
use Rattle.std.specs.List.{list_any}
use Rattle.std.specs.Option.{option_map_or}
use Rattle.std.proofs.lemmas.Bool.{and_parts, cases_eq}
use Rattle.std.proofs.lemmas.List.{get_or-set_same, get_or-set_other}
use Rattle.std.proofs.lemmas.List.Sums.{sum_by-cons}
use Rattle.cqs_core.proofs.Places.{get-there}
use Rattle.cqs_plan.specs.Language.{is_barrier}
use Rattle.cqs_plan.specs.declared.plans.job.Job.{Job}
use Rattle.cqs_plan.specs.declared.plans.kind.Kind.{Kind}
use Rattle.cqs_plan.specs.declared.plans.kind.Kind.TheVariants as kind
use Rattle.cqs_plan.specs.declared.plans.step.Step.{Step}
use Rattle.cqs_plan.specs.declared.floors.answers.FloorLeave.{FloorLeave}
use Rattle.cqs_plan.specs.declared.floors.answers.FloorLeave.TheVariants.{Gone, Late}
use Rattle.cqs_plan.specs.Floor.{PlainFloor, JobWait, own_rounds, room_at, round_of, is_barrier_in}
use Rattle.cqs_plan.specs.FloorCalls.{with_left}
use Rattle.cqs_plan.specs.PlanSteps.{is_arrival, is_take, may_wait}
use Rattle.cqs_turns_report.specs.declared.actors.Actor.{Actor}
use Rattle.cqs_turns_report.specs.declared.states.Patience.{Patience}
use Rattle.cqs_turns_report.specs.declared.states.Progress.{Progress}
use Rattle.cqs_turns_report.specs.declared.states.Progress.TheVariants.{Stepping, Working, Waiting, Ended}
use Rattle.cqs_turns_report.specs.Machine.{Role, is_due, is_over_time, may_retry, retries, retried}
use Rattle.cqs_turns_report.specs.Ready.{IsBack, row_back}
use Rattle.cqs_turns_report.specs.Roles.{role, wait_at}
use Rattle.cqs_turns_report.specs.Turns.{places_held}
use Rattle.cqs_turns_report.proofs.ArrivalMoves.{has-place}
use Rattle.cqs_turns_report.proofs.Leaving.{own-back}
use Rattle.cqs_turns_report.proofs.Moved.{arrivals-cons}
use Rattle.cqs_turns_report.proofs.Readied.{retry-ready}
use Rattle.cqs_floor_shared.specs.Shared.{Shared, kind_at, came_of, parties_in}
use Rattle.cqs_floor_shared.specs.Calls.{HasLeft, Leaves, parties_left_at}
use Rattle.cqs_work.specs.Adds.{Keeps}
use Rattle.cqs_work.specs.Desk.{Desk}
use Rattle.cqs_work.specs.Gated.{HasTold}
use Rattle.cqs_work.specs.Heard.{heard}
use Rattle.cqs_work.specs.Heard as answer
use Rattle.cqs_work.specs.Needs.{IsPartyPlace, parties_for, comes_to}
use Rattle.cqs_work.specs.Noted.{HasPermits}
use Rattle.cqs_work.specs.Roles.{left_so, go_on, patiently}
use Rattle.cqs_work.specs.Stages.{Stage, stage, unused, retries_for}
use Rattle.cqs_work.specs.Takes.{takes_in}
use Rattle.cqs_work.specs.Doing.{AreSameBut, CanAct, HasTurn, Did, HadTurn}
use Rattle.cqs_work.proofs.Draws.{left-room}
use Rattle.cqs_work.proofs.Adding.{call-keeps, left-plain}
use Rattle.cqs_work.proofs.Causing.{takes-next}
use Rattle.cqs_work.proofs.HeardLemmas.{left-is}
use Rattle.cqs_work.proofs.Gating.{told-then}
use Rattle.cqs_work.proofs.Lasting.{later-then}
use Rattle.cqs_work.proofs.InTurn.{waited_turn, left_turn}
use Rattle.cqs_work.proofs.LeaveAccounts.{leave-later}
use Rattle.cqs_work.proofs.Moving.{but-same, but-set, but-then, rounds-back}
use Rattle.cqs_work.proofs.Parties.{comes-here, comes-elsewhere, party-back}
use Rattle.cqs_work.proofs.StepNeeds.{drop-at, made-count}
use Rattle.cqs_work.proofs.WaitCalls.{more-left, rows-left}

-- who makes a step again has a retry left, and its wait is gone
retries-gone : (r : Role) (x : Patience) (got : FloorLeave) → retries r x got ≡ true
    → (got ≡ Gone) × (may_retry r x ≡ true)
retries-gone r x Gone is = (refl, is)
retries-gone r x (Late element) is = absurd (cc)

used-less : (r : Role) (x : Patience) → may_retry r x ≡ true → x.used < r.job.retry
used-less r x may =
    ltb-true x.used r.job.retry
    (and_parts (not (is_due r.job.deadline r.turn)) (nat_lt x.used r.job.retry) may).1

pub retry-left : (r : Role) (x : Patience) (got : FloorLeave) → retries r x got ≡ true → x.used < r.job.retry
retry-left r x got is = used-less r x (retries-gone r x got is).1

-- from one step earlier on there is at most one such step more
one-earlier : (which : Step → Bool) (n : ℕ) (steps : List Step) → n < length steps
    → count_by which (drop n steps) ≤ count_by which (drop (suc n) steps) + (if list_any which steps then 1 else 0)
one-earlier which n [] below = absurd (omega (arith, below))
one-earlier which zero (x ∷ steps) below = go (which x) refl (list_any which steps)
  where
    one : count_by which (x ∷ steps) ≡ cond (which x) 1 0 + count_by which steps
    one = sum_by-cons (λ s. cond (which s) 1 0) x steps

    go : (b : Bool) → which x ≡ b → (c : Bool)
        → count_by which (x ∷ steps) ≤ count_by which steps + (if b || c then 1 else 0)
    go true is c = omega (arith, one, ap (λ b. cond {A = ℕ} b 1 0) is)
    go false is true = omega (arith, one, ap (λ b. cond {A = ℕ} b 1 0) is)
    go false is false = omega (arith, one, ap (λ b. cond {A = ℕ} b 1 0) is)
one-earlier which (suc n) (x ∷ steps) below =
    go (which x) (list_any which steps) (one-earlier which n steps (omega (arith, below)))
  where
    go : (b c : Bool)
        → count_by which (drop n steps) ≤ count_by which (drop (suc n) steps) + (if c then 1 else 0)
        → count_by which (drop n steps) ≤ count_by which (drop (suc n) steps) + (if b || c then 1 else 0)
    go true true rest = rest
    go true false rest = omega (arith, rest)
    go false c rest = rest

-- what a job with one retry less may still do from there on, it might have done before with that retry
with-retry : (which : Step → Bool) (job : Job) (next : ℕ) (q : Stage) (x : Patience) → 0 < next
    → next ≤ length job.steps → x.used < job.retry → q.patience.used ≡ x.used + 1
    → count_by which (drop (next - 1) job.steps) + retries_for which job q
    ≤ count_by which (drop next job.steps) + (if list_any which job.steps then job.retry - x.used else 0)
with-retry which job next q x some below left used =
    let later : suc (next - 1) ≡ next = omega (arith, some) in
    let one : count_by which (drop (next - 1) job.steps)
    ≤ count_by which (drop (suc (next - 1)) job.steps) + (if list_any which job.steps then 1 else 0)
    = one-earlier which (next - 1) job.steps (omega (arith, some, below)) in
    go (list_any which job.steps)
    (subst (λ n. count_by which (drop (next - 1) job.steps)
    ≤ count_by which (drop n job.steps) + (if list_any which job.steps then 1 else 0)) later one)
  where
    less : (p : Progress) → unused job p q.patience.used + 1 ≤ job.retry - x.used
    less (Stepping n) = omega (arith, left, used)
    less (Working n until) = omega (arith, left, used)
    less (Waiting n at round number) = omega (arith, left, used)
    less (Ended e) = omega (arith, left)

    go : (b : Bool)
        → count_by which (drop (next - 1) job.steps)
        ≤ count_by which (drop next job.steps) + (if b then 1 else 0)
        → count_by which (drop (next - 1) job.steps) + (if b then unused job q.progress q.patience.used else 0)
        ≤ count_by which (drop next job.steps) + (if b then job.retry - x.used else 0)
    go true one = omega (arith, one, less q.progress)
    go false one = omega (arith, one)

-- a party is given back in the round from which the job withdrew
back-by : (k : Option Kind) → option_map_or is_barrier k false ≡ true → (f : Shared) (wait : JobWait)
    → IsPartyPlace f.parties wait.at wait.round
    → parties_in (parties_left_at k f wait) wait.at wait.round ≡ parties_in f.parties wait.at wait.round + 1
back-by (Some (kind.Rounds parties rounds)) is f wait place = party-back f.parties wait.at wait.round place
back-by (Some (kind.Semaphore permits)) is f wait place = absurd (cc)
back-by (Some kind.Mutex) is f wait place = absurd (cc)
back-by (Some (kind.Pool elements)) is f wait place = absurd (cc)
back-by (Some (kind.Latch count)) is f wait place = absurd (cc)
back-by None is f wait place = absurd (cc)

module _ (a : Actor) (f g : Desk) (next at round number : ℕ) (x : Patience)
    (turn : HasTurn a f.floor (stage (Waiting next at round number) x))
    (leaves : Leaves f.floor a.place (wait_at at round number) Gone g.floor) (waits : g.waits ≡ f.waits)
    (told : HasTold f.gate g.gate 1) (may : may_retry (role a) x ≡ true) where
  abbrev wait : JobWait
  wait = wait_at at round number

  abbrev steps : List Step
  steps = a.job.now.steps

  abbrev b : PlainFloor
  b = f.floor.board

  abbrev c : PlainFloor
  c = g.floor.board

  back : IsBack b a.place steps next wait
  back = turn.can.back.back

  left : x.used < a.job.now.retry
  left = used-less (role a) x may

  -- what the board is then
  gone : c ≡ with_left b a.place (Some wait)
  gone = leaves.board ∙ ap (with_left b a.place) turn.can.stands.ready.waits

  row : own_rounds c a.place ≡ row_back b.kinds (own_rounds b a.place) wait
  row = ap (λ (h : PlainFloor). own_rounds h a.place) gone ∙ own-back b a.place wait turn.can.stands.ready.job

  -- the step that it makes again
  again : (step : Step) × (slice_get steps (next - 1) ≡ Some step)
  again = get-there steps (next - 1) (omega (arith, back.some, back.below))

  one_on : (next - 1) + 1 ≡ next
  one_on = omega (arith, back.some)

  split : drop (next - 1) steps ≡ again.0 ∷ drop next steps
  split = drop-at steps (next - 1) again.0 again.1 ∙ ap (λ n. again.0 ∷ drop n steps) one_on

  -- it is in the round of that step again
  in-round : (q : ℕ) → round_of c a.place q ≡ count_by (is_arrival q) (take (next - 1) steps)
  in-round q = ap (λ xs. get_or xs q 0) row ∙ back.rounds q

  rounds-apart : (q : ℕ) → round_of b a.place q ≡ round_of c a.place q + cond {A = ℕ} (is_arrival q again.0) 1 0
  rounds-apart q =
      let made : count_by (is_arrival q) (take next steps)
      ≡ count_by (is_arrival q) (take (next - 1) steps) + cond {A = ℕ} (is_arrival q again.0) 1 0
      = ap (λ n. count_by (is_arrival q) (take n steps)) (sym one_on)
      ∙ made-count q steps (next - 1) again.0 again.1 in
      omega (arith, turn.can.rounds q, in-round q, made)

  -- where that is an arrival it waited at this barrier, in this round
  arrived-there : (q : ℕ) → is_arrival q again.0 ≡ true
      → (q ≡ at) × (round_of c a.place q ≡ round) × (is_barrier_in b.kinds at ≡ true)
  arrived-there q is = by (is_barrier_in b.kinds at) refl
    where
      one : round_of b a.place q ≡ round_of c a.place q + 1
      one = rounds-apart q ∙ ap (λ b. round_of c a.place q + cond {A = ℕ} b 1 0) is

      own : List ℕ
      own = own_rounds b a.place

      by : (barrier : Bool) → is_barrier_in b.kinds at ≡ barrier
          → (q ≡ at) × (round_of c a.place q ≡ round) × (is_barrier_in b.kinds at ≡ true)
      by false none =
          let same : round_of c a.place q ≡ round_of b a.place q
          = ap (λ xs. get_or xs q 0) row
          ∙ ap (λ b. get_or (if b then set own at round else own) q 0) none in
          absurd (omega (arith, one, same))
      by true some = at-barrier (cases_eq q at)
        where
          now : round_of c a.place q ≡ get_or (set own at round) q 0
          now = ap (λ xs. get_or xs q 0) row
              ∙ ap (λ b. get_or (if b then set own at round else own) q 0) some

          at-barrier : (q ≡ at) ⊎ (q ≢ at)
              → (q ≡ at) × (round_of c a.place q ≡ round) × (is_barrier_in b.kinds at ≡ true)
          at-barrier (inl same) =
              let inside : at < length own
              = omega (arith, has-place b.kinds at round (back.arrived some).round, turn.can.stands.ready.job.each) in (
                same,
                now ∙ ap (λ n. get_or (set own at round) n 0) same ∙ get_or-set_same own at round 0 inside,
                some,
              )
          at-barrier (inr other) =
              let kept : get_or (set own at round) q 0 ≡ round_of b a.place q
              = get_or-set_other own at q round 0 other in
              absurd (omega (arith, one, now, kept))

  -- and there its party is back
  parties-then : (q r : ℕ) → parties_in f.floor.parties q r ≤ parties_in g.floor.parties q r
  parties-then q r =
      let more = more-left (kind_at f.floor at) f.floor wait q r in
      omega (arith, more, ap (λ ps. parties_in ps q r) leaves.parties)

  party-then : is_barrier_in b.kinds at ≡ true
      → parties_in g.floor.parties at round ≡ parties_in f.floor.parties at round + 1
  party-then barrier =
      ap (λ ps. parties_in ps at round) leaves.parties
      ∙ back-by (kind_at f.floor at) barrier f.floor wait (turn.can.back.party barrier)

  comes : (q r : ℕ)
      → parties_in f.floor.parties q r + parties_for q r (round_of c a.place q) (drop (next - 1) steps)
      ≤ parties_in g.floor.parties q r + parties_for q r (round_of b a.place q) (drop next steps)
  comes q r = by (is_arrival q again.0) refl
    where
      first : ℕ
      first = round_of c a.place q

      n : ℕ
      n = count_by (is_arrival q) (drop next steps)

      counted : count_by (is_arrival q) (drop (next - 1) steps) ≡ cond {A = ℕ} (is_arrival q again.0) 1 0 + n
      counted = ap (count_by (is_arrival q)) split ∙ arrivals-cons q again.0 (drop next steps)

      by : (is : Bool) → is_arrival q again.0 ≡ is
          → parties_in f.floor.parties q r + parties_for q r (round_of c a.place q) (drop (next - 1) steps)
          ≤ parties_in g.floor.parties q r + parties_for q r (round_of b a.place q) (drop next steps)
      by false none =
          let same_round : round_of b a.place q ≡ first
          = omega (arith, rounds-apart q, ap (λ b. cond {A = ℕ} b 1 0) none) in
          let same_count : count_by (is_arrival q) (drop (next - 1) steps) ≡ n
          = omega (arith, counted, ap (λ b. cond {A = ℕ} b 1 0) none) in
          let same : comes_to r first (count_by (is_arrival q) (drop (next - 1) steps))
          ≡ comes_to r (round_of b a.place q) n
          = ap (comes_to r first) same_count ∙ ap (λ m. comes_to r m n) (sym same_round) in
          omega (arith, same, parties-then q r)
      by true some =
          let next_round : round_of b a.place q ≡ first + 1
          = omega (arith, rounds-apart q, ap (λ b. cond {A = ℕ} b 1 0) some) in
          let one_more : count_by (is_arrival q) (drop (next - 1) steps) ≡ n + 1
          = omega (arith, counted, ap (λ b. cond {A = ℕ} b 1 0) some) in
          let before : comes_to r first (count_by (is_arrival q) (drop (next - 1) steps)) ≡ comes_to r first (n + 1)
          = ap (comes_to r first) one_more in
          let after : comes_to r (round_of b a.place q) n ≡ comes_to r (first + 1) n
          = ap (λ m. comes_to r m n) next_round in
          go before after (cases_eq r first)
        where
          go : comes_to r first (count_by (is_arrival q) (drop (next - 1) steps)) ≡ comes_to r first (n + 1)
              → comes_to r (round_of b a.place q) n ≡ comes_to r (first + 1) n → (r ≡ first) ⊎ (r ≢ first)
              → parties_in f.floor.parties q r + parties_for q r (round_of c a.place q) (drop (next - 1) steps)
              ≤ parties_in g.floor.parties q r + parties_for q r (round_of b a.place q) (drop next steps)
          go before after (inr other) =
              omega (arith, before, after, comes-elsewhere r first n other, parties-then q r)
          go before after (inl here) =
              let there = arrived-there q some in
              let given : parties_in g.floor.parties q r ≡ parties_in f.floor.parties q r + 1
              = ap (λ m. parties_in g.floor.parties m r) there.0
              ∙ ap (parties_in g.floor.parties at) (here ∙ there.1) ∙ party-then there.2
              ∙ ap (λ m. parties_in f.floor.parties at m + 1) (sym (here ∙ there.1))
              ∙ ap (λ m. parties_in f.floor.parties m r + 1) (sym there.0) in
              let both : comes_to r (first + 1) n + 1 ≡ comes_to r first (n + 1)
              = subst (λ m. comes_to m (first + 1) n + 1 ≡ comes_to m first (n + 1)) (sym here) (comes-here first n) in
              omega (arith, before, after, both, given)

  kinds : c.kinds ≡ b.kinds
  kinds = ap (λ (h : PlainFloor). h.kinds) gone

  room-same : (q : ℕ) → room_at c q ≡ room_at b q
  room-same q = ap (λ (h : PlainFloor). room_at h q) gone

  -- it can make the step again
  pub can-again : CanAct a g.floor (Stepping (next - 1))
  can-again = record {
    stands = record {
      kinds = kinds ∙ turn.can.stands.kinds;
      ready = rw leaves.board (retry-ready b a.place wait next steps (drop next steps) turn.can.stands.ready back);
    };
    rounds = in-round;
    provided = record {
      room = λ q.
          let q_stage : Stage = stage (Stepping (next - 1)) (record { since = 0; used = x.used + 1 }) in
          let enough = with-retry (may_wait q) a.job.now next q_stage x back.some back.below left refl in
          omega (arith, enough, turn.room q, room-same q);
      parties = λ q r. omega (arith, comes q r, turn.can.provided.parties q r);
    };
    back = tt;
    few_steps = turn.can.few_steps;
    turn = turn.can.turn;
  }

  module _ (k : Desk) (q : Progress) (did : Did a g (Stepping (next - 1)) (go_on a (next - 1)) (left_so q) k q)
      (long : is_over_time (role a) x ≡ true) where
    abbrev before : Stage
    before = stage (Waiting next at round number) x

    abbrev after : Stage
    after = stage q (retried (role a) x)

    keeps : Keeps f g
    keeps = call-keeps f at _ g leaves.sees kinds
        (left-plain (came_of f.floor a.place) (kind_at f.floor at) round f.floor.number number Gone leaves.stays) waits
        leaves.came (ap (λ c. c.room) leaves.board ∙ left-room f.floor.board a.place Gone)

    taken-before : (at : ℕ) → takes_in at (take (next - 1) steps) ≤ takes_in at (take next steps)
    taken-before at =
        omega (
          arith,
          takes-next at steps (next - 1) again.0 again.1,
          ap (λ n. takes_in at (take n steps)) one_on,
        )

    -- the turn in which it made the step again
    pub retried-turned : HadTurn a f before k after
    retried-turned = record {
      hears = record {
        later = later-then f.floor g.floor k.floor
            (leave-later f.floor a.place wait Gone g.floor leaves turn.can.stands.ready.job
            turn.can.stands.ready.waits) did.hears.later;
        answers = answer.left Gone leaves.stays ∷ did.hears.answers;
        told = told-then f.gate g.gate k.gate 1 _ _ told did.hears.told (omega arith);
        plays = λ rest.
            ap (waited_turn a x next at round number
            (heard f (answer.left Gone leaves.stays ∷ (did.hears.answers ++ rest)))) long
            ∙ ap (left_turn a x next at round number Gone
            (heard f (answer.left Gone leaves.stays ∷ (did.hears.answers ++ rest)))) may
            ∙ ap (λ h. patiently (retried (role a) x) (go_on a (next - 1) h))
            (left-is f (role a) wait Gone g leaves waits (did.hears.answers ++ rest))
            ∙ ap (patiently (retried (role a) x)) (did.hears.plays rest);
      };
      stands = did.stands;
      rounds = did.rounds;
      moves = record {
        kinds = did.moves.kinds ∙ kinds;
        waits = but-then a.place None b.waits c.waits k.floor.board.waits
            (subst (λ (h : PlainFloor). AreSameBut a.place None b.waits h.waits) (sym gone)
            (but-set a.place None b.waits None)) did.moves.waits;
        holds = but-then a.place [] b.holds c.holds k.floor.board.holds
            (subst (λ (h : PlainFloor). AreSameBut a.place [] b.holds h.holds) (sym gone)
            (but-same a.place [] b.holds)) did.moves.holds;
        rounds = but-then a.place [] b.rounds c.rounds k.floor.board.rounds
            (subst (λ (h : PlainFloor). AreSameBut a.place [] b.rounds h.rounds) (sym gone)
            (rounds-back a.place b wait)) did.moves.rounds;
        room = λ n.
            let enough = with-retry (may_wait n) a.job.now next after x back.some back.below left refl in
            omega (arith, did.moves.room n, room-same n, enough);
        comes = λ n r. omega (arith, did.moves.comes n r, comes n r);
        rows = λ n r there. did.moves.rows n r
            (subst (λ ps. IsPartyPlace ps n r) (sym leaves.parties)
            (rows-left (kind_at f.floor at) f.floor wait n r there));
      };
      back = did.back;
      adds = record {
        more = did.adds.more;
        waits = did.adds.waits ∙ ap (λ l. l ++ did.adds.more) waits;
        whose = did.adds.whose;
        over = λ over. absurd over;
        came = λ j other. did.adds.came j other ∙ keeps.came j;
        noted = λ noted. did.adds.noted (keeps.noted noted);
        tally = λ noted n permits.
            let permits_then : HasPermits (kind_at g.floor n)
            = subst HasPermits (ap (λ ks. slice_get ks n) (sym kinds)) permits in
            let tally = did.adds.tally (keeps.noted noted) n permits_then in
            let same = keeps.tally noted n permits in
            let enough = with-retry (is_take n) a.job.now next after x back.some back.below left refl in
            record {
              grows = omega (arith, tally.grows, same);
              least = omega (arith, tally.least, same, taken-before n);
              most = omega (arith, tally.most, same, enough);
            };
        caused = λ noted its. did.adds.caused (keeps.noted noted) tt;
      };
    }

-- by the answer to the leave
module _ (a : Actor) (f g : Desk) (p : Progress) (next at round number : ℕ) (x : Patience) (got : FloorLeave)
    (is : p ≡ Waiting next at round number) (turn : HasTurn a f.floor (stage p x))
    (left : HasLeft f.floor a.place got g.floor) (waits : g.waits ≡ f.waits) (told : HasTold f.gate g.gate 1)
    (more : retries (role a) x got ≡ true) where
  turn-now : HasTurn a f.floor (stage (Waiting next at round number) x)
  turn-now = subst (λ n. HasTurn a f.floor (stage n x)) is turn

  left-now : Leaves f.floor a.place (wait_at at round number) Gone g.floor
  left-now = subst (λ o. Leaves f.floor a.place (wait_at at round number) o g.floor)
      (retries-gone (role a) x got more).0 (left.at (wait_at at round number) turn-now.can.stands.ready.waits)

  -- it holds what it held
  pub again-held : places_held g.floor.board a.place ≡ places_held f.floor.board a.place
  again-held =
      ap (λ (h : PlainFloor). places_held h a.place)
      (gone a f g next at round number x turn-now left-now waits told (retries-gone (role a) x got more).1)

  pub again-can : CanAct a g.floor (Stepping (next - 1))
  again-can = can-again a f g next at round number x turn-now left-now waits told (retries-gone (role a) x got more).1

  pub again-turned : (k : Desk) (q : Progress) (y : Patience) → is_over_time (role a) x ≡ true
      → y ≡ retried (role a) x → Did a g (Stepping (next - 1)) (go_on a (next - 1)) (left_so q) k q
      → HadTurn a f (stage p x) k (stage q y)
  again-turned k q y long same did =
      subst (λ n. HadTurn a f (stage n x) k (stage q y)) (sym is)
      (subst (λ z. HadTurn a f (stage (Waiting next at round number) x) k (stage q z)) (sym same)
      (retried-turned a f g next at round number x turn-now left-now waits told (retries-gone (role a) x got more).1
      k q did long))
