-- The resources balance between any two turns.
use Rattle.std.proofs.Common.{◌≡◌, ◌⊎◌, inl, inr, ℕ, ◌+◌, ◌<◌, ◌≤◌, nat_lt, Bool, true, false, List, [], ◌∷◌, Option, Some, None, length, count_by, replicate, slice_get, refl, sym, ap, subst, ◌∙◌, ltb-true, ltb-false, arith}
use Rattle.std.specs.Bool.{if◌then◌else◌}
use Rattle.std.specs.Option.{option_map_or}
use Rattle.std.proofs.lemmas.List.Sums.{sum_by-cons}
use Rattle.cqs_core.specs.QueueLine.{Waiting}
use Rattle.cqs_core.proofs.Counts.{bit}
use Rattle.cqs_core.proofs.Places.{get-there}
use Rattle.cqs_barrier_object.specs.declared.entries.BarrierEntry.{BarrierEntry}
use Rattle.cqs_plan.specs.declared.plans.kind.Kind.{Kind}
use Rattle.cqs_plan.specs.declared.plans.kind.Kind.TheVariants as kind
use Rattle.cqs_plan.specs.declared.plans.plan.Plan.{Plan}
use Rattle.cqs_plan.specs.declared.plans.resource.Resource.{Resource}
use Rattle.cqs_plan.specs.declared.floors.answers.FloorTake.{FloorTake}
use Rattle.cqs_plan.specs.declared.floors.answers.FloorTake.TheVariants.{Now, Waits}
use Rattle.cqs_plan.specs.declared.floors.answers.FloorDown.{FloorDown}
use Rattle.cqs_plan.specs.declared.floors.answers.FloorDown.TheVariants.{Left, Last, Already}
use Rattle.cqs_plan.specs.declared.floors.answers.FloorLook.TheVariants.{Pending, Granted}
use Rattle.cqs_plan.specs.declared.floors.answers.FloorLeave.{FloorLeave}
use Rattle.cqs_plan.specs.declared.floors.answers.FloorLeave.TheVariants as leave
use Rattle.cqs_plan.specs.FloorHistory.{History, Deed, of_permits, of_elements, of_latch, of_rounds, takes, joins, gets, leaves, is_late, passes, opens, is_open, completes, ending, is_over, no_history, standing_in, to_come}
use Rattle.cqs_plan.specs.FloorHistory as history
use Rattle.cqs_plan.specs.Floor.{PlainFloor, JobWait, IsHoldable, IsLatch, HasRound, came_to, first_free_at, history_at, holds_of, is_holdable, oldest, round_of, size_of, size_at, standing_at, to_come_at, opening_floor, wait_of, with_done_in, with_newest, with_wait}
use Rattle.cqs_plan.specs.FloorCalls.{is_in_line, give_of, take_answer, give_answer, down_answer, wait_answer, arrive_answer, after_take, after_give, after_look, after_leave, after_down, after_wait, after_arrive, with_granted, with_left, look_answer, leave_answer}
use Rattle.cqs_plan.specs.Language.{can_hold}
use Rattle.cqs_plan.specs.Runnable.{IsRunnable}
use Rattle.cqs_pool_object.proofs.PoolConserved.{long-numbers}
use Rattle.cqs_turns_report.specs.Lines.{is_pool_at}
use Rattle.cqs_turns_report.specs.Roles.{wait_at}
use Rattle.cqs_turns_report.specs.Turns.{Role, Scene, machine_after}
use Rattle.cqs_turns_report.proofs.Mapped.{get-map}
use Rattle.cqs_turns_report.proofs.HoldablePlaces.{held-kind}
use Rattle.cqs_turns_laws.specs.Balances.{Balances, HoldsAll, IsEvenRound, EveryResourceBalances, EveryRoundBalances}
use Rattle.cqs_turns_laws.specs.Events.{Line}
use Rattle.cqs_turns_laws.proofs.Claims.{held-none, claims-none}
use Rattle.cqs_turns_laws.proofs.DeedParts.{IsOfKind}
use Rattle.cqs_turns_laws.proofs.Evening.{IsEven, gets-even, opens-so}
use Rattle.cqs_turns_laws.proofs.HeldKinds.{IsHeld, IsUnheld, IsSorted, held-history, latch-history, only-part, round-history, sorted-by}
use Rattle.cqs_turns_laws.proofs.Funds.{AreFunds, counts}
use Rattle.cqs_turns_laws.proofs.Funding.{AreFunded, FundsOn, calm-funded, claims_on, holds_in, is_held_there, over-funded, takes-now-funded, takes-later-funded, gives-free-funded, gives-sent-funded, gets-funded, late-funded, gone-funded, wait-funded}
use Rattle.cqs_turns_laws.proofs.Lifting.{IsActor, CanTake, CanGive, CanAwait, CanArrive, HasWait, IsKeptByEvents, always-holds}
use Rattle.cqs_turns_laws.proofs.Kept.{always-kept}
use Rattle.cqs_turns_laws.proofs.Lined.{AreLined}
use Rattle.cqs_turns_laws.proofs.Objects.{holdable-below, latch-below, round-below}
use Rattle.cqs_turns_laws.proofs.Telling.{IsTelling, told-by-events, opening-history, opening-tells, there-of, wait-there}
use Rattle.cqs_turns_laws.proofs.EvenCalls.{AreEven, arrives-even, awaits-even, downs-even, gives-even, granted-even, leaves-so-even, takes-even}

module _ (resources : List Resource) (f : PlainFloor) (lines : List Line) (lined : AreLined resources f lines)
    (funded : AreFunded resources f) (at : ℕ) (there : at < length f.histories) (held_kind : IsHeld (history_at f at))
    (holdable : is_holdable f at ≡ true) where
  takes-if : (job : ℕ) (b : Bool) → CanTake f job at → nat_lt 0 (standing_at f at).free ≡ b
      → AreFunded resources
      (after_take f at job (if b then Now (first_free_at f at) else Waits (standing_at f at).next))
  takes-if job true can free =
      takes-now-funded resources f lines lined funded at there held_kind job can.job.holds
      (ltb-true 0 (standing_at f at).free free)
  takes-if job false can none =
      let empty : (standing_at f at).free ≤ 0 = ltb-false 0 (standing_at f at).free none in
      takes-later-funded resources f lines lined funded at there held_kind job can.job.waits (omega (arith, empty))

  gives-by : (job : ℕ) (line : List Waiting) → CanGive f job at → (standing_at f at).line ≡ line
      → AreFunded resources (after_give f at job (give_of line (oldest at (holds_of f job))))
  gives-by job [] can empty = gives-free-funded resources f lines lined funded at there held_kind job can empty
  gives-by job (first ∷ line) can some =
      gives-sent-funded resources f lines lined funded at there held_kind job can first line some

  -- what came is held
  held-came : (job number element : ℕ) (deed : ℕ → ℕ → Deed)
      → AreFunded resources
      (with_newest (with_wait (with_done_in f at 0 (deed number element)) job None) job at element)
      → AreFunded resources (with_granted f job deed (Some (wait_at at 0 number)) element)
  held-came job number element deed funds =
      let over : PlainFloor = with_wait (with_done_in f at 0 (deed number element)) job None in
      let Goes : Bool → Type 0 = λ b. AreFunded resources (if b then with_newest over job at element else over) in
      subst Goes (sym holdable) funds

  serves-so : (job number element : ℕ) → HasWait f job at 0 number → look_answer f job ≡ Granted element
      → AreFunded resources (after_look f job (Granted element))
  serves-so job number element has served = go (is_in_line f (wait_at at 0 number)) refl
    where
      go : (b : Bool) → is_in_line f (wait_at at 0 number) ≡ b
          → AreFunded resources (after_look f job (Granted element))
      go true stands = let pending : Pending ≡ Granted element = rw (has.waits, stands) at served in absurd (cc)
      go false away =
          let answers : Granted (came_to f (wait_at at 0 number)) ≡ Granted element
          = rw (has.waits, away) at served in
          let came : came_to f (wait_at at 0 number) ≡ element = cc in
          let Goes : Option JobWait → Type 0 = λ o. AreFunded resources (with_granted f job gets o element) in
          subst Goes (sym has.waits)
          (held-came job number element gets
          (gets-funded resources f lines lined funded at there held_kind job number has element away came))

  leaves-so : (job number : ℕ) → HasWait f job at 0 number
      → AreFunded resources (after_leave f job (leave_answer f job))
  leaves-so job number has = go (is_in_line f (wait_at at 0 number)) refl
    where
      go : (b : Bool) → is_in_line f (wait_at at 0 number) ≡ b
          → AreFunded resources (after_leave f job (leave_answer f job))
      go true stands =
          let gone_answer : leave_answer f job ≡ leave.Gone = rw (has.waits, stands) refl in
          let Goes : Option JobWait → Type 0 = λ o. AreFunded resources (with_left f job o) in
          rw gone_answer (subst Goes (sym has.waits)
          (gone-funded resources f lines lined funded at there held_kind job number has))
      go false away =
          let came : ℕ = came_to f (wait_at at 0 number) in
          let late_answer : leave_answer f job ≡ leave.Late came = rw (has.waits, away) refl in
          let Goes : Option JobWait → Type 0 = λ o. AreFunded resources (with_granted f job is_late o came) in
          rw late_answer (subst Goes (sym has.waits)
          (held-came job number came is_late
          (late-funded resources f lines lined funded at there held_kind job number has came away refl)))

-- where the resource can't be held: a wait there is over, and nothing came that is held
module _ (resources : List Resource) (f : PlainFloor) (funded : AreFunded resources f) (at : ℕ)
    (there : at < length f.histories) (unheld : IsUnheld (history_at f at)) (holdable : is_holdable f at ≡ false) where
  over-came : (job round number element : ℕ) (deed : ℕ → ℕ → Deed) → HasWait f job at round number
      → AreFunded resources (with_granted f job deed (wait_of f job) element)
  over-came job round number element deed has =
      let Granted : Option JobWait → Type 0 = λ o. AreFunded resources (with_granted f job deed o element) in
      let over : PlainFloor = with_wait (with_done_in f at round (deed number element)) job None in
      let Goes : Bool → Type 0 = λ b. AreFunded resources (if b then with_newest over job at element else over) in
      subst Granted (sym has.waits) (subst Goes (sym holdable)
      (over-funded resources f funded at round (deed number element) there unheld f.room f.rounds job has.job.waits))

  over-left : (job round number : ℕ) → HasWait f job at round number
      → AreFunded resources (with_left f job (wait_of f job))
  over-left job round number has =
      let Goes : Option JobWait → Type 0 = λ o. AreFunded resources (with_left f job o) in
      subst Goes (sym has.waits)
      (over-funded resources f funded at round (leaves number) there unheld f.room _ job has.job.waits)

  leaves-over : (job round number : ℕ) (answer : FloorLeave) → HasWait f job at round number
      → AreFunded resources (after_leave f job answer)
  leaves-over job round number leave.Gone has = over-left job round number has
  leaves-over job round number (leave.Late element) has = over-came job round number element is_late has

-- the scene tells its events, and its resources have their funds and are even
record IsSound (plan : Plan) (s : Scene) : Type 0 where
  lines : List Line
  tells : IsTelling plan s lines
  funded : AreFunded plan.resources s.floor
  even : AreEven s.floor

module _ (plan : Plan) (r : Role) (actor : IsActor plan r) (s : Scene) (sound : IsSound plan s) where
  abbrev f : PlainFloor
  f = s.floor

  there-held : (at : ℕ) → IsHoldable (slice_get f.kinds at) → at < length f.histories
  there-held at kind = there-of plan r actor s sound.lines sound.tells at (holdable-below f.kinds at kind)

  there-latch : (at : ℕ) → IsLatch (slice_get f.kinds at) → at < length f.histories
  there-latch at kind = there-of plan r actor s sound.lines sound.tells at (latch-below f.kinds at kind)

  there-round : (at round : ℕ) → HasRound (slice_get f.kinds at) round → at < length f.histories
  there-round at round kind = there-of plan r actor s sound.lines sound.tells at (round-below f.kinds at round kind)

  own-kind : (at : ℕ) → IsOfKind (slice_get f.kinds at) (history_at f at)
  own-kind at = sound.tells.lined.kinds at

  is-held : (at : ℕ) → IsHoldable (slice_get f.kinds at) → IsHeld (history_at f at)
  is-held at kind = held-history (slice_get f.kinds at) (history_at f at) kind (own-kind at)

  -- a wait is at a resource that can be held, in its one round, or at one that can't be
  record IsAtHeld (at round : ℕ) : Type 0 where
    held : IsHeld (history_at f at)
    holdable : is_holdable f at ≡ true
    first : round ≡ 0

  record IsAtUnheld (at : ℕ) : Type 0 where
    unheld : IsUnheld (history_at f at)
    holdable : is_holdable f at ≡ false

  at-which : (at round number : ℕ) → HasWait f r.place at round number → IsAtHeld at round ⊎ IsAtUnheld at
  at-which at round number has = go (slice_get f.kinds at) refl
    where
      below : at < length f.kinds
      below =
          let there = wait-there plan r actor s sound.lines sound.tells at round number has in
          omega (arith, there, sound.tells.lined.sized)

      go : (o : Option Kind) → slice_get f.kinds at ≡ o → IsAtHeld at round ⊎ IsAtUnheld at
      go None none =
          let some = get-there f.kinds at below in
          let no : None ≡ Some some.0 = sym none ∙ some.1 in absurd (cc)
      go (Some k) is = by (can_hold k) refl
        where
          sort : IsSorted (can_hold k) (history_at f at)
          sort = sorted-by k (history_at f at) (subst (λ o. IsOfKind o (history_at f at)) is (own-kind at))

          told : is_holdable f at ≡ can_hold k
          told = ap (λ o. option_map_or can_hold o false) is

          by : (b : Bool) → can_hold k ≡ b → IsAtHeld at round ⊎ IsAtUnheld at
          by true can =
              let held : IsHeld (history_at f at) = subst (λ b. IsSorted b (history_at f at)) can sort in
              inl (record {
                held = held;
                holdable = told ∙ can;
                first = only-part (history_at f at) round held
                    (sound.tells.lined.parts r.place (wait_at at round number) has.waits);
              })
          by false cannot = inr (record {
            unheld = subst (λ b. IsSorted b (history_at f at)) cannot sort;
            holdable = told ∙ cannot;
          })

  serves-funded : (at round number element : ℕ) → HasWait f r.place at round number
      → look_answer f r.place ≡ Granted element → AreFunded plan.resources (after_look f r.place (Granted element))
  serves-funded at round number element has served = go (at-which at round number has) where
    go : IsAtHeld at round ⊎ IsAtUnheld at → AreFunded plan.resources (after_look f r.place (Granted element))
    go (inl own) =
        let first_has : HasWait f r.place at 0 number
        = subst (λ n. HasWait f r.place at n number) own.first has in
        serves-so plan.resources f sound.lines sound.tells.lined sound.funded at
        (wait-there plan r actor s sound.lines sound.tells at round number has) own.held own.holdable r.place
        number element
        first_has served
    go (inr own) =
        over-came plan.resources f sound.funded at
        (wait-there plan r actor s sound.lines sound.tells at round number has)
        own.unheld
        own.holdable r.place round number element gets has

  leaves-funded : (at round number : ℕ) → HasWait f r.place at round number
      → AreFunded plan.resources (after_leave f r.place (leave_answer f r.place))
  leaves-funded at round number has = go (at-which at round number has) where
    go : IsAtHeld at round ⊎ IsAtUnheld at → AreFunded plan.resources (after_leave f r.place (leave_answer f r.place))
    go (inl own) =
        let first_has : HasWait f r.place at 0 number
        = subst (λ n. HasWait f r.place at n number) own.first has in
        leaves-so plan.resources f sound.lines sound.tells.lined sound.funded at
        (wait-there plan r actor s sound.lines sound.tells at round number has) own.held own.holdable r.place
        number first_has
    go (inr own) =
        leaves-over plan.resources f sound.funded at
        (wait-there plan r actor s sound.lines sound.tells at round number has)
        own.unheld own.holdable r.place round number (leave_answer f r.place) has

  is-latch : (at : ℕ) → IsLatch (slice_get f.kinds at) → IsUnheld (history_at f at)
  is-latch at kind = latch-history (slice_get f.kinds at) (history_at f at) kind (own-kind at)

  is-rounds : (at round : ℕ) → HasRound (slice_get f.kinds at) round → IsUnheld (history_at f at)
  is-rounds at round kind = round-history (slice_get f.kinds at) (history_at f at) round kind (own-kind at)

  downs-funded : (at : ℕ) (answer : FloorDown) → IsLatch (slice_get f.kinds at)
      → AreFunded plan.resources (after_down f at answer)
  downs-funded at (Left n) kind =
      calm-funded plan.resources f sound.funded at 0 (history.counts n) (there-latch at kind) (is-latch at kind) f.room
      f.rounds
  downs-funded at Last kind =
      calm-funded plan.resources f sound.funded at 0 opens (there-latch at kind) (is-latch at kind) f.room f.rounds
  downs-funded at Already kind =
      calm-funded plan.resources f sound.funded at 0 is_open (there-latch at kind) (is-latch at kind) f.room f.rounds

  awaits-funded : (at : ℕ) (answer : FloorTake) → CanAwait f r.place at
      → AreFunded plan.resources (after_wait f at r.place answer)
  awaits-funded at (Now element) can =
      calm-funded plan.resources f sound.funded at 0 passes (there-latch at can.kind) (is-latch at can.kind) _ f.rounds
  awaits-funded at (Waits k) can =
      wait-funded plan.resources f sound.funded at 0 (joins k) (there-latch at can.kind) (is-latch at can.kind) _
      f.rounds
      r.place k can.job.waits

  arrives-funded : (at : ℕ) (answer : FloorTake) → CanArrive f r.place at
      → AreFunded plan.resources (after_arrive f at r.place answer)
  arrives-funded at (Now element) can =
      let round : ℕ = round_of f r.place at in
      calm-funded plan.resources f sound.funded at round completes (there-round at round can.kind)
      (is-rounds at round can.kind) _ _
  arrives-funded at (Waits k) can =
      let round : ℕ = round_of f r.place at in
      wait-funded plan.resources f sound.funded at round (joins k) (there-round at round can.kind)
      (is-rounds at round can.kind) _ _ r.place k can.job.waits

sound-kept : (plan : Plan) → IsKeptByEvents plan (IsSound plan)
sound-kept plan = record {
  takes = λ r at s actor can sound. record {
    lines = _;
    tells = (told-by-events plan).takes r at s sound.lines actor can sound.tells;
    funded = takes-if plan.resources s.floor sound.lines sound.tells.lined sound.funded at
        (there-held plan r actor s sound at can.kind) (is-held plan r actor s sound at can.kind)
        (held-kind (slice_get s.floor.kinds at) can.kind) r.place _ can refl;
    even = takes-even s.floor at r.place (take_answer s.floor at r.place) (there-held plan r actor s sound at can.kind)
        (is-held plan r actor s sound at can.kind) sound.even;
  };
  gives = λ r at s actor can sound. record {
    lines = _;
    tells = (told-by-events plan).gives r at s sound.lines actor can sound.tells;
    funded = gives-by plan.resources s.floor sound.lines sound.tells.lined sound.funded at
        (there-held plan r actor s sound at can.kind) (is-held plan r actor s sound at can.kind)
        (held-kind (slice_get s.floor.kinds at) can.kind) r.place (standing_at s.floor at).line can refl;
    even = gives-even s.floor at r.place (give_answer s.floor at r.place) (there-held plan r actor s sound at can.kind)
        (is-held plan r actor s sound at can.kind) sound.even;
  };
  serves = λ r at round number element s actor has served sound. record {
    lines = _;
    tells = (told-by-events plan).serves r at round number element s sound.lines actor has served sound.tells;
    funded = serves-funded plan r actor s sound at round number element has served;
    even = granted-even s.floor r.place at round number element gets
        (wait-there plan r actor s sound.lines sound.tells at round number has) has sound.even
        (gets-even (size_at s.floor at) (history_at s.floor at) round number element (sound.even.at at));
  };
  leaves = λ r at round number s actor has sound. record {
    lines = _;
    tells = (told-by-events plan).leaves r at round number s sound.lines actor has sound.tells;
    funded = leaves-funded plan r actor s sound at round number has;
    even = leaves-so-even s.floor r.place at round number
        (wait-there plan r actor s sound.lines sound.tells at round number has)
        has
        sound.even;
  };
  retries = λ r at round number s actor has gone sound. record {
    lines = _;
    tells = (told-by-events plan).retries r at round number s sound.lines actor has gone sound.tells;
    funded = subst (λ answer. AreFunded plan.resources (after_leave s.floor r.place answer)) gone
        (leaves-funded plan r actor s sound at round number has);
    even = subst (λ answer. AreEven (after_leave s.floor r.place answer)) gone
        (leaves-so-even s.floor r.place at round number
        (wait-there plan r actor s sound.lines sound.tells at round number has) has sound.even);
  };
  downs = λ r at s actor kind sound. record {
    lines = _;
    tells = (told-by-events plan).downs r at s sound.lines actor kind sound.tells;
    funded = downs-funded plan r actor s sound at (down_answer s.floor at) kind;
    even = downs-even s.floor at (to_come_at s.floor at 0) refl (there-latch plan r actor s sound at kind) sound.even;
  };
  awaits = λ r at s actor can sound. record {
    lines = _;
    tells = (told-by-events plan).awaits r at s sound.lines actor can sound.tells;
    funded = awaits-funded plan r actor s sound at (wait_answer s.floor at) can;
    even = awaits-even s.floor at r.place (nat_lt 0 (to_come_at s.floor at 0)) refl
        (there-latch plan r actor s sound at can.kind) can.kind (own-kind plan r actor s sound at) sound.even;
  };
  arrives = λ r at s actor can sound. record {
    lines = _;
    tells = (told-by-events plan).arrives r at s sound.lines actor can sound.tells;
    funded = arrives-funded plan r actor s sound at (arrive_answer s.floor at r.place) can;
    even = arrives-even s.floor at r.place
        (nat_lt 1 (to_come_at s.floor at (round_of s.floor r.place at))) refl
        (there-round plan r actor s sound at (round_of s.floor r.place at) can.kind) sound.even;
  };
  ends = λ r s actor sound. record {
    lines = _;
    tells = (told-by-events plan).ends r s sound.lines actor sound.tells;
    funded = sound.funded;
    even = record { at = sound.even.at };
  };
}

-- with nothing held and nobody waiting all permits and elements are free
module _ (size : ℕ) (holds claims : ℕ → ℕ) (nothing : (x : ℕ) → holds x + claims x ≡ 0) where
  permits-open : AreFunds size (of_permits []) holds claims
  permits-open = λ x. record {
    way = refl;
    door = refl;
    unbroken = refl;
    eager = inr refl;
    total = omega arith;
    backed = omega (arith, nothing x);
  }

  kind-opens : (k : Kind) → AreFunds size (no_history k) holds claims
  kind-opens (kind.Semaphore permits) = permits-open
  kind-opens kind.Mutex = permits-open
  kind-opens (kind.Pool elements) = record {
    eager = inr refl;
    total = omega (arith, long-numbers size 0);
    backed = λ x. omega (arith, nothing x);
  }
  kind-opens (kind.Latch count) = tt
  kind-opens (kind.Rounds parties rounds) = tt

-- so a floor opens
opening-funded : (plan : Plan) → AreFunded plan.resources (opening_floor plan)
opening-funded plan = record { at = λ q. go q }
  where
    f : PlainFloor
    f = opening_floor plan

    go : (q : ℕ) → FundsOn (is_pool_at plan.resources q) q (size_at f q) (history_at f q) f.holds f.waits
    go q =
        let pool : Bool = is_pool_at plan.resources q in
        let holds : ℕ → ℕ = holds_in pool q (replicate (length plan.jobs) []) in
        let claims : ℕ → ℕ = claims_on pool q (size_at f q) (history_at f q) (replicate (length plan.jobs) None) in
        let nothing : (x : ℕ) → holds x + claims x ≡ 0
        = λ x. omega (
          arith,
          held-none (length plan.jobs) (is_held_there pool q x),
          claims-none (length plan.jobs) q (standing_at f q).line
              (λ n. counts pool x (came_to f (wait_at q 0 n))),
        ) in
        opening-history (λ h. AreFunds (size_at f q) h holds claims)
        (kind-opens (size_at f q) holds claims nothing) (permits-open (size_at f q) holds claims nothing)
        plan.resources q

opening-even : (plan : Plan) → AreEven (opening_floor plan)
opening-even plan = record {
  at = λ q. opening-history (λ h. IsEven (size_at (opening_floor plan) q) h)
      (opens-so (size_at (opening_floor plan) q)) tt plan.resources q;
}

-- free and held are all that there are, and nobody waits while one is free
all-there : (free held line size : ℕ) (waits : List Waiting) → free + held ≡ size → (free ≡ 0) ⊎ (waits ≡ [])
    → length waits ≡ line → HoldsAll size free held line
all-there free held line size waits all (inl none) long = (all, inl none)
all-there free held line size waits all (inr empty) long = (all, inr (sym long ∙ ap length empty))

over-few : (size : ℕ) (all : List (List BarrierEntry)) → count_by (is_over size) all ≤ length all
over-few size [] = omega arith
over-few size (entries ∷ all) =
    omega (arith, sum_by-cons (λ x. bit (is_over size x)) entries all, over-few size all, one (is_over size entries))
  where
    one : (b : Bool) → bit b ≤ 1
    one true = omega arith
    one false = omega arith

-- what is told at the end of a resource of this kind balances
balances : (k : Kind) (h : History) (holds claims : ℕ → ℕ) → IsOfKind (Some k) h
    → AreFunds (size_of (Some k)) h holds claims → IsEven (size_of (Some k)) h
    → Balances k (ending (size_of (Some k)) h)
balances (kind.Semaphore permits) (of_permits entries) holds claims is funds even =
    let own = funds 0 in all-there _ _ _ _ _ (omega (arith, own.total)) own.eager refl
balances kind.Mutex (of_permits entries) holds claims is funds even =
    let own = funds 0 in all-there _ _ _ _ _ (omega (arith, own.total)) own.eager refl
balances (kind.Pool elements) (of_elements entries) holds claims is funds even =
    all-there _ _ _ _ _ (omega (arith, funds.total)) funds.eager refl
balances (kind.Latch count) (of_latch entries) holds claims is funds even = (even.below, shut even.shut)
  where
    shut : {n : ℕ} {line : List Waiting} → (0 < n) ⊎ (line ≡ []) → (0 < n) ⊎ (length line ≡ 0)
    shut (inl some) = inl some
    shut (inr empty) = inr (ap length empty)
balances (kind.Rounds parties rounds) (of_rounds all) holds claims is funds even =
    omega (arith, is, over-few parties all)
balances (kind.Semaphore permits) (of_elements entries) holds claims is funds even = absurd is
balances (kind.Semaphore permits) (of_latch entries) holds claims is funds even = absurd is
balances (kind.Semaphore permits) (of_rounds all) holds claims is funds even = absurd is
balances kind.Mutex (of_elements entries) holds claims is funds even = absurd is
balances kind.Mutex (of_latch entries) holds claims is funds even = absurd is
balances kind.Mutex (of_rounds all) holds claims is funds even = absurd is
balances (kind.Pool elements) (of_permits entries) holds claims is funds even = absurd is
balances (kind.Pool elements) (of_latch entries) holds claims is funds even = absurd is
balances (kind.Pool elements) (of_rounds all) holds claims is funds even = absurd is
balances (kind.Latch count) (of_permits entries) holds claims is funds even = absurd is
balances (kind.Latch count) (of_elements entries) holds claims is funds even = absurd is
balances (kind.Latch count) (of_rounds all) holds claims is funds even = absurd is
balances (kind.Rounds parties rounds) (of_permits entries) holds claims is funds even = absurd is
balances (kind.Rounds parties rounds) (of_elements entries) holds claims is funds even = absurd is
balances (kind.Rounds parties rounds) (of_latch entries) holds claims is funds even = absurd is

-- the kind of a plan's resource on the floor
kind-there : (plan : Plan) (turns at : ℕ) (resource : Resource) → IsRunnable plan
    → slice_get plan.resources at ≡ Some resource
    → slice_get (machine_after plan turns).scene.floor.kinds at ≡ Some resource.kind
kind-there plan turns at resource runnable there =
    ap (λ kinds. slice_get kinds at) (always-kept plan turns runnable).running.kinds
    ∙ get-map (λ (x : Resource). x.kind) plan.resources at resource there

always-sound : (plan : Plan) (turns : ℕ) → IsRunnable plan → IsSound plan (machine_after plan turns).scene
always-sound plan turns runnable =
    always-holds plan (IsSound plan) (sound-kept plan) turns runnable
    (record { lines = []; tells = opening-tells plan; funded = opening-funded plan; even = opening-even plan })

pub every-resource-balances : EveryResourceBalances
every-resource-balances plan turns at resource runnable there =
    let f : PlainFloor = (machine_after plan turns).scene.floor in
    let sound : IsSound plan (machine_after plan turns).scene = always-sound plan turns runnable in
    let kind : slice_get f.kinds at ≡ Some resource.kind = kind-there plan turns at resource runnable there in
    let size : size_at f at ≡ size_of (Some resource.kind) = ap size_of kind in
    let pool : Bool = is_pool_at plan.resources at in
    let funds : AreFunds (size_of (Some resource.kind)) (history_at f at) (holds_in pool at f.holds)
    (claims_on pool at (size_at f at) (history_at f at) f.waits)
    = subst (λ n. AreFunds n (history_at f at) (holds_in pool at f.holds)
    (claims_on pool at (size_at f at) (history_at f at) f.waits)) size (sound.funded.at at) in
    subst (λ n. Balances resource.kind (ending n (history_at f at))) (sym size)
    (balances resource.kind (history_at f at) _ _
    (subst (λ o. IsOfKind o (history_at f at)) kind (sound.tells.lined.kinds at)) funds
    (subst (λ n. IsEven n (history_at f at)) size (sound.even.at at)))

-- and each round of a barrier
round-even : (size : ℕ) (k : Kind) (h : History) (parties rounds round : ℕ) → k ≡ kind.Rounds parties rounds
    → IsOfKind (Some k) h → size ≡ parties → IsEven size h
    → IsEvenRound parties (to_come size h round) (length (standing_in size h round).line)
round-even size k (of_permits entries) parties rounds round is kind same even = absurd (rw is at kind)
round-even size k (of_elements entries) parties rounds round is kind same even = absurd (rw is at kind)
round-even size k (of_latch entries) parties rounds round is kind same even = absurd (rw is at kind)
round-even size k (of_rounds all) parties rounds round is kind same even =
    subst (λ n. IsEvenRound n (to_come size (of_rounds all) round)
    (length (standing_in size (of_rounds all) round).line)) same (even round)

pub every-round-balances : EveryRoundBalances
every-round-balances plan turns at round parties rounds resource runnable there is =
    let f : PlainFloor = (machine_after plan turns).scene.floor in
    let sound : IsSound plan (machine_after plan turns).scene = always-sound plan turns runnable in
    let kind : slice_get f.kinds at ≡ Some resource.kind = kind-there plan turns at resource runnable there in
    let size : size_at f at ≡ parties = ap size_of (kind ∙ ap Some is) in
    round-even (size_at f at) resource.kind (history_at f at) parties rounds round is
    (subst (λ o. IsOfKind o (history_at f at)) kind (sound.tells.lined.kinds at)) size (sound.even.at at)
