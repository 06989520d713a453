-- A mutex of the running queue with its one pass is a semaphore of one permit, as a floor needs it.
use Rattle.std.proofs.Common.{◌≡◌, ℕ, ◌+◌, ◌-◌, ◌≤◌, true, false, List, [], ◌∷◌, ◌++◌, Option, Some, None, Ok, length, vec_capacity, refl, ap, sym, ◌∙◌, subst, lit<, lit≤, arith}
use Rattle.cqs_core.specs.declared.entries.Entry.{Entry}
use Rattle.cqs_core.specs.declared.entries.Entry.TheVariants as entry
use Rattle.cqs_core.specs.SemaphoreEntries.{IsFirst, object_after}
use Rattle.cqs_core.specs.SemaphoreObject.{Semaphore, opening}
use Rattle.cqs_plan.specs.declared.plans.kind.Kind.TheVariants as kind
use Rattle.cqs_rule_laws.specs.Ample.{IsAmple}
use Rattle.cqs_rule_laws.specs.declared.config.Config.{Config}
use Rattle.cqs_rule_laws.specs.declared.config.Place.{Place}
use Rattle.cqs_rule.specs.declared.queue.tokens.Under.{Under as Token}
use Rattle.cqs_rule.specs.declared.queue.tokens.Wait.{Wait}
use Rattle.cqs_rule_laws.specs.declared.carries.Kept.{Kept}
use Rattle.cqs_rule_laws.specs.declared.view.Facts.{Facts}
use Rattle.cqs_rule_laws.specs.declared.view.Opening.{Opening}
use Rattle.cqs_rule_laws.specs.declared.view.View.{View}
use Rattle.cqs_rule_laws.specs.Lists.{Has}
use Rattle.cqs_rule.specs.Passes.{pass_view}
use Rattle.cqs_rule_laws.specs.SlotSteps.{Swapped}
use Rattle.cqs_rule_laws.specs.Views.{IsSame}
use Rattle.cqs_rule.specs.Waits.{HasWait, place_of}
use Rattle.cqs_rule_laws.proofs.Calls.{same-then}
use Rattle.cqs_rule_laws.proofs.Places.{same-swapped}
use Rattle.cqs_semaphore.specs.declared.answers.CancelAnswer.TheVariants as cancel
use Rattle.cqs_semaphore.specs.declared.answers.Released.{Released}
use Rattle.cqs_semaphore.specs.declared.answers.Released.TheVariants.{Freed, Sent, Under}
use Rattle.cqs_semaphore.specs.Alone.{IsFirstOf}
use Rattle.cqs_rule_laws.specs.CallRule.{IsReady}
use Rattle.cqs_semaphore.specs.Calls.{Rests, plain_after}
use Rattle.cqs_semaphore.specs.Causes.{drawn_in}
use Rattle.cqs_semaphore.proofs.PlainPasses.{plain-seen}
use Rattle.cqs_semaphore.specs.Steps.{HasCancelled}
use Rattle.cqs_mutex.specs.declared.answers.Locked.TheVariants.{Now, Later}
use Rattle.cqs_mutex.specs.declared.answers.LockLeft.TheVariants.{Cancelled, TooLate}
use Rattle.cqs_mutex.specs.declared.answers.PolledLock.TheVariants.{Granted, Pending}
use Rattle.cqs_mutex.specs.declared.guard.Guard.{Guard}
use Rattle.cqs_mutex.specs.declared.guard.LockWait.{LockWait}
use Rattle.cqs_mutex.specs.Calls.{HasLocked, HasPolled, HasUnlocked}
use Rattle.cqs_mutex.specs.Calls.{HasLeft as LeftBy}
use Rattle.cqs_mutex.specs.Guards.{permit_of, wait_in}
use Rattle.cqs_mutex.specs.Mutexes.{Belongs, Opens}
use Rattle.cqs_mutex.specs.Values.{LaidValue}
use Rattle.cqs_floor_alone_kinds.specs.declared.mutex_sole.MutexSole.{MutexSole}
use Rattle.cqs_floor_alone_kinds.specs.Soles.{Acquires, Cancels, IsLawful, IsOpened, Polls, Releases}
use Rattle.cqs_floor_alone_kinds.specs.SoleQueue.{IsStill, mutex_pass, news, sole_mutex}
use Rattle.cqs_floor_alone_kinds.proofs.OnePasses.{one-frees, one-grants, one-lates, one-lawful, one-leaves, one-pends, one-sends, one-takes, one-waits}
use Rattle.cqs_floor_alone_kinds.proofs.PassCalls.{frees-comes, grants-comes, hands-comes, hands-first, lates-comes, pends-comes, sent-comes, takes-comes, takes-free, waits-comes, waits-next}
use Rattle.cqs_floor_alone_kinds.proofs.PassRests.{Comes, empty-found, first-found, late-found, left-found, pending-found, served-found, waits-at}
use Rattle.cqs_floor_alone_kinds.proofs.QueueSends.{HasLeft}

pub mutex-lawful : IsLawful sole_mutex
mutex-lawful = one-lawful mutex_pass
    (λ x belongs. plain-seen x.mutex.semaphore belongs.mine (λ s. refl) belongs.mine.live.legal)

-- a mutex as it is made
pub mutex_opened : (x : MutexSole) (takes : ℕ) (config : Config) → takes ≤ 524288 → config.limit ≡ takes + 1
    → Belongs x.mutex x.pass → Opens tt config x.mutex x.pass → x.guards.items ≡ [] → takes ≤ vec_capacity x.guards
    → IsOpened sole_mutex (Some kind.Mutex) takes x
mutex_opened x takes config few is belongs opens none space =
    let v = pass_view x.pass in
    let size : v.opening.size ≡ 1 = ap (λ (o : Opening). o.size) belongs.mine.opening ∙ x.mutex.single in
    let limit : v.limit ≡ takes + 1 = belongs.mine.limit ∙ opens.limit ∙ is in
    let plain : plain_after v ≡ opening v.opening.size = ap (object_after v.opening.size) opens.nothing in
    record {
      fresh = ap news opens.nothing;
      funded = record {
        sort = tt;
        mine = belongs;
        rests = record {
          size_is = size;
          some = lit< tt;
          most = lit≤ tt;
          few = omega (arith, limit, few);
          number = opens.first;
          alone = opens.alone;
          ready = opens.ready.ready;
          still = subst IsStill (sym plain) (record { way = refl; door = refl });
          below = omega (arith, limit, ap drawn_in opens.nothing);
          drawn = λ k has. absurd (subst (Has k) opens.ready.waits_are has);
          holds = opens.ready.held_is;
        };
        permits = ap (λ gs. length gs) none;
        spare = omega (arith, space);
      };
    }

-- A value moved between its slot and a guard, and nothing else happened.
module _ {T : Type 0} (v w : View Entry T) (laid : List (ℕ × Option T)) (swapped : Swapped laid v w) where
  swap-same : IsSame v w
  swap-same = same-swapped laid v w swapped

  swap-facts : w.facts ≡ v.facts
  swap-facts = ap (λ (z : View Entry T). z.facts) swapped.is

  swap-seen : w.seen ≡ v.seen
  swap-seen = ap (λ (z : View Entry T). z.seen) swapped.is

  swap-plain : plain_after w ≡ plain_after v
  swap-plain = ap (λ (z : View Entry T). plain_after z) swapped.is

  -- it moved after a call
  moved-after : (u : View Entry T) (entries : List Entry) (held : ℕ) (waits : List ℕ) → Comes u v entries held waits
      → Comes u w entries held waits
  moved-after u entries held waits c = record {
    same = same-then u v w c.same swap-same;
    seen = swap-seen ∙ c.seen;
    rests = record {
      ready = subst IsReady (sym swap-facts) c.rests.ready;
      held_is = ap (λ (f : Facts). f.has.held) swap-facts ∙ c.rests.held_is;
      waits_are = ap (λ (f : Facts). f.waits) swap-facts ∙ c.rests.waits_are;
    };
  }

  -- it moved before a call that gave back
  moved-before : (u : View Entry T) (entries : List Entry) → Comes w u entries (w.facts.has.held - 1) w.facts.waits
      → Comes v u entries (v.facts.has.held - 1) v.facts.waits
  moved-before u entries c =
      subst (λ (f : Facts). Comes v u entries (f.has.held - 1) f.waits) swap-facts
      (record {
        same = same-then v w u swap-same c.same;
        seen = c.seen ∙ ap (λ es. es ++ entries) swap-seen;
        rests = record { ready = c.rests.ready; held_is = c.rests.held_is; waits_are = c.rests.waits_are };
      })

  moved-alone : v.alone ≡ true → w.alone ≡ true
  moved-alone alone = swap-same.alone ∙ alone

  moved-zero : v.number ≡ 0 → w.number ≡ 0
  moved-zero zero = swap-same.number ∙ zero

module _ (x y : MutexSole) (mine : Belongs y.mutex y.pass)
    (capacity : vec_capacity y.guards ≡ vec_capacity x.guards) where
  abbrev v : View Entry (Kept (Unit {0}))
  v = pass_view x.pass

  abbrev w : View Entry (Kept (Unit {0}))
  w = pass_view y.pass

  -- A lock.
  pub mutex-takes : (guard : Guard (Unit {0})) → HasLocked v (Ok (Now guard)) w
      → length y.guards.items ≡ length x.guards.items + 1 → Acquires sole_mutex x None y
  mutex-takes guard locked one_more =
      one-takes mutex_pass x y mine capacity
      (λ alone zero. moved-after locked.between w _ locked.value.swapped v _ _ _
      (takes-comes v locked.between (permit_of guard) locked.called locked.acquired locked.alone alone zero))
      (takes-free v locked.between (permit_of guard) locked.alone) one_more

  pub mutex-waits : (wait : LockWait) (at : Place) → at ≡ place_of (wait_in wait) → HasLocked v (Ok (Later wait)) w
      → length y.guards.items ≡ length x.guards.items → Acquires sole_mutex x (Some at) y
  mutex-waits wait at is locked kept =
      let k = (place_of (wait_in wait)).index in
      subst (λ a. Acquires sole_mutex x (Some a) y) (sym is)
      (one-waits mutex_pass x y mine capacity (place_of (wait_in wait))
      (λ alone zero. subst (λ z. Comes v z (entry.TakeDoor 0 ∷ entry.Enter 0 k ∷ []) v.facts.has.held
      (v.facts.waits ++ k ∷ [])) (sym locked.value)
      (waits-comes v locked.between (wait_in wait) locked.called locked.acquired alone zero))
      (waits-at w (wait_in wait) (subst (λ z. HasWait z (wait_in wait)) (sym locked.value) locked.acquired.2))
      (waits-next v locked.between (wait_in wait) locked.alone) kept)

  -- An unlock. In an ample table it claims nothing.
  module _ (one_less : length y.guards.items + 1 ≡ length x.guards.items) (value : Unit {0}) (ample : IsAmple v)
    where
      laid-at : (released : Released) (u : View Entry (Kept (Unit {0}))) (gone : HasUnlocked value v released u)
          → LaidValue value v gone.between
      laid-at released u gone = subst (λ z. LaidValue value z gone.between) (gone.claims.ample ample) gone.laid

      pub mutex-frees : HasUnlocked value v Freed w → Releases sole_mutex x None y
      mutex-frees gone =
          let b = gone.between in
          let laid = laid-at Freed w gone in
          one-frees mutex_pass x y mine capacity one_less
          (λ alone zero. moved-before v b _ laid w _ (frees-comes b w gone.called gone.releases
          (moved-alone v b _ laid alone) (moved-zero v b _ laid zero)))
          (λ alone. ap (λ (o : Semaphore). o.line) (sym (swap-plain v b _ laid))
          ∙ empty-found (plain_after b) b.number (gone.alone alone))

      pub mutex-sent : (k : ℕ) → HasUnlocked value v (Sent k) w → Releases sole_mutex x (Some k) y
      mutex-sent k gone =
          let b = gone.between in
          let laid = laid-at (Sent k) w gone in
          one-sends mutex_pass x y mine capacity one_less k
          (λ alone zero. moved-before v b _ laid w _ (sent-comes b w k gone.called gone.releases
          (moved-alone v b _ laid alone) (moved-zero v b _ laid zero)))
          (λ alone. subst (λ (o : Semaphore). IsFirst k o.line) (swap-plain v b _ laid)
          (first-found (plain_after b) b.number k (gone.alone alone)))

      -- one whose resumption was handed back, and went on to its end
      pub mutex-hands : (k : ℕ) (under : Token) (u : View Entry (Kept (Unit {0}))) → HasUnlocked value v (Under under) u
          → IsFirstOf (plain_after u).line k → w.seen ≡ u.seen ++ entry.Deliver k ∷ [] → IsSame u w
          → Rests u u.facts.has.held u.facts.waits w → Releases sole_mutex x (Some k) y
      mutex-hands k under u gone first seen same rests =
          let b = gone.between in
          let laid = laid-at (Under under) u gone in
          one-sends mutex_pass x y mine capacity one_less k
          (λ alone zero. moved-before v b _ laid w _ (hands-comes b u w k under gone.called gone.releases seen same
          rests (moved-alone v b _ laid alone) (moved-zero v b _ laid zero)))
          (λ alone. subst (λ (o : Semaphore). IsFirst k o.line) (swap-plain v b _ laid)
          (hands-first b u w k under gone.called first (moved-alone v b _ laid alone)))

  -- The end of a wait.
  module _ (wait : LockWait) (at : Place) (is : place_of (wait_in wait) ≡ at) where
    abbrev number : ℕ
    number = (place_of (wait_in wait)).index

    pub mutex-grants : (guard : Guard (Unit {0})) → HasPolled (wait_in wait) v (Granted guard) w
        → length y.guards.items ≡ length x.guards.items + 1 → Polls sole_mutex x at true y
    mutex-grants guard polled one_more =
        subst (λ a. Polls sole_mutex x a true y) is
        (one-grants mutex_pass x y mine capacity (place_of (wait_in wait))
        (λ alone zero. moved-after polled.between w _ polled.value.swapped v _ _ _
        (grants-comes v polled.between (wait_in wait) (permit_of guard) polled.called polled.polled alone zero))
        (λ alone. served-found (plain_after v) v.number number (polled.alone alone)) one_more)

    pub mutex-lates : (guard : Guard (Unit {0})) → LeftBy (wait_in wait) v (TooLate guard) w
        → length y.guards.items ≡ length x.guards.items + 1 → Cancels sole_mutex x at false y
    mutex-lates guard left one_more =
        subst (λ a. Cancels sole_mutex x a false y) is
        (one-lates mutex_pass x y mine capacity (place_of (wait_in wait))
        (λ alone zero. moved-after left.between w _ left.value.swapped v _ _ _
        (lates-comes v left.between number (permit_of guard) left.cancelled alone zero))
        (λ alone. late-found (plain_after v) v.number number (left.alone alone)) one_more)

    module _ (kept : length y.guards.items ≡ length x.guards.items) where
      pub mutex-pends : (back : LockWait) → HasPolled (wait_in wait) v (Pending back) w
          → Polls sole_mutex x at false y
      mutex-pends back polled =
          let u = polled.between in
          subst (λ a. Polls sole_mutex x a false y) is
          (one-pends mutex_pass x y mine capacity (place_of (wait_in wait)) kept
          (λ alone zero. subst (λ z. Comes v z (entry.LookPending 0 number ∷ []) v.facts.has.held v.facts.waits)
          (sym polled.value)
          (pends-comes v u (wait_in wait) (wait_in back) polled.called polled.polled alone zero))
          (λ alone. pending-found (plain_after v) v.number number (polled.alone alone)))

      pub mutex-leaves : (under : Option Token) (u : View Entry (Kept (Unit {0})))
          → LeftBy (wait_in wait) v (Cancelled under) u
          → (v.alone ≡ true → (plain_after v).way ≡ 0 → HasLeft number v w)
          → Cancels sole_mutex x at true y
      mutex-leaves under u left leaves =
          subst (λ a. Cancels sole_mutex x a true y) is
          (one-leaves mutex_pass x y mine capacity (place_of (wait_in wait)) kept leaves
          (λ alone. left-found (plain_after v) v.number number (left.alone alone)))

-- a cancel by which the wait is gone moved no value
pub cancelled-here : (wait : Wait) (v w : View Entry (Kept (Unit {0}))) (under : Option Token)
    → LeftBy wait v (Cancelled under) w → HasCancelled (place_of wait).index v (cancel.Cancelled under) w
cancelled-here wait v w under left =
    subst (λ z. HasCancelled (place_of wait).index v (cancel.Cancelled under) z) (sym left.value) left.cancelled
