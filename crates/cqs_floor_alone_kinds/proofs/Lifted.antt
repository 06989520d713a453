-- A semaphore with one caller is a resource as a floor needs it: each call in the words of all resources.
use Rattle.std.proofs.Common.{◌≡◌, ℕ, zero, suc, ◌+◌, ◌-◌, ◌<◌, true, false, List, [], ◌∷◌, ◌++◌, drop, length, replicate, set, slice_get, Option, Some, None, refl, ap, sym, ◌∙◌, subst, arith}
use Rattle.std.proofs.lemmas.List.{append-nil, length_push}
use Rattle.std.proofs.lemmas.List.Folds.{sum_by-replicate}
use Rattle.std.proofs.lemmas.List.Sums.{sum_by-set}
use Rattle.cqs_plan.specs.declared.plans.kind.Kind.{Kind}
use Rattle.cqs_plan.specs.declared.plans.kind.Kind.TheVariants as kind
use Rattle.cqs_plan.specs.declared.floors.answers.FloorEnd.TheVariants as end
use Rattle.cqs_plan.specs.declared.floors.answers.FloorGive.TheVariants.{Free, Sent}
use Rattle.cqs_plan.specs.FloorHistory.{of_permits}
use Rattle.cqs_plan.specs.LegalFloor.{IsHistory, IsOfSemaphore}
use Rattle.cqs_plan.specs.Floor.{size_of}
use Rattle.cqs_rule_laws.specs.declared.config.Place.{Place}
use Rattle.cqs_floor_common.specs.HeldElements.{held_by, with_less, with_more}
use Rattle.cqs_floor_alone_kinds.specs.declared.sole.Stand.{Stand}
use Rattle.cqs_floor_alone_kinds.specs.declared.sole_resource.Left.TheVariants as left
use Rattle.cqs_floor_alone_kinds.specs.declared.sole_resource.Looked.TheVariants as looked
use Rattle.cqs_floor_alone_kinds.specs.declared.sole_resource.Taken.TheVariants as taken
use Rattle.cqs_floor_alone_kinds.specs.Lifted.{ArePermits, HoldPermits, IsFundedFor, of_semaphore, total}
use Rattle.cqs_floor_alone_kinds.specs.Soles.{IsOfPermits, Sole}
use Rattle.cqs_floor_alone_kinds.specs.Soles as permits
use Rattle.cqs_floor_alone_kinds.specs.Stores.{Acquires, CanAcquire, CanEnd, CanRelease, CanTell, Cancels, IsLawful, IsOpened, KeepsAll, KeepsOthers, Polls, Releases, Tells, is_holdable}

-- what the jobs hold, counted and without numbers, after one more and after one less
more-total : (held : List (List ℕ)) (job e : ℕ) → job < length held → total (with_more held job e) ≡ total held + 1
more-total held job e below =
    omega (
      arith,
      sum_by-set (λ (es : List ℕ). length es) held job (held_by held job ++ e ∷ []) [] below,
      length_push (held_by held job) e,
    )

there-of : (held : List (List ℕ)) (job : ℕ) → 0 < length (held_by held job) → job < length held
there-of [] job some = absurd (omega (arith, some))
there-of (es ∷ held) zero some = omega arith
there-of (es ∷ held) (suc job) some = omega (arith, there-of held job some)

one-less : (es : List ℕ) → 0 < length es → length (drop 1 es) + 1 ≡ length es
one-less [] some = absurd (omega (arith, some))
one-less (e ∷ es) some = omega arith

less-total : (held : List (List ℕ)) (job : ℕ) → 0 < length (held_by held job)
    → total (with_less held job) ≡ total held - 1
less-total held job some =
    omega (
      arith,
      sum_by-set (λ (es : List ℕ). length es) held job (drop 1 (held_by held job)) [] (there-of held job some),
      one-less (held_by held job) some,
    )

some-total : (held : List (List ℕ)) (job : ℕ) → 0 < length (held_by held job) → 0 < total held
some-total held job some =
    omega (
      arith,
      sum_by-set (λ (es : List ℕ). length es) held job (drop 1 (held_by held job)) [] (there-of held job some),
      one-less (held_by held job) some,
    )

permits-push : (es : List ℕ) → ArePermits es → ArePermits (es ++ 0 ∷ [])
permits-push [] all = (refl, tt)
permits-push (e ∷ es) all = (all.0, permits-push es all.1)

permits-drop : (es : List ℕ) → ArePermits es → ArePermits (drop 1 es)
permits-drop [] all = all
permits-drop (e ∷ es) all = all.1

permits-set : (held : List (List ℕ)) (job : ℕ) (es : List ℕ) → HoldPermits held → ArePermits es
    → HoldPermits (set held job es)
permits-set [] job es all new = all
permits-set (x ∷ held) zero es all new = (new, all.1)
permits-set (x ∷ held) (suc job) es all new = (all.0, permits-set held job es all.1 new)

permits-at : (held : List (List ℕ)) (job : ℕ) → HoldPermits held → ArePermits (held_by held job)
permits-at [] job all = tt
permits-at (es ∷ held) zero all = all.0
permits-at (es ∷ held) (suc job) all = permits-at held job all.1

-- the oldest that a job holds is a permit
oldest-is : (es : List ℕ) → ArePermits es → 0 < length es → slice_get es 0 ≡ Some 0
oldest-is [] all some = absurd (omega (arith, some))
oldest-is (e ∷ es) all some = ap Some all.0

permits-none : (jobs : ℕ) → HoldPermits (replicate jobs [])
permits-none zero = tt
permits-none (suc jobs) = (tt, permits-none jobs)

total-none : (jobs : ℕ) → total (replicate jobs []) ≡ 0
total-none jobs = omega (arith, sum_by-replicate (λ (es : List ℕ). length es) jobs [])

module _ {X : Type 0} (s : Sole X) where
  -- the semaphore's own funds, with what the jobs hold counted
  funds-as : (x : X) (kind : Option Kind) (room waiting a b : ℕ) → a ≡ b → s.funded x kind room waiting a
      → s.funded x kind room waiting b
  funds-as x kind room waiting a b same funded = subst (λ n. s.funded x kind room waiting n) same funded

  pub lifted-opened : (x : X) (kind : Kind) (takes : ℕ) → IsOfPermits (Some kind)
      → permits.IsOpened s (Some kind) takes x → IsOpened (of_semaphore s) kind takes x
  lifted-opened x (kind.Semaphore n) takes sort opened = record {
    fresh = ap of_permits opened.fresh;
    funded = λ jobs. record {
      sort = tt;
      permits = permits-none jobs;
      funded = funds-as x _ takes 0 0 _ (sym (total-none jobs)) opened.funded;
    };
  }
  lifted-opened x kind.Mutex takes sort opened = record {
    fresh = ap of_permits opened.fresh;
    funded = λ jobs. record {
      sort = tt;
      permits = permits-none jobs;
      funded = funds-as x _ takes 0 0 _ (sym (total-none jobs)) opened.funded;
    };
  }
  lifted-opened x (kind.Pool n) takes sort opened = absurd sort
  lifted-opened x (kind.Latch n) takes sort opened = absurd sort
  lifted-opened x (kind.Rounds n m) takes sort opened = absurd sort

  pub lifted-lawful : permits.IsLawful s → IsLawful (of_semaphore s)
  lifted-lawful lawful = record {
    legal = λ x kind room waiting held funded.
        legal x kind room waiting held funded.sort (lawful.legal x (Some kind) room waiting (total held) funded.funded);
    numbered = λ x round wait kind room waiting held funded has.
        lawful.numbered x wait kind room waiting (total held) funded.funded has.1;
  }
    where
      legal : (x : X) (kind : Kind) (room waiting : ℕ) (held : List (List ℕ)) → IsOfPermits (Some kind)
          → IsOfSemaphore (size_of (Some kind)) (s.entries x) → IsHistory kind (of_permits (s.entries x))
      legal x (kind.Semaphore n) room waiting held sort is = is
      legal x kind.Mutex room waiting held sort is = is
      legal x (kind.Pool n) room waiting held sort is = absurd sort
      legal x (kind.Latch n) room waiting held sort is = absurd sort
      legal x (kind.Rounds n m) room waiting held sort is = absurd sort

  -- where the semaphore's own calls may be made
  pub acquire-lifted : (job : ℕ) (x : X) → CanAcquire (of_semaphore s) job x → permits.CanAcquire s x
  acquire-lifted job x can = record {
    kind = can.kind;
    room = can.room;
    waiting = can.waiting;
    held = total can.held;
    funded = can.funded.funded;
    some = can.some;
  }

  pub release-lifted : (job : ℕ) (x : X) → CanRelease (of_semaphore s) job x → permits.CanRelease s x
  release-lifted job x can = record {
    kind = can.kind;
    room = can.room;
    waiting = can.waiting;
    held = total can.held;
    funded = can.funded.funded;
    some = some-total can.held job can.some;
  }

  pub end-lifted : (job round : ℕ) (wait : Place) (x : X) → CanEnd (of_semaphore s) job round wait x
      → permits.CanEnd s wait x
  end-lifted job round wait x can = record {
    kind = can.kind;
    room = can.room;
    waiting = can.waiting;
    held = total can.held;
    funded = can.funded.funded;
    some = can.some;
    has = can.has.1;
  }

  pub stand-lifted : (kind : Kind) (x : X) → CanTell (of_semaphore s) kind x → permits.CanStand s x
  stand-lifted kind x can = (
    Some kind,
    record { room = can.room; waiting = can.waiting; held = total can.held; funded = can.funded.funded },
  )

  -- permits can be held
  holdable-permits : (kind : Option Kind) → IsOfPermits kind → is_holdable kind ≡ true
  holdable-permits (Some (kind.Semaphore n)) sort = refl
  holdable-permits (Some kind.Mutex) sort = refl
  holdable-permits (Some (kind.Pool n)) sort = absurd sort
  holdable-permits (Some (kind.Latch n)) sort = absurd sort
  holdable-permits (Some (kind.Rounds n m)) sort = absurd sort
  holdable-permits None sort = absurd sort

  -- the waits that it has on are those of the first round
  keeps-lifted : (x y : X) → permits.KeepsAll s x y → KeepsAll (of_semaphore s) x y
  keeps-lifted x y keeps = λ round wait has. (has.0, keeps wait has.1)

  others-lifted : (x y : X) (round k : ℕ) → round ≡ 0 → permits.KeepsOthers s x k y
      → KeepsOthers (of_semaphore s) x round k y
  others-lifted x y round k first keeps = λ r wait differs has.
      (has.0, keeps wait (differs (has.0 ∙ sym first)) has.1)

  -- the jobs have one more permit
  funded-more : (y : X) (kind : Option Kind) (room waiting : ℕ) (held : List (List ℕ)) (job : ℕ)
      → job < length held → IsOfPermits kind → HoldPermits held
      → s.funded y kind room waiting (total held + 1) → IsFundedFor s y kind room waiting (with_more held job 0)
  funded-more y kind room waiting held job there sort all funded = record {
    sort = sort;
    permits = permits-set held job _ all (permits-push (held_by held job) (permits-at held job all));
    funded = funds-as y kind room waiting _ _ (sym (more-total held job 0 there)) funded;
  }

  -- the calls
  module _ (job : ℕ) (x y : X) where
    pub takes-lifted : permits.Acquires s x None y → Acquires (of_semaphore s) job x (taken.Now 0) y
    takes-lifted made = λ kind room waiting held funded some there.
        let m = made kind room waiting (total held) funded.funded some in
        record {
          free = m.free;
          first = refl;
          goes = record {
            done = ap of_permits m.goes.appended;
            funded = funded-more y kind (room - 1) waiting held job there funded.sort funded.permits m.goes.funded;
          };
          keeps = keeps-lifted x y m.keeps;
        }

    pub waits-lifted : (wait : Place) → permits.Acquires s x (Some wait) y
        → Acquires (of_semaphore s) job x (taken.Waits wait) y
    waits-lifted wait made = λ kind room waiting held funded some there.
        let m = made kind room waiting (total held) funded.funded some in
        record {
          none = m.none;
          joins = record {
            number = m.number;
            goes = record {
              done = ap of_permits m.goes.appended;
              funded = record { sort = funded.sort; permits = funded.permits; funded = m.goes.funded };
            };
            has = (refl, m.has);
            keeps = keeps-lifted x y m.keeps;
          };
        }

    -- the jobs have one permit less
    funded-less : (kind : Option Kind) (room waiting : ℕ) (held : List (List ℕ))
        → 0 < length (held_by held job) → IsOfPermits kind → HoldPermits held
        → s.funded y kind room waiting (total held - 1) → IsFundedFor s y kind room waiting (with_less held job)
    funded-less kind room waiting held some sort all funded = record {
      sort = sort;
      permits = permits-set held job _ all (permits-drop (held_by held job) (permits-at held job all));
      funded = funds-as y kind room waiting _ _ (sym (less-total held job some)) funded;
    }

    pub frees-lifted : permits.Releases s x None y → Releases (of_semaphore s) job x (Free 0) y
    frees-lifted made = λ kind room waiting held funded some.
        let m = made kind room waiting (total held) funded.funded (some-total held job some) in (
          m.empty,
          record {
            oldest = oldest-is (held_by held job) (permits-at held job funded.permits) some;
            goes = record {
              done = ap of_permits m.goes.appended;
              funded = funded-less kind room waiting held some funded.sort funded.permits m.goes.funded;
            };
            keeps = keeps-lifted x y m.keeps;
          },
        )

    pub sends-lifted : (k : ℕ) → permits.Releases s x (Some k) y → Releases (of_semaphore s) job x (Sent 0 k) y
    sends-lifted k made = λ kind room waiting held funded some.
        let m = made kind room waiting (total held) funded.funded (some-total held job some) in (
          m.first,
          record {
            oldest = oldest-is (held_by held job) (permits-at held job funded.permits) some;
            goes = record {
              done = ap of_permits m.goes.appended;
              funded = funded-less kind room waiting held some funded.sort funded.permits m.goes.funded;
            };
            keeps = keeps-lifted x y m.keeps;
          },
        )

    -- the ends of a wait
    module _ (round : ℕ) (wait : Place) where
      pub pends-lifted : permits.Polls s x wait false y → Polls (of_semaphore s) job x round wait looked.Pending y
      pends-lifted made = λ kind room waiting held funded some there.
          let m = made kind room waiting (total held) funded.funded some in (
            m.found,
            record {
              same = ap of_permits (m.goes.appended ∙ append-nil (s.entries x));
              funded = record { sort = funded.sort; permits = funded.permits; funded = m.goes.funded };
              keeps = keeps-lifted x y m.keeps;
            },
          )

      pub grants-lifted : round ≡ 0 → permits.Polls s x wait true y
          → Polls (of_semaphore s) job x round wait (looked.Got 0) y
      grants-lifted first made = λ kind room waiting held funded some there.
          let m = made kind room waiting (total held) funded.funded some in
          record {
            holdable = holdable-permits kind funded.sort;
            came = refl;
            ends = record {
              found = m.found;
              goes = record {
                done = ap of_permits m.goes.appended;
                funded = funded-more y kind room (waiting - 1) held job there funded.sort funded.permits
                    m.goes.funded;
              };
              keeps = others-lifted x y round wait.index first m.keeps;
            };
          }

      pub leaves-lifted : round ≡ 0 → permits.Cancels s x wait true y
          → Cancels (of_semaphore s) job x round wait left.Gone y
      leaves-lifted first made = λ kind room waiting held funded some there.
          let m = made kind room waiting (total held) funded.funded some in
          record {
            found = m.found;
            goes = record {
              done = ap of_permits m.goes.appended;
              funded = record { sort = funded.sort; permits = funded.permits; funded = m.goes.funded };
            };
            keeps = others-lifted x y round wait.index first m.keeps;
          }

      pub lates-lifted : round ≡ 0 → permits.Cancels s x wait false y
          → Cancels (of_semaphore s) job x round wait (left.Late 0) y
      lates-lifted first made = λ kind room waiting held funded some there.
          let m = made kind room waiting (total held) funded.funded some in
          record {
            holdable = holdable-permits kind funded.sort;
            came = refl;
            ends = record {
              found = m.found;
              goes = record {
                done = ap of_permits m.goes.appended;
                funded = funded-more y kind room (waiting - 1) held job there funded.sort funded.permits
                    m.goes.funded;
              };
              keeps = others-lifted x y round wait.index first m.keeps;
            };
          }

    pub tells-lifted : (kind : Kind) (stand : Stand) → permits.Tells s x stand y
        → Tells (of_semaphore s) kind x
        (end.Permits stand.free (size_of (Some kind) - stand.free) stand.line) y
    tells-lifted kind stand made = λ room waiting held funded.
        let m = made (Some kind) room waiting (total held) funded.funded in
        let o = permits.object s (Some kind) x in
        let rest : size_of (Some kind) - stand.free ≡ o.held = omega (arith, m.all, m.free) in (
          ap (λ n. end.Permits n (size_of (Some kind) - stand.free) stand.line) m.free
              ∙ ap (λ n. end.Permits o.free n stand.line) rest
              ∙ ap (λ n. end.Permits o.free o.held n) m.line,
          record {
            same = ap of_permits (m.goes.appended ∙ append-nil (s.entries x));
            funded = record { sort = funded.sort; permits = funded.permits; funded = m.goes.funded };
            keeps = keeps-lifted x y m.keeps;
          },
        )
