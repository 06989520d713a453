-- A core with one pass is a semaphore as a floor needs it.
use Rattle.std.proofs.Common.{◌≡◌, ◌≢◌, inl, ℕ, ℤ, pos, negsuc, ◌≤ℤ◌, ◌+◌, ◌*◌, ◌<◌, ◌≤◌, ◌==◌, nat_lt, not, Bool, true, false, List, [], ◌∷◌, ◌++◌, Option, Some, None, is_some, length, replicate, slice_get, refl, ap, sym, ◌∙◌, subst, eq-eqb, ne_eqb, eqb-true, lit<, lit≤, arith}
use Rattle.std.specs.Prelude.{slice_index}
use Rattle.std.specs.List.{list_any}
use Rattle.std.proofs.lemmas.Int.{ints}
use Rattle.std.proofs.lemmas.List.{append-nil}
use Rattle.std.proofs.lemmas.List.Elements.{All-nil}
use Rattle.cqs_plan.specs.declared.plans.kind.Kind.{Kind}
use Rattle.cqs_plan.specs.Floor.{size_of}
use Rattle.cqs_plan.specs.LegalFloor.{BreaksNone}
use Rattle.cqs_rule_laws.specs.declared.config.Place.{Place}
use Rattle.cqs_core.specs.declared.calls.Call.TheVariants as call
use Rattle.cqs_core.specs.declared.calls.Reply.{Reply}
use Rattle.cqs_core.specs.declared.doings.Doing.TheVariants as doing
use Rattle.cqs_core.specs.QueueLine.{Waiting, going}
use Rattle.cqs_core.specs.Resting.{IsIdle}
use Rattle.cqs_core.specs.SemaphoreAnswers.{Room}
use Rattle.cqs_core.specs.SemaphoreEntries.{IsLegal, find_wait, object_after}
use Rattle.cqs_core.specs.SemaphoreObject.{Semaphore}
use Rattle.cqs_core.specs.SemaphoreShown.{free_of, short_of, shown_semaphore, opening_shape}
use Rattle.cqs_core.specs.SemaphoreTable.{Shape}
use Rattle.cqs_core.specs.SoleCaller.{HasWait, MayCall}
use Rattle.cqs_core.proofs.FirstOfWay.{ending-within}
use Rattle.cqs_core.proofs.OpenedCore.{opened-core}
use Rattle.cqs_core.proofs.Quiet.{IsQuiet, none-going, quiet-core}
use Rattle.cqs_floor_alone_kinds.specs.declared.sole.Stand.{Stand}
use Rattle.cqs_floor_alone_kinds.specs.SoleCore.{HasMade, IsFunded, IsReady, IsSole, is_served_at, has_left, sent_in, sole_core, wait_in}
use Rattle.cqs_floor_alone_kinds.specs.Soles.{IsLawful, IsOpened, CanAcquire, CanEnd, CanRelease, Acquires, Cancels, Polls, Releases, Stands, is_in_line, object}
use Rattle.cqs_floor_alone_kinds.proofs.Came.{came-now, came-later, came-freed, came-sent, came-granted, came-left, came-late}
use Rattle.cqs_floor_alone_kinds.proofs.Funded.{funded-next, funded-rests, funded-ready}
use Rattle.cqs_floor_alone_kinds.proofs.Objects.{stays-entered, comes-entered, stays-sent, stays-closed, stays-left, left-next}
use Rattle.cqs_floor_alone_kinds.proofs.Replicated.{replicate-all}
use Rattle.cqs_floor_alone_kinds.proofs.SoleCells.{read-wait, line-few}
use Rattle.cqs_floor_alone_kinds.proofs.Stays.{in-head}

-- the plain semaphore of a core is the one that it shows
object-shown : (x : Room) (kind : Option Kind) (room waiting held : ℕ) → IsFunded x (size_of kind) room waiting held
    → object sole_core kind x ≡ shown_semaphore x.shape
object-shown x kind room waiting held funded =
    ap (λ n. object_after n x.shape.history) (sym funded.permits) ∙ funded.sole.core.object

pub core-lawful : IsLawful sole_core
core-lawful = record {
  some = λ x kind room waiting held funded. omega (arith, funded.permits, funded.sole.core.range.some_permits);
  legal = λ x kind room waiting held funded.
      record {
        legal = subst (λ n. IsLegal n x.shape.history) funded.permits funded.sole.core.legal;
        unbroken = funded.sole.unbroken;
      };
  numbered = λ x wait kind room waiting held funded has.
      let rests = funded-rests x (size_of kind) room waiting held funded in
      let read = read-wait x.shape funded.sole rests wait.index 0 has in
      subst (λ (o : Semaphore). wait.index < o.next) (sym (object-shown x kind room waiting held funded)) read.drawn;
}

-- a core as it is made has one pass, which is idle
idle-one : IsIdle (replicate 1 doing.Idle)
idle-one = record { at = λ p d got. replicate-all 1 doing.Idle d p got }

sole-opened : (permits : ℕ) → 0 < permits → permits ≤ 1048576 → IsSole (opening_shape permits 1)
sole-opened permits some few = record {
  core = opened-core permits 1
      (record { some_permits = some; few_permits = few; some_passes = lit< tt; few_passes = lit≤ tt });
  idle = idle-one;
  one = refl;
  untaken = record { at = λ k cell got. absurd (cc) };
  unbroken = All-nil BreaksNone;
}

pub core-opened : (kind : Option Kind) (takes : ℕ) (x : Room) → 0 < size_of kind → size_of kind ≤ 1048576
    → takes ≤ 524288 → x.shape ≡ opening_shape (size_of kind) 1 → 9 * takes ≤ x.spare → IsOpened sole_core kind takes x
core-opened kind takes x some few few_takes opens spare =
    let suspends : x.shape.queue.suspends ≡ 0 = ap (λ (s : Shape). s.queue.suspends) opens in
    record {
      fresh = ap (λ (s : Shape). s.history) opens;
      funded = record {
        sole = subst IsSole (sym opens) (sole-opened (size_of kind) some few);
        permits = ap (λ (s : Shape). s.permits) opens;
        numbers = omega (arith, suspends, few_takes);
        spare = omega (arith, spare);
        holds = ap (λ (s : Shape). slice_index s.held 0) opens;
      };
    }

-- where a call may be made
pub acquire-ready : (x : Room) → CanAcquire sole_core x → IsReady x
acquire-ready x can = funded-ready x _ _ _ _ can.funded (omega (arith, can.some))

pub may-acquire : (x : Room) → CanAcquire sole_core x → MayCall x.shape (call.Acquire 0)
may-acquire x can =
    let funded = can.funded in
    let few = line-few x.shape funded.sole (funded-rests x _ _ _ _ funded) in
    (omega (arith, funded.sole.one), omega (arith, few, funded.numbers))

pub release-ready : (x : Room) → CanRelease sole_core x → IsReady x
release-ready x can = funded-ready x _ _ _ _ can.funded (omega (arith, can.some))

pub may-release : (x : Room) → CanRelease sole_core x → MayCall x.shape (call.Release 0)
may-release x can = let funded = can.funded in omega (arith, funded.holds, can.some)

pub end-ready : (x : Room) (wait : Place) → CanEnd sole_core wait x → IsReady x
end-ready x wait can = funded-ready x _ _ _ _ can.funded (omega (arith, can.some))

-- a call of a core that was between two calls
module _ (x y : Room) (answer : Reply) (sole : IsSole x.shape) where
  object-is : (kind : Option Kind) (room waiting held : ℕ) → IsFunded x (size_of kind) room waiting held
      → shown_semaphore x.shape ≡ object sole_core kind x
  object-is kind room waiting held funded = sym (object-shown x kind room waiting held funded)

  pub core-acquires : HasMade x (call.Acquire 0) answer y → Acquires sole_core x (wait_in answer) y
  core-acquires made = go (nat_lt 0 (shown_semaphore x.shape).free) refl
    where
      go : (b : Bool) → nat_lt 0 (shown_semaphore x.shape).free ≡ b → Acquires sole_core x (wait_in answer) y
      go true some =
          let came = came-now x y answer sole made some in
          subst (λ a. Acquires sole_core x (wait_in a) y) (sym came.is)
          (λ kind room waiting held funded left.
          record {
            free = ap (λ (o : Semaphore). nat_lt 0 o.free) (object-shown x kind room waiting held funded) ∙ some;
            goes = record {
              appended = came.history;
              funded = funded-next x y _ answer _ _ _ _ _ _ _ funded made
                  (omega (arith, made.call.numbers, left)) (omega (arith, left))
                  (omega (arith, came.holds, funded.holds));
            };
            keeps = λ wait has. subst (λ (o : Semaphore). HasWait wait.index 0 o) (sym came.shows) has;
          })
      go false none =
          let came = came-later x y answer sole made none in
          subst (λ a. Acquires sole_core x (wait_in a) y) (sym came.is)
          (λ kind room waiting held funded left.
          let next : (shown_semaphore x.shape).next ≡ (object sole_core kind x).next =
          ap (λ (o : Semaphore). o.next) (object-is kind room waiting held funded) in
          record {
            none = ap (λ (o : Semaphore). nat_lt 0 o.free) (object-shown x kind room waiting held funded) ∙ none;
            number = next;
            goes = record {
              appended = rw (← next) came.history;
              funded = funded-next x y _ answer _ _ _ _ _ _ _ funded made
                  (omega (arith, made.call.numbers, left)) (omega (arith, left))
                  (omega (arith, came.holds, funded.holds));
            };
            has = subst (λ (o : Semaphore). HasWait (shown_semaphore x.shape).next 0 o) (sym came.shows)
                (comes-entered (shown_semaphore x.shape) refl);
            keeps = λ wait has. subst (λ (o : Semaphore). HasWait wait.index 0 o) (sym came.shows)
                (stays-entered (shown_semaphore x.shape) wait.index 0 has);
          })

  pub core-releases : HasMade x (call.Release 0) answer y → Releases sole_core x (sent_in answer) y
  core-releases made = go (shown_semaphore x.shape).line refl
    where
      go : (line : List Waiting) → (shown_semaphore x.shape).line ≡ line → Releases sole_core x (sent_in answer) y
      go [] is =
          let came = came-freed x y answer sole made is in
          let next : y.shape.queue.suspends ≡ x.shape.queue.suspends = ap (λ (o : Semaphore). o.next) came.shows in
          subst (λ a. Releases sole_core x (sent_in a) y) (sym came.is)
          (λ kind room waiting held funded some.
          record {
            empty = ap (λ (o : Semaphore). o.line) (object-shown x kind room waiting held funded) ∙ is;
            goes = record {
              appended = came.history;
              funded = funded-next x y _ answer _ _ _ _ _ _ _ funded made
                  (omega (arith, next)) (omega (arith, some)) (omega (arith, came.holds, funded.holds));
            };
            keeps = λ wait has. subst (λ (o : Semaphore). HasWait wait.index 0 o) (sym came.shows) has;
          })
      go (first ∷ rest) is =
          let came = came-sent x y answer sole first rest made is in
          let next : y.shape.queue.suspends ≡ x.shape.queue.suspends = ap (λ (o : Semaphore). o.next) came.shows in
          subst (λ a. Releases sole_core x (sent_in a) y) (sym came.is)
          (λ kind room waiting held funded some.
          let line : (object sole_core kind x).line ≡ first ∷ rest =
          ap (λ (o : Semaphore). o.line) (object-shown x kind room waiting held funded) ∙ is in
          let stands = in-head (record { wait = first.wait; pass = first.pass }) first rest refl in
          let waits : HasWait first.wait first.pass (shown_semaphore x.shape) = inl (rw is stands) in
          let alone = (read-wait x.shape sole (funded-rests x _ _ _ _ funded) first.wait first.pass waits).alone in
          record {
            first = rw line refl;
            goes = record {
              appended = came.history;
              funded = funded-next x y _ answer _ _ _ _ _ _ _ funded made
                  (omega (arith, next)) (omega (arith, some)) (omega (arith, came.holds, funded.holds));
            };
            keeps = λ wait has. subst (λ (o : Semaphore). HasWait wait.index 0 o) (sym came.shows)
                (stays-sent (shown_semaphore x.shape) first rest wait.index is alone has);
          })

-- some wait of the number is in the line where the first of it is found
pub any-find : (k : ℕ) (ws : List Waiting) → list_any (λ w. w.wait == k) ws ≡ is_some (find_wait k ws)
any-find k [] = refl
any-find k (w ∷ ws) = go (w.wait == k) refl (any-find k ws)
  where
    go : (b : Bool) → w.wait == k ≡ b → list_any (λ x. x.wait == k) ws ≡ is_some (find_wait k ws)
        → list_any (λ x. x.wait == k) (w ∷ ws) ≡ is_some (find_wait k (w ∷ ws))
    go true same later = rw (same, eq-eqb k w.wait (sym (eqb-true w.wait k same))) refl
    go false other later =
        let differs : k ≢ w.wait = λ e. absurd (cc (eq-eqb w.wait k (sym e), other)) in
        rw (other, ne_eqb k w.wait differs) later

none-found : (o : Option Waiting) → is_some o ≡ false → o ≡ None
none-found None is = refl
none-found (Some w) is = absurd (cc)

some-found : (o : Option Waiting) → is_some o ≡ true → (w : Waiting) × (o ≡ Some w)
some-found None is = absurd (cc)
some-found (Some w) is = (w, refl)

not-true : (b : Bool) → true ≡ not b → b ≡ false
not-true true is = absurd (cc)
not-true false is = refl

not-false : (b : Bool) → false ≡ not b → b ≡ true
not-false true is = refl
not-false false is = absurd (cc)

-- a core whose caller has a wait
module _ (x : Room) (wait : Place) where
  -- whether the wait stands in the line
  line-reads : (kind : Option Kind) (room waiting held : ℕ) → IsFunded x (size_of kind) room waiting held
      → (stands : Bool) → is_some (find_wait wait.index (shown_semaphore x.shape).line) ≡ stands
      → is_in_line wait.index (object sole_core kind x).line ≡ stands
  line-reads kind room waiting held funded stands is =
      ap (λ (o : Semaphore). is_in_line wait.index o.line) (object-shown x kind room waiting held funded)
      ∙ any-find wait.index (shown_semaphore x.shape).line ∙ is

  served-reads : IsSole x.shape → x.shape.queue.suspends ≤ 1048576 → HasWait wait.index 0 (shown_semaphore x.shape)
      → is_served_at (slice_get x.shape.queue.cells wait.index)
      ≡ not (is_some (find_wait wait.index (shown_semaphore x.shape).line))
  served-reads sole few has =
      (read-wait x.shape sole (record { idle = sole.idle; numbers = omega (arith, few) }) wait.index 0 has).reads

  pub core-pends : CanEnd sole_core wait x → is_served_at (slice_get x.shape.queue.cells wait.index) ≡ false
      → Polls sole_core x wait false x
  core-pends can missing =
      let reads = served-reads can.funded.sole (omega (arith, can.funded.numbers)) can.has in
      let there = not-false _ (sym missing ∙ reads) in
      λ kind room waiting held funded some.
      record {
        found = line-reads kind room waiting held funded true there;
        goes = record { appended = rest; funded = funded };
        keeps = λ other has. has;
      }
    where
      rest : x.shape.history ≡ x.shape.history ++ []
      rest = sym (append-nil x.shape.history)

  module _ (y : Room) (answer : Reply) (can : CanEnd sole_core wait x) where
    sole : IsSole x.shape
    sole = can.funded.sole

    pub core-grants : is_served_at (slice_get x.shape.queue.cells wait.index) ≡ true
        → HasMade x (call.Poll 0 wait.index) answer y → Polls sole_core x wait true y
    core-grants served made kind room waiting held funded some =
        let reads = served-reads sole (omega (arith, can.funded.numbers)) can.has in
        let missing = not-true _ (sym served ∙ reads) in
        let came = came-granted x y answer sole wait.index made (none-found _ missing) in
        let next : y.shape.queue.suspends ≡ x.shape.queue.suspends = ap (λ (o : Semaphore). o.next) came.shows in
        record {
          found = line-reads kind room waiting held funded false missing;
          goes = record {
            appended = came.history;
            funded = funded-next x y _ answer _ _ _ _ _ _ _ funded made
                (omega (arith, next)) (omega (arith, some)) (omega (arith, came.holds, funded.holds));
          };
          keeps = λ other differs has. subst (λ (o : Semaphore). HasWait other.index 0 o) (sym came.shows)
              (stays-closed (shown_semaphore x.shape) wait.index other.index differs has);
        }

    pub core-cancels : HasMade x (call.Cancel 0 wait.index) answer y → Cancels sole_core x wait (has_left answer) y
    core-cancels made = go (is_some (find_wait wait.index (shown_semaphore x.shape).line)) refl
      where
        go : (b : Bool) → is_some (find_wait wait.index (shown_semaphore x.shape).line) ≡ b
            → Cancels sole_core x wait (has_left answer) y
        go true there =
            let found = some-found _ there in
            let came = came-left x y answer sole wait.index found.0 made found.1 in
            let next : y.shape.queue.suspends ≡ x.shape.queue.suspends =
            ap (λ (o : Semaphore). o.next) came.shows ∙ left-next (shown_semaphore x.shape) wait.index in
            subst (λ a. Cancels sole_core x wait (has_left a) y) (sym came.is)
            (λ kind room waiting held funded some.
            record {
              found = line-reads kind room waiting held funded true there;
              goes = record {
                appended = came.history;
                funded = funded-next x y _ answer _ _ _ _ _ _ _ funded made
                    (omega (arith, next)) (omega (arith, some)) (omega (arith, came.holds, funded.holds));
              };
              keeps = λ other differs has. subst (λ (o : Semaphore). HasWait other.index 0 o) (sym came.shows)
                  (stays-left (shown_semaphore x.shape) wait.index other.index differs has);
            })
        go false missing =
            let came = came-late x y answer sole wait.index made (none-found _ missing) in
            let next : y.shape.queue.suspends ≡ x.shape.queue.suspends = ap (λ (o : Semaphore). o.next) came.shows in
            subst (λ a. Cancels sole_core x wait (has_left a) y) (sym came.is)
            (λ kind room waiting held funded some.
            record {
              found = line-reads kind room waiting held funded false missing;
              goes = record {
                appended = came.history;
                funded = funded-next x y _ answer _ _ _ _ _ _ _ funded made
                    (omega (arith, next)) (omega (arith, some)) (omega (arith, came.holds, funded.holds));
              };
              keeps = λ other differs has. subst (λ (o : Semaphore). HasWait other.index 0 o) (sym came.shows)
                  (stays-closed (shown_semaphore x.shape) wait.index other.index differs has);
            })

-- a state that counts no more than so many free permits
state-le : (z : ℤ) (n : ℕ) → free_of z ≤ n → z ≤ℤ pos n
state-le (pos m) n few = grind (arith, ints)
state-le (negsuc m) n few = grind (arith, ints)

-- what a core at rest tells by its state
module _ (x : Room) (kind : Option Kind) (room waiting held : ℕ)
    (funded : IsFunded x (size_of kind) room waiting held) where
  quiet : IsQuiet x.shape
  quiet = quiet-core x.shape funded.sole.core (funded-rests x (size_of kind) room waiting held funded)

  all-there : (shown_semaphore x.shape).held + free_of x.shape.state ≡ size_of kind
  all-there =
      let still : going x.shape.queue ≡ 0 =
      none-going x.shape.queue funded.sole.core.sound funded.sole.idle quiet.behind in
      let few = ending-within x.shape.queue funded.sole.core.sound funded.sole.core.covered in
      let conserved = funded.sole.core.conserved in
      omega (arith, still, few, conserved, funded.permits)

  pub state-most : x.shape.state ≤ℤ pos 4294967295
  state-most =
      state-le x.shape.state 4294967295 (omega (arith, all-there, funded.permits, funded.sole.core.range.permits))

  pub core-tells : (stand : Stand) → stand.free ≡ free_of x.shape.state → stand.line ≡ short_of x.shape.state
      → Stands sole_core kind room waiting held x stand x
  core-tells stand free line =
      let is = sym (object-shown x kind room waiting held funded) in
      record {
        free = free ∙ ap (λ (o : Semaphore). o.free) is;
        line = line ∙ quiet.waits ∙ ap (λ (o : Semaphore). length o.line) is;
        all = subst (λ (o : Semaphore). o.held + o.free ≡ size_of kind) is all-there;
        goes = record { appended = sym (append-nil x.shape.history); funded = funded };
        keeps = λ other has. has;
      }
