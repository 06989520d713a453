-- The law of a sole caller for every core, synchronous or not: it holds of the core read as one that isn't, and what it
-- says there it says here, since each call does the same in both.
use Rattle.std.proofs.Common.{◌≡◌, ◌≢◌, ◌<◌, ℕ, ◌++◌, Option, Some, None, length, map, slice_get, refl, ap, sym, ◌∙◌, subst}
use Rattle.std.specs.List.{fold}
use Rattle.std.specs.Option.{option_map}
use Rattle.std.specs.Prelude.{IfSome, IfNone, IsSomeAnd}
use Rattle.std.proofs.lemmas.Option.{slice_get-map}
use Rattle.cqs_core.specs.declared.calls.Call.{Call}
use Rattle.cqs_core.specs.declared.calls.Call.TheVariants as call
use Rattle.cqs_core.specs.declared.calls.Reply.{Reply}
use Rattle.cqs_core.specs.declared.cells.CoreCell.{CoreCell}
use Rattle.cqs_core.specs.declared.cells.CoreState.{CoreState}
use Rattle.cqs_core.specs.declared.cells.CoreState.TheVariants as state
use Rattle.cqs_core.specs.Resting.{IsIdle, IsResting}
use Rattle.cqs_core.specs.SemaphoreAnswers.{Room}
use Rattle.cqs_core.specs.SemaphoreCalls.{Course, refused, replied, stuck, course, HasEnd, MakesCallReady}
use Rattle.cqs_core.specs.SemaphoreCores.{IsEitherCore}
use Rattle.cqs_core.specs.SemaphoreEntries.{Waits, IsServed, after_entry}
use Rattle.cqs_core.specs.SemaphoreObject.{Semaphore}
use Rattle.cqs_core.specs.SemaphoreTable.{Shape}
use Rattle.cqs_core.specs.SoleCaller.{IsSoleCall, IsSoleRefusal, MayCall, HasWait, ShowsNext, TellsWait, NoneTaken, sole_call, most_waiters}
use Rattle.cqs_core.proofs.QueueAsCancelled.{cancelled_at, cancelled_cell}
use Rattle.cqs_core.proofs.QueueAsUnbroken.{get-map, IsMapped, map-get}
use Rattle.cqs_core.proofs.RestingCores.{as_plain, shown-plain, rest-core}
use Rattle.cqs_core.proofs.RestingCourses.{plain_course, course-plain}
use Rattle.cqs_core_run.proofs.SoleCalls as plain

resting-plain : (s : Shape) → IsResting s → IsResting (as_plain s)
resting-plain s rests = record { idle = rests.idle; numbers = rests.numbers }

-- a call comes to its end in the reading, and so it does the same here
same-course : (s : Shape) (c : Call) → IsEitherCore s → IsResting s → course (as_plain s) c ≡ plain_course (course s c)
same-course s c core rests =
    course-plain s c core (plain.calls-end (as_plain s) c (rest-core s core rests.idle) (resting-plain s rests))

pub calls-end : (s : Shape) (c : Call) → IsEitherCore s → IsResting s → HasEnd (course s c)
calls-end s c core rests =
    go (course s c)
    (subst (λ x. HasEnd x) (same-course s c core rests)
    (plain.calls-end (as_plain s) c (rest-core s core rests.idle) (resting-plain s rests)))
  where
    go : (x : Course) → HasEnd (plain_course x) → HasEnd x
    go refused ends = tt
    go (replied new answer) ends = tt
    go stuck ends = ends

abbrev room_plain : Room → Room
room_plain r = record { shape = as_plain r.shape; spare = r.spare }

made-plain : (old new : Room) (c : Call) (r : Option Reply) → IsEitherCore old.shape → IsResting old.shape
    → MakesCallReady (course old.shape c) r old new
    → MakesCallReady (course (as_plain old.shape) c) r (room_plain old) (room_plain new)
made-plain old new c r core rests made =
    subst (λ x. MakesCallReady x r (room_plain old) (room_plain new)) (sym (same-course old.shape c core rests))
    (go (course old.shape c) r made)
  where
    go : (x : Course) (r : Option Reply) → MakesCallReady x r old new
        → MakesCallReady (plain_course x) r (room_plain old) (room_plain new)
    go (replied s given) (Some answer) made = (made.0, ap as_plain made.1, made.2)
    go refused None made = ap room_plain made
    go (replied s given) None made = absurd made
    go refused (Some answer) made = absurd made
    go stuck r made = absurd made

-- no value was taken in the one where none was in the other
taken-plain : (c : CoreCell) (st : CoreState) → c.state ≡ st → (cancelled_at st c).state ≡ state.Taken
    → c.state ≡ state.Taken
taken-plain c state.Broken is taken = absurd (cc)
taken-plain c _ is taken = taken

none-taken : (s : Shape) → NoneTaken s → NoneTaken (as_plain s)
none-taken s none = record { at = λ k c got. at k c (map-get cancelled_cell s.queue.cells k c got) }
  where
    at : (k : ℕ) (c : CoreCell) → IsMapped cancelled_cell s.queue.cells k c → c.state ≢ state.Taken
    at k c from = λ taken.
        none.at k from.element from.there
        (taken-plain from.element from.element.state refl (ap (λ (x : CoreCell). x.state) from.is ∙ taken))

none-taken_back : (s : Shape) → NoneTaken (as_plain s) → NoneTaken s
none-taken_back s none = record {
  at = λ k c got taken.
      none.at k (cancelled_cell c) (get-map cancelled_cell s.queue.cells k c got)
      (ap (λ st. (cancelled_at st c).state) taken ∙ taken);
}

may-back : (s : Shape) (c : Call) → MayCall (as_plain s) c → MayCall s c
may-back s (call.Acquire p) may =
    (may.0, subst (λ (o : Semaphore). length o.line < most_waiters) (shown-plain s) may.1)
may-back s (call.Try p) may = may
may-back s (call.Release p) may = may
may-back s (call.Poll p k) may = subst (λ (o : Semaphore). HasWait k p o) (shown-plain s) may
may-back s (call.Cancel p k) may = subst (λ (o : Semaphore). HasWait k p o) (shown-plain s) may

may-plain : (s : Shape) (c : Call) → MayCall s c → MayCall (as_plain s) c
may-plain s (call.Acquire p) may =
    (may.0, subst (λ (o : Semaphore). length o.line < most_waiters) (sym (shown-plain s)) may.1)
may-plain s (call.Try p) may = may
may-plain s (call.Release p) may = may
may-plain s (call.Poll p k) may = subst (λ (o : Semaphore). HasWait k p o) (sym (shown-plain s)) may
may-plain s (call.Cancel p k) may = subst (λ (o : Semaphore). HasWait k p o) (sym (shown-plain s)) may

sole-back : (old new : Shape) (c : Call) (answer : Reply) → IsSoleCall (as_plain old) c answer (as_plain new)
    → IsSoleCall old c answer new
sole-back old new c answer sole = record {
  allowed = may-back old c sole.allowed;
  appended = sole.appended ∙ ap (λ o. old.history ++ (sole_call o c).entries) (shown-plain old);
  replied = sole.replied ∙ ap (λ o. (sole_call o c).answer) (shown-plain old);
  held = sole.held;
  permits = sole.permits;
  idle = sole.idle;
  numbers = sole.numbers;
  untaken = λ none. none-taken_back new (sole.untaken (none-taken old none));
}

-- a call that was made is a sole caller's
pub sole-ready : (old new : Room) (c : Call) (r : Option Reply) → IsEitherCore old.shape → IsResting old.shape
    → MakesCallReady (course old.shape c) r old new → IfSome r (λ answer. IsSoleCall old.shape c answer new.shape)
sole-ready old new c r core rests made =
    go r
    (plain.sole-ready (room_plain old) (room_plain new) c r (rest-core old.shape core rests.idle)
    (resting-plain old.shape rests) (made-plain old new c r core rests made))
  where
    go : (r : Option Reply) → IfSome r (λ answer. IsSoleCall (as_plain old.shape) c answer (as_plain new.shape))
        → IfSome r (λ answer. IsSoleCall old.shape c answer new.shape)
    go None sole = tt
    go (Some answer) sole = sole-back old.shape new.shape c answer sole

-- the semaphore that is shown after such a call
pub sole-shown : (old new : Room) (c : Call) (r : Option Reply) → IsEitherCore old.shape → IsResting old.shape
    → MakesCallReady (course old.shape c) r old new → IfSome r (λ answer. ShowsNext old.shape c new.shape)
sole-shown old new c r core rests made =
    go r
    (plain.sole-shown (room_plain old) (room_plain new) c r (rest-core old.shape core rests.idle)
    (resting-plain old.shape rests) (made-plain old new c r core rests made))
  where
    back : ShowsNext (as_plain old.shape) c (as_plain new.shape) → ShowsNext old.shape c new.shape
    back shows =
        sym (shown-plain new.shape) ∙ shows
        ∙ ap (λ o. fold after_entry o (sole_call o c).entries) (shown-plain old.shape)

    go : (r : Option Reply) → IfSome r (λ answer. ShowsNext (as_plain old.shape) c (as_plain new.shape))
        → IfSome r (λ answer. ShowsNext old.shape c new.shape)
    go None shows = tt
    go (Some answer) shows = back shows

-- a call that was refused wasn't allowed
pub sole-refused : (old new : Room) (c : Call) (r : Option Reply) → IsEitherCore old.shape → IsResting old.shape
    → MakesCallReady (course old.shape c) r old new → IfNone r (IsSoleRefusal old.shape c)
sole-refused old new c r core rests made =
    go r
    (plain.sole-refused (room_plain old) (room_plain new) c r (rest-core old.shape core rests.idle)
    (resting-plain old.shape rests) (made-plain old new c r core rests made))
  where
    go : (r : Option Reply) → IfNone r (IsSoleRefusal (as_plain old.shape) c) → IfNone r (IsSoleRefusal old.shape c)
    go None barred = λ none may. barred (none-taken old.shape none) (may-plain old.shape c may)
    go (Some answer) barred = tt

-- what a cell tells of its wait
pub cell-tells : (s : Shape) (k : ℕ) → IsEitherCore s → IsIdle s.queue.doing → NoneTaken s
    → TellsWait s k (slice_get s.queue.cells k)
cell-tells s k core idle untaken = record {
  waits = λ p waits.
      told state.Waiter (λ e. absurd (cc))
      (tells.waits p (subst (λ (o : Semaphore). Waits k p o.line) (sym (shown-plain s)) waits));
  served = λ p serves.
      told state.Resumed (λ e. absurd (cc))
      (tells.served p (subst (λ (o : Semaphore). IsServed k p o.served) (sym (shown-plain s)) serves));
}
  where
    tells : TellsWait (as_plain s) k (slice_get (map cancelled_cell s.queue.cells) k)
    tells = plain.cell-tells (as_plain s) k (rest-core s core idle) idle (none-taken s untaken)

    same-state : (at : CoreState) → at ≢ state.Cancelled → (c : CoreCell) (st : CoreState) → c.state ≡ st
        → (cancelled_at st c).state ≡ at → c.state ≡ at
    same-state at other c state.Broken is stands = absurd (other (sym stands))
    same-state at other c _ is stands = stands

    told : (at : CoreState) → at ≢ state.Cancelled
        → IsSomeAnd (slice_get (map cancelled_cell s.queue.cells) k) (λ cell. cell.state ≡ at)
        → IsSomeAnd (slice_get s.queue.cells k) (λ cell. cell.state ≡ at)
    told at other found =
        go (slice_get s.queue.cells k)
        (subst (λ o. IsSomeAnd o (λ cell. cell.state ≡ at)) (slice_get-map cancelled_cell s.queue.cells k) found)
      where
        go : (o : Option CoreCell) → IsSomeAnd (option_map cancelled_cell o) (λ cell. cell.state ≡ at)
            → IsSomeAnd o (λ cell. cell.state ≡ at)
        go None found = found
        go (Some c) found = same-state at other c c.state refl found
