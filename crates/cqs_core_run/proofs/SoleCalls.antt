-- The law of a sole caller, and that the calls of a core in which every pass is idle come to their ends.
use Rattle.std.proofs.Common.{◌≡◌, ℕ, Option, Some, None, slice_get, ap, sym, ◌∙◌}
use Rattle.std.specs.List.{fold}
use Rattle.std.proofs.lemmas.List.Sums.{fold-append}
use Rattle.std.specs.Prelude.{IfSome, IfNone, IsSomeAnd}
use Rattle.cqs_core.specs.declared.calls.Call.{Call}
use Rattle.cqs_core.specs.declared.calls.Call.TheVariants as call
use Rattle.cqs_core.specs.declared.calls.Reply.{Reply}
use Rattle.cqs_core.specs.declared.cells.CoreState.{CoreState}
use Rattle.cqs_core.specs.declared.cells.CoreState.TheVariants as state
use Rattle.cqs_core.specs.Resting.{IsIdle, IsResting}
use Rattle.cqs_core.specs.SemaphoreAnswers.{Room}
use Rattle.cqs_core.specs.SemaphoreCalls.{Course, refused, replied, stuck, course, HasEnd, MakesCallReady}
use Rattle.cqs_core.specs.SemaphoreEntries.{after_entry, object_after}
use Rattle.cqs_core.specs.SemaphoreObject.{opening}
use Rattle.cqs_core.specs.SemaphoreShown.{IsCore, shown_semaphore}
use Rattle.cqs_core.specs.SemaphoreTable.{Shape}
use Rattle.cqs_core.specs.SoleCaller.{IsSoleCall, IsSoleRefusal, ShowsNext, TellsWait, NoneTaken, sole_call}
use Rattle.cqs_core.proofs.CallsKeep.{call_ready-core}
use Rattle.cqs_core.proofs.WaitCells.{IsOwnWait, wait-in_line, wait-served}
use Rattle.cqs_core.proofs.Quiet.{quiet-core}
use Rattle.cqs_core_run.proofs.SoleStart.{IsSoleCourse}
use Rattle.cqs_core_run.proofs.SoleAcquire.{sole-acquire, sole-try}
use Rattle.cqs_core_run.proofs.SoleRelease.{sole-release}
use Rattle.cqs_core_run.proofs.SoleWait.{sole-poll, sole-cancel}

pub sole-course : (s : Shape) (c : Call) → IsCore s → IsResting s → IsSoleCourse s c (course s c)
sole-course s (call.Acquire p) core rests =
    sole-acquire s p rests (quiet-core s core rests)
sole-course s (call.Try p) core rests = sole-try s p rests
sole-course s (call.Release p) core rests =
    sole-release s p core rests (quiet-core s core rests)
sole-course s (call.Poll p k) core rests = sole-poll s p k core rests
sole-course s (call.Cancel p k) core rests = sole-cancel s p k core rests

-- a call of such a core comes to its end
pub calls-end : (s : Shape) (c : Call) → IsCore s → IsResting s → HasEnd (course s c)
calls-end s c core rests = go (course s c) (sole-course s c core rests)
  where
    go : (x : Course) → IsSoleCourse s c x → HasEnd x
    go refused sole = tt
    go (replied new answer) sole = tt
    go stuck sole = sole

-- a call that was refused wasn't allowed
pub sole-refused : (old new : Room) (c : Call) (r : Option Reply) → IsCore old.shape → IsResting old.shape
    → MakesCallReady (course old.shape c) r old new → IfNone r (IsSoleRefusal old.shape c)
sole-refused old new c r core rests made = go (course old.shape c) r (sole-course old.shape c core rests) made
  where
    go : (x : Course) (r : Option Reply) → IsSoleCourse old.shape c x → MakesCallReady x r old new
        → IfNone r (IsSoleRefusal old.shape c)
    go refused None sole made = sole
    go (replied s given) None sole made = absurd made
    go stuck None sole made = absurd made
    go x (Some answer) sole made = tt

-- a call that was made is a sole caller's
pub sole-ready : (old new : Room) (c : Call) (r : Option Reply) → IsCore old.shape → IsResting old.shape
    → MakesCallReady (course old.shape c) r old new → IfSome r (λ answer. IsSoleCall old.shape c answer new.shape)
sole-ready old new c r core rests made = go (course old.shape c) r (sole-course old.shape c core rests) made
  where
    go : (x : Course) (r : Option Reply) → IsSoleCourse old.shape c x → MakesCallReady x r old new
        → IfSome r (λ answer. IsSoleCall old.shape c answer new.shape)
    go (replied s given) (Some answer) sole made = rw (made.0, made.1) sole
    go x None sole made = tt
    go refused (Some answer) sole made = absurd made
    go stuck (Some answer) sole made = absurd made

-- the semaphore that is shown after such a call
next-shown : (old new : Shape) (c : Call) (answer : Reply) → IsCore old → IsCore new → IsSoleCall old c answer new
    → ShowsNext old c new
next-shown old new c answer before after sole =
    sym after.object
    ∙ ap (λ n. object_after n new.history) sole.permits
    ∙ ap (object_after old.permits) sole.appended
    ∙ fold-append after_entry (opening old.permits) old.history (sole_call (shown_semaphore old) c).entries
    ∙ ap (λ o. fold after_entry o (sole_call (shown_semaphore old) c).entries) before.object

pub sole-shown : (old new : Room) (c : Call) (r : Option Reply) → IsCore old.shape → IsResting old.shape
    → MakesCallReady (course old.shape c) r old new → IfSome r (λ answer. ShowsNext old.shape c new.shape)
sole-shown old new c r core rests made =
    go r (sole-ready old new c r core rests made) (call_ready-core old new c r core made)
  where
    go : (r : Option Reply) → IfSome r (λ answer. IsSoleCall old.shape c answer new.shape) → IsCore new.shape
        → IfSome r (λ answer. ShowsNext old.shape c new.shape)
    go None sole after = tt
    go (Some answer) sole after = next-shown old.shape new.shape c answer core after sole

-- what a cell tells of its wait
pub cell-tells : (s : Shape) (k : ℕ) → IsCore s → IsIdle s.queue.doing → NoneTaken s
    → TellsWait s k (slice_get s.queue.cells k)
cell-tells s k core idle untaken = record {
  waits = λ p waits. tells state.Waiter p (wait-in_line s.queue p k core.sound idle waits);
  served = λ p serves. tells state.Resumed p
      (wait-served s.queue p k core.sound (λ j c got. untaken.at j c got) serves);
}
  where
    tells : (at : CoreState) (p : ℕ) → IsOwnWait s.queue p k at
        → IsSomeAnd (slice_get s.queue.cells k) (λ cell. cell.state ≡ at)
    tells at p own = rw own.found own.stands
