-- What one step owes, so that a core stays one: its numbers fit and add up, its entry is allowed, and the
-- object after the entry is the one that is shown.
use Rattle.std.proofs.Common.{◌≡◌, ℕ, ◌+◌, ℤ, List, Some, length, set, sum, slice_get, refl, ap}
use Rattle.std.proofs.lemmas.List.{length-set}
use Rattle.cqs_core.specs.declared.doings.Doing.{Doing}
use Rattle.cqs_core.specs.declared.doings.Doing.TheVariants as doing
use Rattle.cqs_core.specs.declared.entries.Entry.{Entry}
use Rattle.cqs_core.specs.Numbered.{EachAt}
use Rattle.cqs_core.specs.QueueState.{Queue}
use Rattle.cqs_core.specs.QueueLine as queue
use Rattle.cqs_core.specs.QueueMoves as move
use Rattle.cqs_core.specs.QueueMoves.{Move, IsOpen, move_queue}
use Rattle.cqs_core.specs.QueueWaiters.{Waiters}
use Rattle.cqs_core.specs.SemaphoreObject.{Semaphore}
use Rattle.cqs_core.specs.SemaphoreTable.{Shape}
use Rattle.cqs_core.specs.SemaphoreShown.{HasLoaded, free_of}
use Rattle.cqs_core.proofs.EachAtLemmas.{EachAt-write}

pub same-semaphore : {a b : Semaphore} → a.free ≡ b.free → a.way ≡ b.way → a.door ≡ b.door → a.line ≡ b.line
    → a.next ≡ b.next → a.served ≡ b.served → a.held ≡ b.held → a.spoiled ≡ b.spoiled → a ≡ b
same-semaphore free way door line next served held spoiled = λ i. record {
  free = free i;
  way = way i;
  door = door i;
  line = line i;
  next = next i;
  served = served i;
  held = held i;
  spoiled = spoiled i;
}

-- the waiters of a semaphore
abbrev pub waiters_of : Semaphore → Waiters
waiters_of o = record { door = o.door; line = o.line; next = o.next; served = o.served }

pub same-by_waiters : {a b : Semaphore} → a.free ≡ b.free → a.way ≡ b.way → waiters_of a ≡ waiters_of b
    → a.held ≡ b.held → a.spoiled ≡ b.spoiled
    → a ≡ b
same-by_waiters free way waiters held spoiled =
    same-semaphore free way (ap (λ w. w.door) waiters) (ap (λ w. w.line) waiters) (ap (λ w. w.next) waiters)
    (ap (λ w. w.served) waiters) held spoiled

-- no permit is lost
abbrev pub Conserves : ℕ → ℤ → List ℕ → Queue → Type 0
Conserves permits z held q = sum held + queue.ready q + free_of z + queue.going q ≡ permits + queue.ending q

-- the shape after a step
abbrev pub altered : Shape → ℤ → List ℕ → List Entry → Queue → Shape
altered s z held history q =
    record { sync = s.sync; permits = s.permits; state = z; held = held; history = history; queue = q }

pub passes-moved : (q : Queue) (m : Move) → length (move_queue q m).doing ≡ length q.doing
passes-moved q move.stay = refl
passes-moved q (move.turn p from to) = length-set q.doing p to
passes-moved q (move.draw p k found) = length-set q.doing p (doing.Drawn k)
passes-moved q (move.install p k found) = length-set q.doing p doing.Idle
passes-moved q (move.take_value p k found) = length-set q.doing p doing.Idle
passes-moved q (move.reach p k found) = length-set q.doing p (doing.Ticket k)
passes-moved q (move.serve p k found) = length-set q.doing p doing.Idle
passes-moved q (move.leave_value p k found) = length-set q.doing p doing.Idle
passes-moved q (move.delegate p k found) = length-set q.doing p doing.Idle
passes-moved q (move.pass_over p k found) = length-set q.doing p doing.Owes
passes-moved q (move.meet_refused p k found) = length-set q.doing p doing.Idle
passes-moved q (move.begin_cancel p k found) = length-set q.doing p (doing.Leaving k)
passes-moved q (move.collect p k found) = refl
passes-moved q (move.decide p k on) = length-set q.doing p (doing.Decided k on)
passes-moved q (move.cancel p k found) = length-set q.doing p doing.Idle
passes-moved q (move.cancel_owing p k found) = length-set q.doing p doing.Owes
passes-moved q (move.refuse p k found) = length-set q.doing p doing.Idle

-- a pass of the list now does this
pub loaded-turn : (passes : List Doing) (p : ℕ) (from to : Doing) → slice_get passes p ≡ Some from
    → HasLoaded p to
    → EachAt HasLoaded passes → EachAt HasLoaded (set passes p to)
loaded-turn passes p from to does now each =
    EachAt-write HasLoaded HasLoaded passes p from to does now (λ k d at other before. before) each
