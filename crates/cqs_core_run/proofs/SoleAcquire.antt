-- A sole caller acquires, or tries to: a free permit is taken; else a number is drawn, whose cell is a new one.
use Rattle.std.proofs.Common.{◌≡◌, ◌≢◌, ◌⊎◌, inl, inr, ℕ, ◌<◌, Bool, true, false, pos, Some, None, length, slice_get, refl, ap, sym, ◌∙◌, arith}
use Rattle.std.specs.Prelude.{int_lt, int_le, if◌then◌else◌}
use Rattle.std.proofs.lemmas.Bool.{lt-ltb}
use Rattle.cqs_core.specs.declared.calls.Call.TheVariants as call
use Rattle.cqs_core.specs.declared.calls.Reply.TheVariants as reply
use Rattle.cqs_core.specs.declared.cells.CoreCell.{CoreCell}
use Rattle.cqs_core.specs.declared.cells.CoreState.TheVariants as state
use Rattle.cqs_core.specs.declared.doings.Doing.TheVariants as doing
use Rattle.cqs_core.specs.declared.entries.Entry.TheVariants as entry
use Rattle.cqs_core.specs.declared.events.Event.TheVariants as event
use Rattle.cqs_core.specs.declared.outcomes.Outcome.TheVariants as outcome
use Rattle.cqs_core.specs.QueueMoves as move
use Rattle.cqs_core.specs.QueueMoves.{at_state}
use Rattle.cqs_core.specs.Resting.{IsResting}
use Rattle.cqs_core.specs.SemaphoreCalls.{replied, first, onward, suspends_at, swaps_at, after_take, after_draw, after_install, after_load, after_swap}
use Rattle.cqs_core.specs.SemaphoreTable.{Shape, step, take_row, try_load_row, gains, takes, records, moves, answers, lowest, last_number}
use Rattle.cqs_core.specs.SoleCaller.{MayCall, NoneTaken}
use Rattle.cqs_core.proofs.EachAtLemmas.{EachAt-write, EachAt-push}
use Rattle.cqs_core.proofs.Places.{get-set_here, get-below, get-past, get-push_at}
use Rattle.cqs_core.proofs.Quiet.{IsQuiet}
use Rattle.cqs_core_run.proofs.SoleStart.{IsSoleCourse, sole-along, idle-again, write-twice, write-thrice, two-entries, some-free, none-free, none-free_le, some-free_le, same-state, short-few, short-many, cases_idle, pass-there}

-- the cell that a suspend makes for its pass
abbrev drawn_cell : ℕ → CoreCell
drawn_cell p = record { state = state.Empty; owner = Some p; collected = false }

-- a core whose pass has drawn a number that has no cell yet
abbrev drawn : Shape → ℕ → Shape
drawn s p = records (moves s (move.draw p s.queue.suspends None)) (entry.Enter p s.queue.suspends)

-- and after it has installed its waiter there
abbrev installed : Shape → ℕ → Shape
installed s p = moves (drawn s p) (move.install p s.queue.suspends (drawn_cell p))

draws-new : (s : Shape) (p : ℕ) → slice_get s.queue.doing p ≡ Some doing.Door → s.queue.suspends < last_number
    → length s.queue.cells ≡ s.queue.suspends
    → step s (event.Draw p) ≡ Some (record { shape = drawn s p; outcome = outcome.Drew s.queue.suspends })
draws-new s p door below made =
    rw (door, lt-ltb s.queue.suspends last_number below, get-past s.queue.cells s.queue.suspends (omega arith)) refl

installs-new : (s : Shape) (p : ℕ) → slice_get s.queue.doing p ≡ Some doing.Door
    → length s.queue.cells ≡ s.queue.suspends
    → step (drawn s p) (event.Install p)
    ≡ Some (record { shape = installed s p; outcome = outcome.Waits s.queue.suspends })
installs-new s p door made =
    rw (
      get-set_here s.queue.doing p doing.Door (doing.Drawn s.queue.suspends) door,
      get-push_at s.queue.cells (drawn_cell p) s.queue.suspends (sym made),
    ) refl

suspends-new : (s : Shape) (p : ℕ) → slice_get s.queue.doing p ≡ Some doing.Door → s.queue.suspends < last_number
    → length s.queue.cells ≡ s.queue.suspends
    → suspends_at p s ≡ replied (installed s p) (reply.Later s.queue.suspends)
suspends-new s p door below made =
    ap (λ row. onward row (after_draw p)) (draws-new s p door below made)
    ∙ ap (λ row. onward row after_install) (installs-new s p door made)

-- a core whose pass stands at the door
abbrev at_door : Shape → ℕ → Shape
at_door s p = records (moves (takes s) (move.turn p doing.Idle doing.Door)) (entry.TakeDoor p)

may-acquire : (s : Shape) (p : ℕ) → IsQuiet s → slice_get s.queue.doing p ≡ Some doing.Idle
    → int_lt lowest s.state ≡ true → MayCall s (call.Acquire p)
may-acquire s p quiet does low =
    let few = short-few s.state low in
    let waits = quiet.waits in
    (get-below s.queue.doing p doing.Idle does, omega arith)

-- the new cell isn't one that was taken
untaken-new : (s : Shape) (p : ℕ) → length s.queue.cells ≡ s.queue.suspends → NoneTaken s → NoneTaken (installed s p)
untaken-new s p made none =
    EachAt-write (λ k c. c.state ≢ state.Taken) (λ k c. c.state ≢ state.Taken) (drawn s p).queue.cells s.queue.suspends
    (drawn_cell p) (at_state (drawn_cell p) state.Waiter)
    (get-push_at s.queue.cells (drawn_cell p) s.queue.suspends (sym made)) (λ e. absurd (cc))
    (λ k x got other is. is)
    (EachAt-push (λ k c. c.state ≢ state.Taken) (λ k c. c.state ≢ state.Taken) s.queue.cells (drawn_cell p)
    (λ e. absurd (cc)) (λ k x got is. is) none)

sole-later : (s : Shape) (p : ℕ) → IsResting s → IsQuiet s → slice_get s.queue.doing p ≡ Some doing.Idle
    → int_lt lowest s.state ≡ true → int_lt (pos 0) s.state ≡ false
    → IsSoleCourse s (call.Acquire p) (suspends_at p (at_door s p))
sole-later s p rests quiet does low none =
    sole-along s (call.Acquire p) _ _
    (suspends-new (at_door s p) p (get-set_here s.queue.doing p doing.Idle doing.Door does) rests.numbers quiet.made)
    (record {
      held = refl;
      numbers = omega arith;
      permits = refl;
      allowed = may-acquire s p quiet does low;
      untaken = untaken-new (at_door s p) p quiet.made;
      appended = two-entries s.history _ _ ∙ rw (none-free s.state none) refl;
      replied = rw (none-free s.state none) refl;
      idle = rw (write-thrice s.queue.doing p doing.Door (doing.Drawn s.queue.suspends) doing.Idle)
          (idle-again s.queue.doing p doing.Idle does rests.idle);
    })

sole-take : (s : Shape) (p : ℕ) → IsResting s → IsQuiet s → slice_get s.queue.doing p ≡ Some doing.Idle
    → (low some : Bool)
    → int_lt lowest s.state ≡ low → int_lt (pos 0) s.state ≡ some
    → IsSoleCourse s (call.Acquire p)
    (first
    (if low then
    (if some then answers (records (gains (takes s) p) (entry.TakeNow p)) outcome.Now
    else answers (at_door s p) outcome.Door)
    else None)
    (after_take p))
sole-take s p rests quiet does false some low_is some_is =
    λ untaken may. let many = short-many s.state low_is in
    let waits = quiet.waits in absurd (let few = may.1 in omega arith)
sole-take s p rests quiet does true true low_is some_is = record {
  held = refl;
  numbers = omega arith;
  permits = refl;
  allowed = may-acquire s p quiet does low_is;
  untaken = λ untaken. untaken;
  appended = rw (some-free s.state some_is) refl;
  replied = rw (some-free s.state some_is) refl;
  idle = rests.idle;
}
sole-take s p rests quiet does true false low_is some_is = sole-later s p rests quiet does low_is some_is

pub sole-acquire : (s : Shape) (p : ℕ) → IsResting s → IsQuiet s
    → IsSoleCourse s (call.Acquire p) (first (take_row s p (slice_get s.queue.doing p)) (after_take p))
sole-acquire s p rests quiet = go (cases_idle s.queue.doing p rests.idle)
  where
    go : (slice_get s.queue.doing p ≡ None) ⊎ (slice_get s.queue.doing p ≡ Some doing.Idle)
        → IsSoleCourse s (call.Acquire p) (first (take_row s p (slice_get s.queue.doing p)) (after_take p))
    go (inl none) =
        sole-along s (call.Acquire p) _ _ (ap (λ o. first (take_row s p o) (after_take p)) none)
        (λ untaken may. pass-there s.queue.doing p none may.0)
    go (inr does) =
        sole-along s (call.Acquire p) _ _ (ap (λ o. first (take_row s p o) (after_take p)) does)
        (sole-take s p rests quiet does (int_lt lowest s.state) (int_lt (pos 0) s.state) refl refl)

-- a core whose pass has loaded the state
abbrev loaded : Shape → ℕ → Shape
loaded s p = moves s (move.turn p doing.Idle (doing.TryAt s.state))

sole-got : (s : Shape) (p : ℕ) → IsResting s → slice_get s.queue.doing p ≡ Some doing.Idle
    → int_le s.state (pos 0) ≡ false → IsSoleCourse s (call.Try p) (swaps_at p (loaded s p))
sole-got s p rests does some =
    sole-along s (call.Try p) _ _ (ap (λ row. onward row after_swap) swaps)
    (record {
      held = refl;
      numbers = omega arith;
      permits = refl;
      allowed = get-below s.queue.doing p doing.Idle does;
      untaken = λ untaken. untaken;
      appended = rw (some-free_le s.state some) refl;
      replied = rw (some-free_le s.state some) refl;
      idle = rw (write-twice s.queue.doing p (doing.TryAt s.state) doing.Idle)
          (idle-again s.queue.doing p doing.Idle does rests.idle);
    })
  where
    swaps : step (loaded s p) (event.TrySwap p)
        ≡ Some (record {
          shape = records
              (gains (moves (takes (loaded s p)) (move.turn p (doing.TryAt s.state) doing.Idle)) p) (entry.TryGot p);
          outcome = outcome.Got;
        })
    swaps = rw (get-set_here s.queue.doing p doing.Idle (doing.TryAt s.state) does, same-state s.state) refl

sole-load : (s : Shape) (p : ℕ) → IsResting s → slice_get s.queue.doing p ≡ Some doing.Idle → (none : Bool)
    → int_le s.state (pos 0) ≡ none
    → IsSoleCourse s (call.Try p)
    (first
    (if none then answers (records s (entry.TryBusy p)) outcome.Busy
    else answers (loaded s p) (outcome.Loaded s.state))
    (after_load p))
sole-load s p rests does true none_is = record {
  held = refl;
  numbers = omega arith;
  permits = refl;
  allowed = get-below s.queue.doing p doing.Idle does;
  untaken = λ untaken. untaken;
  appended = rw (none-free_le s.state none_is) refl;
  replied = rw (none-free_le s.state none_is) refl;
  idle = rests.idle;
}
sole-load s p rests does false none_is = sole-got s p rests does none_is

pub sole-try : (s : Shape) (p : ℕ) → IsResting s
    → IsSoleCourse s (call.Try p) (first (try_load_row s p (slice_get s.queue.doing p)) (after_load p))
sole-try s p rests = go (cases_idle s.queue.doing p rests.idle)
  where
    go : (slice_get s.queue.doing p ≡ None) ⊎ (slice_get s.queue.doing p ≡ Some doing.Idle)
        → IsSoleCourse s (call.Try p) (first (try_load_row s p (slice_get s.queue.doing p)) (after_load p))
    go (inl none) =
        sole-along s (call.Try p) _ _ (ap (λ o. first (try_load_row s p o) (after_load p)) none)
        (λ untaken may. pass-there s.queue.doing p none may)
    go (inr does) =
        sole-along s (call.Try p) _ _ (ap (λ o. first (try_load_row s p o) (after_load p)) does)
        (sole-load s p rests does (int_le s.state (pos 0)) refl)
