-- A sole caller releases: its permit is free where nobody waits, and else goes to the first of the line.
use Rattle.std.proofs.Common.{◌≡◌, ◌≢◌, ◌⊎◌, inl, inr, ℕ, ◌+◌, ◌-◌, ◌<◌, Bool, true, false, nat_lt, pos, List, [], ◌∷◌, Some, None, length, slice_get, slice_index, refl, ap, ◌∙◌, arith}
use Rattle.std.specs.Prelude.{int_lt, if◌then◌else◌}
use Rattle.std.proofs.lemmas.Bool.{lt-ltb, ltb-true}
use Rattle.std.proofs.lemmas.List.{get_or_past}
use Rattle.cqs_core.specs.declared.calls.Call.TheVariants as call
use Rattle.cqs_core.specs.declared.calls.Reply.TheVariants as reply
use Rattle.cqs_core.specs.declared.cells.CoreCell.{CoreCell}
use Rattle.cqs_core.specs.declared.cells.CoreState.TheVariants as state
use Rattle.cqs_core.specs.declared.doings.Doing.TheVariants as doing
use Rattle.cqs_core.specs.declared.entries.Entry.TheVariants as entry
use Rattle.cqs_core.specs.declared.outcomes.Outcome.TheVariants as outcome
use Rattle.cqs_core.specs.QueueLine.{Waiting, line}
use Rattle.cqs_core.specs.QueueMoves as move
use Rattle.cqs_core.specs.QueueMoves.{at_state}
use Rattle.cqs_core.specs.Resting.{IsResting}
use Rattle.cqs_core.specs.SemaphoreCalls.{first, lands, ahead, resumes_at, after_give}
use Rattle.cqs_core.specs.SemaphoreShown.{IsCore, short_of}
use Rattle.cqs_core.specs.SemaphoreTable.{Shape, give_row, loses, adds, records, moves, answers}
use Rattle.cqs_core.specs.SoleCaller.{IsSoleCall, NoneTaken}
use Rattle.cqs_core.proofs.EachAtLemmas.{EachAt-write}
use Rattle.cqs_core.proofs.Places.{get-set_here, get-there, get-none}
use Rattle.cqs_core.proofs.Quiet.{IsQuiet, waits-ahead}
use Rattle.cqs_core.proofs.SoleLine.{IsHead, head-of_line}
use Rattle.cqs_core_run.proofs.SoleResume.{FindsWaiter, served_at, resumes-first}
use Rattle.cqs_core_run.proofs.SoleStart.{IsSoleCourse, sole-along, idle-again, write-twice, two-entries, some-short, none-short, cases_idle}

-- a core whose pass has given a permit to the line
abbrev sent : Shape → ℕ → Shape
sent s p = records (moves (loses (adds s) p) (move.turn p doing.Idle doing.Owes)) (entry.GiveSent p)

-- the resumption finds the first of the line
finds-head : (s : Shape) (p k : ℕ) (head : IsHead s.queue k) → IsCore s → IsResting s → IsQuiet s
    → slice_get s.queue.doing p ≡ Some doing.Idle → FindsWaiter (sent s p) p k head.cell
finds-head s p k head core rests quiet does =
    let ahead = waits-ahead s.queue core.sound rests.idle k head.cell head.found head.waits in
    let most = core.range.suspends in
    record {
      owes = get-set_here s.queue.doing p doing.Idle doing.Owes does;
      found = head.found;
      waits = head.waits;
      few = omega arith;
      before = λ j c past below got. cancelled j c below got (quiet.ahead j c got past);
      there = λ j below. get-there s.queue.cells j (let made = quiet.made in omega arith);
    }
  where
    cancelled : (j : ℕ) (c : CoreCell) → j < k → slice_get s.queue.cells j ≡ Some c
        → (c.state ≡ state.Waiter) ⊎ (c.state ≡ state.Cancelled) → c.state ≡ state.Cancelled
    cancelled j c below got (inl waits) = absurd (head.before j c below got waits)
    cancelled j c below got (inr gone) = gone

-- the cell that was served isn't one that was taken
untaken-served : (s : Shape) (p k : ℕ) (cell : CoreCell) → slice_get s.queue.cells k ≡ Some cell → NoneTaken s
    → NoneTaken (served_at (sent s p) p k cell)
untaken-served s p k cell found none =
    EachAt-write (λ j c. c.state ≢ state.Taken) (λ j c. c.state ≢ state.Taken) s.queue.cells k cell
    (at_state cell state.Resumed) found (λ e. absurd (cc)) (λ j x got other is. is) none

sole-sent : (s : Shape) (p : ℕ) (w : Waiting) (rest : List Waiting) → IsCore s → IsResting s → IsQuiet s
    → 0 < slice_index s.held p → slice_get s.queue.doing p ≡ Some doing.Idle → line s.queue ≡ w ∷ rest
    → IsSoleCourse s (call.Release p) (lands (λ k. reply.Sent k) (resumes_at p (sent s p)))
sole-sent s p w rest core rests quiet holds does is =
    let head : IsHead s.queue w.wait = head-of_line s.queue w rest core.sound rests.idle is in
    let past = waits-ahead s.queue core.sound rests.idle w.wait head.cell head.found head.waits in
    let finds = finds-head s p w.wait head core rests quiet does in
    let lands_there : resumes_at p (sent s p)
    ≡ Some (record { shape = served_at (sent s p) p w.wait head.cell; wait = w.wait }) =
    resumes-first (ahead s) (w.wait - s.queue.resumes) p w.wait (sent s p) head.cell (omega arith) (omega arith)
    finds in
    sole-along s (call.Release p) _ _ (ap (λ o. lands (λ k. reply.Sent k) o) lands_there)
    (record {
      held = refl;
      numbers = omega arith;
      permits = refl;
      allowed = holds;
      untaken = untaken-served s p w.wait head.cell head.found;
      appended = two-entries s.history (entry.GiveSent p) (entry.Deliver w.wait) ∙ rw is refl;
      replied = rw is refl;
      idle = rw (write-twice s.queue.doing p doing.Owes doing.Idle)
          (idle-again s.queue.doing p doing.Idle does rests.idle);
    })

sole-owes : (s : Shape) (p : ℕ) → IsCore s → IsResting s → IsQuiet s → 0 < slice_index s.held p
    → slice_get s.queue.doing p ≡ Some doing.Idle → int_lt s.state (pos 0) ≡ true
    → IsSoleCourse s (call.Release p) (lands (λ k. reply.Sent k) (resumes_at p (sent s p)))
sole-owes s p core rests quiet holds does below = go (line s.queue) refl
  where
    go : (waits : List Waiting) → line s.queue ≡ waits
        → IsSoleCourse s (call.Release p) (lands (λ k. reply.Sent k) (resumes_at p (sent s p)))
    go [] is =
        let nobody : length (line s.queue) ≡ 0 = ap (λ xs. length xs) is in
        let some : 0 < short_of s.state = some-short s.state below in
        let waits = quiet.waits in absurd (omega arith)
    go (w ∷ rest) is = sole-sent s p w rest core rests quiet holds does is

sole-freed : (s : Shape) (p : ℕ) → IsResting s → IsQuiet s → 0 < slice_index s.held p → int_lt s.state (pos 0) ≡ false
    → IsSoleCall s (call.Release p) reply.Freed (records (loses (adds s) p) (entry.GiveFreed p))
sole-freed s p rests quiet holds above = go (line s.queue) refl
  where
    go : (waits : List Waiting) → line s.queue ≡ waits
        → IsSoleCall s (call.Release p) reply.Freed (records (loses (adds s) p) (entry.GiveFreed p))
    go [] is = record {
      held = refl;
      numbers = omega arith;
      permits = refl;
      allowed = holds;
      appended = rw is refl;
      replied = rw is refl;
      idle = rests.idle;
      untaken = λ untaken. untaken;
    }
    go (w ∷ rest) is =
        let some : length (line s.queue) ≡ length rest + 1 = ap (λ xs. length xs) is ∙ omega arith in
        let none : short_of s.state ≡ 0 = none-short s.state above in
        let waits = quiet.waits in absurd (omega arith)

sole-give : (s : Shape) (p : ℕ) → IsCore s → IsResting s → IsQuiet s → slice_get s.queue.doing p ≡ Some doing.Idle
    → (holds below : Bool) → nat_lt 0 (slice_index s.held p) ≡ holds → int_lt s.state (pos 0) ≡ below
    → IsSoleCourse s (call.Release p)
    (first
    (if holds then
    (if below then answers (sent s p) outcome.Owes
    else answers (records (loses (adds s) p) (entry.GiveFreed p)) outcome.Freed)
    else None)
    (after_give p))
sole-give s p core rests quiet does false below none is =
    λ untaken holds. absurd (cc (none, lt-ltb 0 (slice_index s.held p) holds))
sole-give s p core rests quiet does true true some is =
    sole-owes s p core rests quiet (ltb-true 0 (slice_index s.held p) some) does is
sole-give s p core rests quiet does true false some is =
    sole-freed s p rests quiet (ltb-true 0 (slice_index s.held p) some) is

-- a pass that isn't there holds nothing
holds-none : (s : Shape) (p : ℕ) → IsCore s → slice_get s.queue.doing p ≡ None → ¬ (0 < slice_index s.held p)
holds-none s p core none holds =
    let past = get-none s.queue.doing p none in
    let holders = core.holders in
    let nothing : slice_index s.held p ≡ 0 = get_or_past s.held p 0 (omega arith) in absurd (omega arith)

pub sole-release : (s : Shape) (p : ℕ) → IsCore s → IsResting s → IsQuiet s
    → IsSoleCourse s (call.Release p) (first (give_row s p (slice_get s.queue.doing p)) (after_give p))
sole-release s p core rests quiet = go (cases_idle s.queue.doing p rests.idle)
  where
    go : (slice_get s.queue.doing p ≡ None) ⊎ (slice_get s.queue.doing p ≡ Some doing.Idle)
        → IsSoleCourse s (call.Release p) (first (give_row s p (slice_get s.queue.doing p)) (after_give p))
    go (inl none) =
        sole-along s (call.Release p) _ _ (ap (λ o. first (give_row s p o) (after_give p)) none)
        (λ untaken holds. holds-none s p core none holds)
    go (inr does) =
        sole-along s (call.Release p) _ _ (ap (λ o. first (give_row s p o) (after_give p)) does)
        (sole-give s p core rests quiet does (nat_lt 0 (slice_index s.held p)) (int_lt s.state (pos 0)) refl refl)
