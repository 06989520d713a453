-- Each step of the queue that a semaphore makes keeps its core: a row of the table of events, by the row of the
-- table of steps.
use Rattle.std.proofs.Common.{◌≡◌, ℕ, ◌<◌, true, List, [], ◌++◌, Option, Some, slice_get, refl, sym, ap, ◌∙◌, subst}
use Rattle.std.proofs.lemmas.List.{append-nil}
use Rattle.cqs_core.specs.declared.cells.CoreCell.{CoreCell}
use Rattle.cqs_core.specs.declared.cells.CoreState.{CoreState}
use Rattle.cqs_core.specs.declared.cells.CoreState.TheVariants as state
use Rattle.cqs_core.specs.declared.doings.Doing.TheVariants as doing
use Rattle.cqs_core.specs.declared.entries.Entry.{Entry}
use Rattle.cqs_core.specs.declared.entries.Entry.TheVariants as entry
use Rattle.cqs_core.specs.QueueState.{Queue}
use Rattle.cqs_core.specs.QueueMoves as move
use Rattle.cqs_core.specs.QueueMoves.{at_state}
use Rattle.cqs_core.specs.QueueSteps as step
use Rattle.cqs_core.specs.QueueSteps.{QueueStep, row_of, IsOpenStep}
use Rattle.cqs_core.specs.SemaphoreSteps.{IsSemaphoreStep, IsSyncSemaphoreStep, shape_after}
use Rattle.cqs_core.specs.SemaphoreShown.{IsCore}
use Rattle.cqs_core.specs.SemaphoreCores.{IsEitherCore}
use Rattle.cqs_core.specs.SemaphoreTable.{Shape, last_number, moves, writes, turns, gains, records}
use Rattle.cqs_core.proofs.EitherBreaks as either
use Rattle.cqs_core.proofs.EitherDraws as drawn
use Rattle.cqs_core.proofs.EitherRows as either-row
use Rattle.cqs_core.proofs.OpenRows.{WhereOpen, where-open}
use Rattle.cqs_core.proofs.QueueRows.{stays-found, pends-still, grants-collects}
use Rattle.cqs_core.proofs.QueueStepMoves.{leads}
use Rattle.cqs_core.proofs.ReadSteps.{value-still}
use Rattle.cqs_core.proofs.PlainRows.{draw-number, install-waiter, install-took}
use Rattle.cqs_core.proofs.PlainRows.{reach-number, meet-waiter, meet-empty, meet-cancelling, meet-cancelled, meet-refused}
use Rattle.cqs_core.proofs.PlainRows.{leave-waiter, leave-late, settle-cancelled, settle-owing, settle-refused, settle-ended}
use Rattle.cqs_core.proofs.PlainRows.{look-pending, look-granted}

module _ (P : Shape → Type 0) where
  -- the same core, with its history and its queue written so
  same-as : (s : Shape) (history : List Entry) (q : Queue) → history ≡ s.history → q ≡ s.queue → P s
      → P (record {
        sync = s.sync;
        permits = s.permits;
        state = s.state;
        held = s.held;
        history = history;
        queue = q;
      })
  same-as s history q histories queues core =
      subst (λ (z : List Entry × Queue). P (record {
        sync = s.sync;
        permits = s.permits;
        state = s.state;
        held = s.held;
        history = z.0;
        queue = z.1;
      })) (λ i. (sym histories i, sym queues i)) core

  -- a step with no entry
  quiet-as : (s r : Shape) (q : Queue) → r.history ≡ s.history → q ≡ r.queue → P r
      → P (record {
        sync = r.sync;
        permits = r.permits;
        state = r.state;
        held = r.held;
        history = s.history ++ [];
        queue = q;
      })
  quiet-as s r q histories queues core =
      same-as r (s.history ++ []) q (append-nil s.history ∙ sym histories) queues core

same-core : (s : Shape) (history : List Entry) (q : Queue) → history ≡ s.history → q ≡ s.queue → IsCore s
    → IsCore (record {
      sync = s.sync;
      permits = s.permits;
      state = s.state;
      held = s.held;
      history = history;
      queue = q;
    })
same-core = same-as IsCore

quiet : (s r : Shape) (q : Queue) → r.history ≡ s.history → q ≡ r.queue → IsCore r
    → IsCore (record {
      sync = r.sync;
      permits = r.permits;
      state = r.state;
      held = r.held;
      history = s.history ++ [];
      queue = q;
    })
quiet = quiet-as IsCore

keeps-core : (s : Shape) (t : QueueStep) (p k : ℕ) → IsCore s → IsSemaphoreStep t
    → s.queue.suspends < last_number → s.queue.resumes < last_number
    → WhereOpen s.queue p k (λ found. IsCore (shape_after s t p k found)) (row_of t)
keeps-core s step.draws p k core is low low' = λ found w.
    let here : slice_get s.queue.cells s.queue.suspends ≡ found =
    ap (slice_get s.queue.cells) (sym w.1) ∙ w.2 in
    subst (λ (z : ℕ × Option CoreCell). IsCore (shape_after s step.draws p z.0 z.1)) (λ i. (sym w.1 i, here i))
    (draw-number s p core w.0 low)
keeps-core s step.reaches p k core is low low' = λ found w.
    let here : slice_get s.queue.cells s.queue.resumes ≡ found = ap (slice_get s.queue.cells) (sym w.1) ∙ w.2 in
    subst (λ (z : ℕ × Option CoreCell). IsCore (shape_after s step.reaches p z.0 z.1)) (λ i. (sym w.1 i, here i))
    (quiet s (moves s (move.reach p s.queue.resumes (slice_get s.queue.cells s.queue.resumes))) _ refl refl
    (reach-number s p core w.0 low'))
keeps-core s step.installs p k core is low low' = λ found w.
    quiet s (moves s (move.install p k found)) _ refl refl (install-waiter s p k found core w.0)
keeps-core s step.takes p k core is low low' = λ found w. install-took s p k found core w.0
keeps-core s step.serves p k core is low low' = λ found w. meet-waiter s p k found core w.0
keeps-core s step.leaves p k core is low low' = λ found w.
    quiet s (moves s (move.leave_value p k found)) _ refl refl (meet-empty s p k found core w.0)
keeps-core s step.delegates p k core is low low' = λ found w.
    quiet s (moves s (move.delegate p k found)) _ refl refl (meet-cancelling s p k found core w.0)
keeps-core s step.passes_over p k core is low low' = λ found w.
    quiet s (moves s (move.pass_over p k found)) _ refl
    (leads s.queue p k step.passes_over (Some found) tt w core.sound).1 (meet-cancelled s p k found core w.0)
keeps-core s step.ends_refused p k core is low low' = λ found w.
    quiet s (moves s (move.meet_refused p k found)) _ refl
    (leads s.queue p k step.ends_refused (Some found) tt w core.sound).1 (meet-refused s p k found core w.0)
keeps-core s step.starts_leaving p k core is low low' = λ found w.
    quiet s (moves s (move.begin_cancel p k found)) _ refl refl (leave-waiter s p k found core w.0 w.1)
keeps-core s step.settles p k core is low low' = λ found w.
    quiet s (moves s (move.cancel p k found)) _ refl refl (settle-cancelled s p k found core w.0)
keeps-core s step.settles_owing p k core is low low' = λ found w.
    quiet s (moves s (move.cancel_owing p k found)) _ refl refl (settle-owing s p k found core w.0)
keeps-core s step.refuses p k core is low low' = λ found w.
    quiet s (moves s (move.refuse p k found)) _ refl refl (settle-refused s p k found core w.0)
keeps-core s step.refuses_value p k core is low low' = λ found w.
    quiet s (moves s (move.refuse p k found)) _ refl refl (settle-ended s p k found core w.0)
keeps-core s (step.looks step.pends) p k core is low low' = λ found w.
    same-core (records s (entry.LookPending p k)) _ _ refl
    (leads s.queue p k (step.looks step.pends) (Some found) tt w core.sound).1 (look-pending s p k found core w.0 w.1)
keeps-core s (step.looks step.grants) p k core is low low' = λ found w.
    same-core (records (gains (moves s (move.collect p k found)) p) (entry.LookGranted p k)) _ _ refl
    (leads s.queue p k (step.looks step.grants) (Some found) tt w core.sound).1 (look-granted s p k found core w.0 w.1)
keeps-core s (step.looks step.late) p k core is low low' = λ found w.
    same-core (records (gains (moves s (move.collect p k found)) p) (entry.Late p k)) _ _ refl
    (leads s.queue p k (step.looks step.late) (Some found) tt w core.sound).1 (leave-late s p k found core w.0 w.1)
keeps-core s step.enters p k core is low low' = absurd is
keeps-core s step.begins p k core is low low' = absurd is
keeps-core s step.puts p k core is low low' = absurd is
keeps-core s step.ends_missed p k core is low low' = absurd is
keeps-core s step.leaves_line p k core is low low' = absurd is
keeps-core s step.leaves_at_once p k core is low low' = absurd is
keeps-core s (step.in_sync step.leaves_watched) p k core is low low' = absurd is
keeps-core s (step.in_sync step.sees_value) p k core is low low' = absurd is
keeps-core s (step.in_sync step.sees_taken) p k core is low low' = absurd is
keeps-core s (step.in_sync step.breaks) p k core is low low' = absurd is
keeps-core s (step.in_sync step.takes_watched) p k core is low low' = absurd is
keeps-core s (step.in_sync step.finds_broken) p k core is low low' = absurd is

pub step-core : (s : Shape) (t : QueueStep) (p k : ℕ) (found : Option CoreCell) → IsCore s → IsSemaphoreStep t
    → IsOpenStep s.queue t p k found → s.queue.suspends < last_number → s.queue.resumes < last_number
    → IsCore (shape_after s t p k found)
step-core s t p k found core is w low low' =
    where-open s.queue p k (λ cell. IsCore (shape_after s t p k cell)) (row_of t) (keeps-core s t p k core is low low')
    found w

-- OF A SYNCHRONOUS SEMAPHORE.

same-either : (s : Shape) (history : List Entry) (q : Queue) → history ≡ s.history → q ≡ s.queue → IsEitherCore s
    → IsEitherCore (record {
      sync = s.sync;
      permits = s.permits;
      state = s.state;
      held = s.held;
      history = history;
      queue = q;
    })
same-either = same-as IsEitherCore

quiet-either : (s r : Shape) (q : Queue) → r.history ≡ s.history → q ≡ r.queue → IsEitherCore r
    → IsEitherCore (record {
      sync = r.sync;
      permits = r.permits;
      state = r.state;
      held = r.held;
      history = s.history ++ [];
      queue = q;
    })
quiet-either = quiet-as IsEitherCore

keeps-sync : (s : Shape) (t : QueueStep) (p k : ℕ) → IsEitherCore s → s.sync ≡ true → IsSyncSemaphoreStep t
    → s.queue.suspends < last_number → s.queue.resumes < last_number
    → WhereOpen s.queue p k (λ found. IsEitherCore (shape_after s t p k found)) (row_of t)
keeps-sync s step.draws p k core sync is low low' = λ found w.
    let here : slice_get s.queue.cells s.queue.suspends ≡ found =
    ap (slice_get s.queue.cells) (sym w.1) ∙ w.2 in
    subst (λ (z : ℕ × Option CoreCell). IsEitherCore (shape_after s step.draws p z.0 z.1)) (λ i. (sym w.1 i, here i))
    (drawn.draw-number s p core w.0 low)
keeps-sync s step.reaches p k core sync is low low' = λ found w.
    let here : slice_get s.queue.cells s.queue.resumes ≡ found = ap (slice_get s.queue.cells) (sym w.1) ∙ w.2 in
    subst (λ (z : ℕ × Option CoreCell). IsEitherCore (shape_after s step.reaches p z.0 z.1)) (λ i. (sym w.1 i, here i))
    (quiet-either s (moves s (move.reach p s.queue.resumes (slice_get s.queue.cells s.queue.resumes))) _ refl refl
    (either-row.reach-number s p core w.0 low'))
keeps-sync s step.installs p k core sync is low low' = λ found w.
    quiet-either s (moves s (move.install p k found)) _ refl refl (either-row.install-waiter s p k found core w.0)
keeps-sync s step.serves p k core sync is low low' = λ found w. either-row.meet-waiter s p k found core w.0
keeps-sync s step.passes_over p k core sync is low low' = λ found w.
    quiet-either s (moves s (move.pass_over p k found)) _ refl
    (stays-found s.queue p k found doing.Owes w.0.finds) (either-row.meet-cancelled s p k found core w.0)
keeps-sync s step.ends_refused p k core sync is low low' = λ found w.
    quiet-either s (moves s (move.meet_refused p k found)) _ refl
    (stays-found s.queue p k found doing.Idle w.0.finds) (either-row.meet-refused s p k found core w.0)
keeps-sync s step.starts_leaving p k core sync is low low' = λ found w.
    quiet-either s (moves s (move.begin_cancel p k found)) _ refl refl
    (either-row.leave-waiter s p k found core w.0 w.1)
keeps-sync s step.settles p k core sync is low low' = λ found w.
    quiet-either s (moves s (move.cancel p k found)) _ refl refl (either-row.settle-cancelled s p k found core w.0)
keeps-sync s step.settles_owing p k core sync is low low' = λ found w.
    quiet-either s (moves s (move.cancel_owing p k found)) _ refl refl (either-row.settle-owing s p k found core w.0)
keeps-sync s step.refuses p k core sync is low low' = λ found w.
    quiet-either s (moves s (move.refuse p k found)) _ refl refl (either-row.settle-refused s p k found core w.0)
keeps-sync s step.refuses_value p k core sync is low low' = λ found w.
    quiet-either s (moves s (move.refuse p k found)) _ refl refl (either-row.settle-ended s p k found core w.0)
keeps-sync s (step.looks step.pends) p k core sync is low low' = λ found w.
    same-either (records s (entry.LookPending p k)) _ _ refl
    (pends-still s.queue p k found w.0) (either-row.look-pending s p k found core w.0 w.1)
keeps-sync s (step.looks step.grants) p k core sync is low low' = λ found w.
    same-either (records (gains (moves s (move.collect p k found)) p) (entry.LookGranted p k)) _ _ refl
    (grants-collects s.queue p k found w.0) (either-row.look-granted s p k found core w.0 w.1)
keeps-sync s (step.looks step.late) p k core sync is low low' = λ found w.
    same-either (records (gains (moves s (move.collect p k found)) p) (entry.Late p k)) _ _ refl
    (grants-collects s.queue p k found w.0) (either-row.leave-late s p k found core w.0 w.1)
keeps-sync s (step.in_sync step.leaves_watched) p k core sync is low low' = λ found w.
    quiet-either s (writes s p k (at_state found state.Value) (doing.Watching k)) _ refl refl
    (either.meet-watches s p k found core sync w.0)
keeps-sync s (step.in_sync step.sees_value) p k core sync is low low' = λ found w.
    quiet-either s s _ refl (value-still s.queue p k found w.0) core
keeps-sync s (step.in_sync step.sees_taken) p k core sync is low low' = λ found w.
    quiet-either s (turns s p doing.Idle) _ refl (stays-found s.queue p k found doing.Idle w.0.finds)
    (either.watch-ends s p k core w.0.does)
keeps-sync s (step.in_sync step.breaks) p k core sync is low low' = λ found w.
    either.break-value s p k found core w.0
keeps-sync s (step.in_sync step.takes_watched) p k core sync is low low' = λ found w.
    either-row.install-took s p k found core w.0
keeps-sync s (step.in_sync step.finds_broken) p k core sync is low low' = λ found w.
    subst (λ (t : CoreState). IsEitherCore (records
    (writes s p k (record { state = t; owner = found.owner; collected = true }) doing.Idle) (entry.Undo p k)))
    (sym w.0.at) (either.install-broken s p k found core w.0)
keeps-sync s step.enters p k core sync is low low' = absurd is
keeps-sync s step.begins p k core sync is low low' = absurd is
keeps-sync s step.puts p k core sync is low low' = absurd is
keeps-sync s step.takes p k core sync is low low' = absurd is
keeps-sync s step.leaves p k core sync is low low' = absurd is
keeps-sync s step.delegates p k core sync is low low' = absurd is
keeps-sync s step.ends_missed p k core sync is low low' = absurd is
keeps-sync s step.leaves_line p k core sync is low low' = absurd is
keeps-sync s step.leaves_at_once p k core sync is low low' = absurd is

pub step-sync-core : (s : Shape) (t : QueueStep) (p k : ℕ) (found : Option CoreCell) → IsEitherCore s → s.sync ≡ true
    → IsSyncSemaphoreStep t
    → IsOpenStep s.queue t p k found → s.queue.suspends < last_number → s.queue.resumes < last_number
    → IsEitherCore (shape_after s t p k found)
step-sync-core s t p k found core sync is w low low' =
    where-open s.queue p k (λ cell. IsEitherCore (shape_after s t p k cell)) (row_of t)
    (keeps-sync s t p k core sync is low low') found w
