-- Each step of the queue that a latch makes keeps what it shows. In simple mode the queue is read with its cancelled
-- cells as refused ones: a step at a cell sets the cell that is read so, too.
use Rattle.std.proofs.Common.{◌≡◌, ℕ, ◌+◌, true, false, Bool, List, Option, Some, set, slice_get, refl, sym, ap, ◌∙◌, subst, append-nil, ℤ}
use Rattle.cqs_core.specs.declared.cells.CoreCell.{CoreCell}
use Rattle.cqs_core.specs.declared.cells.CoreState.{CoreState}
use Rattle.cqs_core.specs.declared.cells.CoreState.TheVariants as state
use Rattle.cqs_core.specs.declared.doings.Doing.{Doing}
use Rattle.cqs_core.specs.declared.doings.Doing.TheVariants as doing
use Rattle.cqs_core.specs.QueueAsRefused.{refused_state, refused_cell, all_refused, as_refused}
use Rattle.cqs_core.specs.QueueState.{Queue}
use Rattle.cqs_core.specs.QueueMoves as move
use Rattle.cqs_core.specs.QueueMoves.{Works, Owns, move_queue, at_state}
use Rattle.cqs_core.specs.QueueSteps as step
use Rattle.cqs_core.specs.QueueSteps.{QueueStep, row_of, IsOpenStep}
use Rattle.cqs_core.proofs.Places.{set-same}
use Rattle.cqs_core.proofs.QueueAsRefused.{read_option, get-refused, get-read, set-refused, drawn-refused, reached-refused}
use Rattle.cqs_core.proofs.QueueBegins.{one_fewer}
use Rattle.cqs_core.proofs.OpenRows.{WhereOpen, where-open}
use Rattle.cqs_core.proofs.QueueRows.{pends-still, grants-collects}
use Rattle.cqs_core.proofs.QueueStepMoves.{leads}
use Rattle.cqs_latch_object.specs.declared.entries.LatchEntry.{LatchEntry}
use Rattle.cqs_latch_object.specs.LatchShown.{LatchShape, as_read, IsLatch, IsLatchCore}
use Rattle.cqs_latch_object.specs.LatchSteps.{IsLatchStep, cost_of, IsPaid, after_queue_step}
use Rattle.cqs_latch_object.specs.LatchWords as words
use Rattle.cqs_latch_object.specs.LatchWords.{WordStep, loads_to_count, counts_down, loads_to_wait, comes, turns_back, opens, IsOpenWord, after_word_step}
use Rattle.cqs_latch_object.proofs.LatchResumes.{latch-install, latch-leave_value, latch-delegate, latch-pass_over, latch-reach, latch-begin, latch-serve, latch-take_value, latch-draw, latch-granted, latch-late, latch-pending}
use Rattle.cqs_latch_object.proofs.LatchLeaves.{latch-begin_cancel, latch-cancel, latch-cancel_owing, latch-refuse, latch-refuse_value, latch-meet_refused, latch-miss, latch-leave_at_once}
use Rattle.cqs_latch_object.proofs.LatchWords.{word-latch}

module _ (size : ℕ) (count : ℤ) (word : ℕ) (done : Bool) where
  -- a latch of this mode with these debts, history and queue
  abbrev core : Bool → List ℕ → List LatchEntry → Queue → LatchShape
  core simple owed history q = record {
    simple = simple;
    size = size;
    count = count;
    word = word;
    done = done;
    owed = owed;
    history = history;
    queue = q;
  }

  -- the same latch, with its history and queue written so
  same-latch : (simple : Bool) (owed : List ℕ) {log history : List LatchEntry} {q r : Queue} → history ≡ log → q ≡ r
      → IsLatch (core simple owed log r) → IsLatch (core simple owed history q)
  same-latch simple owed logs queues is =
      subst (λ (z : List LatchEntry × Queue). IsLatch (core simple owed z.0 z.1)) (λ i. (sym logs i, sym queues i)) is

  module _ (owed : List ℕ) (log : List LatchEntry) (q : Queue) (p k : ℕ) where
    -- Smart mode.
    module _ (is : IsLatch (core false owed log q)) where
      abbrev smart : LatchShape
      smart = core false owed log q

      keeps-smart : (step : QueueStep) → IsLatchStep false step → IsPaid (cost_of (row_of step)) owed p
          → WhereOpen q p k (λ found. IsLatch (after_queue_step smart step p k found)) (row_of step)
      keeps-smart step.draws may paid = λ found w.
          let here : slice_get q.cells q.suspends ≡ found = ap (slice_get q.cells) (sym w.1) ∙ w.2 in
          subst (λ j. IsLatch (after_queue_step smart step.draws p j found)) (sym w.1)
          (latch-draw smart p k is found w.0 here)
      keeps-smart step.reaches may paid = λ found w.
          let here : slice_get q.cells q.resumes ≡ found = ap (slice_get q.cells) (sym w.1) ∙ w.2 in
          subst (λ j. IsLatch (after_queue_step smart step.reaches p j found)) (sym w.1)
          (same-latch false owed (append-nil log) refl (latch-reach smart p k is found w.0 here))
      keeps-smart step.begins may paid = λ found w.
          let here : slice_get q.cells q.resumes ≡ found = ap (slice_get q.cells) (sym w.1) ∙ w.2 in
          subst (λ j. IsLatch (after_queue_step smart step.begins p j found)) (sym w.1)
          (same-latch false (one_fewer owed p) (append-nil log) refl (latch-begin smart p k is found w.0 paid here))
      keeps-smart step.installs may paid = λ found w.
          same-latch false owed (append-nil log) refl (latch-install smart p k is found w.0)
      keeps-smart step.takes may paid = λ found w. latch-take_value smart p k is found w.0
      keeps-smart step.serves may paid = λ found w. latch-serve smart p k is found w.0
      keeps-smart step.leaves may paid = λ found w.
          same-latch false owed (append-nil log) refl (latch-leave_value smart p k is found w.0)
      keeps-smart step.delegates may paid = λ found w.
          same-latch false owed (append-nil log) refl (latch-delegate smart p k is found w.0)
      keeps-smart step.passes_over may paid = λ found w.
          same-latch false owed (append-nil log) (leads q p k step.passes_over (Some found) tt w is.sound).1
          (latch-pass_over smart p k is found w.0)
      keeps-smart step.ends_refused may paid = λ found w.
          same-latch false owed (append-nil log) (leads q p k step.ends_refused (Some found) tt w is.sound).1
          (latch-meet_refused smart p k is found w.0 refl)
      keeps-smart step.starts_leaving may paid = λ found w.
          same-latch false owed (append-nil log) refl (latch-begin_cancel smart p k is found w.0 w.1)
      keeps-smart step.settles may paid = λ found w.
          same-latch false owed (append-nil log) refl (latch-cancel smart p k is found w.0)
      keeps-smart step.settles_owing may paid = λ found w.
          same-latch false owed (append-nil log) refl (latch-cancel_owing smart p k is found w.0)
      keeps-smart step.refuses may paid = λ found w.
          same-latch false owed (append-nil log) refl (latch-refuse smart p k is found w.0)
      keeps-smart step.refuses_value may paid = λ found w.
          same-latch false owed (append-nil log) refl (latch-refuse_value smart p k is found w.0)
      keeps-smart (step.looks step.pends) may paid = λ found w.
          same-latch false owed refl (leads q p k (step.looks step.pends) (Some found) tt w is.sound).1
          (latch-pending smart p k is found w.0 w.1)
      keeps-smart (step.looks step.grants) may paid = λ found w.
          same-latch false owed refl (leads q p k (step.looks step.grants) (Some found) tt w is.sound).1
          (latch-granted smart p k is found w.0 w.1)
      keeps-smart (step.looks step.late) may paid = λ found w.
          same-latch false owed refl (leads q p k (step.looks step.late) (Some found) tt w is.sound).1
          (latch-late smart p k is found w.0 w.1)
      keeps-smart step.enters may paid = absurd may
      keeps-smart step.puts may paid = absurd may
      keeps-smart step.leaves_line may paid = absurd may
      keeps-smart step.ends_missed may paid = absurd (cc)
      keeps-smart step.leaves_at_once may paid = absurd (cc)
      keeps-smart (step.in_sync e) may paid = absurd may

      pub smart-step : (step : QueueStep) (found : Option CoreCell) → IsLatchStep false step
          → IsOpenStep q step p k found → IsPaid (cost_of (row_of step)) owed p
          → IsLatch (after_queue_step smart step p k found)
      smart-step step found may w paid =
          where-open q p k (λ cell. IsLatch (after_queue_step smart step p k cell)) (row_of step)
          (keeps-smart step may paid) found w

    -- Simple mode.
    module _ (is : IsLatch (core true owed log (as_refused q))) where
      abbrev simple : LatchShape
      simple = core true owed log (as_refused q)

      reads : (d : Doing) (found : CoreCell) (s : CoreState) → Works q p d k found s
          → Works (as_refused q) p d k (refused_cell found) (refused_state s)
      reads d found s w = record {
        does = w.does;
        finds = get-refused q.cells k found w.finds;
        at = ap refused_state w.at;
      }

      owned : (found : CoreCell) → Owns p found → Owns p (refused_cell found)
      owned found owns = record { owner = owns.owner; uncollected = owns.uncollected }

      -- a queue with one cell set, as it is read
      read-set : (c : CoreCell) (doings : List Doing)
          → as_refused (record {
            suspends = q.suspends;
            resumes = q.resumes;
            cells = set q.cells k c;
            doing = doings;
          })
          ≡ record {
            suspends = q.suspends;
            resumes = q.resumes;
            cells = set (all_refused q.cells) k (refused_cell c);
            doing = doings;
          }
      read-set c doings = λ i. record {
        suspends = q.suspends;
        resumes = q.resumes;
        cells = set-refused q.cells k c i;
        doing = doings;
      }

      read-reached : (found : Option CoreCell)
          → as_refused (move_queue q (move.reach p q.resumes found))
          ≡ move_queue (as_refused q) (move.reach p q.resumes (read_option found))
      read-reached found = λ i. record {
        suspends = q.suspends;
        resumes = q.resumes + 1;
        cells = reached-refused q.cells found i;
        doing = set q.doing p (doing.Ticket q.resumes);
      }

      abbrev looked : CoreCell → CoreCell
      looked found = record { state = found.state; owner = found.owner; collected = true }

      -- an idle pass goes on to be idle
      still : slice_get q.doing p ≡ Some doing.Idle → (cells : List CoreCell)
          → ◌≡◌ {A = Queue}
          (record { suspends = q.suspends; resumes = q.resumes; cells = cells; doing = set q.doing p doing.Idle })
          (record { suspends = q.suspends; resumes = q.resumes; cells = cells; doing = q.doing })
      still does cells = λ i. record {
        suspends = q.suspends;
        resumes = q.resumes;
        cells = cells;
        doing = set-same q.doing p doing.Idle does i;
      }

      -- the latch after the step, as it is read
      abbrev after : QueueStep → ℕ → Option CoreCell → LatchShape
      after step j found = as_read (after_queue_step (core true owed log q) step p j found)

      abbrev idle : List Doing
      idle = set q.doing p doing.Idle

      keeps-simple : (step : QueueStep) → IsLatchStep true step → IsPaid (cost_of (row_of step)) owed p
          → WhereOpen q p k (λ found. IsLatch (after step k found)) (row_of step)
      keeps-simple step.draws may paid = λ found w.
          let here : slice_get q.cells q.suspends ≡ found = ap (slice_get q.cells) (sym w.1) ∙ w.2 in
          subst (λ j. IsLatch (after step.draws j found)) (sym w.1)
          (same-latch true owed refl
          (λ i. record {
            suspends = q.suspends + 1;
            resumes = q.resumes;
            cells = drawn-refused q.cells q.suspends p found i;
            doing = set q.doing p (doing.Drawn q.suspends);
          })
          (latch-draw simple p k is (read_option found) w.0 (get-read q.cells q.suspends found here)))
      keeps-simple step.reaches may paid = λ found w.
          let here : slice_get q.cells q.resumes ≡ found = ap (slice_get q.cells) (sym w.1) ∙ w.2 in
          subst (λ j. IsLatch (after step.reaches j found)) (sym w.1)
          (same-latch true owed (append-nil log) (read-reached found)
          (latch-reach simple p k is (read_option found) w.0 (get-read q.cells q.resumes found here)))
      keeps-simple step.begins may paid = λ found w.
          let here : slice_get q.cells q.resumes ≡ found = ap (slice_get q.cells) (sym w.1) ∙ w.2 in
          subst (λ j. IsLatch (after step.begins j found)) (sym w.1)
          (same-latch true (one_fewer owed p) (append-nil log) (read-reached found)
          (latch-begin simple p k is (read_option found) w.0 paid (get-read q.cells q.resumes found here)))
      keeps-simple step.installs may paid = λ found w.
          same-latch true owed (append-nil log) (read-set (at_state found state.Waiter) idle)
          (latch-install simple p k is (refused_cell found) (reads (doing.Drawn k) found state.Empty w.0))
      keeps-simple step.takes may paid = λ found w.
          same-latch true owed refl
          (read-set (record { state = state.Taken; owner = found.owner; collected = true }) idle)
          (latch-take_value simple p k is (refused_cell found) (reads (doing.Drawn k) found state.Value w.0))
      keeps-simple step.serves may paid = λ found w.
          same-latch true owed refl (read-set (at_state found state.Resumed) idle)
          (latch-serve simple p k is (refused_cell found) (reads (doing.Ticket k) found state.Waiter w.0))
      keeps-simple step.leaves may paid = λ found w.
          same-latch true owed (append-nil log) (read-set (at_state found state.Value) idle)
          (latch-leave_value simple p k is (refused_cell found) (reads (doing.Ticket k) found state.Empty w.0))
      keeps-simple step.ends_missed may paid = λ found w.
          same-latch true owed refl
          (λ i. as_refused (record {
            suspends = q.suspends;
            resumes = q.resumes;
            cells = set-same q.cells k found w.0.finds i;
            doing = idle;
          }))
          (latch-miss simple p k is (refused_cell found) (reads (doing.Ticket k) found state.Cancelled w.0) refl)
      keeps-simple step.leaves_at_once may paid = λ found w.
          same-latch true owed refl
          (read-set (at_state found state.Cancelled) idle
          ∙ still w.0.does (set (all_refused q.cells) k (at_state (refused_cell found) state.Refused)))
          (latch-leave_at_once simple p k is (refused_cell found) (reads doing.Idle found state.Waiter w.0)
          (owned found w.1) refl)
      keeps-simple (step.looks step.pends) may paid = λ found w.
          same-latch true owed refl (ap as_refused (pends-still q p k found w.0))
          (latch-pending simple p k is (refused_cell found) (reads doing.Idle found state.Waiter w.0)
          (owned found w.1))
      keeps-simple (step.looks step.grants) may paid = λ found w.
          same-latch true owed refl
          (ap as_refused (grants-collects q p k found w.0) ∙ read-set (looked found) q.doing)
          (latch-granted simple p k is (refused_cell found) (reads doing.Idle found state.Resumed w.0)
          (owned found w.1))
      keeps-simple (step.looks step.late) may paid = λ found w.
          same-latch true owed refl
          (ap as_refused (grants-collects q p k found w.0) ∙ read-set (looked found) q.doing)
          (latch-late simple p k is (refused_cell found) (reads doing.Idle found state.Resumed w.0)
          (owned found w.1))
      keeps-simple step.enters may paid = absurd may
      keeps-simple step.puts may paid = absurd may
      keeps-simple step.leaves_line may paid = absurd may
      keeps-simple step.delegates may paid = absurd (cc)
      keeps-simple step.passes_over may paid = absurd (cc)
      keeps-simple step.ends_refused may paid = absurd (cc)
      keeps-simple step.starts_leaving may paid = absurd (cc)
      keeps-simple step.settles may paid = absurd (cc)
      keeps-simple step.settles_owing may paid = absurd (cc)
      keeps-simple step.refuses may paid = absurd (cc)
      keeps-simple step.refuses_value may paid = absurd (cc)
      keeps-simple (step.in_sync e) may paid = absurd may

      pub simple-step : (step : QueueStep) (found : Option CoreCell) → IsLatchStep true step
          → IsOpenStep q step p k found → IsPaid (cost_of (row_of step)) owed p
          → IsLatch (after step k found)
      simple-step step found may w paid =
          where-open q p k (λ cell. IsLatch (after step k cell)) (row_of step) (keeps-simple step may paid) found w

-- Both modes: the parts of the latch are given one by one, so that its mode may be told apart.
module _ (size : ℕ) (count : ℤ) (word : ℕ) (done : Bool) (owed : List ℕ) (log : List LatchEntry) (q : Queue) where
  either-step : (simple : Bool) (step : QueueStep) (p k : ℕ) (found : Option CoreCell)
      → IsLatchCore (core size count word done simple owed log q) → IsLatchStep simple step
      → IsOpenStep q step p k found → IsPaid (cost_of (row_of step)) owed p
      → IsLatchCore (after_queue_step (core size count word done simple owed log q) step p k found)
  either-step false step p k found is = smart-step size count word done owed log q p k is step found
  either-step true step p k found is = simple-step size count word done owed log q p k is step found

  either-word : (simple : Bool) (w : WordStep) (p : ℕ)
      → IsLatchCore (core size count word done simple owed log q)
      → IsOpenWord (core size count word done simple owed log q) w p
      → IsLatchCore (after_word_step (core size count word done simple owed log q) w p)
  either-word false w p is may = word-latch (core size count word done false owed log q) w p is may
  either-word true w p is may = word-latch (core size count word done true owed log (as_refused q)) w p is (same w may)
    where
      same : (w : WordStep) → IsOpenWord (core size count word done true owed log q) w p
          → IsOpenWord (core size count word done true owed log (as_refused q)) w p
      same loads_to_count may = may
      same counts_down may = may
      same loads_to_wait may = may
      same comes may = may
      same turns_back may = may
      same opens may = may
      same (words.leaves j) may = may

pub step-core : (s : LatchShape) (step : QueueStep) (p k : ℕ) (found : Option CoreCell) → IsLatchCore s
    → IsLatchStep s.simple step → IsOpenStep s.queue step p k found → IsPaid (cost_of (row_of step)) s.owed p
    → IsLatchCore (after_queue_step s step p k found)
step-core s = either-step s.size s.count s.word s.done s.owed s.history s.queue s.simple

pub word-core : (s : LatchShape) (w : WordStep) (p : ℕ) → IsLatchCore s → IsOpenWord s w p
    → IsLatchCore (after_word_step s w p)
word-core s = either-word s.size s.count s.word s.done s.owed s.history s.queue s.simple
