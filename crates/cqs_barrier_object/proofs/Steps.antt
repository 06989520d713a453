-- Each step of the queue that a barrier's passes make keeps the barrier: it is one move or two, or none.
use Rattle.std.proofs.Common.{◌≡◌, ℕ, List, [], ◌++◌, Some, slice_get, refl, sym, ap, ◌∙◌, subst}
use Rattle.std.proofs.lemmas.List.{append-nil}
use Rattle.cqs_core.specs.QueueState.{Queue}
use Rattle.cqs_core.specs.QueueSteps as step
use Rattle.cqs_core.specs.QueueSteps.{QueueStep, row_of}
use Rattle.cqs_core.proofs.OpenRows.{WhereOpen, where-open}
use Rattle.cqs_core.proofs.QueueStepMoves.{leads}
use Rattle.cqs_barrier_object.specs.declared.entries.BarrierEntry.{BarrierEntry}
use Rattle.cqs_barrier_object.specs.BarrierShown.{Shape, IsBarrier}
use Rattle.cqs_barrier_object.specs.BarrierSteps.{IsBarrierStep, EveryStepKeepsTheBarrier, NothingIsLeftToAWithdrawer, IsPaid, cost_of, after_step}
use Rattle.cqs_barrier_object.proofs.QueueMoves.{barrier-install, barrier-leave_value, barrier-delegate, barrier-pass_over, barrier-meet_refused, barrier-begin_cancel, barrier-cancel, barrier-refuse, barrier-refuse_left, barrier-no_value, barrier-serve, barrier-take_value, barrier-draw, barrier-reach, barrier-begin, barrier-granted, barrier-late, barrier-pending}

-- the same barrier, with its history and its queue written so
same-shape : (s : Shape) (history : List BarrierEntry) (q : Queue) → history ≡ s.history → q ≡ s.queue
    → IsBarrier s → IsBarrier (record s { history = history; queue = q })
same-shape s history q histories queues is =
    subst (λ (z : List BarrierEntry × Queue). IsBarrier (record s { history = z.0; queue = z.1 }))
    (λ i. (sym histories i, sym queues i)) is

-- a step with no entry
quiet : (s : Shape) (q : Queue) → q ≡ s.queue → IsBarrier s
    → IsBarrier (record s { history = s.history ++ []; queue = q })
quiet s q queues is = same-shape s (s.history ++ []) q (append-nil s.history) queues is

keeps-barrier : (s : Shape) (t : QueueStep) (p k : ℕ) → IsBarrier s → IsBarrierStep t
    → IsPaid (cost_of (row_of t)) s.owed p
    → WhereOpen s.queue p k (λ found. IsBarrier (after_step s t p k found)) (row_of t)
keeps-barrier s step.draws p k is may paid = λ found w.
    let here : slice_get s.queue.cells s.queue.suspends ≡ found =
    ap (slice_get s.queue.cells) (sym w.1) ∙ w.2 in
    subst (λ j. IsBarrier (after_step s step.draws p j found)) (sym w.1) (barrier-draw s p k is found w.0 here)
keeps-barrier s step.reaches p k is may paid = λ found w.
    let here : slice_get s.queue.cells s.queue.resumes ≡ found = ap (slice_get s.queue.cells) (sym w.1) ∙ w.2 in
    subst (λ j. IsBarrier (after_step s step.reaches p j found)) (sym w.1)
    (quiet _ _ refl (barrier-reach s p k is found w.0 here))
keeps-barrier s step.begins p k is may paid = λ found w.
    let here : slice_get s.queue.cells s.queue.resumes ≡ found = ap (slice_get s.queue.cells) (sym w.1) ∙ w.2 in
    subst (λ j. IsBarrier (after_step s step.begins p j found)) (sym w.1)
    (quiet _ _ refl (barrier-begin s p k is found w.0 paid here))
keeps-barrier s step.installs p k is may paid = λ found w.
    quiet _ _ refl (barrier-install s p k is found w.0)
keeps-barrier s step.takes p k is may paid = λ found w. barrier-take_value s p k is found w.0
keeps-barrier s step.serves p k is may paid = λ found w. barrier-serve s p k is found w.0
keeps-barrier s step.leaves p k is may paid = λ found w.
    quiet _ _ refl (barrier-leave_value s p k is found w.0)
keeps-barrier s step.delegates p k is may paid = λ found w.
    quiet _ _ refl (barrier-delegate s p k is found w.0)
keeps-barrier s step.passes_over p k is may paid = λ found w.
    quiet _ _ (leads s.queue p k step.passes_over (Some found) tt w is.sound).1 (barrier-pass_over s p k is found w.0)
keeps-barrier s step.ends_refused p k is may paid = λ found w.
    quiet _ _ (leads s.queue p k step.ends_refused (Some found) tt w is.sound).1
    (barrier-meet_refused s p k is found w.0)
keeps-barrier s step.starts_leaving p k is may paid = λ found w.
    quiet _ _ refl (barrier-begin_cancel s p k is found w.0 w.1)
keeps-barrier s step.settles p k is may paid = λ found w.
    quiet _ _ refl (barrier-cancel s p k is found w.0)
keeps-barrier s step.settles_owing p k is may paid = λ found w. absurd (barrier-no_value s p k is found w.0)
keeps-barrier s step.refuses p k is may paid = λ found w.
    quiet _ _ refl (barrier-refuse s p k is found w.0)
keeps-barrier s step.refuses_value p k is may paid = λ found w.
    quiet _ _ refl (barrier-refuse_left s p k is found w.0)
keeps-barrier s (step.looks step.pends) p k is may paid = λ found w.
    same-shape _ _ _ refl (leads s.queue p k (step.looks step.pends) (Some found) tt w is.sound).1
    (barrier-pending s p k is found w.0 w.1)
keeps-barrier s (step.looks step.grants) p k is may paid = λ found w.
    same-shape _ _ _ refl (leads s.queue p k (step.looks step.grants) (Some found) tt w is.sound).1
    (barrier-granted s p k is found w.0 w.1)
keeps-barrier s (step.looks step.late) p k is may paid = λ found w.
    same-shape _ _ _ refl (leads s.queue p k (step.looks step.late) (Some found) tt w is.sound).1
    (barrier-late s p k is found w.0 w.1)
keeps-barrier s step.enters p k is may paid = absurd may
keeps-barrier s step.puts p k is may paid = absurd may
keeps-barrier s step.ends_missed p k is may paid = absurd may
keeps-barrier s step.leaves_line p k is may paid = absurd may
keeps-barrier s step.leaves_at_once p k is may paid = absurd may
keeps-barrier s (step.in_sync e) p k is may paid = absurd may

pub step-keeps : EveryStepKeepsTheBarrier
step-keeps s t p k found is may w paid =
    where-open s.queue p k (λ cell. IsBarrier (after_step s t p k cell)) (row_of t) (keeps-barrier s t p k is may paid)
    found w

pub nothing-left : NothingIsLeftToAWithdrawer
nothing-left s p k found is w = barrier-no_value s p k is found w
