-- Each step of the queue that a pool makes keeps the pool that its table stands for.
use Rattle.std.proofs.Common.{◌≡◌, ℕ, List, [], ◌∷◌, ◌++◌, true, Option, Some, slice_get, refl, sym, ap, ◌∙◌, subst}
use Rattle.std.proofs.lemmas.List.{append-nil}
use Rattle.std.specs.Prelude.{slice_set}
use Rattle.cqs_core.specs.declared.cells.CoreCell.{CoreCell}
use Rattle.cqs_core.specs.declared.doings.Doing.TheVariants as doing
use Rattle.cqs_core.specs.QueueState.{Queue}
use Rattle.cqs_core.specs.QueueMoves as move
use Rattle.cqs_core.specs.QueueMoves.{move_queue}
use Rattle.cqs_core.specs.QueueSteps as step
use Rattle.cqs_core.specs.QueueSteps.{QueueStep, row_of, IsOpenStep}
use Rattle.cqs_core.proofs.OpenRows.{WhereOpen, where-open}
use Rattle.cqs_core.proofs.QueueStepMoves.{leads}
use Rattle.cqs_pool_object.specs.declared.entries.PoolEntry.{PoolEntry}
use Rattle.cqs_pool_object.specs.declared.entries.PoolEntry.TheVariants as entry
use Rattle.cqs_pool_object.specs.PoolEntries.{less}
use Rattle.cqs_pool_object.specs.PoolShown.{PoolShape, IsPool}
use Rattle.cqs_pool_object.specs.PoolSteps.{IsPoolStep, IsPayload, hold_of, shape_after}
use Rattle.cqs_pool_object.proofs.PoolDraws as draws
use Rattle.cqs_pool_object.proofs.PoolLaw as law
use Rattle.cqs_pool_object.proofs.PoolLooks as looks

-- the same pool, with its history and its queue written so
same-pool : (s : PoolShape) (history : List PoolEntry) (q : Queue) → history ≡ s.history → q ≡ s.queue → IsPool s
    → IsPool (record {
      size = s.size;
      loads = s.loads;
      payloads = s.payloads;
      holds = s.holds;
      history = history;
      queue = q;
    })
same-pool s history q histories queues is =
    subst (λ (z : List PoolEntry × Queue). IsPool (record {
      size = s.size;
      loads = s.loads;
      payloads = s.payloads;
      holds = s.holds;
      history = z.0;
      queue = z.1;
    })) (λ i. (sym histories i, sym queues i)) is

-- a step with no entry
quiet : (s r : PoolShape) (q : Queue) → r.history ≡ s.history → q ≡ r.queue → IsPool r
    → IsPool (record {
      size = r.size;
      loads = r.loads;
      payloads = r.payloads;
      holds = r.holds;
      history = s.history ++ [];
      queue = q;
    })
quiet s r q histories queues is =
    same-pool r (s.history ++ []) q (append-nil s.history ∙ sym histories) queues is

keeps-pool : (s : PoolShape) (t : QueueStep) (p k e : ℕ) → IsPool s → IsPoolStep t → IsPayload (row_of t) s p k e
    → WhereOpen s.queue p k (λ found. IsPool (shape_after s t p k found e)) (row_of t)
keeps-pool s step.draws p k e is may paid = λ found w.
    let here : slice_get s.queue.cells s.queue.suspends ≡ found = ap (slice_get s.queue.cells) (sym w.1) ∙ w.2 in
    subst (λ j. IsPool (shape_after s step.draws p j found e)) (sym w.1)
    (draws.pool-draw_at_door s p k is found w.0 here)
keeps-pool s step.enters p k e is may paid = λ found w.
    let here : slice_get s.queue.cells s.queue.suspends ≡ found = ap (slice_get s.queue.cells) (sym w.1) ∙ w.2 in
    let at : IsPool (record s {
      queue = move_queue (move_queue s.queue (move.turn p doing.Idle doing.Door)) (move.draw p k found);
      history = s.history ++ entry.Enter p k ∷ [];
    }) =
    subst (λ j. IsPool (record s {
      queue = move_queue (move_queue s.queue (move.turn p doing.Idle doing.Door)) (move.draw p j found);
      history = s.history ++ entry.Enter p j ∷ [];
    })) (sym w.1) (draws.pool-draw s p k is found w.0 here) in
    same-pool (record s {
      queue = move_queue (move_queue s.queue (move.turn p doing.Idle doing.Door)) (move.draw p k found);
      history = s.history ++ entry.Enter p k ∷ [];
    }) _ _ refl (leads s.queue p k step.enters found tt w is.sound).1 at
keeps-pool s step.reaches p k e is may paid = λ found w.
    let here : slice_get s.queue.cells s.queue.resumes ≡ found = ap (slice_get s.queue.cells) (sym w.1) ∙ w.2 in
    subst (λ j. IsPool (shape_after s step.reaches p j found e)) (sym w.1)
    (quiet s (record s { queue = move_queue s.queue (move.reach p s.queue.resumes found) }) _ refl refl
    (law.pool-reach s p k is found w.0 here))
keeps-pool s step.puts p k e is may paid = λ found w.
    let here : slice_get s.queue.cells s.queue.resumes ≡ found = ap (slice_get s.queue.cells) (sym w.1) ∙ w.2 in
    let after : ℕ → PoolShape = λ j. record s {
      loads = slice_set s.loads p e;
      holds = slice_set s.holds p (less e (hold_of s.holds p));
      queue = move_queue (move_queue s.queue (move.turn p doing.Idle doing.Owes)) (move.reach p j found);
      history = s.history ++ entry.Put p e ∷ [];
    } in
    same-pool (after k) _ _ refl (leads s.queue p k step.puts found tt w is.sound).1
    (subst (λ j. IsPool (after j)) (sym w.1) (draws.pool-put s p k is e found w.0 paid here))
keeps-pool s step.installs p k e is may paid = λ found w.
    quiet s (record s { queue = move_queue s.queue (move.install p k found) }) _ refl refl
    (law.pool-install s p k is found w.0)
keeps-pool s step.takes p k e is may paid = λ found w.
    subst (λ x. IsPool (shape_after s step.takes p k (Some found) x)) (sym paid)
    (law.pool-take_value s p k is found w.0)
keeps-pool s step.serves p k e is may paid = λ found w.
    subst (λ x. IsPool (shape_after s step.serves p k (Some found) x)) (sym paid) (law.pool-serve s p k is found w.0)
keeps-pool s step.leaves p k e is may paid = λ found w.
    subst (λ x. IsPool (shape_after s step.leaves p k (Some found) x)) (sym paid)
    (quiet s (record s {
      payloads = law.left_by s p k is;
      queue = move_queue s.queue (move.leave_value p k found);
    }) _ refl refl (law.pool-leave_value s p k is found w.0))
keeps-pool s step.delegates p k e is may paid = λ found w.
    subst (λ x. IsPool (shape_after s step.delegates p k (Some found) x)) (sym paid)
    (quiet s (record s {
      payloads = law.left_by s p k is;
      queue = move_queue s.queue (move.delegate p k found);
    }) _ refl refl (law.pool-delegate s p k is found w.0))
keeps-pool s step.passes_over p k e is may paid = λ found w.
    quiet s (record s { queue = move_queue s.queue (move.pass_over p k found) }) _ refl
    (leads s.queue p k step.passes_over (Some found) tt w is.sound).1 (law.pool-pass_over s p k is found w.0)
keeps-pool s step.ends_refused p k e is may paid = λ found w. absurd (law.pool-none_refused s p k is found w.0)
keeps-pool s step.leaves_line p k e is may paid = λ found w.
    same-pool (record s {
      queue = move_queue (move_queue s.queue (move.begin_cancel p k found)) (move.decide p k true);
      history = s.history ++ entry.Leave p k ∷ [];
    }) _ _ refl (leads s.queue p k step.leaves_line (Some found) tt w is.sound).1
    (law.pool-leave s p k is found w.0 w.1)
keeps-pool s step.settles p k e is may paid = λ found w.
    quiet s (record s { queue = move_queue s.queue (move.cancel p k found) }) _ refl refl
    (law.pool-cancel s p k is found w.0)
keeps-pool s step.settles_owing p k e is may paid = λ found w.
    subst (λ x. IsPool (shape_after s step.settles_owing p k (Some found) x)) (sym paid)
    (quiet s (record s {
      loads = slice_set s.loads p (s.payloads k);
      queue = move_queue s.queue (move.cancel_owing p k found);
    }) _ refl refl (law.pool-cancel_owing s p k is found w.0))
keeps-pool s (step.looks step.pends) p k e is may paid = λ found w.
    same-pool (record s { history = s.history ++ entry.LookPending p k ∷ [] }) _ _ refl
    (leads s.queue p k (step.looks step.pends) (Some found) tt w is.sound).1 (looks.pool-pending s p k is found w.0 w.1)
keeps-pool s (step.looks step.grants) p k e is may paid = λ found w.
    subst (λ x. IsPool (shape_after s (step.looks step.grants) p k (Some found) x)) (sym paid)
    (same-pool (record s {
      holds = slice_set s.holds p (s.payloads k ∷ hold_of s.holds p);
      queue = move_queue s.queue (move.collect p k found);
      history = s.history ++ entry.LookGranted p k (s.payloads k) ∷ [];
    }) _ _ refl (leads s.queue p k (step.looks step.grants) (Some found) tt w is.sound).1
    (looks.pool-granted s p k is found w.0 w.1))
keeps-pool s (step.looks step.late) p k e is may paid = λ found w.
    subst (λ x. IsPool (shape_after s (step.looks step.late) p k (Some found) x)) (sym paid)
    (same-pool (record s {
      holds = slice_set s.holds p (s.payloads k ∷ hold_of s.holds p);
      queue = move_queue s.queue (move.collect p k found);
      history = s.history ++ entry.Late p k (s.payloads k) ∷ [];
    }) _ _ refl (leads s.queue p k (step.looks step.late) (Some found) tt w is.sound).1
    (looks.pool-late s p k is found w.0 w.1))
keeps-pool s step.begins p k e is may paid = absurd may
keeps-pool s step.ends_missed p k e is may paid = absurd may
keeps-pool s step.starts_leaving p k e is may paid = absurd may
keeps-pool s step.leaves_at_once p k e is may paid = absurd may
keeps-pool s step.refuses p k e is may paid = absurd may
keeps-pool s step.refuses_value p k e is may paid = absurd may
keeps-pool s (step.in_sync watched) p k e is may paid = absurd may

pub step-pool : (s : PoolShape) (t : QueueStep) (p k : ℕ) (found : Option CoreCell) (e : ℕ) → IsPool s
    → IsPoolStep t → IsOpenStep s.queue t p k found → IsPayload (row_of t) s p k e
    → IsPool (shape_after s t p k found e)
step-pool s t p k found e is may w paid =
    where-open s.queue p k (λ cell. IsPool (shape_after s t p k cell e)) (row_of t) (keeps-pool s t p k e is may paid)
    found w
