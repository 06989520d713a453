-- The steps by which a wait leaves keep what a latch shows, in both modes; and so do those by which a resumption ends
-- at a cell that was left.
use Rattle.std.proofs.Common.{◌≡◌, ℕ, ◌-◌, Bool, true, false, [], ◌∷◌, ◌++◌, Some, length, set, slice_get, sum, refl, ap, sym, ◌∙◌, arith}
use Rattle.std.specs.List.{count_by}
use Rattle.std.proofs.lemmas.Bool.{both_ways}
use Rattle.std.proofs.lemmas.List.{length-set}
use Rattle.cqs_core.specs.declared.cells.CoreCell.{CoreCell}
use Rattle.cqs_core.specs.declared.cells.CoreState.TheVariants as state
use Rattle.cqs_core.specs.declared.doings.Doing.{Doing}
use Rattle.cqs_core.specs.declared.doings.Doing.TheVariants as doing
use Rattle.cqs_core.specs.Numbered.{IsIn}
use Rattle.cqs_core.specs.Keyed.{insert_by, without}
use Rattle.cqs_core.specs.QueueState.{Queue}
use Rattle.cqs_core.specs.QueueLine.{going, is_told_refused}
use Rattle.cqs_core.specs.QueueMoves as move
use Rattle.cqs_core.specs.QueueMoves.{Works, Owns, IsCancelling, move_queue, with_cell, at_state}
use Rattle.cqs_core.proofs.Counts.{count_by-write}
use Rattle.cqs_core.proofs.HiddenMoves.{Keeps, keeps-begin_cancel, keeps-cancel, keeps-cancel_owing, keeps-refuse, keeps-refuse_left, keeps-meet_refused}
use Rattle.cqs_core.proofs.LineMoves.{LeavesLine, decide-leaves}
use Rattle.cqs_core.proofs.QueueAsRefused.{simply-left}
use Rattle.cqs_core.proofs.QueueBegins.{Quiet, quiet-keeps}
use Rattle.cqs_core.proofs.Sound.{sound-moved}
use Rattle.cqs_latch_object.specs.declared.entries.LatchEntry.TheVariants as entry
use Rattle.cqs_latch_object.specs.LatchEntries.{way_left, holes_left}
use Rattle.cqs_latch_object.specs.LatchShown.{LatchShape, holes, holes_shown, way_shown, has_loaded, is_opening, IsFit, IsLatch}
use Rattle.cqs_latch_object.proofs.Counting.{same-count, floor-same}
use Rattle.cqs_latch_object.proofs.Holes.{number, holes-write, holes-came, holes-missed}
use Rattle.cqs_latch_object.proofs.LatchFrame.{same-latch, push-latch, passes-set, passes-fit, ways-quiet, quiet-latch, resuming-open, unseen}
use Rattle.cqs_latch_object.proofs.LatchResumes.{after_move}

module _ (s : LatchShape) (p k : ℕ) (is : IsLatch s) where
  pub latch-begin_cancel : (found : CoreCell) → Works s.queue p doing.Idle k found state.Waiter → Owns p found
      → IsLatch (after_move s p k is (move.begin_cancel p k found))
  latch-begin_cancel found w owns =
      unseen s p is (move.begin_cancel p k found) doing.Idle (doing.Leaving k) (w, owns) w.does refl refl refl refl
      (keeps-begin_cancel s.queue p k found w owns) (λ shut. (is.shut shut).resumes)
      (holes-write s.queue p doing.Idle (doing.Leaving k) k found (at_state found state.Cancelling) w.does w.finds
      (λ m other. refl) (rw w.at tt) tt)

  pub latch-cancel : (found : CoreCell) → Works s.queue p (doing.Decided k true) k found state.Cancelling
      → IsLatch (after_move s p k is (move.cancel p k found))
  latch-cancel found w =
      unseen s p is (move.cancel p k found) (doing.Decided k true) doing.Idle w w.does refl refl refl refl
      (keeps-cancel s.queue p k found is.sound w) (λ shut. (is.shut shut).resumes)
      (holes-write s.queue p (doing.Decided k true) doing.Idle k found (at_state found state.Cancelled) w.does w.finds
      (λ m other. refl) (rw w.at tt) tt)

  pub latch-cancel_owing : (found : CoreCell) → Works s.queue p (doing.Decided k true) k found state.Delegated
      → IsLatch (after_move s p k is (move.cancel_owing p k found))
  latch-cancel_owing found w =
      unseen s p is (move.cancel_owing p k found) (doing.Decided k true) doing.Owes w w.does refl refl refl refl
      (keeps-cancel_owing s.queue p k found is.sound w) (λ shut. (is.shut shut).resumes)
      (holes-write s.queue p (doing.Decided k true) doing.Owes k found (at_state found state.Cancelled) w.does w.finds
      (λ m other. refl) (rw w.at tt) tt)

  -- Smart mode: the canceller takes one from the word. It is refused where the latch is open: the resumption that is
  -- under way to it ends at its cell.
  module _ (smart : s.simple ≡ false) (does : slice_get s.queue.doing p ≡ Some (doing.Leaving k)) where
    abbrev told : Bool → Queue
    told on = move_queue s.queue (move.decide p k on)

    told-passes : (f : Doing → Bool) (on : Bool) → f (doing.Leaving k) ≡ f (doing.Decided k on)
        → count_by f (told on).doing ≡ count_by f s.queue.doing
    told-passes f on same = same-count f s.queue.doing p (doing.Leaving k) (doing.Decided k on) does same

    told-long : (on : Bool) → length (told on).doing ≡ length s.queue.doing
    told-long on = length-set s.queue.doing p (doing.Decided k on)

    told-fit : (on : Bool) → IsFit s.simple s.size s.count (told on).doing
    told-fit on = record {
      plain = λ simple. absurd (both_ways s.simple smart simple);
      low = floor-same s.count s.queue.doing (told on).doing (told-passes has_loaded on refl) (told-long on) is.fit.low;
      high = is.fit.high;
    }

    told-holes : (on b : Bool) → b ≡ false → holes_left b k (holes_shown b s.queue) ≡ holes_shown b (told on)
    told-holes on false at = refl
    told-holes on true at = absurd (cc)

    pub latch-refused : s.done ≡ true
        → IsLatch (record s { word = s.word - 1; queue = told false; history = s.history ++ entry.Leave p k ∷ [] })
    latch-refused done =
        let leaves = decide-leaves s.queue p k false is.sound does in
        let was = is.opened done in
        let next : (told false).suspends ≡ s.queue.suspends = refl in
        push-latch s s.count (s.word - 1) s.done s.owed (told false) (entry.Leave p k) is
        (sound-moved s.queue (move.decide p k false) is.sound does) leaves.waits
        (same-latch refl refl refl
        (ap (λ b. way_left s.simple b (way_shown s.simple (sum s.owed) s.queue)) done ∙ ways s.simple smart leaves)
        (sym leaves.waiters) (told-holes false s.simple smart))
        (is.owners ∙ sym (told-long false))
        (λ shut. absurd (both_ways s.done shut done))
        (λ open_now. record {
          used = was.used;
          ways = omega (arith, was.ways, leaves.going, leaves.ending, leaves.due);
          enough = λ smart. omega (arith, was.enough smart, leaves.due);
          few = omega (arith, was.few, told-passes has_loaded false refl, told-long false);
          opener = told-passes is_opening false refl ∙ was.opener;
        })
        (told-fit false)
      where
        ways : (b : Bool) → b ≡ false → LeavesLine s.queue (told false) k p 1
            → way_left b true (way_shown b (sum s.owed) s.queue) ≡ way_shown b (sum s.owed) (told false)
        ways false at leaves = omega (arith, leaves.going, leaves.ending)
        ways true at leaves = absurd (cc)

    pub latch-let_go : s.done ≡ false
        → IsLatch (record s { word = s.word - 1; queue = told true; history = s.history ++ entry.Leave p k ∷ [] })
    latch-let_go shut =
        let leaves = decide-leaves s.queue p k true is.sound does in
        let was = is.shut shut in
        push-latch s s.count (s.word - 1) s.done s.owed (told true) (entry.Leave p k) is
        (sound-moved s.queue (move.decide p k true) is.sound does) leaves.waits
        (same-latch refl refl refl
        (ap (λ b. way_left s.simple b (way_shown s.simple (sum s.owed) s.queue)) shut ∙ ways s.simple smart leaves)
        (sym leaves.waiters) (told-holes true s.simple smart))
        (is.owners ∙ sym (told-long true))
        (λ again. record {
          resumes = was.resumes;
          none = omega (arith, was.none, leaves.going);
          counted = omega (arith, was.counted, leaves.ending, leaves.due);
          kept = λ smart. omega (arith, was.kept smart, leaves.ending);
          opener = told-passes is_opening true refl ∙ was.opener;
        })
        (λ done. absurd (both_ways s.done shut done))
        (told-fit true)
      where
        ways : (b : Bool) → b ≡ false → LeavesLine s.queue (told true) k p 0
            → way_left b false (way_shown b (sum s.owed) s.queue) ≡ way_shown b (sum s.owed) (told true)
        ways false at leaves = omega (arith, leaves.going, leaves.ending)
        ways true at leaves = absurd (cc)

  -- nobody in simple mode is in the middle of a refusal
  refusing-smart : (b : Bool) → b ≡ s.simple → slice_get s.queue.doing p ≡ Some (doing.Decided k false) → b ≡ false
  refusing-smart false at does = refl
  refusing-smart true at does =
      let none = is.fit.plain (sym at) in
      let write = count_by-write is_told_refused s.queue.doing p (doing.Decided k false) doing.Idle does in
      absurd (omega arith)

  no-holes : (b : Bool) → b ≡ false → (r : Queue) → holes_shown b r ≡ holes_shown b s.queue
  no-holes true at r = absurd (cc)
  no-holes false at r = refl

  ways-ended : (b : Bool) → b ≡ false → (r : Queue) (n : ℕ) → Quiet s.queue r s.owed s.owed n
      → way_shown b (sum s.owed) s.queue ≡ way_shown b (sum s.owed) r
  ways-ended b at r n quiet = ways-quiet b s.queue r s.owed s.owed n quiet (λ simple. absurd (both_ways b at simple))

  -- Smart mode, and the latch is open: the cell is refused, and the resumption that comes or has come ends there.
  refused : (found : CoreCell) (n : ℕ) → slice_get s.queue.doing p ≡ Some (doing.Decided k false)
      → slice_get s.queue.cells k ≡ Some found → IsCancelling found.state
      → Keeps s.queue (move_queue s.queue (move.refuse p k found)) n
      → IsLatch (after_move s p k is (move.refuse p k found))
  refused found n does finds at keeps =
      let r : Queue = move_queue s.queue (move.refuse p k found) in
      let smart : s.simple ≡ false = refusing-smart s.simple refl does in
      let quiet = quiet-keeps s.queue r s.owed n keeps in
      record {
        sound = sound-moved s.queue (move.refuse p k found) is.sound (does, finds, at);
        legal = is.legal;
        object = is.object ∙ same-latch refl refl refl (ways-ended s.simple smart r n quiet) (sym quiet.waiters)
            (sym (no-holes s.simple smart r));
        owners = is.owners ∙ sym (length-set s.queue.doing p doing.Idle);
        shut = λ shut. let was = is.shut shut in record {
          resumes = was.resumes;
          none = omega (arith, was.none, quiet.total);
          counted = omega (arith, was.counted, was.none, quiet.due, quiet.ending, quiet.total);
          kept = λ smart. omega (arith, was.kept smart, quiet.ending);
          opener = idle is_opening refl ∙ was.opener;
        };
        opened = λ open_now. let was = is.opened open_now in record {
          used = was.used;
          ways = omega (arith, was.ways, quiet.total, quiet.ending, quiet.due);
          enough = λ smart. omega (arith, was.enough smart, quiet.due);
          few = omega (arith, was.few, idle has_loaded refl, length-set s.queue.doing p doing.Idle);
          opener = idle is_opening refl ∙ was.opener;
        };
        fit = record {
          plain = λ simple. absurd (both_ways s.simple smart simple);
          low = floor-same s.count s.queue.doing r.doing (idle has_loaded refl) (length-set s.queue.doing p doing.Idle)
              is.fit.low;
          high = is.fit.high;
        };
      }
    where
      idle : (f : Doing → Bool) → f (doing.Decided k false) ≡ f doing.Idle
          → count_by f (set s.queue.doing p doing.Idle) ≡ count_by f s.queue.doing
      idle f same = same-count f s.queue.doing p (doing.Decided k false) doing.Idle does same

  pub latch-refuse : (found : CoreCell) → Works s.queue p (doing.Decided k false) k found state.Cancelling
      → IsLatch (after_move s p k is (move.refuse p k found))
  latch-refuse found w = refused found 0 w.does w.finds (rw w.at tt) (keeps-refuse s.queue p k found is.sound w)

  pub latch-refuse_value : (found : CoreCell) → Works s.queue p (doing.Decided k false) k found state.Delegated
      → IsLatch (after_move s p k is (move.refuse p k found))
  latch-refuse_value found w =
      refused found 1 w.does w.finds (rw w.at tt) (keeps-refuse_left s.queue p k found is.sound w)

  -- A resumption ends at a refused cell: in smart mode nobody sees it, in simple mode it is the miss of a hole.
  pub latch-meet_refused : (found : CoreCell) → Works s.queue p (doing.Ticket k) k found state.Refused
      → s.simple ≡ false → IsLatch (after_move s p k is (move.meet_refused p k found))
  latch-meet_refused found w smart =
      let m : move.Move = move.meet_refused p k found in
      let r : Queue = move_queue s.queue m in
      let quiet = quiet-keeps s.queue r s.owed 1 (keeps-meet_refused s.queue p k found is.sound w) in
      quiet-latch s s.owed r 1 is (sound-moved s.queue m is.sound w) quiet
      (passes-set s.queue r p (doing.Ticket k) doing.Idle w.does refl refl refl refl)
      (λ shut. absurd (both_ways s.done shut (resuming-open s p is (doing.Ticket k) w.does refl)))
      (ways-ended s.simple smart r 1 quiet) (no-holes s.simple smart r) refl

  pub latch-miss : (found : CoreCell) → Works s.queue p (doing.Ticket k) k found state.Refused → s.simple ≡ true
      → IsLatch (record (after_move s p k is (move.meet_refused p k found))
      { history = s.history ++ entry.Miss k ∷ [] })
  latch-miss found w simple =
      let m : move.Move = move.meet_refused p k found in
      let r : Queue = move_queue s.queue m in
      let quiet = quiet-keeps s.queue r s.owed 1 (keeps-meet_refused s.queue p k found is.sound w) in
      let same = passes-set s.queue r p (doing.Ticket k) doing.Idle w.does refl refl refl refl in
      let done : s.done ≡ true = resuming-open s p is (doing.Ticket k) w.does refl in
      let was = is.opened done in
      let missed = holes-missed s.queue p k found is.sound w in
      push-latch s s.count s.word s.done s.owed r (entry.Miss k) is (sound-moved s.queue m is.sound w)
      (simple, done, in-holes s.simple simple missed.was)
      (same-latch refl refl refl (one-less s.simple simple r quiet) (sym quiet.waiters)
      (fewer-holes s.simple simple r missed.holes))
      (is.owners ∙ sym same.long)
      (λ shut. absurd (both_ways s.done shut done))
      (λ open_now. record {
        used = was.used;
        ways = omega (arith, was.ways, quiet.total, quiet.ending, quiet.due);
        enough = λ smart. omega (arith, was.enough smart, quiet.due);
        few = omega (arith, was.few, same.loaded, same.long);
        opener = same.opener ∙ was.opener;
      })
      (passes-fit s r is same)
    where
      in-holes : (b : Bool) → b ≡ true → IsIn k (holes s.queue) → IsIn k (holes_shown b s.queue)
      in-holes true at there = there
      in-holes false at there = absurd (cc)

      one-less : (b : Bool) → b ≡ true → (r : Queue) → Quiet s.queue r s.owed s.owed 1
          → way_shown b (sum s.owed) s.queue - 1 ≡ way_shown b (sum s.owed) r
      one-less true at r quiet = omega (arith, quiet.total)
      one-less false at r quiet = absurd (cc)

      fewer-holes : (b : Bool) → b ≡ true → (r : Queue) → holes r ≡ without number k (holes s.queue)
          → without number k (holes_shown b s.queue) ≡ holes_shown b r
      fewer-holes true at r is = sym is
      fewer-holes false at r is = absurd (cc)

  -- Simple mode: the wait leaves at once, and its cell is a hole.
  pub latch-leave_at_once : (found : CoreCell) → Works s.queue p doing.Idle k found state.Waiter → Owns p found
      → s.simple ≡ true
      → IsLatch (record s {
        queue = with_cell s.queue k (at_state found state.Refused);
        history = s.history ++ entry.Leave p k ∷ [];
      })
  latch-leave_at_once found w owns simple =
      let r : Queue = with_cell s.queue k (at_state found state.Refused) in
      let left = simply-left s.queue p k found is.sound w owns in
      push-latch s s.count s.word s.done s.owed r (entry.Leave p k) is left.sound left.stands
      (same-latch refl refl refl (same-ways s.simple simple left.going) (sym left.waiters)
      (more-holes s.simple simple (holes-came s.queue p k found is.sound w)))
      is.owners
      (λ shut. let was = is.shut shut in record {
        resumes = was.resumes;
        none = omega (arith, was.none, left.going);
        counted = omega (arith, was.counted, left.ending, left.due);
        kept = λ smart. absurd (both_ways s.simple smart simple);
        opener = was.opener;
      })
      (λ open_now. let was = is.opened open_now in record {
        used = was.used;
        ways = omega (arith, was.ways, left.going, left.ending, left.due);
        enough = λ smart. absurd (both_ways s.simple smart simple);
        few = was.few;
        opener = was.opener;
      })
      is.fit
    where
      same-ways : (b : Bool) → b ≡ true → going (with_cell s.queue k (at_state found state.Refused)) ≡ going s.queue
          → way_left b s.done (way_shown b (sum s.owed) s.queue)
          ≡ way_shown b (sum s.owed) (with_cell s.queue k (at_state found state.Refused))
      same-ways true at goes = omega (arith, goes)
      same-ways false at goes = absurd (cc)

      more-holes : (b : Bool) → b ≡ true
          → holes (with_cell s.queue k (at_state found state.Refused)) ≡ insert_by number k (holes s.queue)
          → holes_left b k (holes_shown b s.queue) ≡ holes_shown b (with_cell s.queue k (at_state found state.Refused))
      more-holes true at is = sym is
      more-holes false at is = absurd (cc)
