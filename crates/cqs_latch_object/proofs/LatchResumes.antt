-- The steps of suspends and resumes, and the looks at a wait, keep what a latch shows.
use Rattle.std.proofs.Common.{◌≡◌, ℕ, ◌-◌, ◌<◌, ◌≤◌, Bool, true, false, List, [], ◌∷◌, ◌++◌, Option, Some, length, slice_get, get_or, sum, refl, ap, sym, ◌∙◌, subst, arith}
use Rattle.std.proofs.lemmas.Bool.{both_ways}
use Rattle.std.proofs.lemmas.List.{length-set}
use Rattle.std.proofs.lemmas.List.Sums.{get_or-le-sum_by}
use Rattle.cqs_core.specs.declared.cells.CoreCell.{CoreCell}
use Rattle.cqs_core.specs.declared.cells.CoreState.TheVariants as state
use Rattle.cqs_core.specs.declared.doings.Doing.TheVariants as doing
use Rattle.cqs_core.specs.Numbered.{IsIn}
use Rattle.cqs_core.specs.QueueState.{Queue}
use Rattle.cqs_core.specs.QueueLine as queue
use Rattle.cqs_core.specs.QueueLine.{going, ending, door, at_door}
use Rattle.cqs_core.specs.QueueMoves as move
use Rattle.cqs_core.specs.QueueMoves.{Works, Owns, move_queue, at_state}
use Rattle.cqs_core.specs.QueueSound.{IsSound}
use Rattle.cqs_core.specs.QueueWaiters.{IsServed, closes, due_of}
use Rattle.cqs_core.proofs.DeliveryMoves.{closes-collect}
use Rattle.cqs_core.proofs.DrawMoves.{keeps-reach, enters-draw}
use Rattle.cqs_core.proofs.HiddenMoves.{no-other-ticket, keeps-install, keeps-leave_value, keeps-delegate, keeps-pass_over}
use Rattle.cqs_core.proofs.Picked.{picked-in}
use Rattle.cqs_core.proofs.Places.{get-set_here}
use Rattle.cqs_core.proofs.QueueBegins.{begins-reach, turn-reach, one_fewer, quiet-begins, delivered-serves}
use Rattle.cqs_core.proofs.QueueServes.{waiting, serves-serve, serves-take_value}
use Rattle.cqs_core.proofs.Sound.{sound-moved}
use Rattle.cqs_latch_object.specs.declared.entries.LatchEntry.{LatchEntry}
use Rattle.cqs_latch_object.specs.declared.entries.LatchEntry.TheVariants as entry
use Rattle.cqs_latch_object.specs.LatchEntries.{IsAllowed, after_entry}
use Rattle.cqs_latch_object.specs.LatchShown.{LatchShape, way_shown, shown_latch, IsLatch}
use Rattle.cqs_latch_object.proofs.Holes.{holes-write, holes-there, holes-reached, holes-begun, holes-drawn, holes-collected}
use Rattle.cqs_latch_object.proofs.LatchFrame.{same-latch, shown-holes, owes-there, push-latch, SamePasses, passes-set, passes-fit, ways-quiet, quiet-latch, delivered-latch, resuming-open, unseen}

-- as many are on their way, where as many go on and as many will end
pub same-way : (b : Bool) (owed : List ℕ) (q r : Queue) → going r ≡ going q → ending r ≡ ending q
    → way_shown b (sum owed) q ≡ way_shown b (sum owed) r
same-way true owed q r goes ends = omega (arith, goes)
same-way false owed q r goes ends = omega (arith, goes, ends)

module _ (s : LatchShape) (p k : ℕ) (is : IsLatch s) where
  abbrev pub after_move : move.Move → LatchShape
  after_move m = record s { queue = move_queue s.queue m }

  pub latch-install : (found : CoreCell) → Works s.queue p (doing.Drawn k) k found state.Empty
      → IsLatch (after_move (move.install p k found))
  latch-install found w =
      unseen s p is (move.install p k found) (doing.Drawn k) doing.Idle w w.does refl refl refl refl
      (keeps-install s.queue p k found w) (λ shut. (is.shut shut).resumes)
      (holes-write s.queue p (doing.Drawn k) doing.Idle k found (at_state found state.Waiter) w.does w.finds
      (λ m other. refl) (rw w.at tt) tt)

  pub latch-leave_value : (found : CoreCell) → Works s.queue p (doing.Ticket k) k found state.Empty
      → IsLatch (after_move (move.leave_value p k found))
  latch-leave_value found w =
      unseen s p is (move.leave_value p k found) (doing.Ticket k) doing.Idle w w.does refl refl refl refl
      (keeps-leave_value s.queue p k found w) (λ shut. (is.shut shut).resumes)
      (holes-write s.queue p (doing.Ticket k) doing.Idle k found (at_state found state.Value) w.does w.finds
      (no-other-ticket k) (rw w.at tt) tt)

  pub latch-delegate : (found : CoreCell) → Works s.queue p (doing.Ticket k) k found state.Cancelling
      → IsLatch (after_move (move.delegate p k found))
  latch-delegate found w =
      unseen s p is (move.delegate p k found) (doing.Ticket k) doing.Idle w w.does refl refl refl refl
      (keeps-delegate s.queue p k found w) (λ shut. (is.shut shut).resumes)
      (holes-write s.queue p (doing.Ticket k) doing.Idle k found (at_state found state.Delegated) w.does w.finds
      (no-other-ticket k) (rw w.at tt) tt)

  pub latch-pass_over : (found : CoreCell) → Works s.queue p (doing.Ticket k) k found state.Cancelled
      → IsLatch (after_move (move.pass_over p k found))
  latch-pass_over found w =
      unseen s p is (move.pass_over p k found) (doing.Ticket k) doing.Owes w w.does refl refl refl refl
      (keeps-pass_over s.queue p k found w) (λ shut. (is.shut shut).resumes)
      (holes-there s.queue p (doing.Ticket k) doing.Owes k found w.does w.finds (no-other-ticket k) (rw w.at tt))

  pub latch-reach : (found : Option CoreCell) → slice_get s.queue.doing p ≡ Some doing.Owes
      → slice_get s.queue.cells s.queue.resumes ≡ found
      → IsLatch (after_move (move.reach p s.queue.resumes found))
  latch-reach found does finds =
      unseen s p is (move.reach p s.queue.resumes found) doing.Owes (doing.Ticket s.queue.resumes) (does, refl, finds)
      does refl refl refl refl (keeps-reach s.queue p found does)
      (λ shut. absurd (both_ways s.done shut (resuming-open s p is doing.Owes does refl)))
      (holes-reached s.queue p found does)

  -- the pass that opened the latch begins the next of the resumptions that it owes, by drawing its number
  pub latch-begin : (found : Option CoreCell) → slice_get s.queue.doing p ≡ Some doing.Idle
      → 0 < get_or s.owed p 0 → slice_get s.queue.cells s.queue.resumes ≡ found
      → IsLatch (record (after_move (move.reach p s.queue.resumes found)) { owed = one_fewer s.owed p })
  latch-begin found does some finds =
      let r : Queue = move_queue s.queue (move.reach p s.queue.resumes found) in
      let owing : Queue = move_queue s.queue (move.turn p doing.Idle doing.Owes) in
      let owes : slice_get owing.doing p ≡ Some doing.Owes = get-set_here s.queue.doing p doing.Idle doing.Owes does in
      let sound_r : IsSound r = subst IsSound (turn-reach s.queue p found)
      (sound-moved owing (move.reach p s.queue.resumes found)
      (sound-moved s.queue (move.turn p doing.Idle doing.Owes) is.sound (does, tt, tt)) (owes, refl, finds)) in
      let begins = begins-reach s.queue p found does in
      let there : p < length s.owed = owes-there s p doing.Idle is does in
      let within : get_or s.owed p 0 ≤ sum s.owed = get_or-le-sum_by (λ n. n) s.owed p 0 there in
      let quiet = quiet-begins s.queue r s.owed p begins there some in
      quiet-latch s (one_fewer s.owed p) r 0 is sound_r quiet
      (passes-set s.queue r p doing.Idle (doing.Ticket s.queue.resumes) does refl refl refl refl)
      (λ shut. let was = is.shut shut in absurd (omega (arith, was.none)))
      (ways-quiet s.simple s.queue r s.owed (one_fewer s.owed p) 0 quiet (λ simple. refl))
      (shown-holes s.simple s.queue r (holes-begun s.queue p found does))
      (length-set s.owed p (get_or s.owed p 0 - 1))

  pub latch-serve : (found : CoreCell) → Works s.queue p (doing.Ticket k) k found state.Waiter
      → IsLatch (record (after_move (move.serve p k found)) { history = s.history ++ entry.Deliver k ∷ [] })
  latch-serve found w =
      let r : Queue = move_queue s.queue (move.serve p k found) in
      let serves = serves-serve s.queue p k found is.sound w in
      delivered-latch s s.owed r k serves.0 is (sound-moved s.queue (move.serve p k found) is.sound w)
      (delivered-serves s.queue r s.owed k serves.0 serves.1)
      (passes-set s.queue r p (doing.Ticket k) doing.Idle w.does refl refl refl refl)
      (holes-write s.queue p (doing.Ticket k) doing.Idle k found (at_state found state.Resumed) w.does w.finds
      (no-other-ticket k) (rw w.at tt) tt)
      refl

  pub latch-take_value : (found : CoreCell) → Works s.queue p (doing.Drawn k) k found state.Value
      → IsLatch (record (after_move (move.take_value p k found)) { history = s.history ++ entry.Deliver k ∷ [] })
  latch-take_value found w =
      let r : Queue = move_queue s.queue (move.take_value p k found) in
      let taken : CoreCell = record { state = state.Taken; owner = found.owner; collected = true } in
      delivered-latch s s.owed r k p is (sound-moved s.queue (move.take_value p k found) is.sound w)
      (delivered-serves s.queue r s.owed k p (serves-take_value s.queue p k found is.sound w))
      (passes-set s.queue r p (doing.Drawn k) doing.Idle w.does refl refl refl refl)
      (holes-write s.queue p (doing.Drawn k) doing.Idle k found taken w.does w.finds (λ m other. refl) (rw w.at tt) tt)
      refl

  pub latch-draw : (found : Option CoreCell) → slice_get s.queue.doing p ≡ Some doing.Door
      → slice_get s.queue.cells s.queue.suspends ≡ found
      → IsLatch (record (after_move (move.draw p s.queue.suspends found))
      { history = s.history ++ entry.Enter p s.queue.suspends ∷ [] })
  latch-draw found does finds =
      let m : move.Move = move.draw p s.queue.suspends found in
      let r : Queue = move_queue s.queue m in
      let enters = enters-draw s.queue p found is.sound does finds in
      let stands : IsIn p (door s.queue) = picked-in at_door 0 s.queue.doing p p doing.Door p (omega arith) does refl in
      let same : SamePasses s.queue r =
      passes-set s.queue r p doing.Door (doing.Drawn s.queue.suspends) does refl refl refl refl in
      push-latch s s.count s.word s.done s.owed r (entry.Enter p s.queue.suspends) is
      (sound-moved s.queue m is.sound (does, refl, finds)) (stands, refl)
      (same-latch refl refl refl (same-way s.simple s.owed s.queue r enters.going enters.ending) (sym enters.waiters)
      (sym (shown-holes s.simple s.queue r (holes-drawn s.queue p found is.sound does finds))))
      (is.owners ∙ sym same.long)
      (λ shut. let was = is.shut shut in record {
        resumes = was.resumes;
        none = omega (arith, was.none, enters.going);
        counted = omega (arith, was.counted, enters.ending, enters.due);
        kept = λ smart. enters.ending ∙ was.kept smart;
        opener = same.opener ∙ was.opener;
      })
      (λ open_now. let was = is.opened open_now in record {
        used = was.used;
        ways = omega (arith, was.ways, enters.going, enters.ending, enters.due);
        enough = λ smart. omega (arith, was.enough smart, enters.due);
        few = omega (arith, was.few, same.loaded, same.long);
        opener = same.opener ∙ was.opener;
      })
      (passes-fit s r is same)

  -- The looks.
  closed : (e : LatchEntry) (found : CoreCell) → Works s.queue p doing.Idle k found state.Resumed → Owns p found
      → (IsServed k p (shown_latch s).waiters.served → IsAllowed (shown_latch s) e)
      → after_entry (shown_latch s) e ≡ record (shown_latch s) { waiters = closes (shown_latch s).waiters k }
      → IsLatch (record (after_move (move.collect p k found)) { history = s.history ++ e ∷ [] })
  closed e found w owns may is_closed =
      let r : Queue = move_queue s.queue (move.collect p k found) in
      let closing = closes-collect s.queue p k found w owns in
      let dues : queue.due r ≡ queue.due s.queue = ap due_of closing.waiters in
      push-latch s s.count s.word s.done s.owed r e is
      (sound-moved s.queue (move.collect p k found) is.sound (w, owns)) (may closing.served_open)
      (is_closed
      ∙ same-latch refl refl refl (same-way s.simple s.owed s.queue r closing.going closing.ending)
      (sym closing.waiters) (sym (shown-holes s.simple s.queue r (holes-collected s.queue p k found w))))
      is.owners
      (λ shut. let was = is.shut shut in record {
        resumes = was.resumes;
        none = omega (arith, was.none, closing.going);
        counted = omega (arith, was.counted, closing.ending, dues);
        kept = λ smart. closing.ending ∙ was.kept smart;
        opener = was.opener;
      })
      (λ open_now. let was = is.opened open_now in record {
        used = was.used;
        ways = omega (arith, was.ways, closing.going, closing.ending, dues);
        enough = λ smart. omega (arith, was.enough smart, dues);
        few = was.few;
        opener = was.opener;
      })
      is.fit

  pub latch-granted : (found : CoreCell) → Works s.queue p doing.Idle k found state.Resumed → Owns p found
      → IsLatch (record (after_move (move.collect p k found)) { history = s.history ++ entry.LookGranted p k ∷ [] })
  latch-granted found w owns = closed (entry.LookGranted p k) found w owns (λ h. h) refl

  pub latch-late : (found : CoreCell) → Works s.queue p doing.Idle k found state.Resumed → Owns p found
      → IsLatch (record (after_move (move.collect p k found)) { history = s.history ++ entry.Late p k ∷ [] })
  latch-late found w owns = closed (entry.Late p k) found w owns (λ h. h) refl

  pub latch-pending : (found : CoreCell) → Works s.queue p doing.Idle k found state.Waiter → Owns p found
      → IsLatch (record s { history = s.history ++ entry.LookPending p k ∷ [] })
  latch-pending found w owns =
      let waits : queue.in_line s.queue.doing k found ≡ Some (waiting k p) = rw (w.at, owns.owner) refl in
      push-latch s s.count s.word s.done s.owed s.queue (entry.LookPending p k) is is.sound
      (picked-in (queue.in_line s.queue.doing) 0 s.queue.cells k k found (waiting k p) (omega arith) w.finds waits)
      refl is.owners
      (λ shut. let was = is.shut shut in record {
        resumes = was.resumes;
        none = was.none;
        counted = was.counted;
        kept = was.kept;
        opener = was.opener;
      })
      (λ open_now. let was = is.opened open_now in record {
        used = was.used;
        ways = was.ways;
        enough = was.enough;
        few = was.few;
        opener = was.opener;
      })
      is.fit
