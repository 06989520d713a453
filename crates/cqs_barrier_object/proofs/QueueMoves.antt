-- Each move of the queue that a barrier's passes make keeps the barrier.
use Rattle.std.proofs.Common.{◌≡◌, ℕ, ◌+◌, ◌-◌, ◌<◌, true, false, [], ◌∷◌, ◌++◌, Option, Some, length, set, slice_get, get_or, sum, refl, ap, sym, ◌∙◌, arith}
use Rattle.std.proofs.lemmas.List.{length-set}
use Rattle.cqs_core.specs.declared.cells.CoreCell.{CoreCell}
use Rattle.cqs_core.specs.declared.cells.CoreState.TheVariants as state
use Rattle.cqs_core.specs.declared.doings.Doing.{Doing}
use Rattle.cqs_core.specs.declared.doings.Doing.TheVariants as doing
use Rattle.cqs_core.specs.Numbered.{IsIn, EachAt}
use Rattle.cqs_core.specs.QueueLine.{going, ending, due, door, is_resuming, at_door, in_line}
use Rattle.cqs_core.specs.QueueMoves as move
use Rattle.cqs_core.specs.QueueMoves.{Move, Works, Owns, IsOpen, move_queue, at_state}
use Rattle.cqs_core.specs.QueueState.{Queue}
use Rattle.cqs_core.specs.QueueSteps.{begins}
use Rattle.cqs_core.specs.QueueWaiters.{IsServed, closes}
use Rattle.cqs_core.proofs.DeliveryMoves.{closes-collect}
use Rattle.cqs_core.proofs.DrawMoves.{keeps-reach, enters-draw}
use Rattle.cqs_core.proofs.HiddenMoves.{Keeps, keeps-install, keeps-leave_value, keeps-delegate, keeps-pass_over, keeps-meet_refused, keeps-begin_cancel, keeps-cancel, keeps-refuse, keeps-refuse_left}
use Rattle.cqs_core.proofs.Picked.{picked-in}
use Rattle.cqs_core.proofs.QueueBegins.{begins-reach, one_fewer, quiet-keeps, quiet-begins, delivered-serves, some-going, some-left}
use Rattle.cqs_core.proofs.QueueServes.{waiting, serves-take_value, serves-serve}
use Rattle.cqs_core.proofs.QueueStepMoves.{sound-after}
use Rattle.cqs_core.proofs.Sound.{sound-moved}
use Rattle.cqs_barrier_object.specs.declared.entries.BarrierEntry.{BarrierEntry}
use Rattle.cqs_barrier_object.specs.declared.entries.BarrierEntry.TheVariants as entry
use Rattle.cqs_barrier_object.specs.BarrierEntries.{IsAllowed, after_entry}
use Rattle.cqs_barrier_object.specs.BarrierShown.{Shape, stayed_in, shown_barrier, HasParty, IsBarrier}
use Rattle.cqs_barrier_object.proofs.Frame.{same-barrier, quiet-barrier, push-barrier, delivered-barrier}
use Rattle.cqs_barrier_object.proofs.Parties.{party-turn, owed-there, held-within, owed-within}
use Rattle.cqs_barrier_object.proofs.Stayed.{stayed-turn, stayed-write, stayed-reached, stayed-drawn, stayed-collected, stayed-refused}

-- the barrier after a move that nobody sees, and after one with an entry
abbrev pub after_move : Shape → Move → Shape
after_move s m = record s { queue = move_queue s.queue m }

abbrev pub after_entry_move : Shape → Move → BarrierEntry → Shape
after_entry_move s m e = record s { history = s.history ++ e ∷ []; queue = move_queue s.queue m }

module _ (s : Shape) (p k : ℕ) (is : IsBarrier s) where
  -- a pass that is in the middle of a resumption: all have arrived
  resuming-over : (d : Doing) → slice_get s.queue.doing p ≡ Some d → is_resuming d ≡ true → 0 < s.remaining → ⊥
  resuming-over d does resumes some =
      let was = is.before some in
      let one = some-going s.queue p d does resumes in
      omega (arith, was.none, one)

  -- a move by which a pass goes on from one thing to another, unseen
  unseen : (m : Move) (from to : Doing) (n : ℕ) → IsOpen s.queue m → slice_get s.queue.doing p ≡ Some from
      → HasParty s.held p to
      → (move_queue s.queue m).doing ≡ set s.queue.doing p to → Keeps s.queue (move_queue s.queue m) n
      → (0 < s.remaining → (move_queue s.queue m).resumes ≡ 0)
      → stayed_in (move_queue s.queue m) ≡ stayed_in s.queue → IsBarrier (after_move s m)
  unseen m from to n opens does party is_doing keeps resumes kept =
      let r : Queue = move_queue s.queue m in
      let parties : EachAt (HasParty s.held) r.doing =
      rw is_doing (party-turn s.held s.queue.doing p from to does party is.party) in
      quiet-barrier s s.owed r n is (sound-moved s.queue m is.sound opens)
      (quiet-keeps s.queue r s.owed n keeps) resumes
      kept refl (ap length is_doing ∙ length-set s.queue.doing p to) parties

  pub barrier-install : (found : CoreCell) → Works s.queue p (doing.Drawn k) k found state.Empty
      → IsBarrier (after_move s (move.install p k found))
  barrier-install found w =
      unseen (move.install p k found) (doing.Drawn k) doing.Idle 0 w w.does tt refl
      (keeps-install s.queue p k found w) (λ some. (is.before some).resumes)
      (stayed-write s.queue p (doing.Drawn k) doing.Idle k found (at_state found state.Waiter) w.does w.finds
      (λ m. refl) refl (rw w.at tt) tt)

  pub barrier-leave_value : (found : CoreCell) → Works s.queue p (doing.Ticket k) k found state.Empty
      → IsBarrier (after_move s (move.leave_value p k found))
  barrier-leave_value found w =
      unseen (move.leave_value p k found) (doing.Ticket k) doing.Idle 0 w w.does tt refl
      (keeps-leave_value s.queue p k found w) (λ some. (is.before some).resumes)
      (stayed-write s.queue p (doing.Ticket k) doing.Idle k found (at_state found state.Value) w.does w.finds
      (λ m. refl) refl (rw w.at tt) tt)

  pub barrier-delegate : (found : CoreCell) → Works s.queue p (doing.Ticket k) k found state.Cancelling
      → IsBarrier (after_move s (move.delegate p k found))
  barrier-delegate found w =
      unseen (move.delegate p k found) (doing.Ticket k) doing.Idle 0 w w.does tt refl
      (keeps-delegate s.queue p k found w) (λ some. (is.before some).resumes)
      (stayed-write s.queue p (doing.Ticket k) doing.Idle k found (at_state found state.Delegated) w.does w.finds
      (λ m. refl) refl (rw w.at tt) tt)

  pub barrier-pass_over : (found : CoreCell) → Works s.queue p (doing.Ticket k) k found state.Cancelled
      → IsBarrier (after_move s (move.pass_over p k found))
  barrier-pass_over found w =
      unseen (move.pass_over p k found) (doing.Ticket k) doing.Owes 0 w w.does tt refl
      (keeps-pass_over s.queue p k found w) (λ some. (is.before some).resumes)
      (stayed-turn s.queue.doing s.queue.cells p (doing.Ticket k) doing.Owes w.does (λ m. refl))

  pub barrier-meet_refused : (found : CoreCell) → Works s.queue p (doing.Ticket k) k found state.Refused
      → IsBarrier (after_move s (move.meet_refused p k found))
  barrier-meet_refused found w =
      unseen (move.meet_refused p k found) (doing.Ticket k) doing.Idle 1 w w.does tt refl
      (keeps-meet_refused s.queue p k found is.sound w) (λ some. (is.before some).resumes)
      (stayed-turn s.queue.doing s.queue.cells p (doing.Ticket k) doing.Idle w.does (λ m. refl))

  pub barrier-begin_cancel : (found : CoreCell) → Works s.queue p doing.Idle k found state.Waiter → Owns p found
      → IsBarrier (after_move s (move.begin_cancel p k found))
  barrier-begin_cancel found w owns =
      unseen (move.begin_cancel p k found) doing.Idle (doing.Leaving k) 0 (w, owns) w.does tt refl
      (keeps-begin_cancel s.queue p k found w owns) (λ some. (is.before some).resumes)
      (stayed-write s.queue p doing.Idle (doing.Leaving k) k found (at_state found state.Cancelling) w.does w.finds
      (λ m. refl) refl (rw w.at tt) tt)

  pub barrier-cancel : (found : CoreCell) → Works s.queue p (doing.Decided k true) k found state.Cancelling
      → IsBarrier (after_move s (move.cancel p k found))
  barrier-cancel found w =
      unseen (move.cancel p k found) (doing.Decided k true) doing.Idle 0 w w.does tt refl
      (keeps-cancel s.queue p k found is.sound w) (λ some. (is.before some).resumes)
      (stayed-write s.queue p (doing.Decided k true) doing.Idle k found (at_state found state.Cancelled) w.does
      w.finds (λ m. refl) refl (rw w.at tt) tt)

  pub barrier-refuse : (found : CoreCell) → Works s.queue p (doing.Decided k false) k found state.Cancelling
      → IsBarrier (after_move s (move.refuse p k found))
  barrier-refuse found w =
      unseen (move.refuse p k found) (doing.Decided k false) doing.Idle 0 (w.does, w.finds, rw w.at tt) w.does tt refl
      (keeps-refuse s.queue p k found is.sound w) (λ some. (is.before some).resumes)
      (stayed-refused s.queue p k found is.sound w.does w.finds (rw w.at tt))

  pub barrier-refuse_left : (found : CoreCell) → Works s.queue p (doing.Decided k false) k found state.Delegated
      → IsBarrier (after_move s (move.refuse p k found))
  barrier-refuse_left found w =
      unseen (move.refuse p k found) (doing.Decided k false) doing.Idle 1 (w.does, w.finds, rw w.at tt) w.does tt refl
      (keeps-refuse_left s.queue p k found is.sound w) (λ some. (is.before some).resumes)
      (stayed-refused s.queue p k found is.sound w.does w.finds (rw w.at tt))

  -- A value can't be left for a canceller that withdraws.
  pub barrier-no_value : (found : CoreCell) → Works s.queue p (doing.Decided k true) k found state.Delegated → ⊥
  barrier-no_value found w =
      let party : HasParty s.held p (doing.Decided k true) = is.party.at p (doing.Decided k true) w.does in
      let within = held-within s p (doing.Decided k true) is w.does in
      let some : 0 < s.remaining = omega (arith, is.held) in
      let was = is.before some in
      let one : 0 < going s.queue = some-left s.queue k found w.finds (rw w.at refl) in
      omega (arith, was.none)

  -- a resumption reaches its wait
  pub barrier-serve : (found : CoreCell) → Works s.queue p (doing.Ticket k) k found state.Waiter
      → IsBarrier (after_entry_move s (move.serve p k found) (entry.Deliver k))
  barrier-serve found w =
      let r : Queue = move_queue s.queue (move.serve p k found) in
      let serves = serves-serve s.queue p k found is.sound w in
      delivered-barrier s s.owed r k serves.0 is (sound-moved s.queue (move.serve p k found) is.sound w)
      (delivered-serves s.queue r s.owed k serves.0 serves.1)
      (stayed-write s.queue p (doing.Ticket k) doing.Idle k found (at_state found state.Resumed) w.does w.finds
      (λ m. refl) refl (rw w.at tt) tt)
      refl (length-set s.queue.doing p doing.Idle)
      (party-turn s.held s.queue.doing p (doing.Ticket k) doing.Idle w.does tt is.party)

  pub barrier-take_value : (found : CoreCell) → Works s.queue p (doing.Drawn k) k found state.Value
      → IsBarrier (after_entry_move s (move.take_value p k found) (entry.Deliver k))
  barrier-take_value found w =
      let r : Queue = move_queue s.queue (move.take_value p k found) in
      delivered-barrier s s.owed r k p is (sound-moved s.queue (move.take_value p k found) is.sound w)
      (delivered-serves s.queue r s.owed k p (serves-take_value s.queue p k found is.sound w))
      (stayed-write s.queue p (doing.Drawn k) doing.Idle k found
      (record { state = state.Taken; owner = found.owner; collected = true })
      w.does w.finds (λ m. refl) refl (rw w.at tt) tt)
      refl (length-set s.queue.doing p doing.Idle)
      (party-turn s.held s.queue.doing p (doing.Drawn k) doing.Idle w.does tt is.party)

  -- the pass goes from the door to the end of the line
  pub barrier-draw : (found : Option CoreCell) → slice_get s.queue.doing p ≡ Some doing.Door
      → slice_get s.queue.cells s.queue.suspends ≡ found
      → IsBarrier (after_entry_move s (move.draw p s.queue.suspends found) (entry.Enter p s.queue.suspends))
  barrier-draw found does finds =
      let m : Move = move.draw p s.queue.suspends found in
      let r : Queue = move_queue s.queue m in
      let enters = enters-draw s.queue p found is.sound does finds in
      let ways : going s.queue + sum s.owed - ending s.queue ≡ going r + sum s.owed - ending r =
      omega (arith, enters.going, enters.ending) in
      let stands : IsIn p (door s.queue) =
      picked-in at_door 0 s.queue.doing p p doing.Door p (omega arith) does refl in
      push-barrier s s.remaining s.held s.owed (entry.Enter p s.queue.suspends) r is
      (sound-moved s.queue m is.sound (does, refl, finds))
      (stands, refl)
      (same-barrier refl ways (sym enters.waiters) (sym (stayed-drawn s.queue p found is.sound does finds)))
      refl refl (length-set s.queue.doing p (doing.Drawn s.queue.suspends)) is.held
      (λ some. let was = is.before some in
      record {
        resumes = was.resumes;
        none = omega (arith, was.none, enters.going, enters.ending);
        parties = omega (arith, was.parties, enters.due);
      })
      (λ none. omega (arith, is.over none, enters.going, enters.ending, enters.due))
      (party-turn s.held s.queue.doing p doing.Door (doing.Drawn s.queue.suspends) does tt is.party)

  pub barrier-reach : (found : Option CoreCell) → slice_get s.queue.doing p ≡ Some doing.Owes
      → slice_get s.queue.cells s.queue.resumes ≡ found
      → IsBarrier (after_move s (move.reach p s.queue.resumes found))
  barrier-reach found does finds =
      unseen (move.reach p s.queue.resumes found) doing.Owes (doing.Ticket s.queue.resumes) 0 (does, refl, finds)
      does tt refl (keeps-reach s.queue p found does)
      (λ some. absurd (resuming-over doing.Owes does refl some))
      (stayed-reached s.queue p doing.Owes found does (λ m. refl))

  -- the pass begins the next of the resumptions that it owes, by drawing its number
  pub barrier-begin : (found : Option CoreCell) → slice_get s.queue.doing p ≡ Some doing.Idle
      → 0 < get_or s.owed p 0
      → slice_get s.queue.cells s.queue.resumes ≡ found
      → IsBarrier (record s {
        owed = one_fewer s.owed p;
        queue = move_queue s.queue (move.reach p s.queue.resumes found);
      })
  barrier-begin found does some finds =
      let r : Queue = move_queue s.queue (move.reach p s.queue.resumes found) in
      let within = owed-within s p doing.Idle is does in
      quiet-barrier s (one_fewer s.owed p) r 0 is
      (sound-after s.queue begins p s.queue.resumes found tt is.sound (does, refl, finds))
      (quiet-begins s.queue r s.owed p (begins-reach s.queue p found does) (owed-there s p doing.Idle is does) some)
      (λ before. let was = is.before before in absurd (omega (arith, was.none)))
      (stayed-reached s.queue p doing.Idle found does (λ m. refl))
      (length-set s.owed p (get_or s.owed p 0 - 1)) (length-set s.queue.doing p (doing.Ticket s.queue.resumes))
      (party-turn s.held s.queue.doing p doing.Idle (doing.Ticket s.queue.resumes) does tt is.party)

  -- what came is looked at
  looked : (e : BarrierEntry) (found : CoreCell) → Works s.queue p doing.Idle k found state.Resumed → Owns p found
      → (IsServed k p (shown_barrier s).waiters.served → IsAllowed (shown_barrier s) e)
      → after_entry (shown_barrier s) e ≡ record (shown_barrier s) { waiters = closes (shown_barrier s).waiters k }
      → IsBarrier (after_entry_move s (move.collect p k found) e)
  looked e found w owns may is_closed =
      let r : Queue = move_queue s.queue (move.collect p k found) in
      let closing = closes-collect s.queue p k found w owns in
      let dues : due r ≡ due s.queue = ap (λ v. length v.door + length v.line) closing.waiters in
      let ways : going s.queue + sum s.owed - ending s.queue ≡ going r + sum s.owed - ending r =
      omega (arith, closing.going, closing.ending) in
      push-barrier s s.remaining s.held s.owed e r is
      (sound-moved s.queue (move.collect p k found) is.sound (w, owns))
      (may closing.served_open)
      (is_closed
      ∙ same-barrier refl ways (sym closing.waiters) (sym (stayed-collected s.queue p k found w)))
      refl refl refl is.held
      (λ some. let was = is.before some in
      record {
        resumes = was.resumes;
        none = omega (arith, was.none, closing.going, closing.ending);
        parties = omega (arith, was.parties, dues);
      })
      (λ none. omega (arith, is.over none, closing.going, closing.ending, dues))
      is.party

  pub barrier-granted : (found : CoreCell) → Works s.queue p doing.Idle k found state.Resumed → Owns p found
      → IsBarrier (after_entry_move s (move.collect p k found) (entry.LookGranted p k))
  barrier-granted found w owns = looked (entry.LookGranted p k) found w owns (λ h. h) refl

  pub barrier-late : (found : CoreCell) → Works s.queue p doing.Idle k found state.Resumed → Owns p found
      → IsBarrier (after_entry_move s (move.collect p k found) (entry.Late p k))
  barrier-late found w owns = looked (entry.Late p k) found w owns (λ h. h) refl

  pub barrier-pending : (found : CoreCell) → Works s.queue p doing.Idle k found state.Waiter → Owns p found
      → IsBarrier (record s { history = s.history ++ entry.LookPending p k ∷ [] })
  barrier-pending found w owns =
      let waits : in_line s.queue.doing k found ≡ Some (waiting k p) = rw (w.at, owns.owner) refl in
      push-barrier s s.remaining s.held s.owed (entry.LookPending p k) s.queue is is.sound
      (picked-in (in_line s.queue.doing) 0 s.queue.cells k k found (waiting k p) (omega arith) w.finds waits)
      refl refl refl refl is.held is.before is.over is.party
