-- A pool as a waiter looks at its cell, or is too late to leave it: each keeps what its core shows.
use Rattle.std.proofs.Common.{◌≡◌, ℕ, ◌+◌, ◌<◌, ◌==◌, ◌&&◌, true, false, List, [], ◌∷◌, ◌++◌, Some, length, set, get_or, refl, ap, sym, ◌∙◌, subst, arith}
use Rattle.std.proofs.lemmas.List.{length-set}
use Rattle.cqs_core.specs.declared.cells.CoreCell.{CoreCell}
use Rattle.cqs_core.specs.declared.cells.CoreState.TheVariants as state
use Rattle.cqs_core.specs.declared.doings.Doing.TheVariants as doing
use Rattle.cqs_core.specs.QueueState.{Queue}
use Rattle.cqs_core.specs.QueueLine.{Waiting, in_line, has_left, has_ready}
use Rattle.cqs_core.specs.QueueMoves as move
use Rattle.cqs_core.specs.QueueMoves.{Works, Owns, move_queue}
use Rattle.cqs_core.specs.QueueWaiters.{Waits}
use Rattle.cqs_core.proofs.Counts.{bit}
use Rattle.cqs_core.proofs.Keys.{around-changed}
use Rattle.cqs_core.proofs.DeliveryMoves.{closes-collect}
use Rattle.cqs_core.proofs.Picked.{picked-in}
use Rattle.cqs_core.proofs.Sound.{sound-moved}
use Rattle.cqs_core.proofs.QueueServes.{waiting}
use Rattle.cqs_pool_object.specs.declared.entries.PoolEntry.{PoolEntry}
use Rattle.cqs_pool_object.specs.declared.entries.PoolEntry.TheVariants as entry
use Rattle.cqs_pool_object.specs.PoolObject.{Given, Pool, IsGiven}
use Rattle.cqs_pool_object.specs.PoolEntries.{IsAllowed, after_look, after_entry, object_after}
use Rattle.cqs_pool_object.specs.PoolShown.{PoolShape, is_given, services, Shows, IsPool}
use Rattle.cqs_pool_object.proofs.PoolCounts.{given_wait, payloads-same, cells-write, given-around}
use Rattle.cqs_pool_object.proofs.PoolLaw.{gained, holds-there, pool-push}

module _ (s : PoolShape) (p k : ℕ) (is : IsPool s) where
  abbrev o : Pool
  o = object_after s.size s.history

  abbrev held_of : List ℕ
  held_of = get_or s.holds p []

  -- The looks: the element that came is the pass's.
  looked : (e : PoolEntry) (found : CoreCell) → Works s.queue p doing.Idle k found state.Resumed → Owns p found
      → (IsGiven k p (s.payloads k) o.served → IsAllowed o e)
      → after_entry o e ≡ record o { served = after_look k o.served }
      → IsPool (record s {
        holds = set s.holds p (s.payloads k ∷ held_of);
        queue = move_queue s.queue (move.collect p k found);
        history = s.history ++ e ∷ [];
      })
  looked e found w owns may changes =
      let x : ℕ = s.payloads k in
      let new : CoreCell = record { state = found.state; owner = found.owner; collected = true } in
      let q : Queue = move_queue s.queue (move.collect p k found) in
      let closing = closes-collect s.queue p k found w owns in
      let there : p < length s.holds = holds-there s p k is doing.Idle w.does in
      let shows = is.shows in
      let was : is_given s.payloads k found ≡ Some (record { wait = k; pass = p; element = x; is_open = true }) =
      rw (w.at, owns.owner, owns.uncollected) refl in
      let now : is_given s.payloads k new ≡ Some (record { wait = k; pass = p; element = x; is_open = false }) =
      rw (w.at, owns.owner) refl in
      let was_in : IsGiven k p x (services s.queue s.payloads) =
      picked-in (is_given s.payloads) 0 s.queue.cells k k found
      (record { wait = k; pass = p; element = x; is_open = true }) (omega arith) w.finds was in
      let around = given-around s.queue.cells k found new s.payloads s.payloads w.finds (payloads-same k s.payloads) in
      let served : services q s.payloads ≡ after_look k (services s.queue s.payloads) =
      around-changed given_wait k _ _ _ _ around (record { wait = k; pass = p; element = x; is_open = true })
      (λ g. record { wait = g.wait; pass = g.pass; element = g.element; is_open = false }) was now refl in
      let lefts = (λ (f : ℕ). cells-write has_left f s.queue.cells k found new s.payloads s.payloads w.finds
      (payloads-same k s.payloads)) in
      let readies = (λ (f : ℕ). cells-write has_ready f s.queue.cells k found new s.payloads s.payloads w.finds
      (payloads-same k s.payloads)) in
      let none = (λ (f : ℕ). none-left found f w.at) in
      let had = (λ (f : ℕ). was-ready found f w.at owns.uncollected) in
      pool-push s p k is s.loads s.payloads (set s.holds p (x ∷ held_of)) e q
      (sound-moved s.queue (move.collect p k found) is.sound (w, owns))
      (may (subst (λ (v : List Given). IsGiven k p x v) (sym shows.served) was_in))
      (subst (λ (y : Pool). Shows q s.loads s.payloads (set s.holds p (x ∷ held_of)) y) (sym changes)
      (record {
        line = shows.line ∙ ap (λ w. w.line) (sym closing.waiters);
        next = shows.next ∙ ap (λ w. w.next) (sym closing.waiters);
        served = ap (after_look k) shows.served ∙ sym served;
        many = omega (arith, shows.many, closing.going);
        way = λ f. omega (arith, shows.way f, lefts f, none f);
        held = λ f. omega (arith, shows.held f, readies f, had f, gained s p k is x f there);
      }))
      refl (length-set s.holds p (x ∷ held_of)) refl (omega (arith, closing.ending, is.none_refused))
    where
      none-left : (found : CoreCell) (f : ℕ) → found.state ≡ state.Resumed
          → bit (has_left found && (s.payloads k == f)) ≡ 0
      none-left found f at = rw at refl

      was-ready : (found : CoreCell) (f : ℕ) → found.state ≡ state.Resumed → found.collected ≡ false
          → bit (has_ready found && (s.payloads k == f)) + 0
          ≡ bit (s.payloads k == f) + bit
          (has_ready (record { state = found.state; owner = found.owner; collected = true }) && (s.payloads k == f))
      was-ready found f at un = rw (at, un) (omega arith)

  pub pool-granted : (found : CoreCell) → Works s.queue p doing.Idle k found state.Resumed → Owns p found
      → IsPool (record s {
        holds = set s.holds p (s.payloads k ∷ held_of);
        queue = move_queue s.queue (move.collect p k found);
        history = s.history ++ entry.LookGranted p k (s.payloads k) ∷ [];
      })
  pool-granted found w owns = looked (entry.LookGranted p k (s.payloads k)) found w owns (λ h. h) refl

  pub pool-late : (found : CoreCell) → Works s.queue p doing.Idle k found state.Resumed → Owns p found
      → IsPool (record s {
        holds = set s.holds p (s.payloads k ∷ held_of);
        queue = move_queue s.queue (move.collect p k found);
        history = s.history ++ entry.Late p k (s.payloads k) ∷ [];
      })
  pool-late found w owns = looked (entry.Late p k (s.payloads k)) found w owns (λ h. h) refl

  pub pool-pending : (found : CoreCell) → Works s.queue p doing.Idle k found state.Waiter → Owns p found
      → IsPool (record s { history = s.history ++ entry.LookPending p k ∷ [] })
  pool-pending found w owns =
      let shows = is.shows in
      let waits : in_line s.queue.doing k found ≡ Some (waiting k p) = rw (w.at, owns.owner) refl in
      let stands = picked-in (in_line s.queue.doing) 0 s.queue.cells k k found (waiting k p)
      (omega arith) w.finds waits in
      pool-push s p k is s.loads s.payloads s.holds (entry.LookPending p k) s.queue is.sound
      (subst (λ (l : List Waiting). Waits k p l) (sym shows.line) stands)
      (record {
        line = shows.line;
        next = shows.next;
        served = shows.served;
        many = shows.many;
        way = shows.way;
        held = shows.held;
      })
      refl refl refl is.none_refused
