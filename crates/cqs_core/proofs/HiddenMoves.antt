-- Moves that nobody sees, whatever the client: the door, the line and the served waits stay, and so do the
-- resumptions that go on, but for one that ends at a refused cell. It is told as two numbers, and with no cover.
use Rattle.std.proofs.Common.{◌≡◌, ◌≢◌, ◌⊎◌, inl, inr, ℕ, ◌+◌, ◌<◌, ◌≤◌, Bool, true, false, ◌||◌, nat_le, List, Option, Some, None, set, slice_get, refl, ap, ap₂, sym, ◌∙◌, subst, arith, ne_eqb, eq-eqb, le-leb}
use Rattle.std.proofs.lemmas.Bool.{cases_lt, lt-leb, or_left, or_right, or_from}
use Rattle.cqs_core.specs.declared.cells.CoreCell.{CoreCell}
use Rattle.cqs_core.specs.declared.cells.CoreState.{CoreState}
use Rattle.cqs_core.specs.declared.cells.CoreState.TheVariants as state
use Rattle.cqs_core.specs.declared.doings.Doing.{Doing}
use Rattle.cqs_core.specs.declared.doings.Doing.TheVariants as doing
use Rattle.cqs_core.specs.QueueState.{Queue, owner_doing, is_leaving, has_ticket, is_ticket}
use Rattle.cqs_core.specs.QueueLine.{at_door, door, due, in_line, stays_in_line, waiting_of, line, is_served, is_resuming, is_told_refused, has_left, is_unmet, going, ending, has_ready, ready}
use Rattle.cqs_core.specs.QueueWaiters.{Waiters, waiters, due_of}
use Rattle.cqs_core.specs.QueueMoves as move
use Rattle.cqs_core.specs.QueueMoves.{IsCancelling, Works, Owns, move_queue, now_doing, with_cell, at_state}
use Rattle.cqs_core.specs.QueueSound.{IsSound, IsSoundAt, IsOwn, IsTicket, IsUnended, IsAwaited, AreApart}
use Rattle.cqs_core.proofs.Counts.{bit, count_by-write}
use Rattle.cqs_core.proofs.Keys.{around-kept}
use Rattle.cqs_core.proofs.LineReads.{caller, wait_of, service_wait, line-turn, line-around, served-around, door-around}
use Rattle.cqs_core.proofs.Tickets.{is_ticket-other, has_ticket-from, has_ticket-closes, has_ticket-frame, owner_doing-frame, owner_doing-here, has_ticket-none}
use Rattle.cqs_core.proofs.Places.{set-same}
use Rattle.cqs_core.proofs.WaysChange.{ways-cell, ways-turn}

pub same-waiters : {a b : Waiters} → a.door ≡ b.door → a.line ≡ b.line → a.next ≡ b.next → a.served ≡ b.served → a ≡ b
same-waiters door line next served = λ i.
    record { door = door i; line = line i; next = next i; served = served i }

-- Nobody sees the difference between the two; so many resumptions ended at a refused cell.
pub record Keeps (q r : Queue) (ended : ℕ) : Type 0 where
  pub waiters : waiters r ≡ waiters q
  pub ready : ready r ≡ ready q
  pub going : going r + ended ≡ going q
  pub ending : ending r + ended ≡ ending q

pub keeps-same : (q : Queue) → Keeps q q 0
keeps-same q = record { waiters = refl; ready = refl; going = omega arith; ending = omega arith }

pub keeps-due : (q r : Queue) (ended : ℕ) → Keeps q r ended → due r ≡ due q
keeps-due q r ended keeps = ap due_of keeps.waiters

-- A pass goes on and cell k is written: neither leaves or has the ticket of another number.
pub record Writes (q : Queue) (p : ℕ) (from to : Doing) (k : ℕ) (found : CoreCell) : Type 0 where
  pub does : slice_get q.doing p ≡ Some from
  pub finds : slice_get q.cells k ≡ Some found
  pub leaves : (m : ℕ) → m ≢ k → is_leaving m (Some to) ≡ is_leaving m (Some from)
  pub tickets : (m : ℕ) → m ≢ k → is_ticket m to ≡ is_ticket m from

-- what is read off the pass and the cell stays; so many resumptions end by it
pub record ReadsSame (q : Queue) (p : ℕ) (from to : Doing) (k : ℕ) (found new : CoreCell) (ended : ℕ) : Type 0 where
  pub door : at_door p from ≡ at_door p to
  pub line : in_line q.doing k found ≡ in_line (set q.doing p to) k new
  pub served : is_served k found ≡ is_served k new
  pub ready : has_ready found ≡ has_ready new
  pub going : bit (is_resuming to) + bit (has_left new) + ended ≡ bit (is_resuming from) + bit (has_left found)
  pub ending :
      bit (is_told_refused to) + bit (is_unmet q.resumes (set q.doing p to) k new) + ended
      ≡ bit (is_told_refused from) + bit (is_unmet q.resumes q.doing k found)

pub keeps-write : (q : Queue) (p : ℕ) (from to : Doing) (k : ℕ) (found new : CoreCell) (ended : ℕ)
    → Writes q p from to k found → ReadsSame q p from to k found new ended
    → Keeps q (now_doing (with_cell q k new) p to) ended
keeps-write q p from to k found new ended writes reads =
    let ways = ways-cell q p from to k found new writes.does writes.finds writes.tickets in
    let looked = count_by-write has_ready q.cells k found new writes.finds in
    let as_ready : bit (has_ready found) ≡ bit (has_ready new) = ap bit reads.ready in
    record {
      waiters =
          same-waiters
          (around-kept caller p _ _ _ _ (door-around q.doing p from to writes.does) reads.door)
          (around-kept wait_of k _ _ _ _
          (line-around q.doing q.cells p from to k found new writes.does writes.finds writes.leaves) reads.line)
          refl
          (around-kept service_wait k _ _ _ _ (served-around q.cells k found new writes.finds) reads.served);
      ready = omega (arith, looked, as_ready);
      going = omega (arith, ways.goes, reads.going);
      ending = omega (arith, ways.ends, reads.ending);
    }

-- the same, where the cell stays
keeps-there : (q : Queue) (p : ℕ) (from to : Doing) (k : ℕ) (found : CoreCell) (ended : ℕ)
    → Writes q p from to k found → ReadsSame q p from to k found found ended → Keeps q (now_doing q p to) ended
keeps-there q p from to k found ended writes reads =
    subst (λ (cells : List CoreCell).
    Keeps q (record {
      suspends = q.suspends;
      resumes = q.resumes;
      cells = cells;
      doing = set q.doing p to;
    }) ended)
    (set-same q.cells k found writes.finds) (keeps-write q p from to k found found ended writes reads)

-- a pass turns that neither stands at the door, nor is in the middle of a resumption or a cancellation
pub keeps-turn : (q : Queue) (p : ℕ) (from to : Doing) → slice_get q.doing p ≡ Some from
    → at_door p from ≡ at_door p to
    → ((m : ℕ) → is_leaving m (Some to) ≡ is_leaving m (Some from))
    → ((m : ℕ) → is_ticket m to ≡ is_ticket m from)
    → is_resuming from ≡ is_resuming to → is_told_refused from ≡ is_told_refused to
    → Keeps q (now_doing q p to) 0
keeps-turn q p from to does doors leaves tickets resuming told =
    let ways = ways-turn q p from to does tickets in
    let resumes : bit (is_resuming from) ≡ bit (is_resuming to) = ap bit resuming in
    let tells : bit (is_told_refused from) ≡ bit (is_told_refused to) = ap bit told in
    record {
      waiters =
          same-waiters (around-kept caller p _ _ _ _ (door-around q.doing p from to does) doors)
          (line-turn q.doing q.cells p from to does leaves) refl refl;
      ready = refl;
      going = omega (arith, ways.goes, resumes);
      ending = omega (arith, ways.ends, tells);
    }

-- the ticket of k is no ticket of another number
pub no-other-ticket : (k m : ℕ) → m ≢ k → false ≡ is_ticket m (doing.Ticket k)
no-other-ticket k m other = sym (is_ticket-other m k (λ e. other (sym e)))

pub keeps-install : (q : Queue) (p k : ℕ) (found : CoreCell) → Works q p (doing.Drawn k) k found state.Empty
    → Keeps q (move_queue q (move.install p k found)) 0
keeps-install q p k found works =
    keeps-write q p (doing.Drawn k) doing.Idle k found (at_state found state.Waiter) 0
    (record { does = works.does; finds = works.finds; leaves = λ m other. refl; tickets = λ m other. refl })
    (record {
      door = refl;
      line = rw works.at refl;
      served = rw works.at refl;
      ready = rw works.at refl;
      going = rw works.at refl;
      ending = rw works.at refl;
    })

pub keeps-leave_value : (q : Queue) (p k : ℕ) (found : CoreCell) → Works q p (doing.Ticket k) k found state.Empty
    → Keeps q (move_queue q (move.leave_value p k found)) 0
keeps-leave_value q p k found works =
    keeps-write q p (doing.Ticket k) doing.Idle k found (at_state found state.Value) 0
    (record { does = works.does; finds = works.finds; leaves = λ m other. refl; tickets = no-other-ticket k })
    (record {
      door = refl;
      line = rw works.at refl;
      served = rw works.at refl;
      ready = rw works.at refl;
      going = rw works.at refl;
      ending = rw works.at refl;
    })

pub keeps-delegate : (q : Queue) (p k : ℕ) (found : CoreCell)
    → Works q p (doing.Ticket k) k found state.Cancelling
    → Keeps q (move_queue q (move.delegate p k found)) 0
keeps-delegate q p k found works =
    let leaves : is_leaving k (owner_doing (set q.doing p doing.Idle) found) ≡ is_leaving k
    (owner_doing q.doing found) =
    owner_doing-frame (is_leaving k) q.doing p (doing.Ticket k) doing.Idle found works.does refl in
    let was : in_line q.doing k found ≡ waiting_of k found.owner (is_leaving k (owner_doing q.doing found)) =
    rw works.at refl in
    keeps-write q p (doing.Ticket k) doing.Idle k found (at_state found state.Delegated) 0
    (record { does = works.does; finds = works.finds; leaves = λ m other. refl; tickets = no-other-ticket k })
    (record {
      door = refl;
      line = was ∙ ap (waiting_of k found.owner) (sym leaves);
      served = rw works.at refl;
      ready = rw works.at refl;
      going = rw works.at refl;
      ending = rw works.at refl;
    })

pub keeps-pass_over : (q : Queue) (p k : ℕ) (found : CoreCell)
    → Works q p (doing.Ticket k) k found state.Cancelled
    → Keeps q (move_queue q (move.pass_over p k found)) 0
keeps-pass_over q p k found works =
    keeps-there q p (doing.Ticket k) doing.Owes k found 0
    (record { does = works.does; finds = works.finds; leaves = λ m other. refl; tickets = no-other-ticket k })
    (record {
      door = refl;
      line = rw works.at refl;
      served = refl;
      ready = refl;
      going = rw works.at refl;
      ending = rw works.at refl;
    })

-- the one resumption of a refused cell ends there
pub keeps-meet_refused-from : (q : Queue) (p k : ℕ) (found : CoreCell) → k < q.resumes → AreApart q.doing
    → Works q p (doing.Ticket k) k found state.Refused → Keeps q (move_queue q (move.meet_refused p k found)) 1
keeps-meet_refused-from q p k found drawn apart works =
    let after : List Doing = set q.doing p doing.Idle in
    let reached : nat_le q.resumes k ≡ false = lt-leb q.resumes k drawn in
    let was_open : has_ticket k q.doing ≡ true = has_ticket-from q.doing p k works.does in
    let closed : has_ticket k after ≡ false =
    has_ticket-closes q.doing p k doing.Idle apart works.does refl in
    let was_unmet : is_unmet q.resumes q.doing k found ≡ true = rw (works.at, reached) was_open in
    let is_met : is_unmet q.resumes after k found ≡ false = rw (works.at, reached) closed in
    let none_left : has_left found ≡ false = rw works.at refl in
    keeps-there q p (doing.Ticket k) doing.Idle k found 1
    (record { does = works.does; finds = works.finds; leaves = λ m other. refl; tickets = no-other-ticket k })
    (record {
      door = refl;
      line = rw works.at refl;
      served = refl;
      ready = refl;
      going = rw none_left refl;
      ending = rw (was_unmet, is_met) refl;
    })

pub keeps-meet_refused : (q : Queue) (p k : ℕ) (found : CoreCell) → IsSound q
    → Works q p (doing.Ticket k) k found state.Refused → Keeps q (move_queue q (move.meet_refused p k found)) 1
keeps-meet_refused q p k found sound works =
    let ticket : IsTicket q k = sound.passes.at p (doing.Ticket k) works.does in
    keeps-meet_refused-from q p k found ticket.reached sound.apart works

pub keeps-begin_cancel : (q : Queue) (p k : ℕ) (found : CoreCell) → Works q p doing.Idle k found state.Waiter
    → Owns p found
    → Keeps q (move_queue q (move.begin_cancel p k found)) 0
keeps-begin_cancel q p k found works owns =
    let new : CoreCell = at_state found state.Cancelling in
    let leaves : owner_doing (set q.doing p (doing.Leaving k)) new ≡ Some (doing.Leaving k) =
    owner_doing-here q.doing p doing.Idle (doing.Leaving k) new works.does owns.owner in
    let leaving : is_leaving k (owner_doing (set q.doing p (doing.Leaving k)) new) ≡ true =
    rw leaves (eq-eqb k k refl) in
    let was : in_line q.doing k found ≡ waiting_of k found.owner true = rw works.at refl in
    keeps-write q p doing.Idle (doing.Leaving k) k found new 0
    (record {
      does = works.does;
      finds = works.finds;
      leaves = λ m other. ne_eqb k m (λ e. other (sym e));
      tickets = λ m other. refl;
    })
    (record {
      door = refl;
      line = was ∙ ap (waiting_of k found.owner) (sym leaving);
      served = rw works.at refl;
      ready = rw works.at refl;
      going = rw works.at refl;
      ending = rw works.at refl;
    })

-- the pass that was told the answer owns the cell, and so the number is no longer in line
pub record Told (q : Queue) (p k : ℕ) (on : Bool) (found : CoreCell) : Type 0 where
  pub owner : found.owner ≡ Some p
  pub at : IsCancelling found.state
  pub gone : in_line q.doing k found ≡ None

pub stays-not : (k : ℕ) (s : CoreState) (o : Option Doing) → IsCancelling s → is_leaving k o ≡ false
    → stays_in_line k s o ≡ false
stays-not k state.Cancelling o at none = none
stays-not k state.Delegated o at none = none
stays-not k _ o at none = absurd at

pub told-from : (q : Queue) (p k : ℕ) (on : Bool) (found : CoreCell) → found.owner ≡ Some p → IsCancelling found.state
    → slice_get q.doing p ≡ Some (doing.Decided k on) → Told q p k on found
told-from q p k on found owner at does =
    let told : owner_doing q.doing found ≡ Some (doing.Decided k on) = rw owner does in
    let none : is_leaving k (owner_doing q.doing found) ≡ false = rw told refl in
    let stays : stays_in_line k found.state (owner_doing q.doing found) ≡ false =
    stays-not k found.state (owner_doing q.doing found) at none in
    let gone : in_line q.doing k found ≡ waiting_of k (Some p) false = ap₂ (waiting_of k) owner stays in
    record { owner = owner; at = at; gone = gone }

told-gone : (q : Queue) (p k : ℕ) (on : Bool) (found : CoreCell) → IsSound q
    → slice_get q.doing p ≡ Some (doing.Decided k on) → slice_get q.cells k ≡ Some found → Told q p k on found
told-gone q p k on found sound does finds =
    let own : IsOwn q p k IsCancelling = sound.passes.at p (doing.Decided k on) does in
    let own_found : slice_get q.cells k ≡ Some own.cell = own.found in
    let cell : own.cell ≡ found = cc in
    told-from q p k on found (subst (λ (c : CoreCell). c.owner ≡ Some p) cell own.owner)
    (subst (λ (c : CoreCell). IsCancelling c.state) cell own.at) does

-- what a settled cell becomes isn't in line
settled-gone : (passes : List Doing) (k p : ℕ) (cell : CoreCell) (s : CoreState) → cell.owner ≡ Some p
    → stays_in_line k s (owner_doing passes cell) ≡ false → in_line passes k (at_state cell s) ≡ None
settled-gone passes k p cell s owner stays = ap₂ (waiting_of k) owner stays

pub keeps-cancel-from : (q : Queue) (p k : ℕ) (found : CoreCell) → Told q p k true found
    → Works q p (doing.Decided k true) k found state.Cancelling → Keeps q (move_queue q (move.cancel p k found)) 0
keeps-cancel-from q p k found told works =
    keeps-write q p (doing.Decided k true) doing.Idle k found (at_state found state.Cancelled) 0
    (record { does = works.does; finds = works.finds; leaves = λ m other. refl; tickets = λ m other. refl })
    (record {
      door = refl;
      line =
          told.gone ∙ sym (settled-gone (set q.doing p doing.Idle) k p found state.Cancelled told.owner refl);
      served = rw works.at refl;
      ready = rw works.at refl;
      going = rw works.at refl;
      ending = rw works.at refl;
    })

pub keeps-cancel : (q : Queue) (p k : ℕ) (found : CoreCell) → IsSound q
    → Works q p (doing.Decided k true) k found state.Cancelling → Keeps q (move_queue q (move.cancel p k found)) 0
keeps-cancel q p k found sound works =
    keeps-cancel-from q p k found (told-gone q p k true found sound works.does works.finds) works

pub keeps-cancel_owing-from : (q : Queue) (p k : ℕ) (found : CoreCell) → Told q p k true found
    → Works q p (doing.Decided k true) k found state.Delegated
    → Keeps q (move_queue q (move.cancel_owing p k found)) 0
keeps-cancel_owing-from q p k found told works =
    keeps-write q p (doing.Decided k true) doing.Owes k found (at_state found state.Cancelled) 0
    (record { does = works.does; finds = works.finds; leaves = λ m other. refl; tickets = λ m other. refl })
    (record {
      door = refl;
      line =
          told.gone ∙ sym (settled-gone (set q.doing p doing.Owes) k p found state.Cancelled told.owner refl);
      served = rw works.at refl;
      ready = rw works.at refl;
      going = rw works.at refl;
      ending = rw works.at refl;
    })

pub keeps-cancel_owing : (q : Queue) (p k : ℕ) (found : CoreCell) → IsSound q
    → Works q p (doing.Decided k true) k found state.Delegated → Keeps q (move_queue q (move.cancel_owing p k found)) 0
keeps-cancel_owing q p k found sound works =
    keeps-cancel_owing-from q p k found (told-gone q p k true found sound works.does works.finds) works

-- no resume has met the cell, and the one that will ends there
pub keeps-refuse-from : (q : Queue) (p k : ℕ) (found : CoreCell) → Told q p k false found → IsAwaited q k
    → Works q p (doing.Decided k false) k found state.Cancelling → Keeps q (move_queue q (move.refuse p k found)) 0
keeps-refuse-from q p k found told waits works =
    let after : List Doing = set q.doing p doing.Idle in
    let ticket : has_ticket k after ≡ has_ticket k q.doing =
    has_ticket-frame q.doing p k (doing.Decided k false) doing.Idle works.does refl in
    let unmet : (nat_le q.resumes k || has_ticket k after) ≡ true =
    rw ticket (awaited waits (cases_lt k q.resumes)) in
    keeps-write q p (doing.Decided k false) doing.Idle k found (at_state found state.Refused) 0
    (record { does = works.does; finds = works.finds; leaves = λ m other. refl; tickets = λ m other. refl })
    (record {
      door = refl;
      line = told.gone ∙ sym (settled-gone after k p found state.Refused told.owner refl);
      served = rw works.at refl;
      ready = rw works.at refl;
      going = rw works.at refl;
      ending = rw (unmet, works.at) refl;
    })
  where
    awaited : (k < q.resumes → has_ticket k q.doing ≡ true) → (k < q.resumes) ⊎ (q.resumes ≤ k)
        → (nat_le q.resumes k || has_ticket k q.doing) ≡ true
    awaited waits (inl reached) = or_right (nat_le q.resumes k) (has_ticket k q.doing) (waits reached)
    awaited waits (inr beyond) = or_left (nat_le q.resumes k) (has_ticket k q.doing) (le-leb q.resumes k beyond)

pub keeps-refuse : (q : Queue) (p k : ℕ) (found : CoreCell) → IsSound q
    → Works q p (doing.Decided k false) k found state.Cancelling → Keeps q (move_queue q (move.refuse p k found)) 0
keeps-refuse q p k found sound works =
    let cell : IsSoundAt q k found state.Cancelling =
    subst (λ (s : CoreState). IsSoundAt q k found s) works.at (sound.cells.at k found works.finds) in
    keeps-refuse-from q p k found (told-gone q p k false found sound works.does works.finds) cell.1 works

-- a resume left its value to the canceller: it ends with the cell
pub keeps-refuse_left-from : (q : Queue) (p k : ℕ) (found : CoreCell) → Told q p k false found → k < q.resumes
    → has_ticket k q.doing ≡ false
    → Works q p (doing.Decided k false) k found state.Delegated → Keeps q (move_queue q (move.refuse p k found)) 1
keeps-refuse_left-from q p k found told reached closed works =
    let after : List Doing = set q.doing p doing.Idle in
    let ticket : has_ticket k after ≡ has_ticket k q.doing =
    has_ticket-frame q.doing p k (doing.Decided k false) doing.Idle works.does refl in
    let met : (nat_le q.resumes k || has_ticket k after) ≡ false =
    or_from (nat_le q.resumes k) (has_ticket k after) (lt-leb q.resumes k reached) (ticket ∙ closed) in
    keeps-write q p (doing.Decided k false) doing.Idle k found (at_state found state.Refused) 1
    (record { does = works.does; finds = works.finds; leaves = λ m other. refl; tickets = λ m other. refl })
    (record {
      door = refl;
      line = told.gone ∙ sym (settled-gone after k p found state.Refused told.owner refl);
      served = rw works.at refl;
      ready = rw works.at refl;
      going = rw works.at refl;
      ending = rw (met, works.at) refl;
    })

pub keeps-refuse_left : (q : Queue) (p k : ℕ) (found : CoreCell) → IsSound q
    → Works q p (doing.Decided k false) k found state.Delegated → Keeps q (move_queue q (move.refuse p k found)) 1
keeps-refuse_left q p k found sound works =
    let cell : IsSoundAt q k found state.Delegated =
    subst (λ (s : CoreState). IsSoundAt q k found s) works.at (sound.cells.at k found works.finds) in
    keeps-refuse_left-from q p k found (told-gone q p k false found sound works.does works.finds) cell.1
    (has_ticket-none q.doing k none) works
  where
    none : (r : ℕ) → slice_get q.doing r ≢ Some (doing.Ticket k)
    none r has =
        let ticket : IsTicket q k = sound.passes.at r (doing.Ticket k) has in
        let ticket_found : slice_get q.cells k ≡ Some ticket.cell = ticket.found in
        let finds = works.finds in
        let cell : ticket.cell ≡ found = cc in
        let unended : IsUnended state.Delegated =
        subst (λ (s : CoreState). IsUnended s) (ap (λ (c : CoreCell). c.state) cell ∙ works.at) ticket.unended
        in
        absurd unended
