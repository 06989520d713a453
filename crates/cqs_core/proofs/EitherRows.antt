-- The steps that every core makes keep it, whether it is synchronous or not; but for the draw to suspend at.
use Rattle.std.proofs.Common.{◌≡◌, ◌≢◌, ℕ, ◌+◌, ◌-◌, ◌<◌, ◌≤◌, ℤ, pos, ◌≤ℤ◌, ◌<ℤ◌, ◌+ℤ◌, ◌-ℤ◌, Bool, true, false, List, Some, length, set, sum, slice_get, slice_index, nat_lt, if◌then◌else◌, le-ltb, lt-ltb, refl, sym, ap, ap₂, ◌∙◌, subst, arith}
use Rattle.std.proofs.lemmas.List.{length-set}
use Rattle.cqs_core.specs.declared.cells.CoreCell.{CoreCell}
use Rattle.cqs_core.specs.declared.cells.CoreState.{CoreState}
use Rattle.cqs_core.specs.declared.cells.CoreState.TheVariants as state
use Rattle.cqs_core.specs.declared.doings.Doing.{Doing}
use Rattle.cqs_core.specs.declared.doings.Doing.TheVariants as doing
use Rattle.cqs_core.specs.declared.entries.Entry.TheVariants as entry
use Rattle.cqs_core.specs.Keyed.{without}
use Rattle.cqs_core.specs.QueueState.{Queue, has_ticket}
use Rattle.cqs_core.specs.QueueWaiters.{due_of}
use Rattle.cqs_core.specs.QueueMoves as move
use Rattle.cqs_core.specs.QueueMoves.{Move, IsCancelling, Works, Owns, move_queue}
use Rattle.cqs_core.specs.QueueLine as queue
use Rattle.cqs_core.specs.QueueLine.{in_line, door, line, going, ending, way, ready}
use Rattle.cqs_core.specs.QueueSound.{IsSound, IsSoundAt, IsOwn, IsAwaited, IsTicket, IsUnended}
use Rattle.cqs_core.specs.QueueAsUnbroken.{as_unbroken, unbroken_cell}
use Rattle.cqs_core.specs.SemaphoreObject.{Semaphore, due}
use Rattle.cqs_core.specs.SemaphoreEntries.{after_entry, turned_back}
use Rattle.cqs_core.specs.SemaphoreTable.{Shape, gains, loses, adds, takes, records, moves, lowest, last_number}
use Rattle.cqs_core.specs.SemaphoreShown.{free_of, short_of}
use Rattle.cqs_core.specs.SemaphoreCores.{IsEitherCore, shown_by_either, early}
use Rattle.cqs_core.proofs.EitherFrame.{WordsFit, TellsShort, seen, core-push}
use Rattle.cqs_core.proofs.EitherSteps.{holds-there, door-covers, after-move, moved-push, moved-quiet, delivered-core, closed-core}
use Rattle.cqs_core.proofs.UnbrokenMoves.{spoiled-moved, ticket-reached, apart-back, leaving-own, decided-own, drawn-owner, cell-sound, does-read, finds-read}
use Rattle.cqs_core.proofs.QueueAsUnbroken.{ahead, sync-within, has_ticket-unwatching}
use Rattle.cqs_core.proofs.CoreFrame.{Conserves, same-by_waiters, loaded-turn}
use Rattle.cqs_core.proofs.CoreSteps.{gains-sum, loses-sum, held-within, with_permits}
use Rattle.cqs_core.proofs.DeliveryMoves.{closes-collect, serve-ready-from, take_value-ready}
use Rattle.cqs_core.proofs.DrawMoves.{keeps-reach}
use Rattle.cqs_core.proofs.HiddenMoves.{Told, told-from, keeps-same, keeps-turn, keeps-install, keeps-leave_value, keeps-delegate, keeps-pass_over, keeps-meet_refused-from, keeps-begin_cancel, keeps-cancel-from, keeps-cancel_owing-from, keeps-refuse-from, keeps-refuse_left-from}
use Rattle.cqs_core.proofs.LineMoves.{turn-door, turn-owes, decide-leaves-from}
use Rattle.cqs_core.proofs.LineReads.{wait_of}
use Rattle.cqs_core.proofs.Picked.{picked-in}
use Rattle.cqs_core.proofs.QueueServes.{waiting, serve-owner, serves-take_value-from}
use Rattle.cqs_core.proofs.StateWord.{free-above, short-above, free-below, short-below, take-free, take-free_short, take-short, take-short_free, take-range, above-within, lowest-below, add-short, add-short_free, add-free, add-free_short, add-range, below-within}
use Rattle.cqs_core.proofs.Tickets.{has_ticket-none}

-- Take, a permit is free
pub take-now : (s : Shape) (p : ℕ) → IsEitherCore s → slice_get s.queue.doing p ≡ Some doing.Idle
    → lowest <ℤ s.state → pos 0 <ℤ s.state → IsEitherCore (records (gains (takes s) p) (entry.TakeNow p))
take-now s p core does above free =
    let z : ℤ = s.state -ℤ pos 1 in
    let held : List ℕ = set s.held p (slice_index s.held p + 1) in
    let there : p < length s.held = holds-there s p doing.Idle core does in
    let one_fewer : free_of z + 1 ≡ free_of s.state = take-free s.state free in
    let one_more : sum held ≡ sum s.held + 1 = gains-sum s.held p there in
    let words : WordsFit s s.queue z held = record {
      state = take-range s.state above;
      suspends = core.range.suspends;
      resumes = core.range.resumes;
      loaded = core.loaded;
      holders = length-set s.held p (slice_index s.held p + 1);
    } in
    moved-push s move.stay z held (entry.TakeNow p) core tt tt tt (keeps-same s.queue) words
    (take-free_short s.state free ∙ sym (short-above s.state (above-within s.state free)))
    (omega arith)
    (free-above s.state free)
    (ap₂ (with_permits (shown_by_either s)) (omega arith) (omega arith))

-- Take, none is free
pub take-door : (s : Shape) (p : ℕ) → IsEitherCore s → slice_get s.queue.doing p ≡ Some doing.Idle
    → lowest <ℤ s.state → s.state ≤ℤ pos 0
    → IsEitherCore (records (moves (takes s) (move.turn p doing.Idle doing.Door)) (entry.TakeDoor p))
take-door s p core does above none =
    let m : Move = move.turn p doing.Idle doing.Door in
    let z : ℤ = s.state -ℤ pos 1 in
    let comes = turn-door s.queue p does in
    let not_free : free_of s.state ≡ 0 = free-below s.state none in
    let not_free_after : free_of z ≡ 0 = take-short_free s.state none in
    let one_shorter : short_of z ≡ short_of s.state + 1 = take-short s.state none in
    let words : WordsFit s (move_queue s.queue m) z s.held = record {
      state = take-range s.state above;
      suspends = core.range.suspends;
      resumes = core.range.resumes;
      loaded = loaded-turn s.queue.doing p doing.Idle doing.Door does tt core.loaded;
      holders = refl;
    } in
    let short : TellsShort z (move_queue s.queue m) =
    omega (arith, comes.due, comes.going, comes.ending, core.short) in
    let conserved : Conserves s.permits z s.held (move_queue s.queue m) =
    omega (arith, comes.going, comes.ending, core.conserved) in
    let ways : way s.queue ≡ way (move_queue s.queue m) = omega (arith, comes.going, comes.ending) in
    let shows : after_entry (shown_by_either s) (entry.TakeDoor p) ≡ seen z s.held (move_queue s.queue m) =
    same-by_waiters (not_free ∙ sym not_free_after) ways (sym comes.waiters) refl refl in
    core-push s (move_queue s.queue m) z s.held (entry.TakeDoor p) core (after-move s m core (does, tt, tt) tt) words
    short conserved not_free shows

-- TryLoad, none is free
pub try-busy : (s : Shape) (p : ℕ) → IsEitherCore s → s.state ≤ℤ pos 0 → IsEitherCore (records s (entry.TryBusy p))
try-busy s p core none =
    moved-push s move.stay s.state s.held (entry.TryBusy p) core tt tt tt (keeps-same s.queue)
    (record {
      state = core.range.state;
      suspends = core.range.suspends;
      resumes = core.range.resumes;
      loaded = core.loaded;
      holders = refl;
    })
    refl refl (free-below s.state none) refl

-- TryLoad, a permit is free
pub try-loaded : (s : Shape) (p : ℕ) → IsEitherCore s → slice_get s.queue.doing p ≡ Some doing.Idle → pos 0 <ℤ s.state
    → IsEitherCore (moves s (move.turn p doing.Idle (doing.TryAt s.state)))
try-loaded s p core does free =
    moved-quiet s (move.turn p doing.Idle (doing.TryAt s.state)) core (does, tt, tt) tt tt
    (keeps-turn s.queue p doing.Idle (doing.TryAt s.state) does refl (λ m. refl) (λ m. refl) refl refl)
    core.range.resumes
    (loaded-turn s.queue.doing p doing.Idle (doing.TryAt s.state) does free core.loaded)

-- TrySwap, the state is the one that was loaded
pub try-got : (s : Shape) (p : ℕ) (v : ℤ) → IsEitherCore s → slice_get s.queue.doing p ≡ Some (doing.TryAt v)
    → s.state ≡ v
    → IsEitherCore (records (gains (moves (takes s) (move.turn p (doing.TryAt v) doing.Idle)) p) (entry.TryGot p))
try-got s p v core does same =
    let m : Move = move.turn p (doing.TryAt v) doing.Idle in
    let z : ℤ = s.state -ℤ pos 1 in
    let held : List ℕ = set s.held p (slice_index s.held p + 1) in
    let there : p < length s.held = holds-there s p (doing.TryAt v) core does in
    let loaded : pos 0 <ℤ v = core.loaded.at p (doing.TryAt v) does in
    let free : pos 0 <ℤ s.state = rw same loaded in
    let one_fewer : free_of z + 1 ≡ free_of s.state = take-free s.state free in
    let one_more : sum held ≡ sum s.held + 1 = gains-sum s.held p there in
    let words : WordsFit s (move_queue s.queue m) z held = record {
      state = take-range s.state (lowest-below s.state free);
      suspends = core.range.suspends;
      resumes = core.range.resumes;
      loaded = loaded-turn s.queue.doing p (doing.TryAt v) doing.Idle does tt core.loaded;
      holders = length-set s.held p (slice_index s.held p + 1);
    } in
    moved-push s m z held (entry.TryGot p) core (does, tt, tt) tt tt
    (keeps-turn s.queue p (doing.TryAt v) doing.Idle does refl (λ k. refl) (λ k. refl) refl refl) words
    (take-free_short s.state free ∙ sym (short-above s.state (above-within s.state free)))
    (omega arith)
    (free-above s.state free)
    (ap₂ (with_permits (shown_by_either s)) (omega arith) (omega arith))

-- TrySwap, the state has changed
pub try-contended : (s : Shape) (p : ℕ) (v : ℤ) → IsEitherCore s → slice_get s.queue.doing p ≡ Some (doing.TryAt v)
    → IsEitherCore (moves s (move.turn p (doing.TryAt v) doing.Idle))
try-contended s p v core does =
    moved-quiet s (move.turn p (doing.TryAt v) doing.Idle) core (does, tt, tt) tt tt
    (keeps-turn s.queue p (doing.TryAt v) doing.Idle does refl (λ m. refl) (λ m. refl) refl refl)
    core.range.resumes
    (loaded-turn s.queue.doing p (doing.TryAt v) doing.Idle does tt core.loaded)

-- Install, the cell is Empty
pub install-waiter : (s : Shape) (p k : ℕ) (found : CoreCell) → IsEitherCore s
    → Works s.queue p (doing.Drawn k) k found state.Empty → IsEitherCore (moves s (move.install p k found))
install-waiter s p k found core works =
    moved-quiet s (move.install p k found) core works tt tt (keeps-install s.queue p k found works)
    core.range.resumes
    (loaded-turn s.queue.doing p (doing.Drawn k) doing.Idle works.does tt core.loaded)

-- Install, the cell has a value
pub install-took : (s : Shape) (p k : ℕ) (found : CoreCell) → IsEitherCore s
    → Works s.queue p (doing.Drawn k) k found state.Value
    → IsEitherCore (records (gains (moves s (move.take_value p k found)) p) (entry.Deliver k))
install-took s p k found core works =
    let m : Move = move.take_value p k found in
    let there : p < length s.held = holds-there s p (doing.Drawn k) core works.does in
    let one_more = gains-sum s.held p there in
    let no_look = take_value-ready s.queue p k found works in
    let cell : IsSoundAt (as_unbroken s.queue) k (unbroken_cell found) state.Value =
    cell-sound s.queue core.sound k found state.Value works.finds (rw works.at refl) in
    let serves = serves-take_value-from s.queue p k found
    (drawn-owner s.queue core.sound p k found works.does works.finds) cell.1 works in
    delivered-core s (move_queue s.queue m) (set s.held p (slice_index s.held p + 1)) k p core
    (after-move s m core works tt) serves (spoiled-moved s.queue m works tt) core.range.resumes
    (loaded-turn s.queue.doing p (doing.Drawn k) doing.Idle works.does tt core.loaded)
    (length-set s.held p (slice_index s.held p + 1))
    (omega arith)

-- a pass that holds a permit shows that one is held
some-held : (s : Shape) (p : ℕ) → p < length s.held → 0 < slice_index s.held p → 0 < sum s.held + ready s.queue
some-held s p there holds = let within = held-within s.held p there in omega arith

-- Give, somebody must be resumed
pub give-sent : (s : Shape) (p : ℕ) → IsEitherCore s → slice_get s.queue.doing p ≡ Some doing.Idle
    → 0 < slice_index s.held p → s.state <ℤ pos 0
    → IsEitherCore (records (moves (loses (adds s) p) (move.turn p doing.Idle doing.Owes)) (entry.GiveSent p))
give-sent s p core does holds below =
    let m : Move = move.turn p doing.Idle doing.Owes in
    let z : ℤ = s.state +ℤ pos 1 in
    let held : List ℕ = set s.held p (slice_index s.held p - 1) in
    let there : p < length s.held = holds-there s p doing.Idle core does in
    let one_fewer : sum held + 1 ≡ sum s.held = loses-sum s.held p there holds in
    let within : ending s.queue ≤ going s.queue = sync-within s.queue core.sound core.covered in
    let begins = turn-owes s.queue p does in
    let as_due : queue.due (move_queue s.queue m) ≡ queue.due s.queue = ap due_of begins.waiters in
    let none_free : free_of s.state ≡ 0 = free-below s.state (below-within s.state below) in
    let none_free_after : free_of z ≡ 0 = add-short_free s.state below in
    let some_short : 0 < short_of s.state = short-below s.state below in
    let less_short : short_of z + 1 ≡ short_of s.state = add-short s.state below in
    let words : WordsFit s (move_queue s.queue m) z held = record {
      state = add-range s.state core.range.state;
      suspends = core.range.suspends;
      resumes = core.range.resumes;
      loaded = loaded-turn s.queue.doing p doing.Idle doing.Owes does tt core.loaded;
      holders = length-set s.held p (slice_index s.held p - 1);
    } in
    let short : TellsShort z (move_queue s.queue m) = omega (arith, begins.going, begins.ending, core.short) in
    let conserved : Conserves s.permits z held (move_queue s.queue m) =
    omega (arith, begins.going, begins.ending, core.conserved) in
    let too_few : way s.queue < queue.due s.queue - early s.queue = omega (arith, core.short) in
    let one_more_way : way s.queue + 1 ≡ way (move_queue s.queue m) = omega (arith, begins.going, begins.ending) in
    let shows : after_entry (shown_by_either s) (entry.GiveSent p) ≡ seen z held (move_queue s.queue m) =
    same-by_waiters (none_free ∙ sym none_free_after) one_more_way (sym begins.waiters) (omega arith) refl in
    core-push s (move_queue s.queue m) z held (entry.GiveSent p) core (after-move s m core (does, tt, tt) tt) words
    short
    conserved
    (some-held s p there holds, omega (arith, too_few)) shows

-- Give, nobody must be resumed
pub give-freed : (s : Shape) (p : ℕ) → IsEitherCore s → slice_get s.queue.doing p ≡ Some doing.Idle
    → 0 < slice_index s.held p → pos 0 ≤ℤ s.state
    → IsEitherCore (records (loses (adds s) p) (entry.GiveFreed p))
give-freed s p core does holds above =
    let z : ℤ = s.state +ℤ pos 1 in
    let held : List ℕ = set s.held p (slice_index s.held p - 1) in
    let there : p < length s.held = holds-there s p doing.Idle core does in
    let one_fewer : sum held + 1 ≡ sum s.held = loses-sum s.held p there holds in
    let one_free : free_of z ≡ free_of s.state + 1 = add-free s.state above in
    let none_short : short_of s.state ≡ 0 = short-above s.state above in
    let within : ending s.queue ≤ going s.queue = sync-within s.queue core.sound core.covered in
    let as_many : way s.queue ≡ queue.due s.queue - early s.queue = omega (arith, core.short) in
    let words : WordsFit s s.queue z held = record {
      state = add-range s.state core.range.state;
      suspends = core.range.suspends;
      resumes = core.range.resumes;
      loaded = core.loaded;
      holders = length-set s.held p (slice_index s.held p - 1);
    } in
    moved-push s move.stay z held (entry.GiveFreed p) core tt tt tt (keeps-same s.queue) words
    (add-free_short s.state above ∙ sym none_short)
    (omega arith)
    (some-held s p there holds, omega (arith, as_many))
    (ap₂ (with_permits (shown_by_either s)) (sym one_free) (omega arith))

-- Reach
pub reach-number : (s : Shape) (p : ℕ) → IsEitherCore s → slice_get s.queue.doing p ≡ Some doing.Owes
    → s.queue.resumes < last_number
    → IsEitherCore (moves s (move.reach p s.queue.resumes (slice_get s.queue.cells s.queue.resumes)))
reach-number s p core does below =
    let k : ℕ = s.queue.resumes in
    moved-quiet s (move.reach p k (slice_get s.queue.cells k)) core (does, refl, refl) tt tt
    (keeps-reach s.queue p (slice_get s.queue.cells k) does)
    (omega arith)
    (loaded-turn s.queue.doing p doing.Owes (doing.Ticket k) does tt core.loaded)

-- Meet, a waiter
pub meet-waiter : (s : Shape) (p k : ℕ) (found : CoreCell) → IsEitherCore s
    → Works s.queue p (doing.Ticket k) k found state.Waiter
    → IsEitherCore (records (moves s (move.serve p k found)) (entry.Deliver k))
meet-waiter s p k found core works =
    let m : Move = move.serve p k found in
    let cell : IsSoundAt (as_unbroken s.queue) k (unbroken_cell found) state.Waiter =
    cell-sound s.queue core.sound k found state.Waiter works.finds (rw works.at refl) in
    let serves = serve-owner s.queue p k cell.0.pass found (ticket-reached s.queue core.sound p k works.does) works
    cell.0.owner cell.2 in
    let one_ready = serve-ready-from s.queue p k found cell.2 works in
    delivered-core s (move_queue s.queue m) s.held k cell.0.pass core (after-move s m core works tt) serves
    (spoiled-moved s.queue m works tt) core.range.resumes
    (loaded-turn s.queue.doing p (doing.Ticket k) doing.Idle works.does tt core.loaded)
    refl
    (omega arith)

-- Meet, an Empty cell
pub meet-empty : (s : Shape) (p k : ℕ) (found : CoreCell) → IsEitherCore s
    → Works s.queue p (doing.Ticket k) k found state.Empty → IsEitherCore (moves s (move.leave_value p k found))
meet-empty s p k found core works =
    moved-quiet s (move.leave_value p k found) core works tt tt (keeps-leave_value s.queue p k found works)
    core.range.resumes
    (loaded-turn s.queue.doing p (doing.Ticket k) doing.Idle works.does tt core.loaded)

-- Meet, a cell that is being cancelled
pub meet-cancelling : (s : Shape) (p k : ℕ) (found : CoreCell) → IsEitherCore s
    → Works s.queue p (doing.Ticket k) k found state.Cancelling → IsEitherCore (moves s (move.delegate p k found))
meet-cancelling s p k found core works =
    moved-quiet s (move.delegate p k found) core works tt tt (keeps-delegate s.queue p k found works)
    core.range.resumes
    (loaded-turn s.queue.doing p (doing.Ticket k) doing.Idle works.does tt core.loaded)

-- Meet, a cell that was cancelled
pub meet-cancelled : (s : Shape) (p k : ℕ) (found : CoreCell) → IsEitherCore s
    → Works s.queue p (doing.Ticket k) k found state.Cancelled → IsEitherCore (moves s (move.pass_over p k found))
meet-cancelled s p k found core works =
    moved-quiet s (move.pass_over p k found) core works tt tt (keeps-pass_over s.queue p k found works)
    core.range.resumes
    (loaded-turn s.queue.doing p (doing.Ticket k) doing.Owes works.does tt core.loaded)

-- Meet, a cell that was refused
pub meet-refused : (s : Shape) (p k : ℕ) (found : CoreCell) → IsEitherCore s
    → Works s.queue p (doing.Ticket k) k found state.Refused → IsEitherCore (moves s (move.meet_refused p k found))
meet-refused s p k found core works =
    moved-quiet s (move.meet_refused p k found) core works tt tt
    (keeps-meet_refused-from s.queue p k found (ticket-reached s.queue core.sound p k works.does)
    (apart-back s.queue core.sound) works) core.range.resumes
    (loaded-turn s.queue.doing p (doing.Ticket k) doing.Idle works.does tt core.loaded)

-- a cell in which a resumption left its value has no ticket
no-ticket : (q : Queue) → IsSound (as_unbroken q) → (k : ℕ) (found : CoreCell) → slice_get q.cells k ≡ Some found
    → found.state ≡ state.Delegated → has_ticket k q.doing ≡ false
no-ticket q sound k found finds at = has_ticket-none q.doing k none
  where
    none : (r : ℕ) → slice_get q.doing r ≢ Some (doing.Ticket k)
    none r has =
        let ticket : IsTicket (as_unbroken q) k =
        sound.passes.at r (doing.Ticket k) (does-read q r (doing.Ticket k) has) in
        let ticket_found : slice_get (as_unbroken q).cells k ≡ Some ticket.cell = ticket.found in
        let finds_v : slice_get (as_unbroken q).cells k ≡ Some (unbroken_cell found) = finds-read q k found finds in
        let cell : ticket.cell ≡ unbroken_cell found = cc in
        let reads : (unbroken_cell found).state ≡ state.Delegated = rw at refl in
        let unended : IsUnended state.Delegated =
        subst (λ (s : CoreState). IsUnended s) (ap (λ (c : CoreCell). c.state) cell ∙ reads) ticket.unended in
        absurd unended

-- the pass that was told the answer owns the cell
told-either : (s : Shape) (p k : ℕ) (on : Bool) (found : CoreCell) → IsEitherCore s
    → slice_get s.queue.doing p ≡ Some (doing.Decided k on) → slice_get s.queue.cells k ≡ Some found
    → Told s.queue p k on found
told-either s p k on found core does finds =
    let own : IsOwn s.queue p k IsCancelling = decided-own s.queue core.sound p k on does in
    let own_found : slice_get s.queue.cells k ≡ Some own.cell = own.found in
    let cell : own.cell ≡ found = cc in
    told-from s.queue p k on found (subst (λ (c : CoreCell). c.owner ≡ Some p) cell own.owner)
    (subst (λ (c : CoreCell). IsCancelling c.state) cell own.at) does

-- the one resumption of a cell that is being cancelled is still to come, or still has its ticket
awaited : (s : Shape) (k : ℕ) (found : CoreCell) → IsEitherCore s → {p : ℕ} {d : Doing}
    → Works s.queue p d k found state.Cancelling → IsAwaited s.queue k
awaited s k found core works =
    let cell : IsSoundAt (as_unbroken s.queue) k (unbroken_cell found) state.Cancelling =
    cell-sound s.queue core.sound k found state.Cancelling works.finds (rw works.at refl) in
    λ reached. sym (has_ticket-unwatching k s.queue.doing) ∙ cell.1 reached

-- Leave, the wait stands
pub leave-waiter : (s : Shape) (p k : ℕ) (found : CoreCell) → IsEitherCore s
    → Works s.queue p doing.Idle k found state.Waiter → Owns p found
    → IsEitherCore (moves s (move.begin_cancel p k found))
leave-waiter s p k found core works owns =
    moved-quiet s (move.begin_cancel p k found) core (works, owns) tt tt
    (keeps-begin_cancel s.queue p k found works owns)
    core.range.resumes (loaded-turn s.queue.doing p doing.Idle (doing.Leaving k) works.does tt core.loaded)

-- Leave, the wait was served before
pub leave-late : (s : Shape) (p k : ℕ) (found : CoreCell) → IsEitherCore s
    → Works s.queue p doing.Idle k found state.Resumed → Owns p found
    → IsEitherCore (records (gains (moves s (move.collect p k found)) p) (entry.Late p k))
leave-late s p k found core works owns =
    let there : p < length s.held = holds-there s p doing.Idle core works.does in
    let closes = closes-collect s.queue p k found works owns in
    closed-core s (move_queue s.queue (move.collect p k found)) (set s.held p (slice_index s.held p + 1))
    (entry.Late p k) k p core (after-move s (move.collect p k found) core (works, owns) tt)
    closes (spoiled-moved s.queue (move.collect p k found) (works, owns) tt) core.range.resumes core.loaded
    (length-set s.held p (slice_index s.held p + 1))
    (gains-sum s.held p there)
    closes.served_open refl

-- Settle, resumes pass over the cell
pub settle-cancelled : (s : Shape) (p k : ℕ) (found : CoreCell) → IsEitherCore s
    → Works s.queue p (doing.Decided k true) k found state.Cancelling → IsEitherCore (moves s (move.cancel p k found))
settle-cancelled s p k found core works =
    moved-quiet s (move.cancel p k found) core works tt tt
    (keeps-cancel-from s.queue p k found (told-either s p k true found core works.does works.finds) works)
    core.range.resumes
    (loaded-turn s.queue.doing p (doing.Decided k true) doing.Idle works.does tt core.loaded)

-- Settle, a value was left to the canceller
pub settle-owing : (s : Shape) (p k : ℕ) (found : CoreCell) → IsEitherCore s
    → Works s.queue p (doing.Decided k true) k found state.Delegated
    → IsEitherCore (moves s (move.cancel_owing p k found))
settle-owing s p k found core works =
    moved-quiet s (move.cancel_owing p k found) core works tt tt
    (keeps-cancel_owing-from s.queue p k found (told-either s p k true found core works.does works.finds) works)
    core.range.resumes
    (loaded-turn s.queue.doing p (doing.Decided k true) doing.Owes works.does tt core.loaded)

-- Settle, the cell is refused and no resume has met it
pub settle-refused : (s : Shape) (p k : ℕ) (found : CoreCell) → IsEitherCore s
    → Works s.queue p (doing.Decided k false) k found state.Cancelling
    → IsEitherCore (moves s (move.refuse p k found))
settle-refused s p k found core works =
    let cancelling : IsCancelling found.state = rw works.at tt in
    moved-quiet s (move.refuse p k found) core (works.does, works.finds, cancelling) tt tt
    (keeps-refuse-from s.queue p k found (told-either s p k false found core works.does works.finds)
    (awaited s k found core works) works)
    core.range.resumes
    (loaded-turn s.queue.doing p (doing.Decided k false) doing.Idle works.does tt core.loaded)

-- Settle, the cell is refused and ends the resumption that left its value there
pub settle-ended : (s : Shape) (p k : ℕ) (found : CoreCell) → IsEitherCore s
    → Works s.queue p (doing.Decided k false) k found state.Delegated → IsEitherCore (moves s (move.refuse p k found))
settle-ended s p k found core works =
    let cancelling : IsCancelling found.state = rw works.at tt in
    let cell : IsSoundAt (as_unbroken s.queue) k (unbroken_cell found) state.Delegated =
    cell-sound s.queue core.sound k found state.Delegated works.finds (rw works.at refl) in
    moved-quiet s (move.refuse p k found) core (works.does, works.finds, cancelling) tt tt
    (keeps-refuse_left-from s.queue p k found (told-either s p k false found core works.does works.finds) cell.1
    (no-ticket s.queue core.sound k found works.finds works.at) works)
    core.range.resumes
    (loaded-turn s.queue.doing p (doing.Decided k false) doing.Idle works.does tt core.loaded)

-- the semaphore without this wait in its line
abbrev without_wait : Semaphore → ℕ → Semaphore
without_wait o k = record o { line = without wait_of k o.line }

-- a permit on its way is free again
abbrev one_back : Semaphore → Semaphore
one_back o = record o { way = o.way - 1; free = o.free + 1 }

none-turned : (o : Semaphore) → nat_lt (due o) o.way ≡ false → turned_back o ≡ o
none-turned o stays = ap (λ b. if b then one_back o else o) stays

one-turned : (o : Semaphore) → nat_lt (due o) o.way ≡ true → turned_back o ≡ one_back o
one-turned o turns = ap (λ b. if b then one_back o else o) turns

-- what the answer writes
decide-words : (s : Shape) (p k : ℕ) (on : Bool) → IsEitherCore s → slice_get s.queue.doing p ≡ Some (doing.Leaving k)
    → WordsFit s (move_queue s.queue (move.decide p k on)) (s.state +ℤ pos 1) s.held
decide-words s p k on core does = record {
  state = add-range s.state core.range.state;
  suspends = core.range.suspends;
  resumes = core.range.resumes;
  loaded = loaded-turn s.queue.doing p (doing.Leaving k) (doing.Decided k on) does tt core.loaded;
  holders = refl;
}

-- Decide, fewer are on their way than must be resumed
pub decide-passes : (s : Shape) (p k : ℕ) → IsEitherCore s → slice_get s.queue.doing p ≡ Some (doing.Leaving k)
    → s.state <ℤ pos 0 → IsEitherCore (records (moves (adds s) (move.decide p k true)) (entry.Leave p k))
decide-passes s p k core does below =
    let m : Move = move.decide p k true in
    let z : ℤ = s.state +ℤ pos 1 in
    let leaves = decide-leaves-from s.queue p k true (leaving-own s.queue core.sound p k does) does in
    let within : ending s.queue ≤ going s.queue = sync-within s.queue core.sound core.covered in
    let fewer : queue.due (move_queue s.queue m) - early s.queue ≡ due (without_wait (shown_by_either s) k) =
    omega (arith, ap due_of leaves.waiters) in
    let none_free : free_of s.state ≡ 0 = free-below s.state (below-within s.state below) in
    let none_free_after : free_of z ≡ 0 = add-short_free s.state below in
    let some_short : 0 < short_of s.state = short-below s.state below in
    let less_short : short_of z + 1 ≡ short_of s.state = add-short s.state below in
    let short : TellsShort z (move_queue s.queue m) =
    omega (arith, leaves.due, leaves.going, leaves.ending, core.short) in
    let conserved : Conserves s.permits z s.held (move_queue s.queue m) =
    omega (arith, leaves.going, leaves.ending, core.conserved) in
    let enough : way s.queue ≤ due (without_wait (shown_by_either s) k) = omega (arith, leaves.due, core.short) in
    let ways : way s.queue ≡ way (move_queue s.queue m) = omega (arith, leaves.going, leaves.ending) in
    let stays : after_entry (shown_by_either s) (entry.Leave p k) ≡ without_wait (shown_by_either s) k =
    none-turned (without_wait (shown_by_either s) k)
    (le-ltb (due (without_wait (shown_by_either s) k)) (way s.queue) enough) in
    let shows : without_wait (shown_by_either s) k ≡ seen z s.held (move_queue s.queue m) =
    same-by_waiters (none_free ∙ sym none_free_after) ways (sym leaves.waiters) refl refl in
    core-push s (move_queue s.queue m) z s.held (entry.Leave p k) core (after-move s m core does tt)
    (decide-words s p k true core does) short conserved
    leaves.waits (stays ∙ shows)

-- Decide, as many are on their way as must be resumed
pub decide-refuses : (s : Shape) (p k : ℕ) → IsEitherCore s → slice_get s.queue.doing p ≡ Some (doing.Leaving k)
    → pos 0 ≤ℤ s.state → IsEitherCore (records (moves (adds s) (move.decide p k false)) (entry.Leave p k))
decide-refuses s p k core does above =
    let m : Move = move.decide p k false in
    let z : ℤ = s.state +ℤ pos 1 in
    let leaves = decide-leaves-from s.queue p k false (leaving-own s.queue core.sound p k does) does in
    let none_short : short_of s.state ≡ 0 = short-above s.state above in
    let none_short_after : short_of z ≡ 0 = add-free_short s.state above in
    let one_free : free_of z ≡ free_of s.state + 1 = add-free s.state above in
    let within : ending s.queue ≤ going s.queue = sync-within s.queue core.sound core.covered in
    let as_many : going s.queue + early s.queue ≡ queue.due s.queue + ending s.queue = omega (arith, core.short) in
    let fewer : queue.due (move_queue s.queue m) - early s.queue ≡ due (without_wait (shown_by_either s) k) =
    omega (arith, ap due_of leaves.waiters) in
    let short : TellsShort z (move_queue s.queue m) = omega (arith, leaves.due, leaves.going, leaves.ending) in
    let conserved : Conserves s.permits z s.held (move_queue s.queue m) =
    omega (arith, leaves.going, leaves.ending, core.conserved) in
    let doors : early s.queue + ahead s.queue ≤ length (door s.queue) =
    door-covers s.queue (short_of s.state) core.sound core.short in
    let same_doors : length (door (move_queue s.queue m)) ≡ length (door s.queue) =
    ap (λ w. length w.door) leaves.waiters in
    let enough : early s.queue ≤ queue.due (move_queue s.queue m) = omega (arith, doors, same_doors) in
    let too_many : due (without_wait (shown_by_either s) k) < way s.queue =
    omega (arith, leaves.due, fewer, enough, as_many) in
    let ways : way s.queue - 1 ≡ way (move_queue s.queue m) = omega (arith, leaves.going, leaves.ending) in
    let turns : after_entry (shown_by_either s) (entry.Leave p k) ≡ one_back (without_wait (shown_by_either s) k) =
    one-turned (without_wait (shown_by_either s) k)
    (lt-ltb (due (without_wait (shown_by_either s) k)) (way s.queue) too_many) in
    let shows : one_back (without_wait (shown_by_either s) k) ≡ seen z s.held (move_queue s.queue m) =
    same-by_waiters (sym one_free) ways (sym leaves.waiters) refl refl in
    core-push s (move_queue s.queue m) z s.held (entry.Leave p k) core (after-move s m core does as_many)
    (decide-words s p k false core does) short conserved leaves.waits (turns ∙ shows)

-- Look, the wait stands
pub look-pending : (s : Shape) (p k : ℕ) (found : CoreCell) → IsEitherCore s
    → Works s.queue p doing.Idle k found state.Waiter → Owns p found
    → IsEitherCore (records s (entry.LookPending p k))
look-pending s p k found core works owns =
    let waits : in_line s.queue.doing k found ≡ Some (waiting k p) = rw (works.at, owns.owner) refl in
    moved-push s move.stay s.state s.held (entry.LookPending p k) core tt tt tt (keeps-same s.queue)
    (record {
      state = core.range.state;
      suspends = core.range.suspends;
      resumes = core.range.resumes;
      loaded = core.loaded;
      holders = refl;
    })
    refl refl
    (picked-in (in_line s.queue.doing) 0 s.queue.cells k k found (waiting k p) (omega arith) works.finds waits)
    refl

-- Look, the wait was served
pub look-granted : (s : Shape) (p k : ℕ) (found : CoreCell) → IsEitherCore s
    → Works s.queue p doing.Idle k found state.Resumed → Owns p found
    → IsEitherCore (records (gains (moves s (move.collect p k found)) p) (entry.LookGranted p k))
look-granted s p k found core works owns =
    let there : p < length s.held = holds-there s p doing.Idle core works.does in
    let closes = closes-collect s.queue p k found works owns in
    closed-core s (move_queue s.queue (move.collect p k found)) (set s.held p (slice_index s.held p + 1))
    (entry.LookGranted p k) k p core (after-move s (move.collect p k found) core (works, owns) tt)
    closes (spoiled-moved s.queue (move.collect p k found) (works, owns) tt) core.range.resumes core.loaded
    (length-set s.held p (slice_index s.held p + 1))
    (gains-sum s.held p there)
    closes.served_open refl
