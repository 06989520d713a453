-- Those that stayed, read off the passes and the cells: what each move makes of them.
use Rattle.std.proofs.Common.{◌≡◌, ◌≢◌, ◌⊎◌, inl, inr, ℕ, ◌<◌, ◌≤◌, Bool, true, false, List, [], ◌++◌, Option, Some, None, length, set, slice_get, refl, ap, ap₂, sym, ◌∙◌, subst, arith, eq-eqb, ne_eqb, append-nil}
use Rattle.std.specs.Option.{option_and_then}
use Rattle.std.proofs.lemmas.Bool.{cases_lt}
use Rattle.cqs_core.specs.declared.cells.CoreCell.{CoreCell}
use Rattle.cqs_core.specs.declared.cells.CoreState.{CoreState}
use Rattle.cqs_core.specs.declared.cells.CoreState.TheVariants as state
use Rattle.cqs_core.specs.declared.doings.Doing.{Doing}
use Rattle.cqs_core.specs.declared.doings.Doing.TheVariants as doing
use Rattle.cqs_core.specs.Numbered.{pick_each, cons_option}
use Rattle.cqs_core.specs.QueueCover.{is_declined, is_declined_at}
use Rattle.cqs_core.specs.QueueLine.{Waiting, waiting_of}
use Rattle.cqs_core.specs.QueueMoves as move
use Rattle.cqs_core.specs.QueueMoves.{Works, IsCancelling, move_queue, now_doing, with_cell, at_state, cells_drawn}
use Rattle.cqs_core.specs.QueueSound.{IsSound, IsUntaken, IsOwn}
use Rattle.cqs_core.specs.QueueState.{Queue, owner_doing, is_refusing}
use Rattle.cqs_core.proofs.DrawMoves.{picked-reached, undrawn}
use Rattle.cqs_core.proofs.Keys.{Around, around-kept, around-came}
use Rattle.cqs_core.proofs.LineReads.{wait_of}
use Rattle.cqs_core.proofs.Picked.{IsKeyed, AgreeBut, picked-same, picked-around, picked-push}
use Rattle.cqs_core.proofs.Places.{get-there, set-same}
use Rattle.cqs_core.proofs.QueueServes.{waiting}
use Rattle.cqs_core.proofs.Tickets.{owner_doing-frame, owner_doing-here}
use Rattle.cqs_barrier_object.specs.BarrierEntries.{stays}
use Rattle.cqs_barrier_object.specs.BarrierShown.{is_stayed, stayed_in}

stayed-key : (k : ℕ) (owner : Option ℕ) (b : Bool) (w : Waiting) → waiting_of k owner b ≡ Some w → w.wait ≡ k
stayed-key k (Some p) true w some = let is : waiting k p ≡ w = cc in ap wait_of (sym is)
stayed-key k (Some p) false w some = absurd (cc)
stayed-key k None b w some = absurd (cc)

stayed-keyed : (passes : List Doing) → IsKeyed (is_stayed passes) wait_of
stayed-keyed passes =
    record { at = λ k cell w some. stayed-key k cell.owner (is_declined passes k cell) w some }

-- a cell that isn't refused
abbrev pub IsUnrefused : CoreState → Type 0
IsUnrefused state.Refused = ⊥
IsUnrefused state.Empty = Unit {0}
IsUnrefused state.Waiter = Unit {0}
IsUnrefused state.Value = Unit {0}
IsUnrefused state.Taken = Unit {0}
IsUnrefused state.Broken = Unit {0}
IsUnrefused state.Resumed = Unit {0}
IsUnrefused state.Cancelling = Unit {0}
IsUnrefused state.Delegated = Unit {0}
IsUnrefused state.Cancelled = Unit {0}

declined-open : (k : ℕ) (s : CoreState) (o : Option Doing) → IsUnrefused s → is_declined_at k s o ≡ is_refusing k o
declined-open k state.Refused o un = absurd un
declined-open k _ o un = refl

declined-same : (k : ℕ) (s : CoreState) (o r : Option Doing) → is_refusing k o ≡ is_refusing k r
    → is_declined_at k s o ≡ is_declined_at k s r
declined-same k state.Refused o r same = refl
declined-same k _ o r same = same

-- a pass that refuses the number no more before than after changes nothing at it
stayed-frame : (passes : List Doing) (p : ℕ) (from to : Doing) (k : ℕ) (cell : CoreCell)
    → slice_get passes p ≡ Some from → is_refusing k (Some to) ≡ is_refusing k (Some from)
    → is_stayed passes k cell ≡ is_stayed (set passes p to) k cell
stayed-frame passes p from to k cell does same =
    let refuses : is_refusing k (owner_doing (set passes p to) cell) ≡ is_refusing k (owner_doing passes cell) =
    owner_doing-frame (is_refusing k) passes p from to cell does same in
    ap (waiting_of k cell.owner)
    (declined-same k cell.state (owner_doing passes cell) (owner_doing (set passes p to) cell) (sym refuses))

-- a pass goes on that refuses the same as before
pub stayed-turn : (passes : List Doing) (cells : List CoreCell) (p : ℕ) (from to : Doing)
    → slice_get passes p ≡ Some from
    → ((k : ℕ) → is_refusing k (Some to) ≡ is_refusing k (Some from))
    → pick_each (is_stayed (set passes p to)) 0 cells ≡ pick_each (is_stayed passes) 0 cells
stayed-turn passes cells p from to does same =
    sym (picked-same (is_stayed passes) (is_stayed (set passes p to))
    (λ k cell. stayed-frame passes p from to k cell does (same k)) 0 cells)

stayed-around : (passes : List Doing) (cells : List CoreCell) (p : ℕ) (from to : Doing) (k : ℕ)
    (found new : CoreCell)
    → slice_get passes p ≡ Some from → slice_get cells k ≡ Some found
    → ((m : ℕ) → m ≢ k → is_refusing m (Some to) ≡ is_refusing m (Some from))
    → Around wait_of k (pick_each (is_stayed passes) 0 cells)
    (pick_each (is_stayed (set passes p to)) 0 (set cells k new))
    (is_stayed passes k found) (is_stayed (set passes p to) k new)
stayed-around passes cells p from to k found new does finds same =
    let agree : AgreeBut (is_stayed passes) (is_stayed (set passes p to)) k =
    record { at = λ m cell other. stayed-frame passes p from to m cell does (same m other) } in
    picked-around (is_stayed passes) (is_stayed (set passes p to)) wait_of (stayed-keyed passes) k agree 0 cells k
    found new (omega arith) finds

-- a cell is written that was not refused and is not, by a pass that refuses the same as before
pub stayed-write : (q : Queue) (p : ℕ) (from to : Doing) (k : ℕ) (found new : CoreCell)
    → slice_get q.doing p ≡ Some from → slice_get q.cells k ≡ Some found
    → ((m : ℕ) → is_refusing m (Some to) ≡ is_refusing m (Some from))
    → new.owner ≡ found.owner → IsUnrefused found.state → IsUnrefused new.state
    → stayed_in (now_doing (with_cell q k new) p to) ≡ stayed_in q
stayed-write q p from to k found new does finds same owner was now =
    let refuses : is_refusing k (owner_doing (set q.doing p to) found) ≡ is_refusing k (owner_doing q.doing found) =
    owner_doing-frame (is_refusing k) q.doing p from to found does (same k) in
    let mine : owner_doing (set q.doing p to) new ≡ owner_doing (set q.doing p to) found =
    ap (λ o. option_and_then (λ n. slice_get (set q.doing p to) n) o) owner in
    let first : is_declined q.doing k found ≡ is_refusing k (owner_doing q.doing found) =
    declined-open k found.state (owner_doing q.doing found) was in
    let last : is_declined (set q.doing p to) k new ≡ is_refusing k (owner_doing (set q.doing p to) new) =
    declined-open k new.state (owner_doing (set q.doing p to) new) now in
    let here : is_declined q.doing k found ≡ is_declined (set q.doing p to) k new =
    first ∙ sym refuses ∙ ap (is_refusing k) (sym mine) ∙ sym last in
    around-kept wait_of k _ _ _ _
    (stayed-around q.doing q.cells p from to k found new does finds (λ m other. same m))
    (ap₂ (waiting_of k) (sym owner) here)

-- a number is drawn to resume at, by a pass that refuses nothing
pub stayed-reached : (q : Queue) (p : ℕ) (from : Doing) (found : Option CoreCell) → slice_get q.doing p ≡ Some from
    → ((m : ℕ) → false ≡ is_refusing m (Some from))
    → stayed_in (move_queue q (move.reach p q.resumes found)) ≡ stayed_in q
stayed-reached q p from found does same =
    picked-reached (is_stayed (set q.doing p (doing.Ticket q.resumes))) (λ n. refl) q.cells found
    ∙ stayed-turn q.doing q.cells p from (doing.Ticket q.resumes) does same

-- a number is drawn to suspend at
pub stayed-drawn : (q : Queue) (p : ℕ) (found : Option CoreCell) → IsSound q
    → slice_get q.doing p ≡ Some doing.Door
    → slice_get q.cells q.suspends ≡ found → stayed_in (move_queue q (move.draw p q.suspends found)) ≡ stayed_in q
stayed-drawn q p found sound does finds = at found finds ∙ turned
  where
    after : List Doing
    after = set q.doing p (doing.Drawn q.suspends)

    turned : pick_each (is_stayed after) 0 q.cells ≡ stayed_in q
    turned = stayed-turn q.doing q.cells p doing.Door (doing.Drawn q.suspends) does (λ m. refl)

    untaken : (s : CoreState) → IsUntaken s → IsUnrefused s
    untaken state.Empty is = tt
    untaken state.Value is = tt
    untaken _ is = absurd is

    new : CoreState → Bool → CoreCell
    new s b = record { state = s; owner = Some p; collected = b }

    none : (s : CoreState) (b : Bool) → IsUnrefused s → is_stayed after q.suspends (new s b) ≡ None
    none s b un =
        let mine : owner_doing after (new s b) ≡ Some (doing.Drawn q.suspends) =
        owner_doing-here q.doing p doing.Door (doing.Drawn q.suspends) (new s b) does refl in
        let isnt : is_declined_at q.suspends s (owner_doing after (new s b)) ≡ false =
        declined-open q.suspends s (owner_doing after (new s b)) un ∙ ap (is_refusing q.suspends) mine in
        ap (waiting_of q.suspends (Some p)) isnt

    at : (o : Option CoreCell) → slice_get q.cells q.suspends ≡ o
        → pick_each (is_stayed after) 0 (cells_drawn q.cells q.suspends p o) ≡ pick_each (is_stayed after) 0 q.cells
    at (Some cell) there =
        let was = undrawn q q.suspends cell sound there (omega arith) in
        let nobody : is_stayed after q.suspends cell ≡ None =
        ap (λ o. waiting_of q.suspends o (is_declined after q.suspends cell)) was.owner in
        around-kept wait_of q.suspends _ _ _ _
        (picked-around (is_stayed after) (is_stayed after) wait_of (stayed-keyed after) q.suspends
        (record { at = λ m c other. refl }) 0 q.cells q.suspends cell (new cell.state cell.collected) (omega arith)
        there)
        (nobody ∙ sym (none cell.state cell.collected (untaken cell.state was.untaken)))
    at None there =
        let few : length q.cells ≤ q.suspends = last (cases_lt q.suspends (length q.cells)) in
        let made = sound.made in
        picked-push (is_stayed after) 0 q.cells (new state.Empty false) q.suspends (omega arith)
        ∙ ap (λ o. pick_each (is_stayed after) 0 q.cells ++ cons_option o []) (none state.Empty false tt)
        ∙ append-nil (pick_each (is_stayed after) 0 q.cells)
      where
        last : (q.suspends < length q.cells) ⊎ (length q.cells ≤ q.suspends) → length q.cells ≤ q.suspends
        last (inr few) = few
        last (inl more) =
            let cell = get-there q.cells q.suspends more in
            let is : slice_get q.cells q.suspends ≡ Some cell.0 = cell.1 in
            absurd (cc)

pub stayed-collected : (q : Queue) (p k : ℕ) (found : CoreCell) → Works q p doing.Idle k found state.Resumed
    → stayed_in (move_queue q (move.collect p k found)) ≡ stayed_in q
stayed-collected q p k found w =
    around-kept wait_of k _ _ _ _
    (picked-around (is_stayed q.doing) (is_stayed q.doing) wait_of (stayed-keyed q.doing) k
    (record { at = λ m c other. refl }) 0 q.cells k found
    (record { state = found.state; owner = found.owner; collected = true }) (omega arith) w.finds)
    refl

declined-cancelling : (k : ℕ) (s : CoreState) (o : Option Doing) → IsCancelling s
    → is_declined_at k s o ≡ is_refusing k o
declined-cancelling k state.Cancelling o at = refl
declined-cancelling k state.Delegated o at = refl
declined-cancelling k _ o at = absurd at

-- the canceller was told that the cell is refused
pub stayed-declines : (q : Queue) (p k : ℕ) → IsSound q → slice_get q.doing p ≡ Some (doing.Leaving k)
    → stayed_in (move_queue q (move.decide p k false)) ≡ stays (stayed_in q) k p
stayed-declines q p k sound does =
    let to : Doing = doing.Decided k false in
    let own : IsOwn q p k IsCancelling = sound.passes.at p (doing.Leaving k) does in
    let cell : CoreCell = own.cell in
    let was : owner_doing q.doing cell ≡ Some (doing.Leaving k) = rw own.owner does in
    let now : owner_doing (set q.doing p to) cell ≡ Some to =
    owner_doing-here q.doing p (doing.Leaving k) to cell does own.owner in
    let none : is_stayed q.doing k cell ≡ None =
    ap₂ (waiting_of k) own.owner
    (declined-cancelling k cell.state (owner_doing q.doing cell) own.at ∙ ap (is_refusing k) was) in
    let comes : is_stayed (set q.doing p to) k cell ≡ Some (waiting k p) =
    ap₂ (waiting_of k) own.owner
    (declined-cancelling k cell.state (owner_doing (set q.doing p to) cell) own.at ∙ ap (is_refusing k) now
    ∙ eq-eqb k k refl) in
    let around : Around wait_of k (stayed_in q) (pick_each (is_stayed (set q.doing p to)) 0 q.cells)
    (is_stayed q.doing k cell) (is_stayed (set q.doing p to) k cell) =
    subst (λ (cells : List CoreCell). Around wait_of k (stayed_in q)
    (pick_each (is_stayed (set q.doing p to)) 0 cells)
    (is_stayed q.doing k cell) (is_stayed (set q.doing p to) k cell))
    (set-same q.cells k cell own.found)
    (stayed-around q.doing q.cells p (doing.Leaving k) to k cell cell does own.found
    (λ m other. ne_eqb k m (λ e. other (sym e)))) in
    around-came wait_of k _ _ _ _ around (waiting k p) none comes refl

-- and has refused it
pub stayed-refused : (q : Queue) (p k : ℕ) (found : CoreCell) → IsSound q
    → slice_get q.doing p ≡ Some (doing.Decided k false)
    → slice_get q.cells k ≡ Some found → IsCancelling found.state
    → stayed_in (move_queue q (move.refuse p k found)) ≡ stayed_in q
stayed-refused q p k found sound does finds at =
    let own : IsOwn q p k IsCancelling = sound.passes.at p (doing.Decided k false) does in
    let own_found : slice_get q.cells k ≡ Some own.cell = own.found in
    let cell : own.cell ≡ found = cc in
    let owner : found.owner ≡ Some p = subst (λ (c : CoreCell). c.owner ≡ Some p) cell own.owner in
    let told : owner_doing q.doing found ≡ Some (doing.Decided k false) = rw owner does in
    let was : is_declined q.doing k found ≡ true =
    declined-cancelling k found.state (owner_doing q.doing found) at ∙ ap (is_refusing k) told ∙ eq-eqb k k refl in
    around-kept wait_of k _ _ _ _
    (stayed-around q.doing q.cells p (doing.Decided k false) doing.Idle k found (at_state found state.Refused) does
    finds (λ m other. sym (ne_eqb k m (λ e. other (sym e)))))
    (ap (waiting_of k found.owner) was)
