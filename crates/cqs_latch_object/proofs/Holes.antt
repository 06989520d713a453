-- The holes of a latch in simple mode, read off its queue, after each move.
use Rattle.std.proofs.Common.{◌≡◌, ◌≢◌, ◌⊎◌, inl, inr, ℕ, ◌+◌, ◌<◌, ◌≤◌, nat_le, le-leb, ◌||◌, Bool, true, false, List, Option, Some, None, is_some, length, set, slice_get, refl, ap, sym, ◌∙◌, subst, arith, append-nil}
use Rattle.std.specs.List.{count_by}
use Rattle.std.proofs.lemmas.Bool.{cases_lt, lt-leb, or_left, or_right}
use Rattle.cqs_core.specs.declared.cells.CoreCell.{CoreCell}
use Rattle.cqs_core.specs.declared.cells.CoreState.{CoreState}
use Rattle.cqs_core.specs.declared.cells.CoreState.TheVariants as state
use Rattle.cqs_core.specs.declared.doings.Doing.{Doing}
use Rattle.cqs_core.specs.declared.doings.Doing.TheVariants as doing
use Rattle.cqs_core.specs.Numbered.{IsIn, pick_each, count_at}
use Rattle.cqs_core.specs.Keyed.{insert_by, without}
use Rattle.cqs_core.specs.QueueState.{Queue, is_ticket, has_ticket}
use Rattle.cqs_core.specs.QueueLine.{ending, is_told_refused, is_unmet, is_unmet_refusal}
use Rattle.cqs_core.specs.QueueMoves as move
use Rattle.cqs_core.specs.QueueMoves.{Works, move_queue, now_doing, with_cell, at_state, cells_drawn}
use Rattle.cqs_core.specs.QueueSound.{IsSound, IsSoundAt, IsTicket, IsUntaken}
use Rattle.cqs_core.proofs.Counts.{count_at-agree}
use Rattle.cqs_core.proofs.DrawMoves.{picked-reached, unmet-reached}
use Rattle.cqs_core.proofs.Keys.{Around, around-kept, around-came, around-went}
use Rattle.cqs_core.proofs.Picked.{IsKeyed, AgreeBut, picked-same, picked-around, picked-push, picked-in}
use Rattle.cqs_core.proofs.PickedPlaces.{length-picked}
use Rattle.cqs_core.proofs.Places.{get-there, get-set_here, set-same}
use Rattle.cqs_core.proofs.Tickets.{is_ticket-other, has_ticket-frame, has_ticket-from, has_ticket-closes}
use Rattle.cqs_core.proofs.WaysChange.{unmet-frame}
use Rattle.cqs_core.proofs.QueueBegins.{turn-reach}
use Rattle.cqs_latch_object.specs.LatchShown.{hole_of, is_hole, holes}

abbrev pub number : ℕ → ℕ
number n = n

hole-key : (k : ℕ) (b : Bool) (n : ℕ) → hole_of k b ≡ Some n → n ≡ k
hole-key k true n some = cc
hole-key k false n some = absurd (cc)

hole-keyed : (resumes : ℕ) (passes : List Doing) → IsKeyed (is_hole resumes passes) number
hole-keyed resumes passes =
    record { at = λ k cell n some. hole-key k (is_unmet resumes passes k cell) n some }

-- as many as will end at a cell, where nobody is in the middle of a refusal
pub length-holes : (q : Queue) → count_by is_told_refused q.doing ≡ 0 → length (holes q) ≡ ending q
length-holes q none =
    let long = length-picked (is_hole q.resumes q.doing) 0 q.cells in
    let same : count_at (λ k cell. is_some (is_hole q.resumes q.doing k cell)) 0 q.cells
    ≡ count_at (is_unmet q.resumes q.doing) 0 q.cells =
    count_at-agree _ _ q.cells (λ k cell got. some k (is_unmet q.resumes q.doing k cell)) in
    omega arith
  where
    some : (k : ℕ) (b : Bool) → is_some (hole_of k b) ≡ b
    some k true = refl
    some k false = refl

hole-frame : (resumes : ℕ) (passes : List Doing) (p : ℕ) (from to : Doing) (k : ℕ) (cell : CoreCell)
    → slice_get passes p ≡ Some from → is_ticket k to ≡ is_ticket k from
    → is_hole resumes passes k cell ≡ is_hole resumes (set passes p to) k cell
hole-frame resumes passes p from to k cell does same =
    ap (hole_of k)
    (unmet-frame resumes passes (set passes p to) k cell.state (has_ticket-frame passes p k from to does same))

pub holes-turn : (q : Queue) (p : ℕ) (from to : Doing) → slice_get q.doing p ≡ Some from
    → ((m : ℕ) → is_ticket m to ≡ is_ticket m from) → holes (now_doing q p to) ≡ holes q
holes-turn q p from to does same =
    sym (picked-same (is_hole q.resumes q.doing) (is_hole q.resumes (set q.doing p to))
    (λ k cell. hole-frame q.resumes q.doing p from to k cell does (same k)) 0 q.cells)

holes-around : (q : Queue) (p : ℕ) (from to : Doing) (k : ℕ) (found new : CoreCell)
    → slice_get q.doing p ≡ Some from → slice_get q.cells k ≡ Some found
    → ((m : ℕ) → m ≢ k → is_ticket m to ≡ is_ticket m from)
    → Around number k (holes q) (holes (now_doing (with_cell q k new) p to)) (is_hole q.resumes q.doing k found)
    (is_hole q.resumes (set q.doing p to) k new)
holes-around q p from to k found new does finds same =
    let agree : AgreeBut (is_hole q.resumes q.doing) (is_hole q.resumes (set q.doing p to)) k =
    record { at = λ m cell other. hole-frame q.resumes q.doing p from to m cell does (same m other) } in
    picked-around _ _ number (hole-keyed q.resumes q.doing) k agree 0 q.cells k found new (omega arith) finds

abbrev pub IsUnrefused : CoreState → Type 0
IsUnrefused state.Refused = ⊥
IsUnrefused _ = Unit {0}

unmet-open : (resumes : ℕ) (passes : List Doing) (k : ℕ) (s : CoreState) → IsUnrefused s
    → is_unmet_refusal resumes passes k s ≡ false
unmet-open resumes passes k state.Refused un = absurd un
unmet-open resumes passes k _ un = refl

-- a cell is written that wasn't refused and isn't
pub holes-write : (q : Queue) (p : ℕ) (from to : Doing) (k : ℕ) (found new : CoreCell)
    → slice_get q.doing p ≡ Some from → slice_get q.cells k ≡ Some found
    → ((m : ℕ) → m ≢ k → is_ticket m to ≡ is_ticket m from)
    → IsUnrefused found.state → IsUnrefused new.state
    → holes (now_doing (with_cell q k new) p to) ≡ holes q
holes-write q p from to k found new does finds same was now =
    around-kept number k _ _ _ _ (holes-around q p from to k found new does finds same)
    (ap (hole_of k) (unmet-open q.resumes q.doing k found.state was
    ∙ sym (unmet-open q.resumes (set q.doing p to) k new.state now)))

pub holes-there : (q : Queue) (p : ℕ) (from to : Doing) (k : ℕ) (found : CoreCell)
    → slice_get q.doing p ≡ Some from → slice_get q.cells k ≡ Some found
    → ((m : ℕ) → m ≢ k → is_ticket m to ≡ is_ticket m from)
    → IsUnrefused found.state → holes (now_doing q p to) ≡ holes q
holes-there q p from to k found does finds same was =
    subst (λ (cells : List CoreCell). pick_each (is_hole q.resumes (set q.doing p to)) 0 cells ≡ holes q)
    (set-same q.cells k found finds) (holes-write q p from to k found found does finds same was was)

-- the counter passes a hole, and its ticket opens: it stays
pub holes-reached : (q : Queue) (p : ℕ) (found : Option CoreCell) → slice_get q.doing p ≡ Some doing.Owes
    → holes (move_queue q (move.reach p q.resumes found)) ≡ holes q
holes-reached q p found does =
    picked-reached (is_hole (q.resumes + 1) (set q.doing p (doing.Ticket q.resumes))) (λ n. refl) q.cells found
    ∙ sym (picked-same (is_hole q.resumes q.doing) (is_hole (q.resumes + 1) (set q.doing p (doing.Ticket q.resumes)))
    (λ k cell. ap (hole_of k) (unmet-reached q p k cell.state does)) 0 q.cells)

pub holes-begun : (q : Queue) (p : ℕ) (found : Option CoreCell) → slice_get q.doing p ≡ Some doing.Idle
    → holes (move_queue q (move.reach p q.resumes found)) ≡ holes q
holes-begun q p found does =
    let owing : Queue = move_queue q (move.turn p doing.Idle doing.Owes) in
    subst (λ (r : Queue). holes r ≡ holes q) (turn-reach q p found)
    (holes-reached owing p found (get-set_here q.doing p doing.Idle doing.Owes does)
    ∙ holes-turn q p doing.Idle doing.Owes does (λ m. refl))

pub holes-drawn : (q : Queue) (p : ℕ) (found : Option CoreCell) → IsSound q → slice_get q.doing p ≡ Some doing.Door
    → slice_get q.cells q.suspends ≡ found → holes (move_queue q (move.draw p q.suspends found)) ≡ holes q
holes-drawn q p found sound does finds =
    at found finds ∙ holes-turn q p doing.Door (doing.Drawn q.suspends) does (λ m. refl)
  where
    after : List Doing
    after = set q.doing p (doing.Drawn q.suspends)

    untaken : (s : CoreState) → IsUntaken s → IsUnrefused s
    untaken state.Empty is = tt
    untaken state.Value is = tt
    untaken _ is = absurd is

    new : CoreState → Bool → CoreCell
    new s b = record { state = s; owner = Some p; collected = b }

    at : (o : Option CoreCell) → slice_get q.cells q.suspends ≡ o
        → pick_each (is_hole q.resumes after) 0 (cells_drawn q.cells q.suspends p o)
        ≡ pick_each (is_hole q.resumes after) 0 q.cells
    at (Some cell) there =
        around-kept number q.suspends _ _ _ _
        (picked-around (is_hole q.resumes after) (is_hole q.resumes after) number (hole-keyed q.resumes after)
        q.suspends (record { at = λ m c other. refl }) 0 q.cells q.suspends cell (new cell.state cell.collected)
        (omega arith) there)
        refl
    at None there =
        let few : length q.cells ≤ q.suspends = last (cases_lt q.suspends (length q.cells)) in
        let made = sound.made in
        picked-push (is_hole q.resumes after) 0 q.cells (new state.Empty false) q.suspends (omega arith)
        ∙ append-nil (pick_each (is_hole q.resumes after) 0 q.cells)
      where
        last : (q.suspends < length q.cells) ⊎ (length q.cells ≤ q.suspends) → length q.cells ≤ q.suspends
        last (inr few) = few
        last (inl more) =
            let cell = get-there q.cells q.suspends more in
            let is : slice_get q.cells q.suspends ≡ Some cell.0 = cell.1 in
            absurd (cc)

pub holes-collected : (q : Queue) (p k : ℕ) (found : CoreCell) → Works q p doing.Idle k found state.Resumed
    → holes (move_queue q (move.collect p k found)) ≡ holes q
holes-collected q p k found w =
    around-kept number k _ _ _ _
    (picked-around (is_hole q.resumes q.doing) (is_hole q.resumes q.doing) number (hole-keyed q.resumes q.doing) k
    (record { at = λ m c other. refl }) 0 q.cells k found
    (record { state = found.state; owner = found.owner; collected = true }) (omega arith) w.finds)
    refl

-- the wait leaves at once, and its cell is a hole
pub holes-came : (q : Queue) (p k : ℕ) (found : CoreCell) → IsSound q → Works q p doing.Idle k found state.Waiter
    → holes (with_cell q k (at_state found state.Refused)) ≡ insert_by number k (holes q)
holes-came q p k found sound w =
    let cell : IsSoundAt q k found state.Waiter =
    subst (λ (s : CoreState). IsSoundAt q k found s) w.at (sound.cells.at k found w.finds) in
    let unmet : (nat_le q.resumes k || has_ticket k q.doing) ≡ true = awaited cell.1 (cases_lt k q.resumes) in
    let none : is_hole q.resumes q.doing k found ≡ None =
    ap (hole_of k) (unmet-open q.resumes q.doing k found.state (rw w.at tt)) in
    let comes : is_hole q.resumes q.doing k (at_state found state.Refused) ≡ Some k = ap (hole_of k) unmet in
    around-came number k _ _ _ _
    (picked-around (is_hole q.resumes q.doing) (is_hole q.resumes q.doing) number (hole-keyed q.resumes q.doing) k
    (record { at = λ m c other. refl }) 0 q.cells k found (at_state found state.Refused) (omega arith) w.finds)
    k none comes refl
  where
    awaited : (k < q.resumes → has_ticket k q.doing ≡ true) → (k < q.resumes) ⊎ (q.resumes ≤ k)
        → (nat_le q.resumes k || has_ticket k q.doing) ≡ true
    awaited waits (inl reached) = or_right (nat_le q.resumes k) (has_ticket k q.doing) (waits reached)
    awaited waits (inr beyond) =
        or_left (nat_le q.resumes k) (has_ticket k q.doing) (le-leb q.resumes k beyond)

-- a resumption ends at a hole
pub record Missed (q r : Queue) (k : ℕ) : Type 0 where
  pub was : IsIn k (holes q)
  pub holes : holes r ≡ without number k (holes q)

pub holes-missed : (q : Queue) (p k : ℕ) (found : CoreCell) → IsSound q
    → Works q p (doing.Ticket k) k found state.Refused → Missed q (move_queue q (move.meet_refused p k found)) k
holes-missed q p k found sound works =
    let ticket : IsTicket q k = sound.passes.at p (doing.Ticket k) works.does in
    let after : List Doing = set q.doing p doing.Idle in
    let reached : nat_le q.resumes k ≡ false = lt-leb q.resumes k ticket.reached in
    let was_open : has_ticket k q.doing ≡ true = has_ticket-from q.doing p k works.does in
    let closed : has_ticket k after ≡ false = has_ticket-closes q.doing p k doing.Idle sound.apart works.does refl in
    let was_unmet : is_unmet q.resumes q.doing k found ≡ true = rw (works.at, reached) was_open in
    let is_met : is_unmet q.resumes after k found ≡ false = rw (works.at, reached) closed in
    let was : is_hole q.resumes q.doing k found ≡ Some k = ap (hole_of k) was_unmet in
    let gone : is_hole q.resumes after k found ≡ None = ap (hole_of k) is_met in
    let around : Around number k (holes q) (pick_each (is_hole q.resumes after) 0 q.cells)
    (is_hole q.resumes q.doing k found) (is_hole q.resumes after k found) =
    subst (λ (cells : List CoreCell). Around number k (holes q) (pick_each (is_hole q.resumes after) 0 cells)
    (is_hole q.resumes q.doing k found) (is_hole q.resumes after k found))
    (set-same q.cells k found works.finds)
    (holes-around q p (doing.Ticket k) doing.Idle k found found works.does works.finds
    (λ m other. sym (is_ticket-other m k (λ e. other (sym e))))) in
    record {
      was = picked-in (is_hole q.resumes q.doing) 0 q.cells k k found k (omega arith) works.finds was;
      holes = around-went number k _ _ _ _ around k was gone refl;
    }
