-- Each event of a whole call is made by a core as by its reading, or it is one in which the call of the reading ends
-- without a reply.
use Rattle.std.proofs.Common.{◌≡◌, ◌≢◌, ◌⊎◌, inl, inr, ℕ, nat_lt, Bool, true, false, int_lt, int_le, pos, List, ◌∷◌, [], Option, Some, None, map, set, slice_get, slice_index, if◌then◌else◌, refl, ap, sym, ◌∙◌, subst}
use Rattle.std.specs.Ordering.{int_eq}
use Rattle.std.specs.Option.{option_map, option_and_then}
use Rattle.std.proofs.lemmas.List.{map-set, map-append}
use Rattle.std.proofs.lemmas.Option.{slice_get-map}
use Rattle.cqs_core.specs.declared.cells.CoreCell.{CoreCell}
use Rattle.cqs_core.specs.declared.cells.CoreState.{CoreState}
use Rattle.cqs_core.specs.declared.cells.CoreState.TheVariants as state
use Rattle.cqs_core.specs.declared.doings.Doing.{Doing}
use Rattle.cqs_core.specs.declared.doings.Doing.TheVariants as doing
use Rattle.cqs_core.specs.declared.outcomes.Outcome.{Outcome}
use Rattle.cqs_core.specs.declared.outcomes.Outcome.TheVariants as outcome
use Rattle.cqs_core.specs.declared.entries.Entry.TheVariants as entry
use Rattle.cqs_core.specs.QueueState.{fresh_cell}
use Rattle.cqs_core.specs.QueueMoves as move
use Rattle.cqs_core.specs.QueueMoves.{cells_drawn, cells_reached, at_state}
use Rattle.cqs_core.specs.QueueAsUnbroken.{unbroken_cell, unbroken_state, unwatching, as_unbroken}
use Rattle.cqs_core.specs.QueueSound.{IsTicket, IsUnended}
use Rattle.cqs_core.specs.SemaphoreCores.{IsEitherCore}
use Rattle.cqs_core.specs.SemaphoreTable.{Shape, Stepped, take_row, try_load_row, try_swap_row, draw_row, install_row, install_at, give_row, reach_row, meet_row, meet_at, leave_row, leave_with, leave_at, decide_row, settle_row, settle_at, look_row, look_with, look_at, answers, gains, records, moves, turns, is_with, lowest, last_number}
use Rattle.cqs_core.proofs.QueueAsCancelled.{cancelled_at, cancelled_cell, whole-cell, cases_broken}
use Rattle.cqs_core.proofs.QueueAsUnbroken.{get-map}
use Rattle.cqs_core.proofs.RestingCores.{as_plain}

abbrev pub plain_row : Stepped → Stepped
plain_row t = record { shape = as_plain t.shape; outcome = t.outcome }

-- the reading makes it, and answers, as the core does
abbrev pub Agrees : Option Stepped → Option Stepped → Type 0
Agrees x y = y ≡ option_map plain_row x

agrees-if : (b : Bool) (x y v w : Option Stepped) → Agrees x v → Agrees y w
    → Agrees (if b then x else y) (if b then v else w)
agrees-if true x y v w one two = one
agrees-if false x y v w one two = two

abbrev with_cells : Shape → List CoreCell → Shape
with_cells s cells = record s { queue = record s.queue { cells = cells } }

agrees-write : (s : Shape) (k : ℕ) (new : CoreCell) (o : Outcome) → cancelled_cell new ≡ new
    → Agrees (answers (with_cells s (set s.queue.cells k new)) o)
    (answers (with_cells (as_plain s) (set (map cancelled_cell s.queue.cells) k new)) o)
agrees-write s k new o same =
    ap (λ cells. answers (with_cells (as_plain s) cells) o)
    (ap (set (map cancelled_cell s.queue.cells) k) (sym same) ∙ sym (map-set cancelled_cell s.queue.cells k new))

pub take-agrees : (s : Shape) (p : ℕ) (d : Option Doing) → Agrees (take_row s p d) (take_row (as_plain s) p d)
take-agrees s p (Some doing.Idle) =
    agrees-if (int_lt lowest s.state) _ _ _ _ (agrees-if (int_lt (pos 0) s.state) _ _ _ _ refl refl) refl
take-agrees s p _ = refl

pub try_load-agrees : (s : Shape) (p : ℕ) (d : Option Doing)
    → Agrees (try_load_row s p d) (try_load_row (as_plain s) p d)
try_load-agrees s p (Some doing.Idle) = agrees-if (int_le s.state (pos 0)) _ _ _ _ refl refl
try_load-agrees s p _ = refl

pub try_swap-agrees : (s : Shape) (p : ℕ) (d : Option Doing)
    → Agrees (try_swap_row s p d) (try_swap_row (as_plain s) p d)
try_swap-agrees s p (Some (doing.TryAt v)) = agrees-if (int_eq s.state v) _ _ _ _ refl refl
try_swap-agrees s p _ = refl

pub give-agrees : (s : Shape) (p : ℕ) (d : Option Doing) → Agrees (give_row s p d) (give_row (as_plain s) p d)
give-agrees s p (Some doing.Idle) =
    agrees-if (nat_lt 0 (slice_index s.held p)) _ _ _ _ (agrees-if (int_lt s.state (pos 0)) _ _ _ _ refl refl) refl
give-agrees s p _ = refl

pub decide-agrees : (s : Shape) (p : ℕ) (d : Option Doing) → Agrees (decide_row s p d) (decide_row (as_plain s) p d)
decide-agrees s p (Some (doing.Leaving k)) = agrees-if (int_lt s.state (pos 0)) _ _ _ _ refl refl
decide-agrees s p _ = refl

-- the cells after a draw
drawn-plain : (cells : List CoreCell) (k p : ℕ)
    → cells_drawn (map cancelled_cell cells) k p (slice_get (map cancelled_cell cells) k)
    ≡ map cancelled_cell (cells_drawn cells k p (slice_get cells k))
drawn-plain cells k p =
    ap (cells_drawn (map cancelled_cell cells) k p) (slice_get-map cancelled_cell cells k) ∙ go (slice_get cells k)
  where
    owned : CoreCell → CoreCell
    owned c = record { state = c.state; owner = Some p; collected = c.collected }

    reads : (c : CoreCell) (st : CoreState) → c.state ≡ st → owned (cancelled_at st c) ≡ cancelled_at st (owned c)
    reads c state.Broken is = refl
    reads c _ is = refl

    go : (o : Option CoreCell) → cells_drawn (map cancelled_cell cells) k p (option_map cancelled_cell o)
        ≡ map cancelled_cell (cells_drawn cells k p o)
    go None =
        sym (map-append cancelled_cell cells (record { state = state.Empty; owner = Some p; collected = false } ∷ []))
    go (Some c) =
        ap (set (map cancelled_cell cells) k) (reads c c.state refl) ∙ sym (map-set cancelled_cell cells k (owned c))

reached-plain : (cells : List CoreCell) (k : ℕ)
    → cells_reached (map cancelled_cell cells) (slice_get (map cancelled_cell cells) k)
    ≡ map cancelled_cell (cells_reached cells (slice_get cells k))
reached-plain cells k =
    ap (cells_reached (map cancelled_cell cells)) (slice_get-map cancelled_cell cells k) ∙ go (slice_get cells k)
  where
    go : (o : Option CoreCell)
        → cells_reached (map cancelled_cell cells) (option_map cancelled_cell o)
        ≡ map cancelled_cell (cells_reached cells o)
    go None = sym (map-append cancelled_cell cells (fresh_cell ∷ []))
    go (Some c) = refl

pub draw-agrees : (s : Shape) (p : ℕ) (d : Option Doing) → Agrees (draw_row s p d) (draw_row (as_plain s) p d)
draw-agrees s p (Some doing.Door) =
    agrees-if (nat_lt s.queue.suspends last_number) _ _ _ _
    (ap (λ cells. answers (with_cells (as_plain drawn) cells) (outcome.Drew s.queue.suspends))
    (drawn-plain s.queue.cells s.queue.suspends p)) refl
  where
    drawn : Shape
    drawn =
        records (moves s (move.draw p s.queue.suspends (slice_get s.queue.cells s.queue.suspends)))
        (entry.Enter p s.queue.suspends)
draw-agrees s p _ = refl

pub reach-agrees : (s : Shape) (p : ℕ) (d : Option Doing) → Agrees (reach_row s p d) (reach_row (as_plain s) p d)
reach-agrees s p (Some doing.Owes) =
    agrees-if (nat_lt s.queue.resumes last_number) _ _ _ _
    (ap (λ cells. answers (with_cells (as_plain reached) cells) (outcome.Reached s.queue.resumes))
    (reached-plain s.queue.cells s.queue.resumes)) refl
  where
    reached : Shape
    reached = moves s (move.reach p s.queue.resumes (slice_get s.queue.cells s.queue.resumes))
reach-agrees s p _ = refl

-- A row that is made by the state of a cell: at one that is broken, and at each other.
module _ (Same : Option Stepped → Option Stepped → Type 0) where
  by-cell : (f g : CoreCell → CoreState → Option Stepped) (c : CoreCell)
      → (c.state ≡ state.Broken → Same (f c state.Broken) (g (cancelled_at state.Broken c) state.Cancelled))
      → (c.state ≢ state.Broken → Same (f c c.state) (g c c.state))
      → Same (f c c.state) (g (cancelled_cell c) (cancelled_cell c).state)
  by-cell f g c broken whole = go (cases_broken c.state)
    where
      go : (c.state ≡ state.Broken) ⊎ (c.state ≢ state.Broken)
          → Same (f c c.state) (g (cancelled_cell c) (cancelled_cell c).state)
      go (inl is) =
          subst (λ st. Same (f c st) (g (cancelled_at st c) (cancelled_at st c).state)) (sym is) (broken is)
      go (inr other) =
          subst (λ (x : CoreCell). Same (f c c.state) (g x x.state)) (sym (whole-cell c other)) (whole other)

  by-found : (f g : CoreCell → Option Stepped) (cells : List CoreCell) (k : ℕ) → Same None None
      → ((c : CoreCell) → slice_get cells k ≡ Some c → Same (f c) (g (cancelled_cell c)))
      → Same (option_and_then f (slice_get cells k)) (option_and_then g (slice_get (map cancelled_cell cells) k))
  by-found f g cells k none each =
      subst (λ o. Same (option_and_then f (slice_get cells k)) (option_and_then g o))
      (sym (slice_get-map cancelled_cell cells k)) (go (slice_get cells k) refl)
    where
      go : (o : Option CoreCell) → slice_get cells k ≡ o
          → Same (option_and_then f o) (option_and_then g (option_map cancelled_cell o))
      go None is = none
      go (Some c) is = each c is

-- a cell that is collected reads so where it did before
collected-same : (c : CoreCell) → c.state ≡ state.Resumed
    → cancelled_cell (record { state = c.state; owner = c.owner; collected = true })
    ≡ record { state = c.state; owner = c.owner; collected = true }
collected-same c is = rw is refl

leave_at-agrees : (s : Shape) (p k : ℕ) (c : CoreCell) (st : CoreState) → c.state ≡ st → st ≢ state.Broken
    → Agrees (leave_at s p k c st) (leave_at (as_plain s) p k c st)
leave_at-agrees s p k c state.Waiter is whole =
    agrees-write (turns s p (doing.Leaving k)) k (at_state c state.Cancelling) (outcome.Cancelling k) refl
leave_at-agrees s p k c state.Resumed is whole =
    agrees-write (records (gains s p) (entry.Late p k)) k
    (record { state = c.state; owner = c.owner; collected = true }) (outcome.TooLate k) (collected-same c is)
leave_at-agrees s p k c _ is whole = refl

leave_with-agrees : (s : Shape) (p k : ℕ) (c : CoreCell)
    → Agrees (leave_with s p k c) (leave_with (as_plain s) p k (cancelled_cell c))
leave_with-agrees s p k c =
    by-cell Agrees (λ x st. if is_with p x then leave_at s p k x st else None)
    (λ x st. if is_with p x then leave_at (as_plain s) p k x st else None) c
    (λ is. broken (is_with p c) (is_with p (cancelled_at state.Broken c)))
    (λ whole. agrees-if (is_with p c) _ _ _ _ (leave_at-agrees s p k c c.state refl whole) refl)
  where
    broken : (b d : Bool) → Agrees (if b then None else None) (if d then None else None)
    broken true true = refl
    broken true false = refl
    broken false true = refl
    broken false false = refl

pub leave-agrees : (s : Shape) (p k : ℕ) (d : Option Doing) → Agrees (leave_row s p k d) (leave_row (as_plain s) p k d)
leave-agrees s p k (Some doing.Idle) =
    by-found Agrees (λ c. leave_with s p k c) (λ c. leave_with (as_plain s) p k c) s.queue.cells k refl
    (λ c found. leave_with-agrees s p k c)
leave-agrees s p k _ = refl

look_at-agrees : (s : Shape) (p k : ℕ) (c : CoreCell) (st : CoreState) → c.state ≡ st → st ≢ state.Broken
    → Agrees (look_at s p k c st) (look_at (as_plain s) p k c st)
look_at-agrees s p k c state.Waiter is whole = refl
look_at-agrees s p k c state.Resumed is whole =
    agrees-write (records (gains s p) (entry.LookGranted p k)) k
    (record { state = c.state; owner = c.owner; collected = true }) outcome.Granted (collected-same c is)
look_at-agrees s p k c _ is whole = refl

look_with-agrees : (s : Shape) (p k : ℕ) (c : CoreCell)
    → Agrees (look_with s p k c) (look_with (as_plain s) p k (cancelled_cell c))
look_with-agrees s p k c =
    by-cell Agrees (λ x st. if is_with p x then look_at s p k x st else None)
    (λ x st. if is_with p x then look_at (as_plain s) p k x st else None) c
    (λ is. broken (is_with p c) (is_with p (cancelled_at state.Broken c)))
    (λ whole. agrees-if (is_with p c) _ _ _ _ (look_at-agrees s p k c c.state refl whole) refl)
  where
    broken : (b d : Bool) → Agrees (if b then None else None) (if d then None else None)
    broken true true = refl
    broken true false = refl
    broken false true = refl
    broken false false = refl

pub look-agrees : (s : Shape) (p k : ℕ) (d : Option Doing) → Agrees (look_row s p k d) (look_row (as_plain s) p k d)
look-agrees s p k (Some doing.Idle) =
    by-found Agrees (λ c. look_with s p k c) (λ c. look_with (as_plain s) p k c) s.queue.cells k refl
    (λ c found. look_with-agrees s p k c)
look-agrees s p k _ = refl

settle_at-agrees : (s : Shape) (p k : ℕ) (on : Bool) (c : CoreCell) (st : CoreState)
    → Agrees (settle_at s p k on c st) (settle_at (as_plain s) p k on c st)
settle_at-agrees s p k true c state.Cancelling =
    agrees-write (turns s p doing.Idle) k (at_state c state.Cancelled) (outcome.Cancelled k) refl
settle_at-agrees s p k true c state.Delegated =
    agrees-write (turns s p doing.Owes) k (at_state c state.Cancelled) (outcome.OwesOn k) refl
settle_at-agrees s p k false c state.Cancelling =
    agrees-write (turns s p doing.Idle) k (at_state c state.Refused) (outcome.Refused k) refl
settle_at-agrees s p k false c state.Delegated =
    agrees-write (turns s p doing.Idle) k (at_state c state.Refused) (outcome.Refused k) refl
settle_at-agrees s p k true c _ = refl
settle_at-agrees s p k false c _ = refl

settle_cell-agrees : (s : Shape) (p k : ℕ) (on : Bool) (c : CoreCell)
    → Agrees (settle_at s p k on c c.state) (settle_at (as_plain s) p k on (cancelled_cell c) (cancelled_cell c).state)
settle_cell-agrees s p k on c =
    by-cell Agrees (λ x st. settle_at s p k on x st) (λ x st. settle_at (as_plain s) p k on x st) c
    (λ is. none on) (λ whole. settle_at-agrees s p k on c c.state)
  where
    none : (b : Bool) → Agrees (settle_at s p k b c state.Broken)
        (settle_at (as_plain s) p k b (cancelled_at state.Broken c) state.Cancelled)
    none true = refl
    none false = refl

pub settle-agrees : (s : Shape) (p : ℕ) (d : Option Doing) → Agrees (settle_row s p d) (settle_row (as_plain s) p d)
settle-agrees s p (Some (doing.Decided k on)) =
    by-found Agrees (λ c. settle_at s p k on c c.state) (λ c. settle_at (as_plain s) p k on c c.state) s.queue.cells k
    refl
    (λ c found. settle_cell-agrees s p k on c)
settle-agrees s p _ = refl

-- A call of the reading ends without a reply where an event isn't allowed, or where a value was left.
abbrev pub IsLeft : Outcome → Type 0
IsLeft (outcome.Left k) = Unit {0}
IsLeft _ = ⊥

abbrev pub Stops : Option Stepped → Type 0
Stops None = Unit {0}
Stops (Some t) = IsLeft t.outcome

abbrev pub Follows : Option Stepped → Option Stepped → Type 0
Follows x y = Agrees x y ⊎ Stops y

install_at-follows : (s : Shape) (p k : ℕ) (c : CoreCell) (st : CoreState) → st ≢ state.Broken
    → Agrees (install_at s p k c st) (install_at (as_plain s) p k c st)
install_at-follows s p k c state.Empty whole =
    agrees-write (turns s p doing.Idle) k (at_state c state.Waiter) (outcome.Waits k) refl
install_at-follows s p k c state.Value whole =
    agrees-write (records (gains (turns s p doing.Idle) p) (entry.Deliver k)) k
    (record { state = state.Taken; owner = c.owner; collected = true }) (outcome.Took k) refl
install_at-follows s p k c state.Broken whole = absurd (whole refl)
install_at-follows s p k c _ whole = refl

pub install-follows : (s : Shape) (p : ℕ) (d : Option Doing)
    → Follows (install_row s p d) (install_row (as_plain s) p d)
install-follows s p (Some (doing.Drawn k)) =
    by-found Follows (λ c. install_at s p k c c.state) (λ c. install_at (as_plain s) p k c c.state) s.queue.cells k
    (inl refl)
    (λ c found. by-cell Follows (λ x st. install_at s p k x st) (λ x st. install_at (as_plain s) p k x st) c
    (λ is. inr tt) (λ whole. inl (install_at-follows s p k c c.state whole)))
install-follows s p _ = inl refl

meet_at-follows : (s : Shape) (p k : ℕ) (c : CoreCell) (st : CoreState)
    → Follows (meet_at s p k c st) (meet_at (as_plain s) p k c st)
meet_at-follows s p k c state.Waiter =
    inl (agrees-write (records (turns s p doing.Idle) (entry.Deliver k)) k (at_state c state.Resumed) (outcome.Served k)
    refl)
meet_at-follows s p k c state.Empty = inr tt
meet_at-follows s p k c state.Cancelling = inr tt
meet_at-follows s p k c _ = inl refl

-- no resume is at a broken cell
unbroken-ticket : (s : Shape) (p k : ℕ) (c : CoreCell) → IsEitherCore s
    → slice_get s.queue.doing p ≡ Some (doing.Ticket k)
    → slice_get s.queue.cells k ≡ Some c → c.state ≡ state.Broken → ⊥
unbroken-ticket s p k c core does found is = go c.collected refl
  where
    ticket : IsTicket (as_unbroken s.queue) k
    ticket = core.sound.passes.at p (doing.Ticket k) (get-map unwatching s.queue.doing p (doing.Ticket k) does)

    unended : IsUnended (unbroken_state state.Broken c.collected)
    unended =
        let there : slice_get (as_unbroken s.queue).cells k ≡ Some (unbroken_cell c) =
        get-map unbroken_cell s.queue.cells k c found in
        let same : ticket.cell ≡ unbroken_cell c = cc (there, ticket.found) in
        let at : IsUnended (unbroken_state c.state c.collected) =
        subst (λ (x : CoreCell). IsUnended x.state) same ticket.unended in
        subst (λ st. IsUnended (unbroken_state st c.collected)) is at

    go : (b : Bool) → c.collected ≡ b → ⊥
    go true is = absurd (subst (λ b. IsUnended (unbroken_state state.Broken b)) is unended)
    go false is = absurd (subst (λ b. IsUnended (unbroken_state state.Broken b)) is unended)

pub meet-follows : (s : Shape) (p : ℕ) → IsEitherCore s → (d : Option Doing) → slice_get s.queue.doing p ≡ d
    → Follows (meet_row s p d) (meet_row (as_plain s) p d)
meet-follows s p core (Some (doing.Ticket k)) does =
    by-found Follows (λ c. meet_at s p k c c.state) (λ c. meet_at (as_plain s) p k c c.state) s.queue.cells k
    (inl refl)
    (λ c found. by-cell Follows (λ x st. meet_at s p k x st) (λ x st. meet_at (as_plain s) p k x st) c
    (λ is. absurd (unbroken-ticket s p k c core does found is)) (λ whole. meet_at-follows s p k c c.state))
meet-follows s p core _ does = inl refl
