-- Each row of the table keeps every core, synchronous or not.
use Rattle.std.proofs.lemmas.Bool.{and_parts}
use Rattle.std.proofs.Common.{◌≡◌, ℕ, ℤ, ◌≤ℤ◌, ◌<ℤ◌, Bool, true, false, Option, Some, None, slice_get, refl, arith, if◌then◌else◌, int_lt, int_le, ltb-true, eqb-true}
use Rattle.std.proofs.lemmas.Int.{ints}
use Rattle.std.proofs.lemmas.Bool.Decides.{Decides-int_eq}
use Rattle.cqs_core.specs.declared.cells.CoreCell.{CoreCell}
use Rattle.cqs_core.specs.declared.cells.CoreState.{CoreState}
use Rattle.cqs_core.specs.declared.cells.CoreState.TheVariants as state
use Rattle.cqs_core.specs.declared.doings.Doing.{Doing}
use Rattle.cqs_core.specs.declared.doings.Doing.TheVariants as doing
use Rattle.cqs_core.specs.declared.events.Event.{Event}
use Rattle.cqs_core.specs.declared.events.Event.TheVariants as event
use Rattle.cqs_core.specs.QueueMoves.{Owns}
use Rattle.cqs_core.specs.SemaphoreTable.{Shape, Stepped, step, take_row, try_load_row, try_swap_row, draw_row, install_row, install_at, give_row, reach_row, meet_row, meet_at, see_row, see_at, break_row, break_at, is_owner, is_with, leave_row, leave_with, leave_at, decide_row, settle_row, settle_at, look_row, look_with, look_at}
use Rattle.cqs_core.specs.SemaphoreCores.{IsEitherCore}
use Rattle.cqs_core.proofs.EitherKeeps.{KeepsCore, keeps-none, keeps-answers, keeps-if, keeps-found}
use Rattle.cqs_core.proofs.EitherRows.{take-now, take-door, try-busy, try-loaded, try-got, try-contended, install-waiter, install-took, give-sent, give-freed, reach-number, meet-waiter, meet-empty, meet-cancelling, meet-cancelled, meet-refused, leave-waiter, leave-late, settle-cancelled, settle-owing, settle-refused, settle-ended, decide-passes, decide-refuses, look-pending, look-granted}
use Rattle.cqs_core.proofs.EitherDraws.{draw-number}
use Rattle.cqs_core.proofs.EitherBreaks.{install-broken, meet-watches, watch-ends, break-value}

-- what the table's tests of the state word say
below-true : (a b : ℤ) → int_lt a b ≡ true → a <ℤ b
below-true a b e = grind (arith, ints)

below-false : (a b : ℤ) → int_lt a b ≡ false → b ≤ℤ a
below-false a b e = grind (arith, ints)

within-true : (a b : ℤ) → int_le a b ≡ true → a ≤ℤ b
within-true a b e = grind (arith, ints)

within-false : (a b : ℤ) → int_le a b ≡ false → b <ℤ a
within-false a b e = grind (arith, ints)

take-row : (s : Shape) (p : ℕ) → IsEitherCore s → (d : Option Doing) → slice_get s.queue.doing p ≡ d
    → KeepsCore s (take_row s p d)
take-row s p core (Some doing.Idle) does =
    keeps-if _ _ _
    (λ above. keeps-if _ _ _
    (λ free. keeps-answers s _ _ (take-now s p core does (below-true _ _ above) (below-true _ _ free)) refl)
    (λ none. keeps-answers s _ _ (take-door s p core does (below-true _ _ above) (below-false _ _ none)) refl))
    (λ low. keeps-none)
take-row s p core _ does = keeps-none

try-load-row : (s : Shape) (p : ℕ) → IsEitherCore s → (d : Option Doing) → slice_get s.queue.doing p ≡ d
    → KeepsCore s (try_load_row s p d)
try-load-row s p core (Some doing.Idle) does =
    keeps-if _ _ _
    (λ none. keeps-answers s _ _ (try-busy s p core (within-true _ _ none)) refl)
    (λ free. keeps-answers s _ _ (try-loaded s p core does (within-false _ _ free)) refl)
try-load-row s p core _ does = keeps-none

try-swap-row : (s : Shape) (p : ℕ) → IsEitherCore s → (d : Option Doing) → slice_get s.queue.doing p ≡ d
    → KeepsCore s (try_swap_row s p d)
try-swap-row s p core (Some (doing.TryAt v)) does =
    keeps-if _ _ _
    (λ same. keeps-answers s _ _ (try-got s p v core does ((Decides-int_eq s.state v).0 same)) refl)
    (λ other. keeps-answers s _ _ (try-contended s p v core does) refl)
try-swap-row s p core _ does = keeps-none

draw-row : (s : Shape) (p : ℕ) → IsEitherCore s → (d : Option Doing) → slice_get s.queue.doing p ≡ d
    → KeepsCore s (draw_row s p d)
draw-row s p core (Some doing.Door) does =
    keeps-if _ _ _
    (λ below. keeps-answers s _ _ (draw-number s p core does (ltb-true _ _ below)) refl)
    (λ full. keeps-none)
draw-row s p core _ does = keeps-none

install-at : (s : Shape) (p k : ℕ) (cell : CoreCell) (now : CoreState) → IsEitherCore s
    → slice_get s.queue.doing p ≡ Some (doing.Drawn k) → slice_get s.queue.cells k ≡ Some cell
    → cell.state ≡ now
    → KeepsCore s (install_at s p k cell now)
install-at s p k cell state.Empty core does finds at =
    keeps-answers s _ _ (install-waiter s p k cell core (record { does = does; finds = finds; at = at })) refl
install-at s p k cell state.Value core does finds at =
    keeps-answers s _ _ (install-took s p k cell core (record { does = does; finds = finds; at = at })) refl
install-at s p k cell state.Broken core does finds at =
    keeps-answers s _ _ (install-broken s p k cell core (record { does = does; finds = finds; at = at })) refl
install-at s p k cell _ core does finds at = keeps-none

install-row : (s : Shape) (p : ℕ) → IsEitherCore s → (d : Option Doing) → slice_get s.queue.doing p ≡ d
    → KeepsCore s (install_row s p d)
install-row s p core (Some (doing.Drawn k)) does =
    keeps-found (λ cell. install_at s p k cell cell.state) (slice_get s.queue.cells k)
    (λ cell finds. install-at s p k cell cell.state core does finds refl)
install-row s p core _ does = keeps-none

give-row : (s : Shape) (p : ℕ) → IsEitherCore s → (d : Option Doing) → slice_get s.queue.doing p ≡ d
    → KeepsCore s (give_row s p d)
give-row s p core (Some doing.Idle) does =
    keeps-if _ _ _
    (λ holds. keeps-if _ _ _
    (λ below. keeps-answers s _ _ (give-sent s p core does (ltb-true _ _ holds) (below-true _ _ below)) refl)
    (λ above. keeps-answers s _ _ (give-freed s p core does (ltb-true _ _ holds) (below-false _ _ above)) refl))
    (λ none. keeps-none)
give-row s p core _ does = keeps-none

reach-row : (s : Shape) (p : ℕ) → IsEitherCore s → (d : Option Doing) → slice_get s.queue.doing p ≡ d
    → KeepsCore s (reach_row s p d)
reach-row s p core (Some doing.Owes) does =
    keeps-if _ _ _
    (λ below. keeps-answers s _ _ (reach-number s p core does (ltb-true _ _ below)) refl)
    (λ full. keeps-none)
reach-row s p core _ does = keeps-none

meet-at : (s : Shape) (p k : ℕ) (cell : CoreCell) (now : CoreState) → IsEitherCore s
    → slice_get s.queue.doing p ≡ Some (doing.Ticket k) → slice_get s.queue.cells k ≡ Some cell
    → cell.state ≡ now
    → KeepsCore s (meet_at s p k cell now)
meet-at s p k cell state.Waiter core does finds at =
    keeps-answers s _ _ (meet-waiter s p k cell core (record { does = does; finds = finds; at = at })) refl
meet-at s p k cell state.Empty core does finds at =
    keeps-if s.sync _ _
    (λ sync. keeps-answers s _ _ (meet-watches s p k cell core sync (record { does = does; finds = finds; at = at }))
    refl)
    (λ plain. keeps-answers s _ _ (meet-empty s p k cell core (record { does = does; finds = finds; at = at })) refl)
meet-at s p k cell state.Cancelling core does finds at =
    keeps-if s.sync _ _
    (λ sync. keeps-answers s _ _ core refl)
    (λ plain. keeps-answers s _ _ (meet-cancelling s p k cell core (record { does = does; finds = finds; at = at }))
    refl)
meet-at s p k cell state.Cancelled core does finds at =
    keeps-answers s _ _ (meet-cancelled s p k cell core (record { does = does; finds = finds; at = at })) refl
meet-at s p k cell state.Refused core does finds at =
    keeps-answers s _ _ (meet-refused s p k cell core (record { does = does; finds = finds; at = at })) refl
meet-at s p k cell _ core does finds at = keeps-none

meet-row : (s : Shape) (p : ℕ) → IsEitherCore s → (d : Option Doing) → slice_get s.queue.doing p ≡ d
    → KeepsCore s (meet_row s p d)
meet-row s p core (Some (doing.Ticket k)) does =
    keeps-found (λ cell. meet_at s p k cell cell.state) (slice_get s.queue.cells k)
    (λ cell finds. meet-at s p k cell cell.state core does finds refl)
meet-row s p core _ does = keeps-none

see-at : (s : Shape) (p k : ℕ) (now : CoreState) → IsEitherCore s
    → slice_get s.queue.doing p ≡ Some (doing.Watching k) → KeepsCore s (see_at s p k now)
see-at s p k state.Value core does = keeps-answers s _ _ core refl
see-at s p k state.Taken core does = keeps-answers s _ _ (watch-ends s p k core does) refl
see-at s p k _ core does = keeps-none

see-row : (s : Shape) (p : ℕ) → IsEitherCore s → (d : Option Doing) → slice_get s.queue.doing p ≡ d
    → KeepsCore s (see_row s p d)
see-row s p core (Some (doing.Watching k)) does =
    keeps-found (λ cell. see_at s p k cell.state) (slice_get s.queue.cells k)
    (λ cell finds. see-at s p k cell.state core does)
see-row s p core _ does = keeps-none

break-at : (s : Shape) (p k : ℕ) (cell : CoreCell) (now : CoreState) → IsEitherCore s
    → slice_get s.queue.doing p ≡ Some (doing.Watching k) → slice_get s.queue.cells k ≡ Some cell
    → cell.state ≡ now
    → KeepsCore s (break_at s p k cell now)
break-at s p k cell state.Value core does finds at =
    keeps-answers s _ _ (break-value s p k cell core (record { does = does; finds = finds; at = at })) refl
break-at s p k cell state.Taken core does finds at = keeps-answers s _ _ (watch-ends s p k core does) refl
break-at s p k cell _ core does finds at = keeps-none

break-row : (s : Shape) (p : ℕ) → IsEitherCore s → (d : Option Doing) → slice_get s.queue.doing p ≡ d
    → KeepsCore s (break_row s p d)
break-row s p core (Some (doing.Watching k)) does =
    keeps-found (λ cell. break_at s p k cell cell.state) (slice_get s.queue.cells k)
    (λ cell finds. break-at s p k cell cell.state core does finds refl)
break-row s p core _ does = keeps-none

-- a pass that may end a wait is its owner
owner-true : (p : ℕ) (owner : Option ℕ) → is_owner p owner ≡ true → owner ≡ Some p
owner-true p (Some other) e = let same : other ≡ p = eqb-true other p e in cc
owner-true p None e = absurd (cc)

uncollected-true : (b : Bool) → (if b then false else true) ≡ true → b ≡ false
uncollected-true true e = absurd (cc)
uncollected-true false e = refl

pub owns-from : (p : ℕ) (cell : CoreCell) → is_with p cell ≡ true → Owns p cell
owns-from p cell e =
    let both = and_parts (is_owner p cell.owner) (if cell.collected then false else true) e in
    record { owner = owner-true p cell.owner both.0; uncollected = uncollected-true cell.collected both.1 }

leave-at : (s : Shape) (p k : ℕ) (cell : CoreCell) (now : CoreState) → IsEitherCore s
    → slice_get s.queue.doing p ≡ Some doing.Idle → slice_get s.queue.cells k ≡ Some cell → cell.state ≡ now
    → Owns p cell → KeepsCore s (leave_at s p k cell now)
leave-at s p k cell state.Waiter core does finds at owns =
    keeps-answers s _ _ (leave-waiter s p k cell core (record { does = does; finds = finds; at = at }) owns) refl
leave-at s p k cell state.Resumed core does finds at owns =
    keeps-answers s _ _ (leave-late s p k cell core (record { does = does; finds = finds; at = at }) owns) refl
leave-at s p k cell _ core does finds at owns = keeps-none

leave-row : (s : Shape) (p k : ℕ) → IsEitherCore s → (d : Option Doing) → slice_get s.queue.doing p ≡ d
    → KeepsCore s (leave_row s p k d)
leave-row s p k core (Some doing.Idle) does =
    keeps-found (λ cell. leave_with s p k cell) (slice_get s.queue.cells k)
    (λ cell finds. keeps-if _ _ _
    (λ owned. leave-at s p k cell cell.state core does finds refl (owns-from p cell owned))
    (λ other. keeps-none))
leave-row s p k core _ does = keeps-none

decide-row : (s : Shape) (p : ℕ) → IsEitherCore s → (d : Option Doing) → slice_get s.queue.doing p ≡ d
    → KeepsCore s (decide_row s p d)
decide-row s p core (Some (doing.Leaving k)) does =
    keeps-if _ _ _
    (λ below. keeps-answers s _ _ (decide-passes s p k core does (below-true _ _ below)) refl)
    (λ above. keeps-answers s _ _ (decide-refuses s p k core does (below-false _ _ above)) refl)
decide-row s p core _ does = keeps-none

settle-at : (s : Shape) (p k : ℕ) (on : Bool) (cell : CoreCell) (now : CoreState) → IsEitherCore s
    → slice_get s.queue.doing p ≡ Some (doing.Decided k on) → slice_get s.queue.cells k ≡ Some cell
    → cell.state ≡ now
    → KeepsCore s (settle_at s p k on cell now)
settle-at s p k true cell state.Cancelling core does finds at =
    keeps-answers s _ _ (settle-cancelled s p k cell core (record { does = does; finds = finds; at = at })) refl
settle-at s p k true cell state.Delegated core does finds at =
    keeps-answers s _ _ (settle-owing s p k cell core (record { does = does; finds = finds; at = at })) refl
settle-at s p k false cell state.Cancelling core does finds at =
    keeps-answers s _ _ (settle-refused s p k cell core (record { does = does; finds = finds; at = at })) refl
settle-at s p k false cell state.Delegated core does finds at =
    keeps-answers s _ _ (settle-ended s p k cell core (record { does = does; finds = finds; at = at })) refl
settle-at s p k true cell _ core does finds at = keeps-none
settle-at s p k false cell _ core does finds at = keeps-none

settle-row : (s : Shape) (p : ℕ) → IsEitherCore s → (d : Option Doing) → slice_get s.queue.doing p ≡ d
    → KeepsCore s (settle_row s p d)
settle-row s p core (Some (doing.Decided k on)) does =
    keeps-found (λ cell. settle_at s p k on cell cell.state) (slice_get s.queue.cells k)
    (λ cell finds. settle-at s p k on cell cell.state core does finds refl)
settle-row s p core _ does = keeps-none

look-at : (s : Shape) (p k : ℕ) (cell : CoreCell) (now : CoreState) → IsEitherCore s
    → slice_get s.queue.doing p ≡ Some doing.Idle → slice_get s.queue.cells k ≡ Some cell → cell.state ≡ now
    → Owns p cell → KeepsCore s (look_at s p k cell now)
look-at s p k cell state.Waiter core does finds at owns =
    keeps-answers s _ _ (look-pending s p k cell core (record { does = does; finds = finds; at = at }) owns) refl
look-at s p k cell state.Resumed core does finds at owns =
    keeps-answers s _ _ (look-granted s p k cell core (record { does = does; finds = finds; at = at }) owns) refl
look-at s p k cell _ core does finds at owns = keeps-none

look-row : (s : Shape) (p k : ℕ) → IsEitherCore s → (d : Option Doing) → slice_get s.queue.doing p ≡ d
    → KeepsCore s (look_row s p k d)
look-row s p k core (Some doing.Idle) does =
    keeps-found (λ cell. look_with s p k cell) (slice_get s.queue.cells k)
    (λ cell finds. keeps-if _ _ _
    (λ owned. look-at s p k cell cell.state core does finds refl (owns-from p cell owned))
    (λ other. keeps-none))
look-row s p k core _ does = keeps-none

pub rows-keep : (s : Shape) (e : Event) → IsEitherCore s → KeepsCore s (step s e)
rows-keep s (event.Take p) core = take-row s p core (slice_get s.queue.doing p) refl
rows-keep s (event.TryLoad p) core = try-load-row s p core (slice_get s.queue.doing p) refl
rows-keep s (event.TrySwap p) core = try-swap-row s p core (slice_get s.queue.doing p) refl
rows-keep s (event.Draw p) core = draw-row s p core (slice_get s.queue.doing p) refl
rows-keep s (event.Install p) core = install-row s p core (slice_get s.queue.doing p) refl
rows-keep s (event.Give p) core = give-row s p core (slice_get s.queue.doing p) refl
rows-keep s (event.Reach p) core = reach-row s p core (slice_get s.queue.doing p) refl
rows-keep s (event.Meet p) core = meet-row s p core (slice_get s.queue.doing p) refl
rows-keep s (event.See p) core = see-row s p core (slice_get s.queue.doing p) refl
rows-keep s (event.Break p) core = break-row s p core (slice_get s.queue.doing p) refl
rows-keep s (event.Leave p k) core = leave-row s p k core (slice_get s.queue.doing p) refl
rows-keep s (event.Decide p) core = decide-row s p core (slice_get s.queue.doing p) refl
rows-keep s (event.Settle p) core = settle-row s p core (slice_get s.queue.doing p) refl
rows-keep s (event.Look p k) core = look-row s p k core (slice_get s.queue.doing p) refl

-- what an allowed event makes of a core is a core
pub row-core : (s : Shape) (e : Event) (row : Stepped) → IsEitherCore s → step s e ≡ Some row → IsEitherCore row.shape
row-core s e row core is = ((rows-keep s e core).at row is).0
