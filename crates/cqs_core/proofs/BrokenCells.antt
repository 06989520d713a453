-- Each broken cell of a core on a run was broken once, and was found so once where it is collected: the entries are in
-- the history since the step that broke the cell or found it so appended them, and they are the only ones since the
-- history is legal.
use Rattle.std.proofs.Common.{◌≡◌, ◌≢◌, ℕ, Bool, true, false, nat_lt, int_lt, pos, List, [], ◌∷◌, ◌++◌, Option, Some, None, length, set, slice_get, slice_index, refl, sym, subst, arith}
use Rattle.cqs_core.specs.declared.cells.CoreCell.{CoreCell}
use Rattle.cqs_core.specs.declared.cells.CoreState.{CoreState}
use Rattle.cqs_core.specs.declared.cells.CoreState.TheVariants as state
use Rattle.cqs_core.specs.declared.doings.Doing.{Doing}
use Rattle.cqs_core.specs.declared.doings.Doing.TheVariants as doing
use Rattle.cqs_core.specs.declared.entries.Entry.{Entry}
use Rattle.cqs_core.specs.declared.entries.Entry.TheVariants as entry
use Rattle.cqs_core.specs.declared.events.Event.{Event}
use Rattle.cqs_core.specs.declared.events.Event.TheVariants as event
use Rattle.cqs_core.specs.Numbered.{EachAt, IsIn}
use Rattle.cqs_core.specs.QueueState.{fresh_cell}
use Rattle.cqs_core.specs.QueueLine.{is_spoiled}
use Rattle.cqs_core.specs.QueueMoves.{cells_drawn, cells_reached, at_state}
use Rattle.cqs_core.specs.BrokenCells.{HasOne, WasBrokenOnce, EveryBrokenCellWasBrokenOnce}
use Rattle.cqs_core.specs.SemaphoreCores.{IsEitherCore, opening_of}
use Rattle.cqs_core.specs.SemaphoreEntries.{object_after}
use Rattle.cqs_core.specs.SemaphoreLaws.{Breaks, FindsBroken}
use Rattle.cqs_core.specs.SemaphoreObject.{Semaphore}
use Rattle.cqs_core.specs.SemaphoreTable.{Shape, Stepped, step, take_row, try_load_row, try_swap_row, draw_row, install_row, install_at, give_row, reach_row, meet_row, meet_at, see_row, see_at, break_row, break_at, leave_row, leave_with, leave_at, decide_row, settle_row, settle_at, look_row, look_with, look_at, lowest}
use Rattle.cqs_core.proofs.Broken.{every-number-broken-once, every-break-found-once, found-lacks}
use Rattle.cqs_core.proofs.EachAtLemmas.{EachAt-write, EachAt-push, EachAt-weaker}
use Rattle.cqs_core.proofs.EitherHands.{handed-core}
use Rattle.cqs_core.proofs.EitherRuns.{opened-either}
use Rattle.cqs_core.proofs.EitherTable.{row-core}
use Rattle.cqs_core.proofs.RunsKeep.{HandsOver, run-keeps}
use Rattle.cqs_core.proofs.Picked.{picked-in}
use Rattle.cqs_core.proofs.Places.{get-append_left, get-push_at}
use Rattle.cqs_core.proofs.Rising.{lacks-in}
use Rattle.cqs_core.proofs.RowsKeep.{Keeps, keeps-none, keeps-row, keeps-if, keeps-found}
use Rattle.cqs_core.proofs.SpoiledLists.{spoiled_key}
use Rattle.cqs_core.proofs.UnbrokenMoves.{cell-sound}

-- some entry of the history is such
record HasSome (P : Entry → Type 0) (history : List Entry) : Type 0 where
  place : ℕ
  one : Entry
  there : slice_get history place ≡ Some one
  is : P one

some-kept : (P : Entry → Type 0) (history : List Entry) (e : Entry) → HasSome P history → HasSome P (history ++ e ∷ [])
some-kept P history e some = record {
  place = some.place;
  one = some.one;
  there = get-append_left history (e ∷ []) some.place some.one some.there;
  is = some.is;
}

some-new : (P : Entry → Type 0) (history : List Entry) (e : Entry) → P e → HasSome P (history ++ e ∷ [])
some-new P history e is =
    record { place = length history; one = e; there = get-push_at history e (length history) refl; is = is }

-- the history tells that the cell was broken, and that it was found so
record IsTold (history : List Entry) (k : ℕ) (c : CoreCell) : Type 0 where
  broken : c.state ≡ state.Broken → HasSome (Breaks k) history
  found : c.state ≡ state.Broken → c.collected ≡ true → HasSome (FindsBroken k) history

abbrev AreTold : List Entry → List CoreCell → Type 0
AreTold history cells = EachAt (IsTold history) cells

abbrev TellsBroken : Shape → Type 0
TellsBroken s = AreTold s.history s.queue.cells

whole-told : (history : List Entry) (k : ℕ) (c : CoreCell) → c.state ≢ state.Broken → IsTold history k c
whole-told history k c whole = record { broken = λ is. absurd (whole is); found = λ is. absurd (whole is) }

told-kept : (history : List Entry) (e : Entry) (k : ℕ) (c : CoreCell) → IsTold history k c
    → IsTold (history ++ e ∷ []) k c
told-kept history e k c told = record {
  broken = λ is. some-kept (Breaks k) history e (told.broken is);
  found = λ is collected. some-kept (FindsBroken k) history e (told.found is collected);
}

are-kept : (history : List Entry) (e : Entry) (cells : List CoreCell) → AreTold history cells
    → AreTold (history ++ e ∷ []) cells
are-kept history e cells told =
    EachAt-weaker (IsTold history) (IsTold (history ++ e ∷ [])) cells (λ k c got. told-kept history e k c) told

-- a write
are-written : (history : List Entry) (cells : List CoreCell) (k : ℕ) (old new : CoreCell) → slice_get cells k ≡ Some old
    → IsTold history k new → AreTold history cells → AreTold history (set cells k new)
are-written history cells k old new finds now told =
    EachAt-write (IsTold history) (IsTold history) cells k old new finds now (λ j c got other was. was) told

module _ (s : Shape) (told : TellsBroken s) where
  recorded : (e : Entry) → AreTold (s.history ++ e ∷ []) s.queue.cells
  recorded e = are-kept s.history e s.queue.cells told

  -- a cell that is written, and isn't broken
  written : (k : ℕ) (old new : CoreCell) → slice_get s.queue.cells k ≡ Some old → new.state ≢ state.Broken
      → AreTold s.history (set s.queue.cells k new)
  written k old new finds whole =
      are-written s.history s.queue.cells k old new finds (whole-told s.history k new whole) told

  recorded-written : (e : Entry) (k : ℕ) (old new : CoreCell) → slice_get s.queue.cells k ≡ Some old
      → new.state ≢ state.Broken → AreTold (s.history ++ e ∷ []) (set s.queue.cells k new)
  recorded-written e k old new finds whole =
      are-written (s.history ++ e ∷ []) s.queue.cells k old new finds (whole-told (s.history ++ e ∷ []) k new whole)
      (recorded e)

  take-tells : (p : ℕ) (d : Option Doing) → Keeps TellsBroken (take_row s p d)
  take-tells p (Some doing.Idle) =
      keeps-if (int_lt lowest s.state) _ _
      (λ above. keeps-if (int_lt (pos 0) s.state) _ _ (λ free. keeps-row _ _ (recorded _))
      (λ none. keeps-row _ _ (recorded _)))
      (λ low. keeps-none)
  take-tells p _ = keeps-none

  try_load-tells : (p : ℕ) (d : Option Doing) → Keeps TellsBroken (try_load_row s p d)
  try_load-tells p (Some doing.Idle) =
      keeps-if _ _ _ (λ none. keeps-row _ _ (recorded _)) (λ free. keeps-row _ _ told)
  try_load-tells p _ = keeps-none

  try_swap-tells : (p : ℕ) (d : Option Doing) → Keeps TellsBroken (try_swap_row s p d)
  try_swap-tells p (Some (doing.TryAt v)) =
      keeps-if _ _ _ (λ same. keeps-row _ _ (recorded _)) (λ other. keeps-row _ _ told)
  try_swap-tells p _ = keeps-none

  drawn : (e : Entry) (k p : ℕ) (found : Option CoreCell) → slice_get s.queue.cells k ≡ found
      → AreTold (s.history ++ e ∷ []) (cells_drawn s.queue.cells k p found)
  drawn e k p None finds =
      EachAt-push (IsTold (s.history ++ e ∷ [])) (IsTold (s.history ++ e ∷ [])) s.queue.cells _
      (whole-told _ _ _ (λ is. absurd (cc))) (λ j c got was. was) (recorded e)
  drawn e k p (Some c) finds =
      let was : IsTold (s.history ++ e ∷ []) k c = (recorded e).at k c finds in
      are-written (s.history ++ e ∷ []) s.queue.cells k c _ finds
      (record { broken = was.broken; found = was.found }) (recorded e)

  draw-tells : (p : ℕ) (d : Option Doing) → Keeps TellsBroken (draw_row s p d)
  draw-tells p (Some doing.Door) =
      keeps-if _ _ _
      (λ few. keeps-row _ _ (drawn _ s.queue.suspends p (slice_get s.queue.cells s.queue.suspends) refl))
      (λ full. keeps-none)
  draw-tells p _ = keeps-none

  -- the suspend of a broken cell has found it so
  found-told : (p k : ℕ) (c : CoreCell) → slice_get s.queue.cells k ≡ Some c → c.state ≡ state.Broken
      → AreTold (s.history ++ entry.Undo p k ∷ [])
      (set s.queue.cells k (record { state = state.Broken; owner = c.owner; collected = true }))
  found-told p k c finds is =
      are-written (s.history ++ entry.Undo p k ∷ []) s.queue.cells k c _ finds
      (record {
        broken = λ _. some-kept (Breaks k) s.history (entry.Undo p k) ((told.at k c finds).broken is);
        found = λ _ _. some-new (FindsBroken k) s.history (entry.Undo p k) refl;
      })
      (recorded (entry.Undo p k))

  install_at-tells : (p k : ℕ) (c : CoreCell) (st : CoreState) → slice_get s.queue.cells k ≡ Some c → c.state ≡ st
      → Keeps TellsBroken (install_at s p k c st)
  install_at-tells p k c state.Empty finds is = keeps-row _ _ (written k c _ finds (λ e. absurd (cc)))
  install_at-tells p k c state.Value finds is = keeps-row _ _ (recorded-written _ k c _ finds (λ e. absurd (cc)))
  install_at-tells p k c state.Broken finds is = keeps-row _ _ (found-told p k c finds is)
  install_at-tells p k c _ finds is = keeps-none

  install-tells : (p : ℕ) (d : Option Doing) → Keeps TellsBroken (install_row s p d)
  install-tells p (Some (doing.Drawn k)) =
      keeps-found (λ c. install_at s p k c c.state) (slice_get s.queue.cells k)
      (λ c finds. install_at-tells p k c c.state finds refl)
  install-tells p _ = keeps-none

  give-tells : (p : ℕ) (d : Option Doing) → Keeps TellsBroken (give_row s p d)
  give-tells p (Some doing.Idle) =
      keeps-if (nat_lt 0 (slice_index s.held p)) _ _
      (λ some. keeps-if (int_lt s.state (pos 0)) _ _ (λ short. keeps-row _ _ (recorded _))
      (λ enough. keeps-row _ _ (recorded _)))
      (λ none. keeps-none)
  give-tells p _ = keeps-none

  reached : (found : Option CoreCell) → AreTold s.history (cells_reached s.queue.cells found)
  reached None =
      EachAt-push (IsTold s.history) (IsTold s.history) s.queue.cells fresh_cell
      (whole-told _ _ _ (λ is. absurd (cc))) (λ j c got was. was) told
  reached (Some c) = told

  reach-tells : (p : ℕ) (d : Option Doing) → Keeps TellsBroken (reach_row s p d)
  reach-tells p (Some doing.Owes) =
      keeps-if _ _ _ (λ few. keeps-row _ _ (reached (slice_get s.queue.cells s.queue.resumes))) (λ full. keeps-none)
  reach-tells p _ = keeps-none

  meet_at-tells : (p k : ℕ) (c : CoreCell) (st : CoreState) → slice_get s.queue.cells k ≡ Some c
      → Keeps TellsBroken (meet_at s p k c st)
  meet_at-tells p k c state.Waiter finds = keeps-row _ _ (recorded-written _ k c _ finds (λ e. absurd (cc)))
  meet_at-tells p k c state.Empty finds =
      keeps-if s.sync _ _ (λ is. keeps-row _ _ (written k c _ finds (λ e. absurd (cc))))
      (λ is. keeps-row _ _ (written k c _ finds (λ e. absurd (cc))))
  meet_at-tells p k c state.Cancelling finds =
      keeps-if s.sync _ _ (λ is. keeps-row _ _ told)
      (λ is. keeps-row _ _ (written k c _ finds (λ e. absurd (cc))))
  meet_at-tells p k c state.Cancelled finds = keeps-row _ _ told
  meet_at-tells p k c state.Refused finds = keeps-row _ _ told
  meet_at-tells p k c _ finds = keeps-none

  meet-tells : (p : ℕ) (d : Option Doing) → Keeps TellsBroken (meet_row s p d)
  meet-tells p (Some (doing.Ticket k)) =
      keeps-found (λ c. meet_at s p k c c.state) (slice_get s.queue.cells k)
      (λ c finds. meet_at-tells p k c c.state finds)
  meet-tells p _ = keeps-none

  see_at-tells : (p k : ℕ) (st : CoreState) → Keeps TellsBroken (see_at s p k st)
  see_at-tells p k state.Value = keeps-row _ _ told
  see_at-tells p k state.Taken = keeps-row _ _ told
  see_at-tells p k _ = keeps-none

  see-tells : (p : ℕ) (d : Option Doing) → Keeps TellsBroken (see_row s p d)
  see-tells p (Some (doing.Watching k)) =
      keeps-found (λ c. see_at s p k c.state) (slice_get s.queue.cells k) (λ c finds. see_at-tells p k c.state)
  see-tells p _ = keeps-none

  -- a resume has broken the cell of its value, which no suspend has taken
  break-told : (p k : ℕ) (c : CoreCell) → IsEitherCore s → slice_get s.queue.cells k ≡ Some c → c.state ≡ state.Value
      → AreTold (s.history ++ entry.Spoil p k ∷ []) (set s.queue.cells k (at_state c state.Broken))
  break-told p k c core finds is =
      let left = cell-sound s.queue core.sound k c state.Value finds (rw is refl) in
      let open_cell : c.collected ≡ false = left.2 in
      are-written (s.history ++ entry.Spoil p k ∷ []) s.queue.cells k c _ finds
      (record {
        broken = λ _. some-new (Breaks k) s.history (entry.Spoil p k) refl;
        found = λ _ collected. absurd (cc (open_cell, collected));
      })
      (recorded (entry.Spoil p k))

  break_at-tells : (p k : ℕ) (c : CoreCell) (st : CoreState) → IsEitherCore s → slice_get s.queue.cells k ≡ Some c
      → c.state ≡ st → Keeps TellsBroken (break_at s p k c st)
  break_at-tells p k c state.Value core finds is = keeps-row _ _ (break-told p k c core finds is)
  break_at-tells p k c state.Taken core finds is = keeps-row _ _ told
  break_at-tells p k c _ core finds is = keeps-none

  break-tells : (p : ℕ) (d : Option Doing) → IsEitherCore s → Keeps TellsBroken (break_row s p d)
  break-tells p (Some (doing.Watching k)) core =
      keeps-found (λ c. break_at s p k c c.state) (slice_get s.queue.cells k)
      (λ c finds. break_at-tells p k c c.state core finds refl)
  break-tells p _ core = keeps-none

  leave_at-tells : (p k : ℕ) (c : CoreCell) (st : CoreState) → slice_get s.queue.cells k ≡ Some c → c.state ≡ st
      → Keeps TellsBroken (leave_at s p k c st)
  leave_at-tells p k c state.Waiter finds is = keeps-row _ _ (written k c _ finds (λ e. absurd (cc)))
  leave_at-tells p k c state.Resumed finds is =
      keeps-row _ _ (recorded-written _ k c _ finds (λ e. absurd (cc (is, e))))
  leave_at-tells p k c _ finds is = keeps-none

  leave-tells : (p k : ℕ) (d : Option Doing) → Keeps TellsBroken (leave_row s p k d)
  leave-tells p k (Some doing.Idle) =
      keeps-found (λ c. leave_with s p k c) (slice_get s.queue.cells k)
      (λ c finds. keeps-if _ _ _ (λ own. leave_at-tells p k c c.state finds refl) (λ other. keeps-none))
  leave-tells p k _ = keeps-none

  decide-tells : (p : ℕ) (d : Option Doing) → Keeps TellsBroken (decide_row s p d)
  decide-tells p (Some (doing.Leaving k)) =
      keeps-if _ _ _ (λ short. keeps-row _ _ (recorded _)) (λ enough. keeps-row _ _ (recorded _))
  decide-tells p _ = keeps-none

  settle_at-tells : (p k : ℕ) (on : Bool) (c : CoreCell) (st : CoreState) → slice_get s.queue.cells k ≡ Some c
      → Keeps TellsBroken (settle_at s p k on c st)
  settle_at-tells p k true c state.Cancelling finds = keeps-row _ _ (written k c _ finds (λ e. absurd (cc)))
  settle_at-tells p k true c state.Delegated finds = keeps-row _ _ (written k c _ finds (λ e. absurd (cc)))
  settle_at-tells p k false c state.Cancelling finds = keeps-row _ _ (written k c _ finds (λ e. absurd (cc)))
  settle_at-tells p k false c state.Delegated finds = keeps-row _ _ (written k c _ finds (λ e. absurd (cc)))
  settle_at-tells p k true c _ finds = keeps-none
  settle_at-tells p k false c _ finds = keeps-none

  settle-tells : (p : ℕ) (d : Option Doing) → Keeps TellsBroken (settle_row s p d)
  settle-tells p (Some (doing.Decided k on)) =
      keeps-found (λ c. settle_at s p k on c c.state) (slice_get s.queue.cells k)
      (λ c finds. settle_at-tells p k on c c.state finds)
  settle-tells p _ = keeps-none

  look_at-tells : (p k : ℕ) (c : CoreCell) (st : CoreState) → slice_get s.queue.cells k ≡ Some c → c.state ≡ st
      → Keeps TellsBroken (look_at s p k c st)
  look_at-tells p k c state.Waiter finds is = keeps-row _ _ (recorded _)
  look_at-tells p k c state.Resumed finds is =
      keeps-row _ _ (recorded-written _ k c _ finds (λ e. absurd (cc (is, e))))
  look_at-tells p k c _ finds is = keeps-none

  look-tells : (p k : ℕ) (d : Option Doing) → Keeps TellsBroken (look_row s p k d)
  look-tells p k (Some doing.Idle) =
      keeps-found (λ c. look_with s p k c) (slice_get s.queue.cells k)
      (λ c finds. keeps-if _ _ _ (λ own. look_at-tells p k c c.state finds refl) (λ other. keeps-none))
  look-tells p k _ = keeps-none

  event-tells : IsEitherCore s → (e : Event) → Keeps TellsBroken (step s e)
  event-tells core (event.Take p) = take-tells p (slice_get s.queue.doing p)
  event-tells core (event.TryLoad p) = try_load-tells p (slice_get s.queue.doing p)
  event-tells core (event.TrySwap p) = try_swap-tells p (slice_get s.queue.doing p)
  event-tells core (event.Draw p) = draw-tells p (slice_get s.queue.doing p)
  event-tells core (event.Install p) = install-tells p (slice_get s.queue.doing p)
  event-tells core (event.Give p) = give-tells p (slice_get s.queue.doing p)
  event-tells core (event.Reach p) = reach-tells p (slice_get s.queue.doing p)
  event-tells core (event.Meet p) = meet-tells p (slice_get s.queue.doing p)
  event-tells core (event.See p) = see-tells p (slice_get s.queue.doing p)
  event-tells core (event.Break p) = break-tells p (slice_get s.queue.doing p) core
  event-tells core (event.Leave p k) = leave-tells p k (slice_get s.queue.doing p)
  event-tells core (event.Decide p) = decide-tells p (slice_get s.queue.doing p)
  event-tells core (event.Settle p) = settle-tells p (slice_get s.queue.doing p)
  event-tells core (event.Look p k) = look-tells p k (slice_get s.queue.doing p)

-- a core, whose history tells of each broken cell
record IsToldCore (s : Shape) : Type 0 where
  core : IsEitherCore s
  told : TellsBroken s

event-told : (s : Shape) (e : Event) (row : Stepped) → IsToldCore s → step s e ≡ Some row → IsToldCore row.shape
event-told s e row is made =
    record { core = row-core s e row is.core made; told = (event-tells s is.told is.core e).at row made }

handed-told : (s next : Shape) → IsToldCore s → HandsOver s next → IsToldCore next
handed-told s next is hands =
    let told : TellsBroken (record s { held = hands.held }) = is.told in
    record {
      core = handed-core s next is.core hands;
      told = subst (λ (x : Shape). TellsBroken x) hands.is told;
    }

-- What the legal history of such a core says of a broken cell.
module _ (s : Shape) (is : IsToldCore s) (k : ℕ) (c : CoreCell) (finds : slice_get s.queue.cells k ≡ Some c)
    (broken : c.state ≡ state.Broken) where
  just-one : (P : Entry → Type 0) → HasSome P s.history
      → ((m n : ℕ) (d e : Entry) → slice_get s.history m ≡ Some d → slice_get s.history n ≡ Some e → P d → P e → m ≡ n)
      → HasOne P s.history
  just-one P some alone = record {
    place = some.place;
    one = some.one;
    there = some.there;
    is = some.is;
    sole = λ n e got such. alone n some.place e some.one got some.there such some.is;
  }

  -- a number whose suspend hasn't found it broken is one of the broken ones
  among : c.collected ≡ false
      → IsIn (record { wait = k; pass = c.owner }) (object_after s.permits s.history).spoiled
  among uncollected =
      let here : is_spoiled k c ≡ Some (record { wait = k; pass = c.owner }) = rw (broken, uncollected) refl in
      subst (λ (o : Semaphore). IsIn (record { wait = k; pass = c.owner }) o.spoiled) (sym is.core.object)
      (picked-in is_spoiled 0 s.queue.cells k k c (record { wait = k; pass = c.owner }) (omega arith) finds here)

  was-broken : WasBrokenOnce s.history k c
  was-broken = record {
    broken =
        just-one (Breaks k) ((is.told.at k c finds).broken broken)
        (λ m n d e. every-number-broken-once s.permits s.history k m n d e is.core.legal);
    found = λ collected.
        just-one (FindsBroken k) ((is.told.at k c finds).found broken collected)
        (λ m n d e. every-break-found-once s.permits s.history k m n d e is.core.legal);
    unfound = λ uncollected. record {
      at = λ n e got found.
          lacks-in spoiled_key k (record { wait = k; pass = c.owner }) (object_after s.permits s.history).spoiled refl
          (among uncollected) (found-lacks s.permits s.history is.core.legal k n e got found);
    };
  }

pub every-broken-cell-was-broken-once : EveryBrokenCellWasBrokenOnce
every-broken-cell-was-broken-once sync permits passes size steps s ran =
    record { at = λ k c finds broken. was-broken s told k c finds broken }
  where
    opened : IsToldCore (opening_of sync permits passes)
    opened = record {
      core = opened-either sync permits passes size;
      told = record { at = λ k c got. absurd (cc) };
    }

    told : IsToldCore s
    told = run-keeps IsToldCore event-told handed-told steps (opening_of sync permits passes) s opened ran
