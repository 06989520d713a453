-- A suspend draws a number, which may be broken, and keeps the core.
use Rattle.std.proofs.Common.{◌≡◌, ◌≢◌, ◌⊎◌, inl, inr, ℕ, ◌+◌, ◌<◌, ◌≤◌, nat_le, ◌||◌, Bool, true, false, is_some, List, [], ◌∷◌, ◌++◌, Option, Some, None, length, map, set, sum, slice_get, if◌then◌else◌, refl, ap, ap₂, sym, ◌∙◌, subst, arith, eq-eqb, le-leb, append-nil}
use Rattle.std.proofs.lemmas.Bool.{cases_lt, lt-leb}
use Rattle.std.proofs.lemmas.List.{length-set, length-map}
use Rattle.cqs_core.specs.declared.cells.CoreCell.{CoreCell}
use Rattle.cqs_core.specs.declared.cells.CoreState.{CoreState}
use Rattle.cqs_core.specs.declared.cells.CoreState.TheVariants as state
use Rattle.cqs_core.specs.declared.doings.Doing.{Doing}
use Rattle.cqs_core.specs.declared.doings.Doing.TheVariants as doing
use Rattle.cqs_core.specs.declared.entries.Entry.TheVariants as entry
use Rattle.cqs_core.specs.Numbered.{pick_each, count_at, IsIn}
use Rattle.cqs_core.specs.Keyed.{without, change_by}
use Rattle.cqs_core.specs.QueueState.{Queue, owner_doing}
use Rattle.cqs_core.specs.QueueLine.{Spoiled, stays_in_line, at_door, door, in_line, waiting_of, line, services, is_spoiled, spoiled_of, spoiled, going, ending, way, has_left, has_ready, ready, is_unmet}
use Rattle.cqs_core.specs.QueueMoves as move
use Rattle.cqs_core.specs.QueueMoves.{move_queue}
use Rattle.cqs_core.specs.QueueSound.{IsSound, IsSoundAt, IsUntaken}
use Rattle.cqs_core.specs.QueueAsUnbroken.{as_unbroken, unbroken_cell, unbroken_state}
use Rattle.cqs_core.specs.SemaphoreObject.{Semaphore, early_of}
use Rattle.cqs_core.specs.SemaphoreEntries.{has_spoiled}
use Rattle.cqs_core.specs.SemaphoreTable.{Shape, records, moves, last_number}
use Rattle.cqs_core.specs.SemaphoreShown.{short_of}
use Rattle.cqs_core.specs.SemaphoreCores.{IsEitherCore, shown_by_either, early}
use Rattle.cqs_core.proofs.EitherFrame.{WordsFit, TellsShort, seen, core-push}
use Rattle.cqs_core.proofs.UnbrokenMoves.{finds-read, spoiled_wait, spoiled-keyed, spoiled-around, spoiled-kept, cell-sound}
use Rattle.cqs_core.proofs.EitherSteps.{door-covers, after-move}
use Rattle.cqs_core.proofs.CoreFrame.{Conserves, same-by_waiters, loaded-turn}
use Rattle.cqs_core.proofs.Counts.{bit, count_at-some, count_at-none, count_by-write, count_at-change}
use Rattle.cqs_core.proofs.DrawMoves.{IsFront, IsFree, undrawn, Enters, enters-draw-from}
use Rattle.cqs_core.proofs.HiddenMoves.{same-waiters}
use Rattle.cqs_core.proofs.Keys.{Around, around-kept, around-went, around-changed, around-shorter}
use Rattle.cqs_core.proofs.LineReads.{caller, wait_of, service_wait, line-around, served-around, door-around}
use Rattle.cqs_core.proofs.Picked.{picked-in, picked-low, picked-push}
use Rattle.cqs_core.proofs.Places.{get-below, get-none, get-set_here, get-set_else}
use Rattle.cqs_core.proofs.QueueAsUnbroken.{passes, count_by-picked, either-cell, IsPlain, IsEither, ahead, is_ahead, sync-within}
use Rattle.cqs_core.proofs.Rising.{in-some}
use Rattle.cqs_core.proofs.SpoiledLists.{below-lacks, above-lacks, has_spoiled-append, early-next}
use Rattle.cqs_core.proofs.WaysChange.{ways-cell}

-- Whether a number is broken, by its cell.

-- the number is broken exactly where its cell shows it
pub has_spoiled-cell : (cells : List CoreCell) (k : ℕ) (found : CoreCell) → slice_get cells k ≡ Some found
    → has_spoiled k (pick_each is_spoiled 0 cells) ≡ is_some (is_spoiled k found)
has_spoiled-cell cells k found finds = go (is_spoiled k found) refl (spoiled-around cells k found found finds)
  where
    go : (o : Option Spoiled) → is_spoiled k found ≡ o
        → Around spoiled_wait k (pick_each is_spoiled 0 cells) (pick_each is_spoiled 0 (set cells k found)) o o
        → has_spoiled k (pick_each is_spoiled 0 cells) ≡ is_some o
    go None is a =
        ap (has_spoiled k) a.was
        ∙ has_spoiled-append k a.front a.back
        ∙ ap₂ (λ x y. x || y) (below-lacks k a.front a.low) (above-lacks k a.back a.high)
    go (Some b) is a =
        let here : b.wait ≡ k = spoiled-keyed.at k found b is in
        ap (has_spoiled k) a.was
        ∙ has_spoiled-append k a.front (b ∷ a.back)
        ∙ ap₂ (λ x y. x || (y || has_spoiled k a.back)) (below-lacks k a.front a.low) (eq-eqb b.wait k here)

-- a number without a cell isn't broken
has_spoiled-none : (cells : List CoreCell) (k : ℕ) → slice_get cells k ≡ None
    → has_spoiled k (pick_each is_spoiled 0 cells) ≡ false
has_spoiled-none cells k none =
    below-lacks k (pick_each is_spoiled 0 cells)
    (picked-low is_spoiled spoiled_wait spoiled-keyed k 0 cells (λ i m cell at got past.
    let below : i < length cells = get-below cells i cell got in
    let few : length cells ≤ k = get-none cells k none in
    absurd (omega arith)))

pub front-either : (q : Queue) → IsSound (as_unbroken q) → IsFront q
front-either q sound = record {
  unowned = λ k found finds past.
      (undrawn (as_unbroken q) k (unbroken_cell found) sound (finds-read q k found finds) past).owner;
  made = let long : length (map unbroken_cell q.cells) ≡ length q.cells = length-map q.cells unbroken_cell in
      omega (arith, long, sound.made);
}

-- The pass p draws the next number.
module _ (s : Shape) (p : ℕ) (core : IsEitherCore s) (does : slice_get s.queue.doing p ≡ Some doing.Door)
    (below : s.queue.suspends < last_number) where
  abbrev n : ℕ
  n = s.queue.suspends

  abbrev drawn : Option CoreCell → Queue
  drawn found = move_queue s.queue (move.draw p n found)

  -- what its entry makes of the semaphore, by whether the number is broken
  abbrev entered : Bool → Semaphore
  entered b =
      if b
      then record (shown_by_either s) {
        door = without (λ d. d) p (door s.queue);
        next = n + 1;
        spoiled =
            change_by spoiled_wait n (λ (b : Spoiled). record { wait = b.wait; pass = Some p }) (spoiled s.queue);
      }
      else record (shown_by_either s) {
        door = without (λ d. d) p (door s.queue);
        line = line s.queue ++ record { wait = n; pass = p } ∷ [];
        next = n + 1;
      }

  stands : IsIn p (door s.queue)
  stands = picked-in at_door 0 s.queue.doing p p doing.Door p (omega arith) does refl

  words : (found : Option CoreCell) → WordsFit s (drawn found) s.state s.held
  words found = record {
    state = core.range.state;
    suspends = omega arith;
    resumes = core.range.resumes;
    loaded = loaded-turn s.queue.doing p doing.Door (doing.Drawn n) does tt core.loaded;
    holders = refl;
  }

  -- the number isn't broken: its wait is the last of the line
  draw-whole : (found : Option CoreCell) → slice_get s.queue.cells n ≡ found → IsFree found
      → has_spoiled n (spoiled s.queue) ≡ false → spoiled (drawn found) ≡ spoiled s.queue
      → early s.queue < length (door s.queue)
      → IsEitherCore (records (moves s (move.draw p n found)) (entry.Enter p n))
  draw-whole found finds free whole same few =
      let q : Queue = s.queue in
      let r : Queue = drawn found in
      let enters : Enters q r p n = enters-draw-from q p found (front-either q core.sound) free does finds in
      let as_early : early r ≡ early q =
      ap (early_of (n + 1)) same ∙ early-next n (spoiled q) whole in
      let within = sync-within q core.sound core.covered in
      let short : TellsShort s.state r =
      omega (arith, enters.due, enters.going, enters.ending, as_early, core.short) in
      let conserved : Conserves s.permits s.state s.held r =
      omega (arith, enters.ready, enters.going, enters.ending, core.conserved) in
      let ways : way q ≡ way r = omega (arith, enters.going, enters.ending) in
      let shows : entered false ≡ seen s.state s.held r =
      same-by_waiters refl ways (sym enters.waiters) (ap (λ m. sum s.held + m) (sym enters.ready)) (sym same) in
      core-push s r s.state s.held (entry.Enter p n) core
      (after-move s (move.draw p n found) core (does, refl, finds) tt)
      (words found) short conserved (stands, refl, inr few) (ap entered whole ∙ shows)

  -- the number is broken: the caller comes to it
  draw-spoiled : (found : CoreCell) → slice_get s.queue.cells n ≡ Some found → found.state ≡ state.Broken
      → found.collected ≡ false
      → IsEitherCore (records (moves s (move.draw p n (Some found))) (entry.Enter p n))
  draw-spoiled found finds is uncollected =
      let q : Queue = s.queue in
      let r : Queue = drawn (Some found) in
      let to : Doing = doing.Drawn n in
      let new : CoreCell = record { state = found.state; owner = Some p; collected = found.collected } in
      let was : is_spoiled n found ≡ Some (record { wait = n; pass = found.owner }) = rw (is, uncollected) refl in
      let now : is_spoiled n new ≡ Some (record { wait = n; pass = Some p }) = rw (is, uncollected) refl in
      let broken : spoiled r
      ≡ change_by spoiled_wait n (λ (b : Spoiled). record { wait = b.wait; pass = Some p }) (spoiled q) =
      around-changed spoiled_wait n _ _ _ _ (spoiled-around q.cells n found new finds)
      (record { wait = n; pass = found.owner }) (λ (b : Spoiled). record { wait = b.wait; pass = Some p }) was now refl
      in
      let is_in : has_spoiled n (spoiled q) ≡ true = has_spoiled-cell q.cells n found finds ∙ ap is_some was in
      let owner : found.owner ≡ None = (front-either q core.sound).unowned n found finds (omega arith) in
      let old_line : in_line q.doing n found ≡ None =
      ap (λ o. waiting_of n o (stays_in_line n found.state (owner_doing q.doing found))) owner in
      let new_line : in_line r.doing n new ≡ None =
      ap (λ st. waiting_of n (Some p) (stays_in_line n st (owner_doing r.doing new))) is in
      let lines : line r ≡ line q =
      around-kept wait_of n _ _ _ _
      (line-around q.doing q.cells p doing.Door to n found new does finds (λ m other. refl)) (old_line ∙ sym new_line)
      in
      let serves : services r ≡ services q =
      around-kept service_wait n _ _ _ _ (served-around q.cells n found new finds) (rw is refl) in
      let went = door-around q.doing p doing.Door to does in
      let doors : door r ≡ without caller p (door q) = around-went caller p _ _ _ _ went p refl refl refl in
      let fewer = around-shorter caller p _ _ _ _ went p refl refl in
      let both = ways-cell q p doing.Door to n found new does finds (λ m other. refl) in
      let left : bit (has_left new) ≡ bit (has_left found) = rw is refl in
      let none_unmet : bit (is_unmet q.resumes q.doing n found) ≡ 0 = rw is refl in
      let none_unmet_after : bit (is_unmet q.resumes (set q.doing p to) n new) ≡ 0 = rw is refl in
      let goes : going r ≡ going q = omega (arith, both.goes, left) in
      let ends : ending r ≡ ending q = omega (arith, both.ends, none_unmet, none_unmet_after) in
      let looked = count_by-write has_ready q.cells n found new finds in
      let none_ready : bit (has_ready found) ≡ 0 = rw is refl in
      let none_ready_after : bit (has_ready new) ≡ 0 = rw is refl in
      let as_ready : ready r ≡ ready q = omega (arith, looked, none_ready, none_ready_after) in
      let fewer_early : early r + 1 ≡ early q = one-fewer found new finds was now in
      let same_long : length (line r) ≡ length (line q) = ap length lines in
      let within = sync-within q core.sound core.covered in
      let short : TellsShort s.state r = omega (arith, goes, ends, fewer, same_long, fewer_early, core.short) in
      let conserved : Conserves s.permits s.state s.held r = omega (arith, as_ready, goes, ends, core.conserved) in
      let ways : way q ≡ way r = omega (arith, goes, ends) in
      let shows : entered true ≡ seen s.state s.held r =
      same-by_waiters refl ways (sym (same-waiters doors lines refl serves)) (ap (λ m. sum s.held + m) (sym as_ready))
      (sym broken) in
      core-push s r s.state s.held (entry.Enter p n) core
      (after-move s (move.draw p n (Some found)) core (does, refl, finds) tt)
      (words (Some found)) short conserved (stands, refl, inl is_in) (ap entered is_in ∙ shows)
    where
      one-fewer : (found new : CoreCell) → slice_get s.queue.cells n ≡ Some found
          → is_spoiled n found ≡ Some (record { wait = n; pass = found.owner })
          → is_spoiled n new ≡ Some (record { wait = n; pass = Some p })
          → early_of (n + 1) (pick_each is_spoiled 0 (set s.queue.cells n new)) + 1
          ≡ early_of n (pick_each is_spoiled 0 s.queue.cells)
      one-fewer found new finds was now =
          let cells : List CoreCell = s.queue.cells in
          let before = count_by-picked (λ (b : Spoiled). nat_le n b.wait) is_spoiled 0 cells in
          let after = count_by-picked (λ (b : Spoiled). nat_le (n + 1) b.wait) is_spoiled 0 (set cells n new) in
          let change =
          count_at-change (λ m c. passes (λ (b : Spoiled). nat_le n b.wait) (is_spoiled m c))
          (λ m c. passes (λ (b : Spoiled). nat_le (n + 1) b.wait) (is_spoiled m c)) cells (set cells n new) n found new
          (sym (length-set cells n new)) finds (get-set_here cells n found new finds) others in
          let one : bit (passes (λ (b : Spoiled). nat_le n b.wait) (is_spoiled n found)) ≡ 1 =
          ap (λ o. bit (passes (λ (b : Spoiled). nat_le n b.wait) o)) was ∙ ap bit (le-leb n n (omega arith)) in
          let none : bit (passes (λ (b : Spoiled). nat_le (n + 1) b.wait) (is_spoiled n new)) ≡ 0 =
          ap (λ o. bit (passes (λ (b : Spoiled). nat_le (n + 1) b.wait) o)) now ∙ ap bit
          (lt-leb (n + 1) n (omega arith)) in
          omega (arith, before, after, change, one, none)
        where
          counter : (j : ℕ) → j ≢ n → (j < n) ⊎ (n ≤ j) → nat_le n j ≡ nat_le (n + 1) j
          counter j other (inl low) = lt-leb n j low ∙ sym (lt-leb (n + 1) j (omega arith))
          counter j other (inr past) = le-leb n j past ∙ sym (le-leb (n + 1) j (omega (arith, other)))

          at : (j : ℕ) → j ≢ n → (o : Option Spoiled) → ((b : Spoiled) → o ≡ Some b → b.wait ≡ j)
              → passes (λ (b : Spoiled). nat_le n b.wait) o ≡ passes (λ (b : Spoiled). nat_le (n + 1) b.wait) o
          at j other None key = refl
          at j other (Some b) key =
              let here : b.wait ≡ j = key b refl in rw here (counter j other (cases_lt j n))

          others : (j : ℕ) (x y : CoreCell) → j ≢ n → slice_get s.queue.cells j ≡ Some x
              → slice_get (set s.queue.cells n new) j ≡ Some y
              → passes (λ (b : Spoiled). nat_le n b.wait) (is_spoiled j x)
              ≡ passes (λ (b : Spoiled). nat_le (n + 1) b.wait) (is_spoiled j y)
          others j x y other f g =
              let kept : slice_get s.queue.cells j ≡ Some y =
              sym (get-set_else s.queue.cells n j new (λ e. other (sym e))) ∙ g in
              let same : x ≡ y = cc in
              ap (λ z. passes (λ (b : Spoiled). nat_le n b.wait) (is_spoiled j z)) same
              ∙ at j other (is_spoiled j y) (λ b some. spoiled-keyed.at j y b some)

  -- a number at which a resumption stands
  draw-plain : (found : CoreCell) → slice_get s.queue.cells n ≡ Some found → IsPlain found
      → IsEitherCore (records (moves s (move.draw p n (Some found))) (entry.Enter p n))
  draw-plain found finds plain =
      let q : Queue = s.queue in
      let new : CoreCell = record { state = found.state; owner = Some p; collected = found.collected } in
      let finds_v : slice_get (as_unbroken q).cells n ≡ Some (unbroken_cell found) = finds-read q n found finds in
      let was = undrawn (as_unbroken q) n (unbroken_cell found) core.sound finds_v (omega arith) in
      let free : IsUntaken found.state = subst (λ (c : CoreCell). IsUntaken c.state) plain.same was.untaken in
      let none : is_spoiled n found ≡ None = plain.unspoiled n in
      let none_after : is_spoiled n new ≡ None = untaken-whole n found.state (Some p) found.collected free in
      let beyond : nat_le n n ≡ true = le-leb n n (omega arith) in
      let here : is_ahead q n found ≡ true = rw (none, beyond) refl in
      let some : 0 < ahead q = count_at-some (is_ahead q) 0 q.cells n n found (omega arith) finds here in
      let covers : early q + ahead q ≤ length (door q) = door-covers q (short_of s.state) core.sound core.short in
      draw-whole (Some found) finds free (has_spoiled-cell q.cells n found finds ∙ ap is_some none)
      (spoiled-kept q.cells n found new finds (none ∙ sym none_after)) (omega (arith, covers, some))
    where
      untaken-whole : (k : ℕ) (st : CoreState) (o : Option ℕ) (b : Bool) → IsUntaken st → spoiled_of k st o b ≡ None
      untaken-whole k state.Empty o b free = refl
      untaken-whole k state.Value o b free = refl
      untaken-whole k _ o b free = absurd free

  -- a number at which nothing stands
  draw-fresh : slice_get s.queue.cells n ≡ None
      → IsEitherCore (records (moves s (move.draw p n None)) (entry.Enter p n))
  draw-fresh none =
      let q : Queue = s.queue in
      let fresh : CoreCell = record { state = state.Empty; owner = Some p; collected = false } in
      let same : spoiled (drawn None) ≡ spoiled q =
      picked-push is_spoiled 0 q.cells fresh (length q.cells) (omega arith) ∙ append-nil (spoiled q) in
      let few : length q.cells ≤ n = get-none q.cells n none in
      let counted : early q ≡ count_at (λ m c. passes (λ (b : Spoiled). nat_le n b.wait) (is_spoiled m c)) 0 q.cells =
      count_by-picked (λ b. nat_le n b.wait) is_spoiled 0 q.cells in
      let none_early : count_at (λ m c. passes (λ (b : Spoiled). nat_le n b.wait) (is_spoiled m c)) 0 q.cells ≡ 0 =
      count_at-none (λ m c. passes (λ (b : Spoiled). nat_le n b.wait) (is_spoiled m c)) q.cells
      (λ j c got. low j (is_spoiled j c) (let there = get-below q.cells j c got in omega arith)
      (λ b some. spoiled-keyed.at j c b some)) in
      let some : 0 < length (door q) = in-some p (door q) stands in
      draw-whole None none tt (has_spoiled-none q.cells n none) same (omega (arith, counted, none_early, some))
    where
      low : (j : ℕ) (o : Option Spoiled) → j < n → ((b : Spoiled) → o ≡ Some b → b.wait ≡ j)
          → passes (λ (b : Spoiled). nat_le n b.wait) o ≡ false
      low j None below key = refl
      low j (Some b) below key = let here : b.wait ≡ j = key b refl in rw here (lt-leb n j below)

  -- Draw
  pub draw-number : IsEitherCore (records (moves s (move.draw p n (slice_get s.queue.cells n))) (entry.Enter p n))
  draw-number = go (slice_get s.queue.cells n) refl
    where
      go : (o : Option CoreCell) → slice_get s.queue.cells n ≡ o
          → IsEitherCore (records (moves s (move.draw p n o)) (entry.Enter p n))
      go None none = draw-fresh none
      go (Some found) finds = either (either-cell found)
        where
          either : IsEither found → IsEitherCore (records (moves s (move.draw p n (Some found))) (entry.Enter p n))
          either (inl plain) = draw-plain found finds plain
          either (inr (true, is, collected)) =
              let cell : IsSoundAt (as_unbroken s.queue) n (unbroken_cell found) state.Taken =
              cell-sound s.queue core.sound n found state.Taken finds (ap₂ unbroken_state is collected) in
              let entered_before = cell.0.drawn in
              absurd (omega arith)
          either (inr (false, is, uncollected)) = draw-spoiled found finds is uncollected
