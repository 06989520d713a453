-- The steps at broken numbers keep the core: a resume leaves its value and watches it, takes it back and breaks the
-- number, or finds it taken; and the suspend of a broken number finds it so.
use Rattle.std.proofs.Common.{◌≡◌, inl, inr, ℕ, ◌+◌, ◌-◌, ◌<◌, ◌≤◌, nat_le, Bool, true, false, is_some, List, [], ◌∷◌, Option, Some, None, length, set, sum, take, slice_get, slice_index, refl, ap, ap₂, sym, ◌∙◌, subst, arith, ne_eqb, le-leb}
use Rattle.std.proofs.lemmas.Bool.{lt-leb}
use Rattle.std.proofs.lemmas.List.{length-set}
use Rattle.cqs_core.specs.declared.cells.CoreCell.{CoreCell}
use Rattle.cqs_core.specs.declared.cells.CoreState.{CoreState}
use Rattle.cqs_core.specs.declared.cells.CoreState.TheVariants as state
use Rattle.cqs_core.specs.declared.doings.Doing.TheVariants as doing
use Rattle.cqs_core.specs.declared.entries.Entry.TheVariants as entry
use Rattle.cqs_core.specs.Numbered.{pick_each, IsIn}
use Rattle.cqs_core.specs.Keyed.{insert_by, without}
use Rattle.cqs_core.specs.QueueState.{Queue}
use Rattle.cqs_core.specs.QueueLine.{Waiting, Spoiled, door, in_line, waiting_of, line, services, is_spoiled, spoiled, going, ending, way, due, has_left, has_ready, ready, is_unmet}
use Rattle.cqs_core.specs.QueueMoves as move
use Rattle.cqs_core.specs.QueueMoves.{Works, now_doing, with_cell, at_state}
use Rattle.cqs_core.specs.QueueSound.{IsSoundAt, IsOwn, IsUninstalled, IsUntaken}
use Rattle.cqs_core.specs.QueueAsUnbroken.{as_unbroken, unbroken_cell, unbroken_state, IsIntact}
use Rattle.cqs_core.specs.QueueWaiters.{find_wait, Waits}
use Rattle.cqs_core.specs.SemaphoreObject.{early_of}
use Rattle.cqs_core.specs.SemaphoreEntries.{has_spoiled, waiting_pass, after_entry, MaySpoil}
use Rattle.cqs_core.specs.SemaphoreTable.{Shape, gains, records, writes, turns}
use Rattle.cqs_core.specs.SemaphoreShown.{short_of}
use Rattle.cqs_core.specs.SemaphoreCores.{IsEitherCore, shown_by_either, early}
use Rattle.cqs_core.proofs.EitherDraws.{has_spoiled-cell, front-either}
use Rattle.cqs_core.proofs.EitherFrame.{WordsFit, TellsShort, seen, core-push}
use Rattle.cqs_core.proofs.UnbrokenMoves.{Follows, follows, does-read, finds-read, works-read, write-read, turn-read, spoiled_wait, spoiled-around, spoiled-kept, cell-sound}
use Rattle.cqs_core.proofs.EitherSteps.{holds-there, door-covers, hidden-quiet}
use Rattle.cqs_core.proofs.CoreFrame.{Conserves, same-by_waiters, loaded-turn}
use Rattle.cqs_core.proofs.CoreSteps.{gains-sum}
use Rattle.cqs_core.proofs.Counts.{bit, count_at-some, count_at-write, count_by-write}
use Rattle.cqs_core.proofs.DrawMoves.{line-below}
use Rattle.cqs_core.proofs.HiddenMoves.{Keeps, keeps-due, keeps-write, keeps-turn, same-waiters, no-other-ticket}
use Rattle.cqs_core.proofs.Keys.{AllBelow, Around, around-kept, around-came, around-went, around-shorter}
use Rattle.cqs_core.proofs.LineReads.{caller, wait_of, service_wait, line-around, served-around, door-around}
use Rattle.cqs_core.proofs.Picked.{picked-in}
use Rattle.cqs_core.proofs.PickedPlaces.{first-picked}
use Rattle.cqs_core.proofs.Places.{set-same}
use Rattle.cqs_core.proofs.QueueAsUnbroken.{passes, count_by-picked, ahead, is_ahead, sync-flow, sync-within}
use Rattle.cqs_core.proofs.QueueServes.{waiting, find-went}
use Rattle.cqs_core.proofs.Rising.{in-take}
use Rattle.cqs_core.proofs.WaysChange.{ways-cell}

-- Meet, an Empty cell of a synchronous core: the resume leaves its value, and watches it
pub meet-watches : (s : Shape) (p k : ℕ) (found : CoreCell) → IsEitherCore s → s.sync ≡ true
    → Works s.queue p (doing.Ticket k) k found state.Empty
    → IsEitherCore (writes s p k (at_state found state.Value) (doing.Watching k))
meet-watches s p k found core sync works =
    let q : Queue = s.queue in
    let r : Queue = now_doing (with_cell q k (at_state found state.Value)) p (doing.Watching k) in
    let after : Follows s.sync q r =
    follows s.sync q r (move.leave_value p k (unbroken_cell found)) core.sound core.covered
    (works-read q p (doing.Ticket k) k found state.Empty works refl) tt
    (write-read q p k (at_state found state.Value) (doing.Watching k)) (λ plain. absurd (cc (sync, plain))) in
    let keeps : Keeps q r 0 =
    keeps-write q p (doing.Ticket k) (doing.Watching k) k found (at_state found state.Value) 0
    (record { does = works.does; finds = works.finds; leaves = λ m other. refl; tickets = no-other-ticket k })
    (record {
      door = refl;
      line = rw works.at refl;
      served = rw works.at refl;
      ready = rw works.at refl;
      going = rw works.at refl;
      ending = rw works.at refl;
    }) in
    hidden-quiet s r core after keeps (spoiled-kept q.cells k found _ works.finds (rw works.at refl)) core.range.resumes
    (loaded-turn q.doing p (doing.Ticket k) (doing.Watching k) works.does tt core.loaded)

-- See or Break, the value was taken: the pass watches no more
pub watch-ends : (s : Shape) (p k : ℕ) → IsEitherCore s → slice_get s.queue.doing p ≡ Some (doing.Watching k)
    → IsEitherCore (turns s p doing.Idle)
watch-ends s p k core does =
    let q : Queue = s.queue in
    let r : Queue = now_doing q p doing.Idle in
    let idle : set (as_unbroken q).doing p doing.Idle ≡ (as_unbroken q).doing =
    set-same (as_unbroken q).doing p doing.Idle (does-read q p (doing.Watching k) does) in
    let stays : as_unbroken q ≡ as_unbroken r =
    (λ i. record { suspends = q.suspends; resumes = q.resumes; cells = (as_unbroken q).cells; doing = sym idle i })
    ∙ turn-read q p doing.Idle in
    let after : Follows s.sync q r = follows s.sync q r move.stay core.sound core.covered tt tt stays
    (λ plain. absurd ((core.plain plain).passes.at p (doing.Watching k) does)) in
    hidden-quiet s r core after
    (keeps-turn q p (doing.Watching k) doing.Idle does refl (λ m. refl) (λ m. refl) refl refl) refl core.range.resumes
    (loaded-turn q.doing p (doing.Watching k) doing.Idle does tt core.loaded)

-- How many broken numbers are early, after a write of a cell.
early-write : (cells : List CoreCell) (next k : ℕ) (found new : CoreCell) → slice_get cells k ≡ Some found
    → early_of next (pick_each is_spoiled 0 (set cells k new))
    + bit (passes (λ (b : Spoiled). nat_le next b.wait) (is_spoiled k found))
    ≡ early_of next (pick_each is_spoiled 0 cells)
    + bit (passes (λ (b : Spoiled). nat_le next b.wait) (is_spoiled k new))
early-write cells next k found new finds =
    let before = count_by-picked (λ (b : Spoiled). nat_le next b.wait) is_spoiled 0 cells in
    let after = count_by-picked (λ (b : Spoiled). nat_le next b.wait) is_spoiled 0 (set cells k new) in
    let write =
    count_at-write (λ n c. passes (λ (b : Spoiled). nat_le next b.wait) (is_spoiled n c)) cells k found new finds in
    omega (arith, before, after, write)

-- What stands under a number from the next on.

find-none : (n k : ℕ) (ws : List Waiting) → n ≤ k → AllBelow wait_of n ws → find_wait k ws ≡ None
find-none n k [] past low = refl
find-none n k (w ∷ ws) past low =
    rw (ne_eqb k w.wait (λ e. omega (arith, low.0, e))) (find-none n k ws past low.1)

without-none : (n k : ℕ) (ws : List Waiting) → n ≤ k → AllBelow wait_of n ws → without wait_of k ws ≡ ws
without-none n k [] past low = refl
without-none n k (w ∷ ws) past low =
    rw (ne_eqb k w.wait (λ e. omega (arith, low.0, e))) (ap (λ vs. w ∷ vs) (without-none n k ws past low.1))

-- The pass p takes its value back from cell k, and breaks the number.
module _ (s : Shape) (p k : ℕ) (found : CoreCell) (core : IsEitherCore s)
    (works : Works s.queue p (doing.Watching k) k found state.Value) where
  abbrev q : Queue
  q = s.queue

  abbrev new : CoreCell
  new = at_state found state.Broken

  abbrev r : Queue
  r = now_doing (with_cell q k new) p doing.Idle

  abbrev held : List ℕ
  held = set s.held p (slice_index s.held p + 1)

  value : IsSoundAt (as_unbroken q) k (unbroken_cell found) state.Value
  value = cell-sound q core.sound k found state.Value works.finds (rw works.at refl)

  uncollected : found.collected ≡ false
  uncollected = value.2

  -- in the reading nothing changes
  unread : as_unbroken q ≡ as_unbroken r
  unread =
      let plain : unbroken_cell found ≡ unbroken_cell new =
      λ i. record {
        state = (ap (λ t. unbroken_state t found.collected) works.at
            ∙ ap (unbroken_state state.Broken) (sym uncollected)) i;
        owner = found.owner;
        collected = found.collected;
      } in
      let idle : set (as_unbroken q).doing p doing.Idle ≡ (as_unbroken q).doing =
      set-same (as_unbroken q).doing p doing.Idle (does-read q p (doing.Watching k) works.does) in
      let cell : set (as_unbroken q).cells k (unbroken_cell new) ≡ (as_unbroken q).cells =
      set-same (as_unbroken q).cells k (unbroken_cell new) (finds-read q k found works.finds ∙ ap Some plain) in
      (λ i. record {
        suspends = q.suspends;
        resumes = q.resumes;
        cells = sym cell i;
        doing = sym idle i;
      })
      ∙ write-read q p k new doing.Idle

  after : Follows s.sync q r
  after = follows s.sync q r move.stay core.sound core.covered tt tt unread
      (λ plain. absurd ((core.plain plain).passes.at p (doing.Watching k) works.does))

  is_broken : is_spoiled k new ≡ Some (record { wait = k; pass = found.owner })
  is_broken = rw uncollected refl

  was_whole : is_spoiled k found ≡ None
  was_whole = rw works.at refl

  broken : spoiled r ≡ insert_by spoiled_wait (record { wait = k; pass = found.owner }) (spoiled q)
  broken =
      around-came spoiled_wait k _ _ _ _ (spoiled-around q.cells k found new works.finds)
      (record { wait = k; pass = found.owner }) was_whole is_broken refl

  ways : (going r + 1 ≡ going q) × (ending r ≡ ending q)
  ways =
      let both = ways-cell q p (doing.Watching k) doing.Idle k found new works.does works.finds (λ m other. refl) in
      let left : bit (has_left found) ≡ 1 = rw works.at refl in
      let unmet : bit (is_unmet q.resumes q.doing k found) ≡ 0 = rw works.at refl in
      (omega (arith, both.goes, left), omega (arith, both.ends, unmet))

  none_ready : ready r ≡ ready q
  none_ready =
      let looked = count_by-write has_ready q.cells k found new works.finds in
      let none : bit (has_ready found) ≡ 0 = rw works.at refl in
      omega (arith, looked, none)

  doors : door r ≡ door q
  doors = around-kept caller p _ _ _ _ (door-around q.doing p (doing.Watching k) doing.Idle works.does) refl

  serves : services r ≡ services q
  serves = around-kept service_wait k _ _ _ _ (served-around q.cells k found new works.finds) (rw works.at refl)

  lines : Around wait_of k (line q) (line r) (in_line q.doing k found) (in_line r.doing k new)
  lines =
      line-around q.doing q.cells p (doing.Watching k) doing.Idle k found new works.does works.finds (λ m other. refl)

  earlier : early r + 0 ≡ early q + bit (nat_le q.suspends k)
  earlier =
      let write = early-write q.cells q.suspends k found new works.finds in
      let before : bit (passes (λ (b : Spoiled). nat_le q.suspends b.wait) (is_spoiled k found)) ≡ 0 =
      ap (λ o. bit (passes (λ (b : Spoiled). nat_le q.suspends b.wait) o)) was_whole in
      let now : bit (passes (λ (b : Spoiled). nat_le q.suspends b.wait) (is_spoiled k new))
      ≡ bit (nat_le q.suspends k) =
      ap (λ o. bit (passes (λ (b : Spoiled). nat_le q.suspends b.wait) o)) is_broken in
      omega (arith, write, before, now)

  -- what the break owes, where it is known who waited
  breaks : (pass : Option ℕ) → found.owner ≡ pass → waiting_pass (find_wait k (line q)) ≡ pass
      → line r ≡ without wait_of k (line q) → length (line r) + 1 ≡ length (line q) + bit (nat_le q.suspends k)
      → MaySpoil (shown_by_either s) k → 0 < way q
      → IsEitherCore (records (gains (writes s p k new doing.Idle) p) (entry.Spoil p k))
  breaks pass owner finds left shorter may some =
      let there : p < length s.held = holds-there s p (doing.Watching k) core works.does in
      let one_more : sum held ≡ sum s.held + 1 = gains-sum s.held p there in
      let within = sync-within q core.sound core.covered in
      let fewer = ways.0 in
      let same = ways.1 in
      let words : WordsFit s r s.state held = record {
        state = core.range.state;
        suspends = core.range.suspends;
        resumes = core.range.resumes;
        loaded = loaded-turn q.doing p (doing.Watching k) doing.Idle works.does tt core.loaded;
        holders = length-set s.held p (slice_index s.held p + 1);
      } in
      let same_doors : length (door r) ≡ length (door q) = ap length doors in
      let short : TellsShort s.state r = omega (arith, fewer, same, same_doors, shorter, earlier, core.short) in
      let conserved : Conserves s.permits s.state held r =
      omega (arith, one_more, fewer, same, none_ready, core.conserved) in
      let one_fewer : way q - 1 ≡ way r = omega (arith, fewer, same) in
      let now_broken : insert_by spoiled_wait (record { wait = k; pass = waiting_pass (find_wait k (line q)) })
      (spoiled q)
      ≡ spoiled r =
      ap (λ o. insert_by spoiled_wait (record { wait = k; pass = o }) (spoiled q)) (finds ∙ sym owner) ∙ sym broken in
      let shows : after_entry (shown_by_either s) (entry.Spoil p k) ≡ seen s.state held r =
      same-by_waiters refl one_fewer (sym (same-waiters doors left refl serves)) (omega (arith, one_more, none_ready))
      now_broken in
      core-push s r s.state held (entry.Spoil p k) core after words short conserved (some, may) shows

  -- the number was drawn by a suspend, whose wait stands in the line
  breaks-wait : (c : ℕ) → found.owner ≡ Some c → k < q.suspends
      → IsEitherCore (records (gains (writes s p k new doing.Idle) p) (entry.Spoil p k))
  breaks-wait c owner entered =
      let stands : in_line q.doing k found ≡ Some (waiting k c) = rw (works.at, owner) refl in
      let gone : in_line r.doing k new ≡ None = ap (λ o. waiting_of k o false) owner in
      let flows = sync-flow q core.sound core.covered in
      let first : Waits k c (take (way q) (line q)) =
      first-picked (in_line q.doing) q.resumes q.cells (way q) k found (waiting k c) works.finds stands value.1
      (omega (arith, flows)) in
      let low : bit (nat_le q.suspends k) ≡ 0 = ap bit (lt-leb q.suspends k entered) in
      let fewer = around-shorter wait_of k _ _ _ _ lines (waiting k c) stands gone in
      breaks (Some c) owner (ap waiting_pass (find-went k _ _ _ _ (waiting k c) lines stands refl))
      (around-went wait_of k _ _ _ _ lines (waiting k c) stands gone refl)
      (omega (arith, fewer, low))
      (inl (c, first))
      (in-take (waiting k c) (way q) (line q) first).0

  -- no suspend has drawn the number
  breaks-early : found.owner ≡ None → q.suspends ≤ k
      → IsEitherCore (records (gains (writes s p k new doing.Idle) p) (entry.Spoil p k))
  breaks-early owner past =
      let nobody : in_line q.doing k found ≡ None = rw (works.at, owner) refl in
      let still : in_line r.doing k new ≡ None = ap (λ o. waiting_of k o false) owner in
      let same_line : line r ≡ line q = around-kept wait_of k _ _ _ _ lines (nobody ∙ sym still) in
      let low : AllBelow wait_of q.suspends (line q) = line-below q q.doing (front-either q core.sound) in
      let flows = sync-flow q core.sound core.covered in
      let beyond : nat_le q.suspends k ≡ true = le-leb q.suspends k past in
      let one : bit (nat_le q.suspends k) ≡ 1 = ap bit beyond in
      let here : is_ahead q k found ≡ true = rw (was_whole, beyond) refl in
      let some : 0 < ahead q = count_at-some (is_ahead q) 0 q.cells k k found (omega arith) works.finds here in
      let covers : early q + ahead q ≤ length (door q) =
      door-covers q (short_of s.state) core.sound core.short in
      let whole : has_spoiled k (spoiled q) ≡ false =
      has_spoiled-cell q.cells k found works.finds ∙ ap is_some was_whole in
      let same_long : length (line r) ≡ length (line q) = ap length same_line in
      breaks None owner (ap waiting_pass (find-none q.suspends k (line q) past low))
      (same_line ∙ sym (without-none q.suspends k (line q) past low))
      (omega (arith, same_long, one))
      (inr (past, whole, omega (arith, covers, some)))
      (omega (arith, flows, some))

  -- Break, the value is still there
  pub break-value : IsEitherCore (records (gains (writes s p k new doing.Idle) p) (entry.Spoil p k))
  break-value = go value.0
    where
      go : IsUninstalled (as_unbroken q) k (unbroken_cell found)
          → IsEitherCore (records (gains (writes s p k new doing.Idle) p) (entry.Spoil p k))
      go (inl drawn) = breaks-wait drawn.0.pass drawn.0.owner drawn.0.drawn
      go (inr (past, nobody)) = breaks-early nobody past

-- the suspend of a broken number hasn't found it so before
untaken-broken : (st : CoreState) (b : Bool) → st ≡ state.Broken → IsUntaken (unbroken_state st b) → b ≡ false
untaken-broken state.Broken true is untaken = absurd untaken
untaken-broken state.Broken false is untaken = refl
untaken-broken state.Empty b is untaken = absurd (cc)
untaken-broken state.Waiter b is untaken = absurd (cc)
untaken-broken state.Value b is untaken = absurd (cc)
untaken-broken state.Taken b is untaken = absurd (cc)
untaken-broken state.Resumed b is untaken = absurd (cc)
untaken-broken state.Cancelling b is untaken = absurd (cc)
untaken-broken state.Delegated b is untaken = absurd (cc)
untaken-broken state.Cancelled b is untaken = absurd (cc)
untaken-broken state.Refused b is untaken = absurd (cc)

-- Install, the cell is broken
pub install-broken : (s : Shape) (p k : ℕ) (found : CoreCell) → IsEitherCore s
    → Works s.queue p (doing.Drawn k) k found state.Broken
    → IsEitherCore (records
    (writes s p k (record { state = state.Broken; owner = found.owner; collected = true }) doing.Idle) (entry.Undo p k))
install-broken s p k found core works =
    let q : Queue = s.queue in
    let new : CoreCell = record { state = state.Broken; owner = found.owner; collected = true } in
    let r : Queue = now_doing (with_cell q k new) p doing.Idle in
    let does_v : slice_get (as_unbroken q).doing p ≡ Some (doing.Drawn k) = does-read q p (doing.Drawn k) works.does in
    let own : IsOwn (as_unbroken q) p k IsUntaken = core.sound.passes.at p (doing.Drawn k) does_v in
    let finds_v : slice_get (as_unbroken q).cells k ≡ Some (unbroken_cell found) = finds-read q k found works.finds in
    let own_found : slice_get (as_unbroken q).cells k ≡ Some own.cell = own.found in
    let cell : own.cell ≡ unbroken_cell found = cc in
    let untaken : IsUntaken (unbroken_state found.state found.collected) =
    subst (λ (c : CoreCell). IsUntaken c.state) cell own.at in
    let uncollected : found.collected ≡ false = untaken-broken found.state found.collected works.at untaken in
    let owner : found.owner ≡ Some p = ap (λ (c : CoreCell). c.owner) (sym cell) ∙ own.owner in
    let reads : unbroken_state found.state found.collected ≡ state.Value = ap₂ unbroken_state works.at uncollected in
    let after : Follows s.sync q r =
    follows s.sync q r (move.take_value p k (unbroken_cell found)) core.sound core.covered
    (record { does = does_v; finds = finds_v; at = reads }) tt (write-read q p k new doing.Idle)
    (λ plain. absurd (subst (λ st. IsIntact st) works.at ((core.plain plain).cells.at k found works.finds))) in
    let was_broken : is_spoiled k found ≡ Some (record { wait = k; pass = Some p }) =
    rw (works.at, uncollected, owner) refl in
    let keeps : Keeps q r 0 =
    keeps-write q p (doing.Drawn k) doing.Idle k found new 0
    (record { does = works.does; finds = works.finds; leaves = λ m other. refl; tickets = λ m other. refl })
    (record {
      door = refl;
      line = rw works.at refl;
      served = rw works.at refl;
      ready = rw works.at refl;
      going = rw works.at refl;
      ending = rw works.at refl;
    }) in
    let went : spoiled r ≡ without spoiled_wait k (spoiled q) =
    around-went spoiled_wait k _ _ _ _ (spoiled-around q.cells k found new works.finds)
    (record { wait = k; pass = Some p }) was_broken refl refl in
    let entered : nat_le q.suspends k ≡ false = lt-leb q.suspends k own.drawn in
    let write = early-write q.cells q.suspends k found new works.finds in
    let late : bit (passes (λ (b : Spoiled). nat_le q.suspends b.wait) (is_spoiled k found)) ≡ 0 =
    ap (λ o. bit (passes (λ (b : Spoiled). nat_le q.suspends b.wait) o)) was_broken ∙ ap bit entered in
    let as_early : early r ≡ early q = omega (arith, write, late) in
    let within = sync-within q core.sound core.covered in
    let words : WordsFit s r s.state s.held = record {
      state = core.range.state;
      suspends = core.range.suspends;
      resumes = core.range.resumes;
      loaded = loaded-turn q.doing p (doing.Drawn k) doing.Idle works.does tt core.loaded;
      holders = refl;
    } in
    let as_due : due r ≡ due q = keeps-due q r 0 keeps in
    let short : TellsShort s.state r = omega (arith, keeps.going, keeps.ending, as_due, as_early, core.short) in
    let conserved : Conserves s.permits s.state s.held r =
    omega (arith, keeps.ready, keeps.going, keeps.ending, core.conserved) in
    let ways : way q ≡ way r = omega (arith, keeps.going, keeps.ending) in
    let stands : IsIn (record { wait = k; pass = Some p }) (spoiled q) =
    picked-in is_spoiled 0 q.cells k k found (record { wait = k; pass = Some p }) (omega arith) works.finds was_broken
    in
    core-push s r s.state s.held (entry.Undo p k) core after words short conserved stands
    (same-by_waiters refl ways (sym keeps.waiters) (ap (λ n. sum s.held + n) (sym keeps.ready)) (sym went))
