-- What the cell of a number tells of its wait in the history of a semaphore: that it wasn't served, or that it left.
use Rattle.std.proofs.Common.{◌≡◌, ◌≢◌, ◌⊎◌, inl, inr, ℕ, zero, suc, ◌+◌, ◌-◌, ◌<◌, ◌≤◌, nat_lt, Bool, true, false, List, [], ◌∷◌, ◌++◌, Option, Some, None, length, take, slice_get, if◌then◌else◌, refl, ap, sym, ◌∙◌, subst, arith}
use Rattle.std.proofs.lemmas.Bool.{cases_eq, cases_lt}
use Rattle.std.proofs.lemmas.List.{append-nil, take_all}
use Rattle.cqs_core.specs.declared.cells.CoreCell.{CoreCell}
use Rattle.cqs_core.specs.declared.cells.CoreState.{CoreState}
use Rattle.cqs_core.specs.declared.cells.CoreState.TheVariants as state
use Rattle.cqs_core.specs.declared.doings.Doing.{Doing}
use Rattle.cqs_core.specs.declared.entries.Entry.{Entry}
use Rattle.cqs_core.specs.declared.entries.Entry.TheVariants as entry
use Rattle.cqs_core.specs.Keyed.{insert_by, without}
use Rattle.cqs_core.specs.Numbered.{IsIn}
use Rattle.cqs_core.specs.QueueLine.{Service, Waiting, in_line, is_served, line, service_of, services, stays_in_line, waiting_of}
use Rattle.cqs_core.specs.QueueSound.{IsSoundAt}
use Rattle.cqs_core.specs.QueueWaiters.{with_service}
use Rattle.cqs_core.specs.SemaphoreEntries.{IsAllowed, after_deliver, after_enter, after_entry, has_spoiled, object_after, turned_back}
use Rattle.cqs_core.specs.SemaphoreObject.{Semaphore, due, opening}
use Rattle.cqs_core.specs.SemaphoreShown.{IsCore}
use Rattle.cqs_core.specs.SemaphoreTable.{Shape}
use Rattle.cqs_core.proofs.Histories.{object-next, walk}
use Rattle.cqs_core.proofs.LineReads.{line-keyed, served-keyed, service_wait, wait_of}
use Rattle.cqs_core.proofs.Places.{get-below}
use Rattle.cqs_core.proofs.Rising.{in-take}
use Rattle.cqs_core.proofs.Waits.{IsFound, enters_by, found-waits, looked_at, service_key, waiting_key}
use Rattle.cqs_plan.specs.FloorHistory.{of_permits}
use Rattle.cqs_rule_laws.specs.declared.view.View.{View}
use Rattle.cqs_rule_laws.specs.Hidden.{state_at, state_in}
use Rattle.cqs_semaphore.specs.Causes.{CellWas}
use Rattle.cqs_semaphore_client.specs.PlainHistories.{IsPlainHistory, IsUnbroken}
use Rattle.cqs_semaphore_client.specs.Semaphore.{core_shown}
use Rattle.cqs_semaphore_client.specs.SemaphoreMade.{permits_of, sync_of}
use Rattle.cqs_core.proofs.EitherFacts.{plain-core}
use Rattle.cqs_rule_laws.specs.declared.view.Opening.{Opening}
use Rattle.cqs_semaphore_client.proofs.Unbroken.{unspoiled-before}
use Rattle.cqs_floor_shared.specs.Entries.{HasGone, IsUnserved}
use Rattle.cqs_floor_shared_kinds.proofs.Among.{Among, among-changed, among-placed, among-push, among-without, picked-of, placed-among, pushed-among}

-- Who was served stays among those who were.

with-served : (w : Option Waiting) (k : ℕ) (served : List Service) → Among service_key k served
    → Among service_key k (with_service w served)
with-served None k served among = among
with-served (Some w) k served among =
    among-placed service_key k (record { wait = w.wait; pass = w.pass; is_open = true }) served among

turned-served : (o : Semaphore) (k : ℕ) → Among service_key k o.served → Among service_key k (turned_back o).served
turned-served o k among = go (nat_lt (due o) o.way)
  where
    go : (b : Bool)
        → Among service_key k (if b then record o { way = o.way - 1; free = o.free + 1 } else o).served
    go true = among
    go false = among

served-stays : (o : Semaphore) (e : Entry) (k : ℕ) → Among service_key k o.served
    → Among service_key k (after_entry o e).served
served-stays o (entry.TakeNow c) k among = among
served-stays o (entry.TakeDoor c) k among = among
served-stays o (entry.Enter c j) k among = go (has_spoiled j o.spoiled)
  where
    go : (b : Bool) → Among service_key k (enters_by o c j b).served
    go true = among
    go false = among
served-stays o (entry.TryGot c) k among = among
served-stays o (entry.TryBusy c) k among = among
served-stays o (entry.GiveFreed c) k among = among
served-stays o (entry.GiveSent c) k among = among
served-stays o (entry.Deliver j) k among = with-served _ k o.served among
served-stays o (entry.Spoil c j) k among = among
served-stays o (entry.Undo c j) k among = among
served-stays o (entry.Leave c j) k among = turned-served (record o { line = without waiting_key j o.line }) k among
served-stays o (entry.Late c j) k among = among-changed service_key looked_at (λ s. refl) k j o.served among
served-stays o (entry.LookGranted c j) k among =
    among-changed service_key looked_at (λ s. refl) k j o.served among
served-stays o (entry.LookPending c j) k among = among

served-new : (o : Semaphore) (k : ℕ) → IsAllowed o (entry.Deliver k)
    → Among service_key k (after_deliver o k).served
served-new o k (c, waits) =
    subst (λ w. Among service_key k (with_service w o.served)) (sym found.is)
    (subst (λ n. Among service_key n (insert_by service_key new o.served)) found.number
    (placed-among service_key new o.served))
  where
    found : IsFound k c o.line
    found = found-waits k c o.line (in-take (record { wait = k; pass = c }) o.way o.line waits).1

    new : Service
    new = record { wait = found.wait.wait; pass = found.wait.pass; is_open = true }

-- A number that was drawn is that of a wait in the line, of one that was served, or of one that left.
abbrev Left : ℕ → List Entry → Type 0
Left k history = (c : ℕ) × IsIn (entry.Leave c k) history

abbrev IsSomewhere : ℕ → List Entry → Semaphore → Type 0
IsSomewhere k history o =
    k < o.next → (Among waiting_key k o.line ⊎ Among service_key k o.served) ⊎ Left k history

module _ (permits : ℕ) (history : List Entry) (plain : IsPlainHistory permits history) (k : ℕ) where
  at-end : (P : Semaphore → Type 0) → P (object_after permits (take (length history) history))
      → P (object_after permits history)
  at-end P is = subst (λ h. P (object_after permits h)) (take_all (length history) history (omega arith)) is

  -- a wait that was delivered to is among the served
  delivered-served : IsIn (entry.Deliver k) history → Among service_key k (object_after permits history).served
  delivered-served stands = at-end (λ o. Among service_key k o.served) served
    where
      m : ℕ
      m = stands.place

      within : m < length history
      within = get-below history m (entry.Deliver k) stands.there

      served : Among service_key k (object_after permits (take (length history) history)).served
      served =
          walk IsAllowed after_entry (opening permits) history (λ i o. Among service_key k o.served) plain.legal
          (λ i f got allowed among. served-stays (object_after permits (take i history)) f k among) (suc m)
          (rw (object-next IsAllowed after_entry (opening permits) history m (entry.Deliver k) stands.there)
          (served-new (object_after permits (take m history)) k (plain.legal.at m (entry.Deliver k) stands.there)))
          (length history - suc m) (length history) (omega (arith, within)) (omega arith)

  somewhere-turned : (o : Semaphore) → IsSomewhere k history o → IsSomewhere k history (turned_back o)
  somewhere-turned o is = go (nat_lt (due o) o.way)
    where
      go : (b : Bool)
          → IsSomewhere k history (if b then record o { way = o.way - 1; free = o.free + 1 } else o)
      go true = is
      go false = is

  -- a wait other than this one went out of the line
  somewhere-without : (o n : Semaphore) (j : ℕ) → j ≢ k → n.next ≡ o.next → n.line ≡ without waiting_key j o.line
      → (Among service_key k o.served → Among service_key k n.served) → IsSomewhere k history o
      → IsSomewhere k history n
  somewhere-without o n j other next line served is low = go (is (rw next at low))
    where
      go : (Among waiting_key k o.line ⊎ Among service_key k o.served) ⊎ Left k history
          → (Among waiting_key k n.line ⊎ Among service_key k n.served) ⊎ Left k history
      go (inl (inl among)) = inl (inl (rw line (among-without waiting_key k j o.line other among)))
      go (inl (inr among)) = inl (inr (served among))
      go (inr left) = inr left

  somewhere-looked : (o n : Semaphore) → n.next ≡ o.next → n.line ≡ o.line
      → (Among service_key k o.served → Among service_key k n.served) → IsSomewhere k history o
      → IsSomewhere k history n
  somewhere-looked o n next line served is low = go (is (rw next at low))
    where
      go : (Among waiting_key k o.line ⊎ Among service_key k o.served) ⊎ Left k history
          → (Among waiting_key k n.line ⊎ Among service_key k n.served) ⊎ Left k history
      go (inl (inl among)) = inl (inl (rw line among))
      go (inl (inr among)) = inl (inr (served among))
      go (inr left) = inr left

  -- a caller came to the end of the line
  somewhere-entered : (o : Semaphore) (c j : ℕ) → j ≡ o.next → o.spoiled ≡ [] → IsSomewhere k history o
      → IsSomewhere k history (after_enter o c j)
  somewhere-entered o c j next whole is = by (has_spoiled j o.spoiled) (ap (has_spoiled j) whole)
    where
      new : Waiting
      new = record { wait = j; pass = c }

      go : k < o.next + 1 → (k < o.next) ⊎ (o.next ≤ k)
          → (Among waiting_key k (o.line ++ new ∷ []) ⊎ Among service_key k o.served) ⊎ Left k history
      go low (inl before) = on (is before)
        where
          on : (Among waiting_key k o.line ⊎ Among service_key k o.served) ⊎ Left k history
              → (Among waiting_key k (o.line ++ new ∷ []) ⊎ Among service_key k o.served) ⊎ Left k history
          on (inl (inl among)) = inl (inl (among-push waiting_key k new o.line among))
          on (inl (inr among)) = inl (inr among)
          on (inr left) = inr left
      go low (inr past) =
          let same : j ≡ k = omega (arith, low, past, next) in
          inl (inl (subst (λ n. Among waiting_key n (o.line ++ new ∷ [])) same (pushed-among waiting_key new o.line)))

      by : (b : Bool) → b ≡ false → IsSomewhere k history (enters_by o c j b)
      by true broken low = absurd (cc)
      by false unbroken low = go low (cases_lt k o.next)

  somewhere-next : (i : ℕ) (o : Semaphore) (e : Entry) → slice_get history i ≡ Some e → IsAllowed o e
      → o.spoiled ≡ [] → IsSomewhere k history o → IsSomewhere k history (after_entry o e)
  somewhere-next i o (entry.TakeNow c) got allowed whole is = is
  somewhere-next i o (entry.TakeDoor c) got allowed whole is = is
  somewhere-next i o (entry.Enter c j) got (stands, next, may) whole is = somewhere-entered o c j next whole is
  somewhere-next i o (entry.TryGot c) got allowed whole is = is
  somewhere-next i o (entry.TryBusy c) got allowed whole is = is
  somewhere-next i o (entry.GiveFreed c) got allowed whole is = is
  somewhere-next i o (entry.GiveSent c) got allowed whole is = is
  somewhere-next i o (entry.Deliver j) got allowed whole is = go (cases_eq j k)
    where
      go : (j ≡ k) ⊎ (j ≢ k) → IsSomewhere k history (after_deliver o j)
      go (inl same) low =
          inl (inr (subst (λ n. Among service_key n (after_deliver o j).served) same (served-new o j allowed)))
      go (inr other) low =
          somewhere-without o (after_deliver o j) j other refl refl (with-served _ k o.served) is low
  somewhere-next i o (entry.Spoil c j) got allowed whole is = absurd (plain.unbroken.at i (entry.Spoil c j) got)
  somewhere-next i o (entry.Undo c j) got allowed whole is = absurd (plain.unbroken.at i (entry.Undo c j) got)
  somewhere-next i o (entry.Leave c j) got allowed whole is =
      somewhere-turned (record o { line = without waiting_key j o.line }) (go (cases_eq j k))
    where
      go : (j ≡ k) ⊎ (j ≢ k) → IsSomewhere k history (record o { line = without waiting_key j o.line })
      go (inl same) low =
          inr (c, record { place = i; there = got ∙ ap (λ n. Some (entry.Leave c n)) same })
      go (inr other) low =
          somewhere-without o (record o { line = without waiting_key j o.line }) j other refl refl (λ among. among)
          is low
  somewhere-next i o (entry.Late c j) got allowed whole is =
      somewhere-looked o (after_entry o (entry.Late c j)) refl refl
      (among-changed service_key looked_at (λ s. refl) k j o.served) is
  somewhere-next i o (entry.LookGranted c j) got allowed whole is =
      somewhere-looked o (after_entry o (entry.LookGranted c j)) refl refl
      (among-changed service_key looked_at (λ s. refl) k j o.served) is
  somewhere-next i o (entry.LookPending c j) got allowed whole is = is

  -- where a wait is that was drawn
  drawn-somewhere : IsSomewhere k history (object_after permits history)
  drawn-somewhere =
      at-end (IsSomewhere k history)
      (walk IsAllowed after_entry (opening permits) history (λ i o. IsSomewhere k history o) plain.legal
      (λ i f got allowed is. somewhere-next i (object_after permits (take i history)) f got allowed
      (unspoiled-before permits i history plain.unbroken) is) zero
      (λ low. absurd (omega (arith, low)))
      (length history) (length history) (omega arith) (omega arith))

-- The cell of the number, in these states, is of a wait that wasn't served.
abbrev pub IsUnfilled : CoreState → Type 0
IsUnfilled s = (s ≡ state.Empty) ⊎ ((s ≡ state.Cancelling) ⊎ (s ≡ state.Refused))

no-service : (k : ℕ) (s : CoreState) (owner : Option ℕ) (collected : Bool) (v : Service) → IsUnfilled s
    → service_of k s owner collected ≡ Some v → ⊥
no-service k s owner collected v (inl is) some =
    let none : service_of k state.Empty owner collected ≡ Some v
    = subst (λ t. service_of k t owner collected ≡ Some v) is some in
    absurd (cc)
no-service k s owner collected v (inr (inl is)) some =
    let none : service_of k state.Cancelling owner collected ≡ Some v
    = subst (λ t. service_of k t owner collected ≡ Some v) is some in
    absurd (cc)
no-service k s owner collected v (inr (inr is)) some =
    let none : service_of k state.Refused owner collected ≡ Some v
    = subst (λ t. service_of k t owner collected ≡ Some v) is some in
    absurd (cc)

no-wait : (k : ℕ) (s : CoreState) (owner : Option ℕ) (does : Option Doing) (w : Waiting) → s ≡ state.Refused
    → waiting_of k owner (stays_in_line k s does) ≡ Some w → ⊥
no-wait k s None does w is some = absurd (cc)
no-wait k s (Some p) does w is some =
    let none : waiting_of k (Some p) (stays_in_line k state.Refused does) ≡ Some w
    = subst (λ t. waiting_of k (Some p) (stays_in_line k t does) ≡ Some w) is some in
    absurd (cc)

-- a cell that is in this state stands there, if no fresh one is so
refused-stands : (cells : List CoreCell) (k : ℕ) → state_in (slice_get cells k) ≡ state.Refused
    → (cell : CoreCell) × ((slice_get cells k ≡ Some cell) × (cell.state ≡ state.Refused))
refused-stands cells k is = go (slice_get cells k) refl is
  where
    go : (found : Option CoreCell) → slice_get cells k ≡ found → state_in found ≡ state.Refused
        → (cell : CoreCell) × ((slice_get cells k ≡ Some cell) × (cell.state ≡ state.Refused))
    go None there at = absurd (cc)
    go (Some cell) there at = (cell, (there, at))

module _ (s : Shape) (core : IsCore s) (unbroken : IsUnbroken s.history) (k : ℕ) where
  plain : IsPlainHistory s.permits s.history
  plain = record { legal = core.legal; unbroken = unbroken }

  -- what stands at the number k
  state-of : (place : ℕ) (cell : CoreCell) (c : CoreState) → k ≡ 0 + place
      → slice_get s.queue.cells place ≡ Some cell → state_at s.queue k ≡ c → cell.state ≡ c
  state-of place cell c at there is =
      let here : k ≡ place = omega (arith, at) in
      sym (ap state_in (ap (slice_get s.queue.cells) here ∙ there)) ∙ is

  not-served : (c : CoreState) → IsUnfilled c → state_at s.queue k ≡ c
      → Among service_key k (object_after s.permits s.history).served → ⊥
  not-served c unfilled is among =
      let shown : Among service_wait k (services s.queue)
      = subst (λ (o : Semaphore). Among service_key k o.served) core.object among in
      let p = picked-of is_served service_wait served-keyed k 0 s.queue.cells shown in
      no-service k p.x.state p.x.owner p.x.collected p.y
      (subst IsUnfilled (sym (state-of p.place p.x c p.at p.there is)) unfilled) p.picks

  core-unserved : (c : CoreState) → IsUnfilled c → state_at s.queue k ≡ c → IsIn (entry.Deliver k) s.history → ⊥
  core-unserved c unfilled is stands =
      not-served c unfilled is (delivered-served s.permits s.history plain k stands)

  core-gone : state_at s.queue k ≡ state.Refused → Left k s.history
  core-gone is = go (drawn-somewhere s.permits s.history plain k drawn)
    where
      its : (cell : CoreCell) × ((slice_get s.queue.cells k ≡ Some cell) × (cell.state ≡ state.Refused))
      its = refused-stands s.queue.cells k is

      drawn : k < (object_after s.permits s.history).next
      drawn =
          let sound : IsSoundAt s.queue k its.0 state.Refused
          = subst (λ (t : CoreState). IsSoundAt s.queue k its.0 t) its.1.1
          (core.sound.cells.at k its.0 its.1.0) in
          subst (λ (o : Semaphore). k < o.next) (sym core.object) sound.0.drawn

      go : (Among waiting_key k (object_after s.permits s.history).line
          ⊎ Among service_key k (object_after s.permits s.history).served) ⊎ Left k s.history
          → Left k s.history
      go (inr left) = left
      go (inl (inr among)) = absurd (not-served state.Refused (inr (inr refl)) is among)
      go (inl (inl among)) =
          let shown : Among wait_of k (line s.queue)
          = subst (λ (o : Semaphore). Among waiting_key k o.line) core.object among in
          let p = picked-of (in_line s.queue.doing) wait_of (line-keyed s.queue.doing) k 0 s.queue.cells shown in
          absurd (no-wait k p.x.state p.x.owner _ p.y (state-of p.place p.x state.Refused p.at p.there is) p.picks)

-- What a call found of the cell of a number in its last step.
found-unserved : (c : CoreState) (k : ℕ) (w : View Entry (Unit {0})) → w.opening.sync ≡ false → IsUnfilled c
    → CellWas c k [] w → IsUnserved (of_permits w.seen) k
found-unserved c k w plain unfilled cell e stands =
    let shown = cell.was.was in
    let s = core_shown (sync_of shown.client) (permits_of shown.client) shown.hidden shown.words cell.was.before in
    let unsync : sync_of shown.client ≡ false = ap (λ (o : Opening). o.sync) shown.opening_is ∙ plain in
    core-unserved s (plain-core s shown.shown.core unsync) (shown.shown.unbroken unsync) k c unfilled shown.holds.0
    (subst (λ h. IsIn (entry.Deliver k) h) (cell.was.seen ∙ append-nil cell.was.before) stands)

pub found-gone : (k : ℕ) (w : View Entry (Unit {0})) → w.opening.sync ≡ false → CellWas state.Refused k [] w
    → HasGone (of_permits w.seen) k
found-gone k w plain cell =
    let shown = cell.was.was in
    let s = core_shown (sync_of shown.client) (permits_of shown.client) shown.hidden shown.words cell.was.before in
    let unsync : sync_of shown.client ≡ false = ap (λ (o : Opening). o.sync) shown.opening_is ∙ plain in
    subst (λ h. Left k h) (sym (cell.was.seen ∙ append-nil cell.was.before))
    (core-gone s (plain-core s shown.shown.core unsync) (shown.shown.unbroken unsync) k shown.holds.0)

-- the same by how a resumption ended
pub left-unserved : (k : ℕ) (w : View Entry (Unit {0})) → w.opening.sync ≡ false
    → CellWas state.Empty k [] w ⊎ CellWas state.Cancelling k [] w → IsUnserved (of_permits w.seen) k
left-unserved k w plain (inl cell) = found-unserved state.Empty k w plain (inl refl) cell
left-unserved k w plain (inr cell) = found-unserved state.Cancelling k w plain (inr (inl refl)) cell

pub void-unserved : (k : ℕ) (w : View Entry (Unit {0})) → w.opening.sync ≡ false → CellWas state.Refused k [] w
    → IsUnserved (of_permits w.seen) k
void-unserved k w plain cell = found-unserved state.Refused k w plain (inr (inr refl)) cell
