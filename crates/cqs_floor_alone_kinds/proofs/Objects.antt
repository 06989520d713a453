-- What the entries of one caller's calls make of a semaphore: which waits still stand, and how many permits are held
-- and how many of them nobody has looked at.
use Rattle.std.proofs.Common.{◌≡◌, ◌≢◌, ◌⊎◌, inl, inr, ℕ, nat_lt, Bool, true, false, List, [], ◌∷◌, Some, refl, ap, ◌∙◌, eq-eqb}
use Rattle.std.proofs.lemmas.Bool.{cases_eq}
use Rattle.cqs_core.specs.declared.entries.Entry.TheVariants as entry
use Rattle.cqs_core.specs.Keyed.{insert_by, without}
use Rattle.cqs_core.specs.QueueLine.{Waiting, Service}
use Rattle.cqs_core.specs.SemaphoreEntries.{after_entry, find_wait, has_spoiled, with_service, turned_back, after_leave, IsServed}
use Rattle.cqs_core.specs.SemaphoreObject.{Semaphore, due}
use Rattle.cqs_core.specs.SoleCaller.{HasWait}
use Rattle.cqs_core.proofs.Waits.{enters_by}
use Rattle.cqs_floor_alone_kinds.proofs.Stays.{stays-append, comes-last, stays-without, stays-placed, comes-placed, stays-changed}

-- a caller that goes to the end of the line
abbrev pub entered_after_door : Semaphore → Semaphore
entered_after_door o = after_entry (after_entry o (entry.TakeDoor 0)) (entry.Enter 0 o.next)

pub stays-entered : (o : Semaphore) (k p : ℕ) → HasWait k p o → HasWait k p (entered_after_door o)
stays-entered o k p (inl waits) = go (has_spoiled o.next o.spoiled)
  where
    go : (b : Bool) → HasWait k p (enters_by (after_entry o (entry.TakeDoor 0)) 0 o.next b)
    go true = inl waits
    go false = inl (stays-append (record { wait = k; pass = p }) o.line _ waits)
stays-entered o k p (inr serves) = go (has_spoiled o.next o.spoiled)
  where
    go : (b : Bool) → HasWait k p (enters_by (after_entry o (entry.TakeDoor 0)) 0 o.next b)
    go true = inr serves
    go false = inr serves

pub comes-entered : (o : Semaphore) → o.spoiled ≡ [] → HasWait o.next 0 (entered_after_door o)
comes-entered o none = go (has_spoiled o.next o.spoiled) (ap (has_spoiled o.next) none)
  where
    go : (b : Bool) → b ≡ false → HasWait o.next 0 (enters_by (after_entry o (entry.TakeDoor 0)) 0 o.next b)
    go true broken = absurd (cc)
    go false whole = inl (comes-last (record { wait = o.next; pass = 0 }) o.line)

-- a permit that goes to the first of the line
abbrev pub sent_to : Semaphore → Waiting → Semaphore
sent_to o first = after_entry (after_entry o (entry.GiveSent 0)) (entry.Deliver first.wait)

sent-served : (o : Semaphore) (first : Waiting) (rest : List Waiting) → o.line ≡ first ∷ rest
    → (sent_to o first).served
    ≡ insert_by (λ v. v.wait) (record { wait = first.wait; pass = first.pass; is_open = true }) o.served
sent-served o first rest is =
    let found : find_wait first.wait (first ∷ rest) ≡ Some first = rw (eq-eqb first.wait first.wait refl) refl in
    ap (λ w. with_service w o.served) (ap (find_wait first.wait) is ∙ found)

pub stays-sent : (o : Semaphore) (first : Waiting) (rest : List Waiting) (k : ℕ) → o.line ≡ first ∷ rest
    → first.pass ≡ 0 → HasWait k 0 o → HasWait k 0 (sent_to o first)
stays-sent o first rest k is alone (inl waits) = go (cases_eq k first.wait)
  where
    go : (k ≡ first.wait) ⊎ (k ≢ first.wait) → HasWait k 0 (sent_to o first)
    go (inl same) =
        let now : IsServed first.wait first.pass (sent_to o first).served =
        rw (sent-served o first rest is)
        (comes-placed (λ (v : Service). v.wait)
        (record { wait = first.wait; pass = first.pass; is_open = true }) o.served) in
        inr (rw (same, ← alone) now)
    go (inr other) =
        inl (stays-without (λ (w : Waiting). w.wait) (record { wait = k; pass = 0 }) first.wait o.line other waits)
stays-sent o first rest k is alone (inr serves) =
    inr (rw (sent-served o first rest is)
    (stays-placed (λ (v : Service). v.wait) (record { wait = k; pass = 0; is_open = true }) _ o.served serves))

-- a permit that came, and that its caller looked at or was too late to leave
pub stays-closed : (o : Semaphore) (k j : ℕ) → j ≢ k → HasWait j 0 o
    → HasWait j 0 (after_entry o (entry.LookGranted 0 k))
stays-closed o k j other (inl waits) = inl waits
stays-closed o k j other (inr serves) =
    inr (stays-changed (λ (v : Service). v.wait)
    (record { wait = j; pass = 0; is_open = true }) k _ o.served other serves)

-- the line without a wait
abbrev line_without : Semaphore → ℕ → Semaphore
line_without o k = record o { line = without (λ w. w.wait) k o.line }

-- a caller that left the line, whether a permit turned back with it or not
pub stays-left : (o : Semaphore) (k j : ℕ) → j ≢ k → HasWait j 0 o → HasWait j 0 (after_leave o k)
stays-left o k j other has = turn (nat_lt (due (line_without o k)) o.way) refl (go has)
  where
    go : HasWait j 0 o → HasWait j 0 (line_without o k)
    go (inl waits) = inl (stays-without (λ (w : Waiting). w.wait) (record { wait = j; pass = 0 }) k o.line other waits)
    go (inr serves) = inr serves

    turn : (b : Bool) → nat_lt (due (line_without o k)) o.way ≡ b → HasWait j 0 (line_without o k)
        → HasWait j 0 (turned_back (line_without o k))
    turn true is stands = rw is stands
    turn false is stands = rw is stands

pub left-next : (o : Semaphore) (k : ℕ) → (after_leave o k).next ≡ o.next
left-next o k = turn (nat_lt (due (line_without o k)) o.way) refl
  where
    turn : (b : Bool) → nat_lt (due (line_without o k)) o.way ≡ b → (turned_back (line_without o k)).next ≡ o.next
    turn true is = rw is refl
    turn false is = rw is refl
