-- The waits of a semaphore after a legal history: the line in order of number, and no number both there and
-- served.
use Rattle.std.proofs.Common.{◌≡◌, ◌≢◌, ◌⊎◌, inl, inr, ℕ, ◌+◌, ◌-◌, ◌<◌, ◌≤◌, ◌==◌, nat_lt, Bool, true, false, List, [], ◌∷◌, ◌++◌, Option, Some, None, if◌then◌else◌, refl, ap, sym, ◌∙◌, subst, arith, eqb-true, ne_eqb}
use Rattle.std.proofs.lemmas.Bool.{cases_Bool, cases_eq, eqb-false}
use Rattle.cqs_core.specs.declared.entries.Entry.{Entry}
use Rattle.cqs_core.specs.declared.entries.Entry.TheVariants as entry
use Rattle.cqs_core.specs.Numbered.{IsIn}
use Rattle.cqs_core.specs.Keyed.{insert_by, without, change_by}
use Rattle.cqs_core.specs.QueueLine.{Waiting, Service, Spoiled}
use Rattle.cqs_core.specs.SemaphoreObject.{Semaphore, opening, due}
use Rattle.cqs_core.specs.SemaphoreEntries.{IsAllowed, Waits, after_entry, find_wait, with_service, after_take, at_door, after_deliver, turned_back, after_look, has_spoiled, waiting_pass, MaySpoil}
use Rattle.cqs_core.specs.SemaphoreLaws.{EndsWait}
use Rattle.cqs_core.proofs.Rising.{in-take, in-behind, in-none, Lacks, lacks-in, lacks-push, lacks-without, IsRising, rising-push, rising-without, rising-left_out, rising-below, rising-higher, rising-past_lacks, in-without}
use Rattle.cqs_core.proofs.Distinct.{lacks-from, AreDistinct, distinct-placed, in-placed, IsFrom, in-changed, distinct-changed, changed-all, in-changed_else, distinct-without}
use Rattle.cqs_core.proofs.SpoiledLists.{spoiled_key, spoiled-absent, changed-there, placed-there, placed-new, without-there}

abbrev pub waiting_key : Waiting → ℕ
waiting_key w = w.wait

abbrev pub service_key : Service → ℕ
service_key s = s.wait

-- a service whose permit has been looked at
abbrev pub looked_at : Service → Service
looked_at s = record { wait = s.wait; pass = s.pass; is_open = false }

-- wait k was entered, and is in the line no more
pub record IsGone (o : Semaphore) (k : ℕ) : Type 0 where
  pub entered : k < o.next
  pub absent : Lacks waiting_key k o.line

-- a broken number that has a caller is gone from the line; one that has none was not entered
abbrev pub IsPlaced : Semaphore → ℕ → Option ℕ → Type 0
IsPlaced o k None = o.next ≤ k
IsPlaced o k (Some c) = IsGone o k

-- the line is in order of number, below the next one, and whoever was served is gone from it, and was served
-- once; and so is whoever came to a broken number
pub record AreWaitsApart (o : Semaphore) : Type 0 where
  pub line : IsRising waiting_key 0 o.next o.line
  pub served : (s : Service) → IsIn s o.served → IsGone o s.wait
  pub apart : AreDistinct service_key o.served
  pub placed : (b : Spoiled) → IsIn b o.spoiled → IsPlaced o b.wait b.pass
  pub single : AreDistinct spoiled_key o.spoiled

-- the wait that is found has the number
pub record IsFound (k c : ℕ) (line : List Waiting) : Type 0 where
  pub wait : Waiting
  pub is : find_wait k line ≡ Some wait
  pub number : wait.wait ≡ k

pub found-waits : (k c : ℕ) (line : List Waiting) → Waits k c line → IsFound k c line
found-waits k c [] waits = absurd (in-none (record { wait = k; pass = c }) waits)
found-waits k c (w ∷ line) waits =
    go (cases_Bool (k == w.wait)) (record { wait = k; pass = c }) refl waits (found-waits k c line)
  where
    go : ((k == w.wait) ≡ true) ⊎ ((k == w.wait) ≡ false) → (v : Waiting) → v ≡ record { wait = k; pass = c }
        → IsIn v (w ∷ line) → (Waits k c line → IsFound k c line) → IsFound k c (w ∷ line)
    go (inl here) v is stands rest =
        record { wait = w; is = rw here refl; number = sym (eqb-true k w.wait here) }
    go (inr other) v is stands rest = at (in-behind v w line stands)
      where
        at : (v ≡ w) ⊎ IsIn v line → IsFound k c (w ∷ line)
        at (inl same) = absurd (eqb-false k w.wait other (ap waiting_key (sym is ∙ same)))
        at (inr later) =
            let found : IsFound k c line = rest (subst (λ u. IsIn u line) is later) in
            record { wait = found.wait; is = rw other found.is; number = found.number }

-- nobody is found under a number that isn't there
pub lacks-find : (k : ℕ) (line : List Waiting) → Lacks waiting_key k line → find_wait k line ≡ None
lacks-find k [] lacks = refl
lacks-find k (w ∷ line) lacks = rw (ne_eqb k w.wait (λ e. lacks.0 (sym e))) (lacks-find k line lacks.1)

-- A wait that is gone stays gone.

gone-turned : (o : Semaphore) (k : ℕ) → IsGone o k → IsGone (turned_back o) k
gone-turned o k gone = go (nat_lt (due o) o.way)
  where
    go : (b : Bool) → IsGone (if b then record o { way = o.way - 1; free = o.free + 1 } else o) k
    go true = record { entered = gone.entered; absent = gone.absent }
    go false = gone

gone-left_out : (o : Semaphore) (j k : ℕ) → IsGone o k → Lacks waiting_key k (without waiting_key j o.line)
gone-left_out o j k gone = lacks-without waiting_key k j o.line gone.absent

-- what comes of an entry by a caller of the door, by whether the number is broken
abbrev pub enters_by : Semaphore → ℕ → ℕ → Bool → Semaphore
enters_by o c k b =
    if b
    then record o {
      door = without (λ d. d) c o.door;
      next = o.next + 1;
      spoiled = change_by spoiled_key k (λ (b : Spoiled). record { wait = b.wait; pass = Some c }) o.spoiled;
    }
    else record o {
      door = without (λ d. d) c o.door;
      line = o.line ++ record { wait = k; pass = c } ∷ [];
      next = o.next + 1;
    }

pub gone-entry : (o : Semaphore) (e : Entry) (k : ℕ) → IsAllowed o e → IsGone o k → IsGone (after_entry o e) k
gone-entry o (entry.TakeNow c) k allowed gone = record { entered = gone.entered; absent = gone.absent }
gone-entry o (entry.TakeDoor c) k allowed gone = record { entered = gone.entered; absent = gone.absent }
gone-entry o (entry.Enter c j) k (stands, next, may) gone = go (has_spoiled j o.spoiled)
  where
    low : k < o.next
    low = gone.entered

    other : j ≢ k
    other = λ e. absurd (omega (arith, e, next, low))

    go : (b : Bool) → IsGone (enters_by o c j b) k
    go true = record { entered = omega (arith, low); absent = gone.absent }
    go false = record {
      entered = omega (arith, low);
      absent = lacks-push waiting_key k (record { wait = j; pass = c }) o.line other gone.absent;
    }
gone-entry o (entry.TryGot c) k allowed gone = record { entered = gone.entered; absent = gone.absent }
gone-entry o (entry.TryBusy c) k allowed gone = gone
gone-entry o (entry.GiveFreed c) k allowed gone = record { entered = gone.entered; absent = gone.absent }
gone-entry o (entry.GiveSent c) k allowed gone = record { entered = gone.entered; absent = gone.absent }
gone-entry o (entry.Deliver j) k allowed gone =
    record { entered = gone.entered; absent = gone-left_out o j k gone }
gone-entry o (entry.Spoil c j) k allowed gone =
    record { entered = gone.entered; absent = gone-left_out o j k gone }
gone-entry o (entry.Undo c j) k allowed gone = record { entered = gone.entered; absent = gone.absent }
gone-entry o (entry.Leave c j) k allowed gone =
    gone-turned (record o { line = without waiting_key j o.line }) k
    (record { entered = gone.entered; absent = gone-left_out o j k gone })
gone-entry o (entry.Late c j) k allowed gone = record { entered = gone.entered; absent = gone.absent }
gone-entry o (entry.LookGranted c j) k allowed gone = record { entered = gone.entered; absent = gone.absent }
gone-entry o (entry.LookPending c j) k allowed gone = gone

-- A broken number stays broken until its caller comes to it, and then it is gone.

-- no entry ends wait k any more: it is gone, or its number is broken
abbrev pub IsSpent : Semaphore → ℕ → Type 0
IsSpent o k = IsGone o k ⊎ ((b : Spoiled) × IsIn b o.spoiled × (b.wait ≡ k))

broken-entry : (o : Semaphore) (e : Entry) (k : ℕ) → AreWaitsApart o → IsAllowed o e
    → (b : Spoiled) × IsIn b o.spoiled × (b.wait ≡ k)
    → IsSpent (after_entry o e) k
broken-entry o (entry.Enter c j) k a (stands, next, may) (b, there, is) = go (has_spoiled j o.spoiled)
  where
    go : (x : Bool) → IsSpent (enters_by o c j x) k
    go true =
        let kept =
        changed-there spoiled_key (λ (d : Spoiled). record { wait = d.wait; pass = Some c }) (λ d. refl) j b o.spoiled
        there
        in
        inr (kept.0, kept.1, kept.2 ∙ is)
    go false = inr (b, there, is)
broken-entry o (entry.Spoil c j) k a allowed (b, there, is) =
    inr (b, placed-there spoiled_key _ b o.spoiled there, is)
broken-entry o (entry.Undo c j) k a undoes (b, there, is) = go (cases_eq j k)
  where
    go : (j ≡ k) ⊎ (j ≢ k) → IsSpent (after_entry o (entry.Undo c j)) k
    go (inl same) =
        let gone : IsGone o j = a.placed (record { wait = j; pass = Some c }) undoes in
        inl (subst (λ i. IsGone (after_entry o (entry.Undo c j)) i) same
        (record { entered = gone.entered; absent = gone.absent }))
    go (inr other) =
        inr (b, without-there spoiled_key j b o.spoiled (λ e. other (sym e ∙ is)) there, is)
broken-entry o (entry.Leave c j) k a allowed (b, there, is) = go (nat_lt (due (less)) o.way)
  where
    less : Semaphore
    less = record o { line = without waiting_key j o.line }

    go : (x : Bool) → IsSpent (if x then record less { way = o.way - 1; free = o.free + 1 } else less) k
    go true = inr (b, there, is)
    go false = inr (b, there, is)
broken-entry o (entry.TakeNow c) k a allowed (b, there, is) = inr (b, there, is)
broken-entry o (entry.TakeDoor c) k a allowed (b, there, is) = inr (b, there, is)
broken-entry o (entry.TryGot c) k a allowed (b, there, is) = inr (b, there, is)
broken-entry o (entry.TryBusy c) k a allowed (b, there, is) = inr (b, there, is)
broken-entry o (entry.GiveFreed c) k a allowed (b, there, is) = inr (b, there, is)
broken-entry o (entry.GiveSent c) k a allowed (b, there, is) = inr (b, there, is)
broken-entry o (entry.Deliver j) k a allowed (b, there, is) = inr (b, there, is)
broken-entry o (entry.Late c j) k a allowed (b, there, is) = inr (b, there, is)
broken-entry o (entry.LookGranted c j) k a allowed (b, there, is) = inr (b, there, is)
broken-entry o (entry.LookPending c j) k a allowed (b, there, is) = inr (b, there, is)

pub spent-entry : (o : Semaphore) (e : Entry) (k : ℕ) → AreWaitsApart o → IsAllowed o e → IsSpent o k
    → IsSpent (after_entry o e) k
spent-entry o e k a allowed (inl gone) = inl (gone-entry o e k allowed gone)
spent-entry o e k a allowed (inr broken) = broken-entry o e k a allowed broken

-- A wait of the line that is taken out is gone.

gone-out : (o : Semaphore) (c k : ℕ) → AreWaitsApart o → Waits k c o.line
    → IsGone (record o { line = without waiting_key k o.line }) k
gone-out o c k a waits = record {
  entered = rising-below waiting_key 0 o.next (record { wait = k; pass = c }) o.line a.line waits;
  absent = rising-left_out waiting_key k 0 o.next o.line a.line;
}

pub gone-ended : (o : Semaphore) (e : Entry) (k : ℕ) → AreWaitsApart o → IsAllowed o e → EndsWait k e
    → IsSpent (after_entry o e) k
gone-ended o (entry.Deliver j) k a (c, waits) ends =
    let among : (0 < o.way) × Waits j c o.line = in-take (record { wait = j; pass = c }) o.way o.line waits in
    let out : IsGone (record o { line = without waiting_key j o.line }) j = gone-out o c j a among.1 in
    inl (subst (λ i. IsGone (after_entry o (entry.Deliver j)) i) ends
    (record { entered = out.entered; absent = out.absent }))
gone-ended o (entry.Leave c j) k a waits ends =
    inl (subst (λ i. IsGone (after_entry o (entry.Leave c j)) i) ends
    (gone-turned (record o { line = without waiting_key j o.line }) j (gone-out o c j a waits)))
gone-ended o (entry.Spoil c j) k a allowed ends =
    let new : Spoiled = record { wait = j; pass = waiting_pass (find_wait j o.line) } in
    inr (new, placed-new spoiled_key new o.spoiled, ends)
gone-ended o (entry.Undo c j) k a allowed ends = absurd ends
gone-ended o (entry.TakeNow c) k a allowed ends = absurd ends
gone-ended o (entry.TakeDoor c) k a allowed ends = absurd ends
gone-ended o (entry.Enter c j) k a allowed ends = absurd ends
gone-ended o (entry.TryGot c) k a allowed ends = absurd ends
gone-ended o (entry.TryBusy c) k a allowed ends = absurd ends
gone-ended o (entry.GiveFreed c) k a allowed ends = absurd ends
gone-ended o (entry.GiveSent c) k a allowed ends = absurd ends
gone-ended o (entry.Late c j) k a allowed ends = absurd ends
gone-ended o (entry.LookGranted c j) k a allowed ends = absurd ends
gone-ended o (entry.LookPending c j) k a allowed ends = absurd ends

-- no wait of the line has a broken number
line-unbroken : (o : Semaphore) (c j k : ℕ) → AreWaitsApart o → Waits j c o.line → j ≡ k
    → (b : Spoiled) → IsIn b o.spoiled → b.wait ≡ k → ⊥
line-unbroken o c j k a waits ends b there is = go b.pass refl
  where
    go : (pass : Option ℕ) → b.pass ≡ pass → ⊥
    go None none =
        let past : o.next ≤ b.wait = subst (λ x. IsPlaced o b.wait x) none (a.placed b there) in
        let low : j < o.next = rising-below waiting_key 0 o.next (record { wait = j; pass = c }) o.line a.line waits in
        absurd (omega (arith, past, low, is, ends))
    go (Some d) some =
        let gone : IsGone o b.wait = subst (λ x. IsPlaced o b.wait x) some (a.placed b there) in
        lacks-in waiting_key b.wait (record { wait = j; pass = c }) o.line (ends ∙ sym is) waits gone.absent

ends-not : (o : Semaphore) (c j k : ℕ) → AreWaitsApart o → Waits j c o.line → j ≡ k → IsSpent o k → ⊥
ends-not o c j k a waits ends (inl gone) =
    lacks-in waiting_key k (record { wait = j; pass = c }) o.line ends waits gone.absent
ends-not o c j k a waits ends (inr (b, there, is)) = line-unbroken o c j k a waits ends b there is

-- a wait that is gone, or whose number is broken, ends no more
pub gone-ends_not : (o : Semaphore) (e : Entry) (k : ℕ) → AreWaitsApart o → IsAllowed o e → EndsWait k e → IsSpent o k
    → ⊥
gone-ends_not o (entry.Deliver j) k a (c, waits) ends spent =
    let among : (0 < o.way) × Waits j c o.line = in-take (record { wait = j; pass = c }) o.way o.line waits in
    ends-not o c j k a among.1 ends spent
gone-ends_not o (entry.Leave c j) k a waits ends spent = ends-not o c j k a waits ends spent
gone-ends_not o (entry.Spoil d j) k a (some, inl (c, waits)) ends spent =
    let among : (0 < o.way) × Waits j c o.line = in-take (record { wait = j; pass = c }) o.way o.line waits in
    ends-not o c j k a among.1 ends spent
gone-ends_not o (entry.Spoil d j) k a (some, inr (past, whole, few)) ends (inl gone) =
    let low : k < o.next = gone.entered in absurd (omega (arith, past, low, ends))
gone-ends_not o (entry.Spoil d j) k a (some, inr (past, whole, few)) ends (inr (b, there, is)) =
    spoiled-absent j b o.spoiled whole there (is ∙ sym ends)
gone-ends_not o (entry.Undo c j) k a allowed ends spent = ends
gone-ends_not o (entry.TakeNow c) k a allowed ends spent = ends
gone-ends_not o (entry.TakeDoor c) k a allowed ends spent = ends
gone-ends_not o (entry.Enter c j) k a allowed ends spent = ends
gone-ends_not o (entry.TryGot c) k a allowed ends spent = ends
gone-ends_not o (entry.TryBusy c) k a allowed ends spent = ends
gone-ends_not o (entry.GiveFreed c) k a allowed ends spent = ends
gone-ends_not o (entry.GiveSent c) k a allowed ends spent = ends
gone-ends_not o (entry.Late c j) k a allowed ends spent = ends
gone-ends_not o (entry.LookGranted c j) k a allowed ends spent = ends
gone-ends_not o (entry.LookPending c j) k a allowed ends spent = ends

-- Each entry keeps the waits apart.

-- a broken number stays in its place, where the next number doesn't pass it
placed-kept : (o n : Semaphore) (k : ℕ) (pass : Option ℕ) → n.next ≤ o.next → (IsGone o k → IsGone n k)
    → IsPlaced o k pass → IsPlaced n k pass
placed-kept o n k None next gone past = let before : o.next ≤ k = past in omega (arith, next, before)
placed-kept o n k (Some c) next gone placed = gone placed

apart-turned : (o : Semaphore) → AreWaitsApart o → AreWaitsApart (turned_back o)
apart-turned o a = go (nat_lt (due o) o.way)
  where
    go : (b : Bool) → AreWaitsApart (if b then record o { way = o.way - 1; free = o.free + 1 } else o)
    go true = record {
      line = a.line;
      served = λ s stands.
          record { entered = (a.served s stands).entered; absent = (a.served s stands).absent };
      apart = a.apart;
      placed = λ b there. placed-kept o _ b.wait b.pass (omega arith) (λ gone.
          record { entered = gone.entered; absent = gone.absent }) (a.placed b there);
      single = a.single;
    }
    go false = a

-- an entry after which door, permits or counts differ, and no wait
apart-same : (o n : Semaphore) → n.next ≡ o.next → n.line ≡ o.line → n.served ≡ o.served → n.spoiled ≡ o.spoiled
    → AreWaitsApart o
    → AreWaitsApart n
apart-same o n next line served spoiled a = record {
  line = rw (next, line) a.line;
  served = λ s stands.
      let gone : IsGone o s.wait = a.served s (rw served at stands) in
      record { entered = rw next gone.entered; absent = rw line gone.absent };
  apart = rw served a.apart;
  placed = λ b there. placed-kept o n b.wait b.pass (omega (arith, next)) (λ gone.
      record { entered = rw next gone.entered; absent = rw line gone.absent }) (a.placed b (rw spoiled at there));
  single = rw spoiled a.single;
}

-- the permit of a wait has been looked at
apart-closed : (o : Semaphore) (k : ℕ) → AreWaitsApart o → AreWaitsApart (after_look o k)
apart-closed o k a = record {
  line = a.line;
  served = λ s stands. go s (in-changed service_key looked_at (λ t. refl) k s o.served stands);
  apart = distinct-changed service_key looked_at (λ t. refl) k o.served a.apart;
  placed = λ b there. placed-kept o (after_look o k) b.wait b.pass (omega arith) (λ gone.
      record { entered = gone.entered; absent = gone.absent }) (a.placed b there);
  single = a.single;
}
  where
    go : (s : Service) → IsFrom service_key looked_at (λ t. refl) s o.served → IsGone (after_look o k) s.wait
    go s from = record { entered = rw same gone.entered; absent = rw same gone.absent }
      where
        number : (s ≡ from.old) ⊎ (s ≡ looked_at from.old) → s.wait ≡ from.old.wait
        number (inl is) = ap service_key is
        number (inr is) = ap service_key is

        same : s.wait ≡ from.old.wait
        same = number from.is

        gone : IsGone o from.old.wait
        gone = a.served from.old from.there

-- a wait of the line is served
apart-delivered : (o : Semaphore) (c k : ℕ) → AreWaitsApart o → Waits k c o.line → AreWaitsApart (after_deliver o k)
apart-delivered o c k a waits = record {
  line = rising-without waiting_key k 0 o.next o.line a.line;
  served = λ s stands. gone s (in-placed service_key s new o.served (rw now at stands));
  apart = rw now (distinct-placed service_key new o.served fresh a.apart);
  placed = λ b there. placed-kept o (after_deliver o k) b.wait b.pass (omega arith) (λ gone_before.
      record { entered = gone_before.entered; absent = gone-left_out o k b.wait gone_before }) (a.placed b there);
  single = a.single;
}
  where
    found : IsFound k c o.line
    found = found-waits k c o.line waits

    new : Service
    new = record { wait = found.wait.wait; pass = found.wait.pass; is_open = true }

    now : with_service (find_wait k o.line) o.served ≡ insert_by service_key new o.served
    now = ap (λ w. with_service w o.served) found.is

    out : IsGone (record o { line = without waiting_key k o.line }) k
    out = gone-out o c k a waits

    fresh : Lacks service_key found.wait.wait o.served
    fresh = lacks-from service_key found.wait.wait o.served (λ t there same.
        lacks-in waiting_key t.wait (record { wait = k; pass = c }) o.line
        (sym (same ∙ found.number)) waits (a.served t there).absent)

    gone : (s : Service) → (s ≡ new) ⊎ IsIn s o.served → IsGone (after_deliver o k) s.wait
    gone s (inl is) =
        let number : s.wait ≡ k = ap service_key is ∙ found.number in
        record { entered = rw number out.entered; absent = rw number out.absent }
    gone s (inr there) =
        let before : IsGone o s.wait = a.served s there in
        record { entered = before.entered; absent = gone-left_out o k s.wait before }

pub apart-entry : (o : Semaphore) (e : Entry) → IsAllowed o e → AreWaitsApart o
    → AreWaitsApart (after_entry o e)
apart-entry o (entry.TakeNow c) allowed a = apart-same o (after_take o) refl refl refl refl a
apart-entry o (entry.TakeDoor c) allowed a = apart-same o (at_door o c) refl refl refl refl a
apart-entry o (entry.Enter c j) (stands, next, may) a = go (cases_Bool (has_spoiled j o.spoiled))
  where
    passed : (b : Spoiled) → b.wait ≢ j → (pass : Option ℕ) → IsPlaced o b.wait pass
        → (x : Bool) → (IsGone o b.wait → IsGone (enters_by o c j x) b.wait) → IsPlaced (enters_by o c j x) b.wait pass
    passed b other None past true gone = let before : o.next ≤ b.wait = past in omega (arith, before, other, next)
    passed b other None past false gone = let before : o.next ≤ b.wait = past in omega (arith, before, other, next)
    passed b other (Some d) placed x gone = gone placed

    go : (has_spoiled j o.spoiled ≡ true) ⊎ (has_spoiled j o.spoiled ≡ false)
        → AreWaitsApart (after_entry o (entry.Enter c j))
    go (inl broken) = rw broken (record {
      line = rising-higher waiting_key 0 o.next (o.next + 1) o.line (omega arith) a.line;
      served = λ s there. later s.wait (a.served s there);
      apart = a.apart;
      placed = λ b there. place b there (cases_eq b.wait j);
      single = distinct-changed spoiled_key (λ (d : Spoiled). record { wait = d.wait; pass = Some c }) (λ d. refl) j
          o.spoiled a.single;
    })
      where
        later : (k : ℕ) → IsGone o k → IsGone (enters_by o c j true) k
        later k gone = record { entered = let low : k < o.next = gone.entered in omega arith; absent = gone.absent }

        place : (b : Spoiled) → IsIn b (enters_by o c j true).spoiled → (b.wait ≡ j) ⊎ (b.wait ≢ j)
            → IsPlaced (enters_by o c j true) b.wait b.pass
        place b there (inl same) =
            let from : (t : Spoiled) × (b ≡ record { wait = t.wait; pass = Some c }) =
            changed-all spoiled_key (λ (d : Spoiled). record { wait = d.wait; pass = Some c }) (λ d. refl) j b o.spoiled
            a.single same there in
            let pass : b.pass ≡ Some c = ap (λ (d : Spoiled). d.pass) from.1 in
            let gone : IsGone (enters_by o c j true) b.wait = record {
              entered = omega (arith, same, next);
              absent = rising-past_lacks waiting_key b.wait 0 o.next o.line (omega (arith, same, next)) a.line;
            } in
            subst (λ x. IsPlaced (enters_by o c j true) b.wait x) (sym pass) gone
        place b there (inr other) =
            passed b other b.pass
            (a.placed b (in-changed_else spoiled_key (λ (d : Spoiled). record { wait = d.wait; pass = Some c })
            (λ d. refl)
            j b o.spoiled other there))
            true (later b.wait)
    go (inr whole) = rw whole (record {
      line = rising-push waiting_key 0 o.next (record { wait = j; pass = c }) o.line next a.line;
      served = λ s there. later s.wait (a.served s there);
      apart = a.apart;
      placed =
          λ b there. passed b (spoiled-absent j b o.spoiled whole there) b.pass (a.placed b there) false (later b.wait);
      single = a.single;
    })
      where
        later : (k : ℕ) → IsGone o k → IsGone (enters_by o c j false) k
        later k gone =
            let low : k < o.next = gone.entered in
            record {
              entered = omega arith;
              absent = lacks-push waiting_key k (record { wait = j; pass = c }) o.line
                  (λ e. absurd (omega (arith, e, next, low))) gone.absent;
            }
apart-entry o (entry.TryGot c) allowed a = apart-same o (after_take o) refl refl refl refl a
apart-entry o (entry.TryBusy c) allowed a = a
apart-entry o (entry.GiveFreed c) allowed a =
    apart-same o (record o { held = o.held - 1; free = o.free + 1 }) refl refl refl refl a
apart-entry o (entry.GiveSent c) allowed a =
    apart-same o (record o { held = o.held - 1; way = o.way + 1 }) refl refl refl refl a
apart-entry o (entry.Deliver j) (c, waits) a =
    let among : (0 < o.way) × Waits j c o.line = in-take (record { wait = j; pass = c }) o.way o.line waits in
    apart-delivered o c j a among.1
apart-entry o (entry.Spoil c j) (some, may) a = record {
  line = rising-without waiting_key j 0 o.next o.line a.line;
  served = λ s there. out s.wait (a.served s there);
  apart = a.apart;
  placed = λ b there. place b (in-placed spoiled_key b new o.spoiled there);
  single = distinct-placed spoiled_key new o.spoiled (fresh may) a.single;
}
  where
    new : Spoiled
    new = record { wait = j; pass = waiting_pass (find_wait j o.line) }

    after : Semaphore
    after = after_entry o (entry.Spoil c j)

    out : (k : ℕ) → IsGone o k → IsGone after k
    out k gone = record { entered = gone.entered; absent = gone-left_out o j k gone }

    fresh : MaySpoil o j → Lacks spoiled_key j o.spoiled
    fresh (inl (d, waits)) =
        let among : (0 < o.way) × Waits j d o.line = in-take (record { wait = j; pass = d }) o.way o.line waits in
        lacks-from spoiled_key j o.spoiled (λ b there is. line-unbroken o d j j a among.1 refl b there is)
    fresh (inr (past, whole, few)) =
        lacks-from spoiled_key j o.spoiled (λ b there is. spoiled-absent j b o.spoiled whole there is)

    place_new : MaySpoil o j → IsPlaced after j (waiting_pass (find_wait j o.line))
    place_new (inl (d, waits)) =
        let among : (0 < o.way) × Waits j d o.line = in-take (record { wait = j; pass = d }) o.way o.line waits in
        let found : IsFound j d o.line = found-waits j d o.line among.1 in
        let gone : IsGone (record o { line = without waiting_key j o.line }) j = gone-out o d j a among.1 in
        let pass : waiting_pass (find_wait j o.line) ≡ Some found.wait.pass = ap waiting_pass found.is in
        subst (λ x. IsPlaced after j x) (sym pass) (record { entered = gone.entered; absent = gone.absent })
    place_new (inr (past, whole, few)) =
        let none : find_wait j o.line ≡ None =
        lacks-find j o.line (rising-past_lacks waiting_key j 0 o.next o.line past a.line) in
        subst (λ x. IsPlaced after j x) (sym (ap waiting_pass none)) past

    place : (b : Spoiled) → (b ≡ new) ⊎ IsIn b o.spoiled → IsPlaced after b.wait b.pass
    place b (inl is) = subst (λ (x : Spoiled). IsPlaced after x.wait x.pass) (sym is) (place_new may)
    place b (inr there) = placed-kept o after b.wait b.pass (omega arith) (out b.wait) (a.placed b there)
apart-entry o (entry.Undo c j) undoes a = record {
  line = a.line;
  served = λ s there. let gone : IsGone o s.wait = a.served s there in
      record { entered = gone.entered; absent = gone.absent };
  apart = a.apart;
  placed = λ b there. placed-kept o (after_entry o (entry.Undo c j)) b.wait b.pass (omega arith)
      (λ gone. record { entered = gone.entered; absent = gone.absent })
      (a.placed b (in-without spoiled_key j b o.spoiled there));
  single = distinct-without spoiled_key j o.spoiled a.single;
}
apart-entry o (entry.Leave c j) waits a =
    apart-turned (record o { line = without waiting_key j o.line }) (record {
      line = rising-without waiting_key j 0 o.next o.line a.line;
      served = λ s there.
          let gone : IsGone o s.wait = a.served s there in
          record { entered = gone.entered; absent = gone-left_out o j s.wait gone };
      apart = a.apart;
      placed = λ b there. placed-kept o _ b.wait b.pass (omega arith)
          (λ gone. record { entered = gone.entered; absent = gone-left_out o j b.wait gone }) (a.placed b there);
      single = a.single;
    })
apart-entry o (entry.Late c j) allowed a = apart-closed o j a
apart-entry o (entry.LookGranted c j) allowed a = apart-closed o j a
apart-entry o (entry.LookPending c j) allowed a = a

pub apart-opening : (permits : ℕ) → AreWaitsApart (opening permits)
apart-opening permits =
    record {
      line = omega arith;
      served = λ s stands. absurd (in-none s stands);
      apart = tt;
      placed = λ b there. absurd (in-none b there);
      single = tt;
    }
