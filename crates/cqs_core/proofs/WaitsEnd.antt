-- A wait of a legal history ends once; and where one permit at a time is on its way, service is in order.
use Rattle.std.proofs.Common.{◌≡◌, ◌⊎◌, inl, inr, ℕ, suc, ◌+◌, ◌-◌, ◌<◌, ◌≤◌, ◌==◌, nat_lt, Bool, true, false, List, [], ◌∷◌, Some, length, slice_get, if◌then◌else◌, sym, subst, arith, eq-eqb}
use Rattle.std.proofs.lemmas.Bool.{cases_order}
use Rattle.cqs_core.specs.declared.entries.Entry.{Entry}
use Rattle.cqs_core.specs.declared.entries.Entry.TheVariants as entry
use Rattle.cqs_core.specs.Keyed.{without}
use Rattle.cqs_core.specs.QueueLine.{Waiting}
use Rattle.cqs_core.specs.SemaphoreObject.{Semaphore, opening, due}
use Rattle.cqs_core.specs.SemaphoreEntries.{IsAllowed, Waits, after_entry, turned_back, IsLegal, IsFirst, has_spoiled}
use Rattle.cqs_core.specs.SemaphoreLaws.{object_before, EndsWait, EveryWaitEndsOnce, ServiceIsInOrder}
use Rattle.cqs_core.proofs.Places.{get-below}
use Rattle.cqs_core.proofs.Rising.{in-take, IsRising, rising-push, rising-without, rising-above, rising-higher}
use Rattle.cqs_core.proofs.Histories.{object-next, walk, walk-all}
use Rattle.cqs_core.proofs.Balance.{one-permit-to-first}
use Rattle.cqs_core.proofs.Waits.{waiting_key, AreWaitsApart, IsSpent, spent-entry, enters_by, gone-ended, gone-ends_not, apart-entry, apart-opening}

module _ (permits : ℕ) (history : List Entry) (legal : IsLegal permits history) where
  pub waits-apart : (n : ℕ) → n ≤ length history → AreWaitsApart (object_before permits history n)
  waits-apart n within =
      walk-all IsAllowed after_entry (opening permits) history AreWaitsApart legal
      (λ o e allowed a. apart-entry o e allowed a)
      (apart-opening permits) n within

  -- two entries that each would be the last of their kind for wait k: the second can't come
  ends-not_later : (k m n : ℕ) (d e : Entry) → slice_get history m ≡ Some d → slice_get history n ≡ Some e
      → EndsWait k d → EndsWait k e → m < n → ⊥
  ends-not_later k m n d e gets_d gets_e ends_d ends_e later =
      let within : n < length history = get-below history n e gets_e in
      let gone : IsSpent (object_before permits history (suc m)) k =
      rw (object-next IsAllowed after_entry (opening permits) history m d gets_d)
      (gone-ended (object_before permits history m) d k
      (waits-apart m (omega arith)) (legal.at m d gets_d) ends_d) in
      let still : IsSpent (object_before permits history n) k =
      walk IsAllowed after_entry (opening permits) history (λ i o. IsSpent o k) legal
      (λ i f got allowed g. let there : i < length history = get-below history i f got in
      spent-entry (object_before permits history i) f k (waits-apart i (omega arith)) allowed g)
      (suc m) gone (n - suc m) n (omega arith) (omega arith) in
      gone-ends_not (object_before permits history n) e k (waits-apart n (omega arith)) (legal.at n e gets_e) ends_e
      still

pub every-wait-ends-once : EveryWaitEndsOnce
every-wait-ends-once permits history k m n d e legal gets_d gets_e ends_d ends_e = go (cases_order m n)
  where
    go : (m ≡ n) ⊎ ((m < n) ⊎ (n < m)) → m ≡ n
    go (inl same) = same
    go (inr (inl later)) =
        absurd (ends-not_later permits history legal k m n d e gets_d gets_e ends_d ends_e later)
    go (inr (inr before)) =
        absurd (ends-not_later permits history legal k n m e d gets_e gets_d ends_e ends_d before)

-- Service in order.

-- whoever waits has a number of at least `low`
abbrev AreNumberedFrom : ℕ → Semaphore → Type 0
AreNumberedFrom low o = IsRising waiting_key low o.next o.line

numbered-turned : (low : ℕ) (o : Semaphore) → AreNumberedFrom low o → AreNumberedFrom low (turned_back o)
numbered-turned low o from = go (nat_lt (due o) o.way)
  where
    go : (b : Bool) → AreNumberedFrom low (if b then record o { way = o.way - 1; free = o.free + 1 } else o)
    go true = from
    go false = from

-- whoever comes later has a larger number
numbered-entry : (low : ℕ) (o : Semaphore) (e : Entry) → IsAllowed o e → AreNumberedFrom low o
    → AreNumberedFrom low (after_entry o e)
numbered-entry low o (entry.TakeNow c) allowed from = from
numbered-entry low o (entry.TakeDoor c) allowed from = from
numbered-entry low o (entry.Enter c k) (stands, next, may) from = go (has_spoiled k o.spoiled)
  where
    go : (b : Bool) → AreNumberedFrom low (enters_by o c k b)
    go true = rising-higher waiting_key low o.next (o.next + 1) o.line (omega arith) from
    go false = rising-push waiting_key low o.next (record { wait = k; pass = c }) o.line next from
numbered-entry low o (entry.TryGot c) allowed from = from
numbered-entry low o (entry.TryBusy c) allowed from = from
numbered-entry low o (entry.GiveFreed c) allowed from = from
numbered-entry low o (entry.GiveSent c) allowed from = from
numbered-entry low o (entry.Deliver k) allowed from = rising-without waiting_key k low o.next o.line from
numbered-entry low o (entry.Spoil c k) allowed from = rising-without waiting_key k low o.next o.line from
numbered-entry low o (entry.Undo c k) allowed from = from
numbered-entry low o (entry.Leave c k) allowed from =
    numbered-turned low (record o { line = without waiting_key k o.line })
    (rising-without waiting_key k low o.next o.line from)
numbered-entry low o (entry.Late c k) allowed from = from
numbered-entry low o (entry.LookGranted c k) allowed from = from
numbered-entry low o (entry.LookPending c k) allowed from = from

-- behind the first of the line the numbers are larger
behind-first : (k high : ℕ) (line : List Waiting) → IsFirst k line → IsRising waiting_key 0 high line
    → IsRising waiting_key (k + 1) high (without waiting_key k line)
behind-first k high [] first rising = absurd first
behind-first k high (w ∷ line) first rising =
    let here : (k == w.wait) ≡ true = eq-eqb k w.wait (sym first) in
    rw here (subst (λ i. IsRising waiting_key (i + 1) high line) first rising.1)

pub service-in-order : ServiceIsInOrder
service-in-order permits history m n j k legal single gets_j gets_k later =
    let within : n < length history = get-below history n (entry.Deliver k) gets_k in
    let first : IsFirst j (object_before permits history m).line =
    one-permit-to-first permits history m j legal gets_j (single m j gets_j) in
    let apart : AreWaitsApart (object_before permits history m) =
    waits-apart permits history legal m (omega arith) in
    let start : AreNumberedFrom (j + 1) (object_before permits history (suc m)) =
    rw (object-next IsAllowed after_entry (opening permits) history m (entry.Deliver j) gets_j)
    (behind-first j (object_before permits history m).next (object_before permits history m).line
    first apart.line) in
    let still : AreNumberedFrom (j + 1) (object_before permits history n) =
    walk IsAllowed after_entry (opening permits) history (λ i o. AreNumberedFrom (j + 1) o) legal
    (λ i f got allowed from. numbered-entry (j + 1) (object_before permits history i) f allowed from)
    (suc m) start (n - suc m) n (omega arith) (omega arith) in
    go (object_before permits history n) still (legal.at n (entry.Deliver k) gets_k)
  where
    go : (o : Semaphore) → AreNumberedFrom (j + 1) o → IsAllowed o (entry.Deliver k) → j < k
    go o from (c, waits) =
        let among : (0 < o.way) × Waits k c o.line =
        in-take (record { wait = k; pass = c }) o.way o.line waits in
        let least : j + 1 ≤ k =
        rising-above waiting_key (j + 1) o.next (record { wait = k; pass = c }) o.line from among.1 in
        omega arith
