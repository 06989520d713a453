-- A number of a legal history is broken once, and found so once.
use Rattle.std.proofs.Common.{◌≡◌, ◌≢◌, ◌⊎◌, inl, inr, ℕ, suc, ◌+◌, ◌-◌, ◌<◌, ◌≤◌, ◌==◌, nat_lt, Bool, true, false, List, [], ◌∷◌, Some, length, slice_get, if◌then◌else◌, refl, sym, subst, arith, eqb-true}
use Rattle.std.proofs.lemmas.Bool.{cases_Bool, cases_order, eqb-false}
use Rattle.std.proofs.lemmas.List.{take_all}
use Rattle.cqs_core.specs.declared.entries.Entry.{Entry}
use Rattle.cqs_core.specs.declared.entries.Entry.TheVariants as entry
use Rattle.cqs_core.specs.Keyed.{without}
use Rattle.cqs_core.specs.QueueLine.{Spoiled}
use Rattle.cqs_core.specs.SemaphoreObject.{Semaphore, opening, due}
use Rattle.cqs_core.specs.SemaphoreEntries.{object_after, IsAllowed, Waits, after_entry, find_wait, waiting_pass, has_spoiled, MaySpoil, IsLegal}
use Rattle.cqs_core.specs.SemaphoreLaws.{object_before, EndsWait, Breaks, FindsBroken, EveryNumberIsBrokenOnce, EveryBreakIsFoundOnce}
use Rattle.cqs_core.proofs.Places.{get-below}
use Rattle.cqs_core.proofs.Rising.{in-take, Lacks, lacks-in, lacks-without, lacks-placed}
use Rattle.cqs_core.proofs.Distinct.{AreDistinct, lacks-changed}
use Rattle.cqs_core.proofs.Histories.{object-next, walk}
use Rattle.cqs_core.proofs.SpoiledLists.{spoiled_key}
use Rattle.cqs_core.proofs.Waits.{waiting_key, IsGone, AreWaitsApart, gone-entry, enters_by}
use Rattle.cqs_core.proofs.WaitsEnd.{waits-apart, every-wait-ends-once}

breaks-ends : (k : ℕ) (e : Entry) → Breaks k e → EndsWait k e
breaks-ends k (entry.Spoil c j) is = is
breaks-ends k (entry.Undo c j) is = absurd is
breaks-ends k (entry.Deliver j) is = absurd is
breaks-ends k (entry.Leave c j) is = absurd is
breaks-ends k (entry.TakeNow c) is = is
breaks-ends k (entry.TakeDoor c) is = is
breaks-ends k (entry.Enter c j) is = is
breaks-ends k (entry.TryGot c) is = is
breaks-ends k (entry.TryBusy c) is = is
breaks-ends k (entry.GiveFreed c) is = is
breaks-ends k (entry.GiveSent c) is = is
breaks-ends k (entry.Late c j) is = is
breaks-ends k (entry.LookGranted c j) is = is
breaks-ends k (entry.LookPending c j) is = is

pub every-number-broken-once : EveryNumberIsBrokenOnce
every-number-broken-once permits history k m n d e legal gets_d gets_e breaks_d breaks_e =
    every-wait-ends-once permits history k m n d e legal gets_d gets_e (breaks-ends k d breaks_d)
    (breaks-ends k e breaks_e)

-- the number was broken and its caller came to it: it is neither in the line nor broken, and won't be again
record IsPassed (o : Semaphore) (k : ℕ) : Type 0 where
  gone : IsGone o k
  unbroken : Lacks spoiled_key k o.spoiled

lacks-entry : (o : Semaphore) (e : Entry) (k : ℕ) → IsAllowed o e → IsPassed o k
    → Lacks spoiled_key k (after_entry o e).spoiled
lacks-entry o (entry.Enter c j) k allowed p = go (has_spoiled j o.spoiled)
  where
    go : (b : Bool) → Lacks spoiled_key k (enters_by o c j b).spoiled
    go true =
        lacks-changed spoiled_key (λ (d : Spoiled). record { wait = d.wait; pass = Some c }) (λ d. refl) k j o.spoiled
        p.unbroken
    go false = p.unbroken
lacks-entry o (entry.Spoil c j) k (some, may) p =
    lacks-placed spoiled_key k (record { wait = j; pass = waiting_pass (find_wait j o.line) }) o.spoiled (other may)
    p.unbroken
  where
    other : MaySpoil o j → j ≢ k
    other (inl (d, waits)) =
        let among : (0 < o.way) × Waits j d o.line = in-take (record { wait = j; pass = d }) o.way o.line waits in
        λ e. absurd (lacks-in waiting_key k (record { wait = j; pass = d }) o.line e among.1 p.gone.absent)
    other (inr (past, whole, few)) = let low : k < o.next = p.gone.entered in λ e. absurd (omega (arith, past, low, e))
lacks-entry o (entry.Undo c j) k allowed p = lacks-without spoiled_key k j o.spoiled p.unbroken
lacks-entry o (entry.Leave c j) k allowed p = go (nat_lt (due less) o.way)
  where
    less : Semaphore
    less = record o { line = without waiting_key j o.line }

    go : (b : Bool)
        → Lacks spoiled_key k (if b then record less { way = o.way - 1; free = o.free + 1 } else less).spoiled
    go true = p.unbroken
    go false = p.unbroken
lacks-entry o (entry.TakeNow c) k allowed p = p.unbroken
lacks-entry o (entry.TakeDoor c) k allowed p = p.unbroken
lacks-entry o (entry.TryGot c) k allowed p = p.unbroken
lacks-entry o (entry.TryBusy c) k allowed p = p.unbroken
lacks-entry o (entry.GiveFreed c) k allowed p = p.unbroken
lacks-entry o (entry.GiveSent c) k allowed p = p.unbroken
lacks-entry o (entry.Deliver j) k allowed p = p.unbroken
lacks-entry o (entry.Late c j) k allowed p = p.unbroken
lacks-entry o (entry.LookGranted c j) k allowed p = p.unbroken
lacks-entry o (entry.LookPending c j) k allowed p = p.unbroken

passed-entry : (o : Semaphore) (e : Entry) (k : ℕ) → IsAllowed o e → IsPassed o k → IsPassed (after_entry o e) k
passed-entry o e k allowed p =
    record { gone = gone-entry o e k allowed p.gone; unbroken = lacks-entry o e k allowed p }

-- what is left out of distinct ones isn't there any more
distinct-left_out : (n : ℕ) (bs : List Spoiled) → AreDistinct spoiled_key bs
    → Lacks spoiled_key n (without spoiled_key n bs)
distinct-left_out n [] apart = tt
distinct-left_out n (b ∷ bs) apart = go (cases_Bool (n == b.wait)) (distinct-left_out n bs apart.1)
  where
    go : ((n == b.wait) ≡ true) ⊎ ((n == b.wait) ≡ false) → Lacks spoiled_key n (without spoiled_key n bs)
        → Lacks spoiled_key n (without spoiled_key n (b ∷ bs))
    go (inl here) rest = rw here (subst (λ i. Lacks spoiled_key i bs) (sym (eqb-true n b.wait here)) apart.0)
    go (inr other) rest = rw other ((λ e. eqb-false n b.wait other (sym e)), rest)

passed-found : (o : Semaphore) (e : Entry) (k : ℕ) → AreWaitsApart o → IsAllowed o e → FindsBroken k e
    → IsPassed (after_entry o e) k
passed-found o (entry.Undo c j) k a undoes is =
    let gone : IsGone o j = a.placed (record { wait = j; pass = Some c }) undoes in
    subst (λ i. IsPassed (after_entry o (entry.Undo c j)) i) is (record {
      gone = record { entered = gone.entered; absent = gone.absent };
      unbroken = distinct-left_out j o.spoiled a.single;
    })
passed-found o (entry.Spoil c j) k a allowed is = absurd is
passed-found o (entry.Deliver j) k a allowed is = absurd is
passed-found o (entry.Leave c j) k a allowed is = absurd is
passed-found o (entry.TakeNow c) k a allowed is = absurd is
passed-found o (entry.TakeDoor c) k a allowed is = absurd is
passed-found o (entry.Enter c j) k a allowed is = absurd is
passed-found o (entry.TryGot c) k a allowed is = absurd is
passed-found o (entry.TryBusy c) k a allowed is = absurd is
passed-found o (entry.GiveFreed c) k a allowed is = absurd is
passed-found o (entry.GiveSent c) k a allowed is = absurd is
passed-found o (entry.Late c j) k a allowed is = absurd is
passed-found o (entry.LookGranted c j) k a allowed is = absurd is
passed-found o (entry.LookPending c j) k a allowed is = absurd is

passed-finds_not : (o : Semaphore) (e : Entry) (k : ℕ) → IsAllowed o e → FindsBroken k e → IsPassed o k → ⊥
passed-finds_not o (entry.Undo c j) k undoes is p =
    lacks-in spoiled_key k (record { wait = j; pass = Some c }) o.spoiled is undoes p.unbroken
passed-finds_not o (entry.Spoil c j) k allowed is p = is
passed-finds_not o (entry.Deliver j) k allowed is p = is
passed-finds_not o (entry.Leave c j) k allowed is p = is
passed-finds_not o (entry.TakeNow c) k allowed is p = is
passed-finds_not o (entry.TakeDoor c) k allowed is p = is
passed-finds_not o (entry.Enter c j) k allowed is p = is
passed-finds_not o (entry.TryGot c) k allowed is p = is
passed-finds_not o (entry.TryBusy c) k allowed is p = is
passed-finds_not o (entry.GiveFreed c) k allowed is p = is
passed-finds_not o (entry.GiveSent c) k allowed is p = is
passed-finds_not o (entry.Late c j) k allowed is p = is
passed-finds_not o (entry.LookGranted c j) k allowed is p = is
passed-finds_not o (entry.LookPending c j) k allowed is p = is

module _ (permits : ℕ) (history : List Entry) (legal : IsLegal permits history) where
  -- after an entry that found the number broken, it isn't broken any more
  passed-later : (k m n : ℕ) (e : Entry) → slice_get history m ≡ Some e → FindsBroken k e → m < n → n ≤ length history
      → IsPassed (object_before permits history n) k
  passed-later k m n e gets finds later within =
      let start : IsPassed (object_before permits history (suc m)) k =
      rw (object-next IsAllowed after_entry (opening permits) history m e gets)
      (passed-found (object_before permits history m) e k (waits-apart permits history legal m (omega arith))
      (legal.at m e gets) finds) in
      walk IsAllowed after_entry (opening permits) history (λ i o. IsPassed o k) legal
      (λ i f got allowed p. passed-entry (object_before permits history i) f k allowed p)
      (suc m) start (n - suc m) n (omega arith) within

  pub found-lacks : (k m : ℕ) (e : Entry) → slice_get history m ≡ Some e → FindsBroken k e
      → Lacks spoiled_key k (object_after permits history).spoiled
  found-lacks k m e gets finds =
      let passed : IsPassed (object_before permits history (length history)) k =
      passed-later k m (length history) e gets finds (get-below history m e gets) (omega arith) in
      subst (λ h. Lacks spoiled_key k (object_after permits h).spoiled)
      (take_all (length history) history (omega arith))
      passed.unbroken

  finds-not_later : (k m n : ℕ) (d e : Entry) → slice_get history m ≡ Some d → slice_get history n ≡ Some e
      → FindsBroken k d → FindsBroken k e → m < n → ⊥
  finds-not_later k m n d e gets_d gets_e finds_d finds_e later =
      let within : n < length history = get-below history n e gets_e in
      passed-finds_not (object_before permits history n) e k (legal.at n e gets_e) finds_e
      (passed-later k m n d gets_d finds_d later (omega arith))

pub every-break-found-once : EveryBreakIsFoundOnce
every-break-found-once permits history k m n d e legal gets_d gets_e finds_d finds_e = go (cases_order m n)
  where
    go : (m ≡ n) ⊎ ((m < n) ⊎ (n < m)) → m ≡ n
    go (inl same) = same
    go (inr (inl later)) =
        absurd (finds-not_later permits history legal k m n d e gets_d gets_e finds_d finds_e later)
    go (inr (inr before)) =
        absurd (finds-not_later permits history legal k n m e d gets_e gets_d finds_e finds_d before)
