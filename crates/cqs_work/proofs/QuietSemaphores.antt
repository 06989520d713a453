-- Where every caller has given back what it came to, a semaphore is quiet.
use Rattle.std.proofs.Common.{◌≡◌, ◌⊎◌, inl, inr, ℕ, suc, ◌+◌, ◌-◌, ◌<◌, ◌==◌, nat_lt, nat_le, Bool, true, false, List, [], ◌∷◌, Some, length, take, slice_get, sum_by, refl, sym, ap, ◌∙◌, subst, arith, eq-eqb, le-leb}
use Rattle.std.specs.Bool.{if◌then◌else◌}
use Rattle.std.proofs.lemmas.Bool.{cases_Bool, lt-leb}
use Rattle.std.proofs.lemmas.List.{length_push, take_all}
use Rattle.std.proofs.lemmas.List.Sums.{sum_by_push}
use Rattle.cqs_core.specs.declared.entries.Entry.{Entry}
use Rattle.cqs_core.specs.declared.entries.Entry.TheVariants as permit
use Rattle.cqs_core.specs.Keyed.{change_by, insert_by, without}
use Rattle.cqs_core.specs.Numbered.{IsIn}
use Rattle.cqs_core.specs.Parts.{part}
use Rattle.cqs_core.specs.QueueLine.{Waiting, Spoiled}
use Rattle.cqs_core.specs.SemaphoreNames.{entry_names as permit_names}
use Rattle.cqs_core.specs.SemaphoreObject.{Semaphore, opening, due, early, early_of}
use Rattle.cqs_core.specs.SemaphoreEntries.{IsAllowed, IsLegal, MaySpoil, after_entry, find_wait, has_spoiled, object_after, turned_back, waiting_pass}
use Rattle.cqs_core.proofs.Balance.{every-history-balanced}
use Rattle.cqs_core.proofs.Histories.{walk, take-next}
use Rattle.cqs_core.proofs.Counts.{bit}
use Rattle.cqs_core.proofs.Rising.{in-take, length-without, length-placed, rising-below, rising-past_lacks, without-lacks}
use Rattle.cqs_core.proofs.SpoiledLists.{spoiled_key, early-changed, early-next, early-passed, early-placed, early-without}
use Rattle.cqs_core.proofs.Waits.{AreWaitsApart, apart-entry, apart-opening, waiting_key}
use Rattle.cqs_work.specs.Even.{permit_gains, permit_losses, permit_doors, permit_enters, NamesBelow, EveryEvenSemaphoreIsQuiet}
use Rattle.cqs_work.proofs.Shares.{over_callers, over-same, over-none, over-one, share, sum-by-parts}

-- What has come to callers, by the entries so far. Broken numbers that nobody has drawn are early: they came to nobody.
record Adds (o : Semaphore) (gained lost at_door entered : ℕ) : Type 0 where
  had : o.held + length o.line + length o.spoiled + lost ≡ gained + early o
  door : length o.door + entered ≡ at_door

adds-turned : (o : Semaphore) (gained lost at_door entered : ℕ) → Adds o gained lost at_door entered
    → Adds (turned_back o) gained lost at_door entered
adds-turned o gained lost at_door entered adds = go (nat_lt (due o) o.way)
  where
    go : (b : Bool)
        → Adds (if b then record o { way = o.way - 1; free = o.free + 1 } else o) gained lost at_door entered
    go true = record { had = adds.had; door = adds.door }
    go false = adds

length-changed : (k : ℕ) (f : Spoiled → Spoiled) (bs : List Spoiled)
    → length (change_by spoiled_key k f bs) ≡ length bs
length-changed k f [] = refl
length-changed k f (b ∷ bs) = go (k == b.wait) (length-changed k f bs)
  where
    go : (t : Bool) → length (change_by spoiled_key k f bs) ≡ length bs
        → length (if t then f b ∷ bs else b ∷ change_by spoiled_key k f bs) ≡ length (b ∷ bs)
    go true rest = refl
    go false rest = omega (arith, rest)

adds-enter : (o : Semaphore) (c k gained lost at_door entered : ℕ) → AreWaitsApart o → IsIn c o.door → k ≡ o.next
    → Adds o gained lost at_door entered
    → (has_spoiled k o.spoiled ≡ true) ⊎ (has_spoiled k o.spoiled ≡ false)
    → Adds (after_entry o (permit.Enter c k)) (gained + 1) (lost + 0) (at_door + 0) (entered + 1)
adds-enter o c k gained lost at_door entered apart stands next a (inl broken) =
    let with_caller : Spoiled → Spoiled = λ (d : Spoiled). record { wait = d.wait; pass = Some c } in
    let now : List Spoiled = change_by spoiled_key k with_caller o.spoiled in
    let had = a.had in
    let door = a.door in
    let shorter = length-without (λ d. d) c c o.door refl stands in
    let as_long : length now ≡ length o.spoiled = length-changed k with_caller o.spoiled in
    let changed : early_of (o.next + 1) now ≡ early_of (o.next + 1) o.spoiled
    = early-changed (o.next + 1) k with_caller (λ d. refl) o.spoiled in
    let passed : early_of (o.next + 1) o.spoiled + 1 ≡ early_of o.next o.spoiled
    = early-passed o.next o.spoiled apart.single (rw next at broken) in
    let fewer : early_of (o.next + 1) now + 1 ≡ early o = omega (arith, changed, passed) in
    rw broken (record { had = omega (arith, had, as_long, fewer); door = omega (arith, shorter) })
adds-enter o c k gained lost at_door entered apart stands next a (inr whole) =
    let had = a.had in
    let door = a.door in
    let shorter = length-without (λ d. d) c c o.door refl stands in
    let longer = length_push o.line (record { wait = k; pass = c }) in
    let passed : early_of (o.next + 1) o.spoiled ≡ early o = early-next o.next o.spoiled (rw next at whole) in
    rw whole (record { had = omega (arith, had, longer, passed); door = omega (arith, shorter) })

adds-spoil : (o : Semaphore) (c k gained lost at_door entered : ℕ) → AreWaitsApart o → 0 < o.way → MaySpoil o k
    → Adds o gained lost at_door entered
    → Adds (after_entry o (permit.Spoil c k)) (gained + 1) (lost + 0) (at_door + 0) (entered + 0)
adds-spoil o c k gained lost at_door entered apart some may a = go may
  where
    new : Spoiled
    new = record { wait = k; pass = waiting_pass (find_wait k o.line) }

    placed : early_of o.next (insert_by spoiled_key new o.spoiled) ≡ early o + bit (nat_le o.next k)
    placed = early-placed o.next new o.spoiled

    more : length (insert_by spoiled_key new o.spoiled) ≡ length o.spoiled + 1
    more = length-placed spoiled_key new o.spoiled

    had : o.held + length o.line + length o.spoiled + lost ≡ gained + early o
    had = a.had

    door : length o.door + entered ≡ at_door
    door = a.door

    go : MaySpoil o k → Adds (after_entry o (permit.Spoil c k)) (gained + 1) (lost + 0) (at_door + 0) (entered + 0)
    go (inl (d, waits)) =
        let wait : Waiting = record { wait = k; pass = d } in
        let among = in-take wait o.way o.line waits in
        let shorter = length-without waiting_key k wait o.line refl among.1 in
        let low : k < o.next = rising-below waiting_key 0 o.next wait o.line apart.line among.1 in
        let entered_yet : bit (nat_le o.next k) ≡ 0 = ap bit (lt-leb o.next k low) in
        record { had = omega (arith, had, shorter, placed, more, entered_yet); door = omega (arith, door) }
    go (inr (past, whole, less)) =
        let same : without waiting_key k o.line ≡ o.line
        = without-lacks waiting_key k o.line (rising-past_lacks waiting_key k 0 o.next o.line past apart.line) in
        let as_long : length (without waiting_key k o.line) ≡ length o.line = ap length same in
        let beyond : bit (nat_le o.next k) ≡ 1 = ap bit (le-leb o.next k past) in
        record { had = omega (arith, had, as_long, placed, more, beyond); door = omega (arith, door) }

adds-undo : (o : Semaphore) (c k gained lost at_door entered : ℕ) → AreWaitsApart o
    → IsIn (record { wait = k; pass = Some c }) o.spoiled → Adds o gained lost at_door entered
    → Adds (after_entry o (permit.Undo c k)) (gained + 0) (lost + 1) (at_door + 0) (entered + 0)
adds-undo o c k gained lost at_door entered apart undoes a =
    let had = a.had in
    let door = a.door in
    let own : Spoiled = record { wait = k; pass = Some c } in
    let low : k < o.next = (apart.placed own undoes).entered in
    let entered_yet : bit (nat_le o.next k) ≡ 0 = ap bit (lt-leb o.next k low) in
    let left : early_of o.next (without spoiled_key k o.spoiled) + bit (nat_le o.next k) ≡ early o
    = early-without o.next own o.spoiled undoes in
    let fewer = length-without spoiled_key k own o.spoiled refl undoes in
    record { had = omega (arith, had, left, entered_yet, fewer); door = omega (arith, door) }

adds-entry : (o : Semaphore) (e : Entry) (gained lost at_door entered : ℕ) → AreWaitsApart o → IsAllowed o e
    → Adds o gained lost at_door entered
    → Adds (after_entry o e) (gained + permit_gains e) (lost + permit_losses e) (at_door + permit_doors e)
    (entered + permit_enters e)
adds-entry o (permit.TakeNow c) gained lost at_door entered apart free a =
    let had = a.had in let door = a.door in record { had = omega arith; door = omega arith }
adds-entry o (permit.TakeDoor c) gained lost at_door entered apart none a =
    let had = a.had in
    let door = a.door in
    let longer = length-placed (λ d. d) c o.door in
    record { had = omega arith; door = omega (arith, longer) }
adds-entry o (permit.Enter c k) gained lost at_door entered apart (stands, next, may) a =
    adds-enter o c k gained lost at_door entered apart stands next a (cases_Bool (has_spoiled k o.spoiled))
adds-entry o (permit.Spoil c k) gained lost at_door entered apart (some, may) a =
    adds-spoil o c k gained lost at_door entered apart some may a
adds-entry o (permit.Undo c k) gained lost at_door entered apart undoes a =
    adds-undo o c k gained lost at_door entered apart undoes a
adds-entry o (permit.TryGot c) gained lost at_door entered apart free a =
    let had = a.had in let door = a.door in record { had = omega arith; door = omega arith }
adds-entry o (permit.TryBusy c) gained lost at_door entered apart none a =
    let had = a.had in let door = a.door in record { had = omega arith; door = omega arith }
adds-entry o (permit.GiveFreed c) gained lost at_door entered apart (some, all) a =
    let had = a.had in let door = a.door in record { had = omega (arith, some); door = omega arith }
adds-entry o (permit.GiveSent c) gained lost at_door entered apart (some, few) a =
    let had = a.had in let door = a.door in record { had = omega (arith, some); door = omega arith }
adds-entry o (permit.Deliver k) gained lost at_door entered apart (c, waits) a =
    let had = a.had in
    let door = a.door in
    let among = in-take (record { wait = k; pass = c }) o.way o.line waits in
    let shorter = length-without (λ w. w.wait) k (record { wait = k; pass = c }) o.line refl among.1 in
    record { had = omega (arith, shorter); door = omega arith }
adds-entry o (permit.Leave c k) gained lost at_door entered apart waits a =
    let had = a.had in
    let door = a.door in
    let shorter = length-without (λ w. w.wait) k (record { wait = k; pass = c }) o.line refl waits in
    let left : Adds (record o { line = without (λ w. w.wait) k o.line }) (gained + 0) (lost + 1) (at_door + 0)
    (entered + 0)
    = record { had = omega (arith, shorter); door = omega arith } in
    adds-turned (record o { line = without (λ w. w.wait) k o.line }) (gained + 0) (lost + 1) (at_door + 0)
    (entered + 0) left
adds-entry o (permit.Late c k) gained lost at_door entered apart served a =
    let had = a.had in let door = a.door in record { had = omega arith; door = omega arith }
adds-entry o (permit.LookGranted c k) gained lost at_door entered apart served a =
    let had = a.had in let door = a.door in record { had = omega arith; door = omega arith }
adds-entry o (permit.LookPending c k) gained lost at_door entered apart waits a =
    let had = a.had in let door = a.door in record { had = omega arith; door = omega arith }

abbrev AddsUp : List Entry → Semaphore → Type 0
AddsUp h o =
    Adds o (sum_by permit_gains h) (sum_by permit_losses h) (sum_by permit_doors h) (sum_by permit_enters h)

adds-next : (history : List Entry) (n : ℕ) (e : Entry) (o : Semaphore) → slice_get history n ≡ Some e → IsAllowed o e
    → AreWaitsApart o → AddsUp (take n history) o → AddsUp (take (suc n) history) (after_entry o e)
adds-next history n e o got allowed apart adds =
    let front : List Entry = take n history in
    rw (
      take-next history n e got,
      sum_by_push permit_gains front e,
      sum_by_push permit_losses front e,
      sum_by_push permit_doors front e,
      sum_by_push permit_enters front e,
    ) (adds-entry o e _ _ _ _ apart allowed adds)

-- a legal history adds up
adds-up : (permits : ℕ) (history : List Entry) → IsLegal permits history → AddsUp history (object_after permits history)
adds-up permits history legal =
    let whole : AreWaitsApart (object_after permits (take (length history) history))
    × AddsUp (take (length history) history) (object_after permits (take (length history) history))
    = walk IsAllowed after_entry (opening permits) history (λ n o. AreWaitsApart o × AddsUp (take n history) o) legal
    (λ n e got allowed both.
    (apart-entry _ e allowed both.0, adds-next history n e _ got allowed both.0 both.1))
    0 (apart-opening permits, record { had = refl; door = refl })
    (length history) (length history) (omega arith) (omega arith) in
    subst (λ h. AddsUp h (object_after permits h)) (take_all (length history) history (omega arith)) whole.1

-- each entry that counts names one of the callers
counts-once : (f : Entry → ℕ) → ((k : ℕ) → f (permit.Deliver k) ≡ 0) → (n : ℕ) (e : Entry)
    → ((c : ℕ) → permit_names c e ≡ true → c < n) → over_callers n (share permit_names f e) ≡ f e
counts-once f none n (permit.TakeNow c) below = over-one n c (f (permit.TakeNow c)) (below c (eq-eqb c c refl))
counts-once f none n (permit.TakeDoor c) below = over-one n c (f (permit.TakeDoor c)) (below c (eq-eqb c c refl))
counts-once f none n (permit.Enter c k) below = over-one n c (f (permit.Enter c k)) (below c (eq-eqb c c refl))
counts-once f none n (permit.TryGot c) below = over-one n c (f (permit.TryGot c)) (below c (eq-eqb c c refl))
counts-once f none n (permit.TryBusy c) below = over-one n c (f (permit.TryBusy c)) (below c (eq-eqb c c refl))
counts-once f none n (permit.GiveFreed c) below = over-one n c (f (permit.GiveFreed c)) (below c (eq-eqb c c refl))
counts-once f none n (permit.GiveSent c) below = over-one n c (f (permit.GiveSent c)) (below c (eq-eqb c c refl))
counts-once f none n (permit.Deliver k) below = over-none n ∙ sym (none k)
counts-once f none n (permit.Spoil c k) below = over-one n c (f (permit.Spoil c k)) (below c (eq-eqb c c refl))
counts-once f none n (permit.Undo c k) below = over-one n c (f (permit.Undo c k)) (below c (eq-eqb c c refl))
counts-once f none n (permit.Leave c k) below = over-one n c (f (permit.Leave c k)) (below c (eq-eqb c c refl))
counts-once f none n (permit.Late c k) below =
    over-one n c (f (permit.Late c k)) (below c (eq-eqb c c refl))
counts-once f none n (permit.LookGranted c k) below =
    over-one n c (f (permit.LookGranted c k)) (below c (eq-eqb c c refl))
counts-once f none n (permit.LookPending c k) below =
    over-one n c (f (permit.LookPending c k)) (below c (eq-eqb c c refl))

parts-add : (f : Entry → ℕ) → ((k : ℕ) → f (permit.Deliver k) ≡ 0) → (n : ℕ) (h : List Entry)
    → NamesBelow permit_names n h → over_callers n (λ c. sum_by f (part permit_names c h)) ≡ sum_by f h
parts-add f none n h below =
    sum-by-parts permit_names f n h (λ i e got. counts-once f none n e (λ c named. below.at i c e got named))

-- what all callers have alike they have together
alike : (f g : Entry → ℕ) → ((k : ℕ) → f (permit.Deliver k) ≡ 0) → ((k : ℕ) → g (permit.Deliver k) ≡ 0) → (n : ℕ)
    (h : List Entry) → NamesBelow permit_names n h
    → ((c : ℕ) → c < n → sum_by f (part permit_names c h) ≡ sum_by g (part permit_names c h)) → sum_by f h ≡ sum_by g h
alike f g none none' n h below same =
    sym (parts-add f none n h below)
    ∙ over-same n (λ c. sum_by f (part permit_names c h)) (λ c. sum_by g (part permit_names c h)) same
    ∙ parts-add g none' n h below

-- a list without elements
pub none-left : {X : Type 0} (xs : List X) → length xs ≡ 0 → xs ≡ []
none-left [] none = refl
none-left (x ∷ xs) none = absurd (omega (arith, none))

pub even-semaphores : EveryEvenSemaphoreIsQuiet
even-semaphores permits callers h legal below even =
    let o : Semaphore = object_after permits h in
    let all : AddsUp h o = adds-up permits h legal in
    let balanced = every-history-balanced permits h legal in
    let given : sum_by permit_losses h ≡ sum_by permit_gains h
    = alike permit_losses permit_gains (λ k. refl) (λ k. refl) callers h below (λ c under. (even c under).given) in
    let entered : sum_by permit_enters h ≡ sum_by permit_doors h
    = alike permit_enters permit_doors (λ k. refl) (λ k. refl) callers h below (λ c under. (even c under).entered) in
    let had = all.had in
    let door = all.door in
    let wanted : o.way < due o + 1 = balanced.wanted in
    let nobody : length o.door ≡ 0 = omega (arith, door, entered) in
    let none : early o ≡ 0 = omega (arith, balanced.early, nobody) in
    record {
      held = omega (arith, had, given, none);
      way = omega (arith, had, given, none, nobody, wanted);
      door = none-left o.door nobody;
      line = none-left o.line (omega (arith, had, given, none));
      spoiled = none-left o.spoiled (omega (arith, had, given, none));
    }
