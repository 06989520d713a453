-- The laws of the fair semaphore, entry by entry and over every legal history.
use Rattle.std.proofs.Common.{◌≡◌, ◌⊎◌, inl, inr, ℕ, ◌+◌, ◌-◌, ◌<◌, ◌≤◌, nat_lt, nat_le, true, false, Some, List, [], ◌∷◌, ◌++◌, length, take, refl, ap, sym, ◌∙◌, subst, arith, ltb-true, le-leb}
use Rattle.std.proofs.lemmas.Bool.{cases_Bool, ltb-false, lt-leb}
use Rattle.std.proofs.lemmas.List.{length_push, take_all}
use Rattle.cqs_core.specs.declared.entries.Entry.{Entry}
use Rattle.cqs_core.specs.declared.entries.Entry.TheVariants as entry
use Rattle.cqs_core.specs.Numbered.{IsIn}
use Rattle.cqs_core.specs.Keyed.{insert_by, without, change_by}
use Rattle.cqs_core.specs.QueueLine.{Waiting, Spoiled}
use Rattle.cqs_core.specs.SemaphoreObject.{Semaphore, opening, due, early, early_of}
use Rattle.cqs_core.specs.SemaphoreEntries.{IsAllowed, Waits, after_entry, object_after, after_take, turned_back, IsBalanced, IsFirst, has_spoiled, waiting_pass, find_wait, MaySpoil}
use Rattle.cqs_core.specs.SemaphoreLaws.{object_before, EveryLegalHistoryIsBalanced, OnePermitGoesToTheFirst}
use Rattle.cqs_core.proofs.Histories.{walk-all}
use Rattle.cqs_core.proofs.Rising.{in-take, in-behind, in-none, length-without, length-placed, rising-below, rising-past_lacks, without-lacks}
use Rattle.cqs_core.proofs.Counts.{bit}
use Rattle.cqs_core.proofs.SpoiledLists.{spoiled_key, early-next, early-placed, early-without, early-changed, early-passed}
use Rattle.cqs_core.proofs.Waits.{waiting_key, IsGone, AreWaitsApart, apart-entry, apart-opening}

-- a wait of the line leaves it: one fewer is due
line-shorter : (k c : ℕ) (line : List Waiting) → Waits k c line
    → length (without (λ w. w.wait) k line) + 1 ≡ length line
line-shorter k c line waits = length-without (λ w. w.wait) k (record { wait = k; pass = c }) line refl waits

-- a permit that is too many turns back, and then none is
balanced-turned : (permits : ℕ) (o : Semaphore) → o.held + o.free + o.way ≡ permits → o.way < due o + 2
    → (o.free ≡ 0) ⊎ (o.way ≡ due o + 1) → early o ≤ length o.door → IsBalanced permits (turned_back o)
balanced-turned permits o conserved wanted eager few_early = go (cases_Bool (nat_lt (due o) o.way))
  where
    go : (nat_lt (due o) o.way ≡ true) ⊎ (nat_lt (due o) o.way ≡ false) → IsBalanced permits (turned_back o)
    go (inl many) =
        let more : due o < o.way = ltb-true (due o) o.way many in
        rw many
        (record { conserved = omega arith; wanted = omega arith; early = few_early; eager = inr (omega arith) })
    go (inr few) =
        let within : o.way ≤ due o = ltb-false (due o) o.way few in
        let none : o.free ≡ 0 = omega (arith, eager) in
        rw few (record { conserved = conserved; wanted = omega arith; early = few_early; eager = inl none })

-- a caller takes a free permit
balanced-taken : (permits : ℕ) (o : Semaphore) → 0 < o.free → IsBalanced permits o
    → IsBalanced permits (after_take o)
balanced-taken permits o free b =
    let conserved : o.held + o.free + o.way ≡ permits = b.conserved in
    let all : o.way ≡ due o = omega (arith, b.eager, free) in
    record { conserved = omega arith; wanted = b.wanted; early = b.early; eager = inr all }

balanced-served : (o : Semaphore) (k : ℕ) → 0 < o.way → early o ≤ length o.door
    → length (without (λ w. w.wait) k o.line) + 1 ≡ length o.line
    → (o.free ≡ 0) ⊎ (o.way ≡ due o)
    → (o.free ≡ 0) ⊎ (o.way - 1 ≡ length o.door + length (without (λ w. w.wait) k o.line) - early o)
balanced-served o k some few shorter (inl none) = inl none
balanced-served o k some few shorter (inr all) = inr (omega arith)

balanced-left : (o : Semaphore) (k : ℕ) → early o ≤ length o.door
    → length (without (λ w. w.wait) k o.line) + 1 ≡ length o.line
    → (o.free ≡ 0) ⊎ (o.way ≡ due o)
    → (o.free ≡ 0) ⊎ (o.way ≡ length o.door + length (without (λ w. w.wait) k o.line) - early o + 1)
balanced-left o k few shorter (inl none) = inl none
balanced-left o k few shorter (inr all) = inr (omega arith)

-- each entry, where it may come, keeps the semaphore balanced
pub balanced-entry : (permits : ℕ) (o : Semaphore) (e : Entry) → AreWaitsApart o → IsAllowed o e → IsBalanced permits o
    → IsBalanced permits (after_entry o e)
balanced-entry permits o (entry.TakeNow c) a free b = balanced-taken permits o free b
balanced-entry permits o (entry.TakeDoor c) a none b =
    let longer : length (insert_by (λ d. d) c o.door) ≡ length o.door + 1 = length-placed (λ d. d) c o.door in
    let wanted : o.way < due o + 1 = b.wanted in
    let few : early o ≤ length o.door = b.early in
    record { conserved = b.conserved; wanted = omega arith; early = omega arith; eager = inl none }
balanced-entry permits o (entry.Enter c k) a (stands, next, may) b = go (cases_Bool (has_spoiled k o.spoiled))
  where
    shorter : length (without (λ d. d) c o.door) + 1 ≡ length o.door
    shorter = length-without (λ d. d) c c o.door refl stands

    few : early o ≤ length o.door
    few = b.early

    go : (has_spoiled k o.spoiled ≡ true) ⊎ (has_spoiled k o.spoiled ≡ false)
        → IsBalanced permits (after_entry o (entry.Enter c k))
    go (inl broken) =
        let changed : early_of (o.next + 1)
        (change_by spoiled_key k (λ (d : Spoiled). record { wait = d.wait; pass = Some c }) o.spoiled)
        ≡ early_of (o.next + 1) o.spoiled =
        early-changed (o.next + 1) k (λ (d : Spoiled). record { wait = d.wait; pass = Some c }) (λ d. refl) o.spoiled in
        let passed : early_of (o.next + 1) o.spoiled + 1 ≡ early_of o.next o.spoiled =
        early-passed o.next o.spoiled a.single (rw next at broken) in
        let fewer : early_of (o.next + 1)
        (change_by spoiled_key k (λ (d : Spoiled). record { wait = d.wait; pass = Some c }) o.spoiled) + 1 ≡ early o =
        omega (arith, changed, passed) in
        let same : length (without (λ d. d) c o.door) + length o.line - early_of (o.next + 1)
        (change_by spoiled_key k (λ (d : Spoiled). record { wait = d.wait; pass = Some c }) o.spoiled) ≡ due o =
        omega (arith, fewer, shorter, few) in
        rw broken (record {
          conserved = b.conserved;
          wanted = rw same b.wanted;
          early = omega (arith, fewer, shorter, few);
          eager = rw same b.eager;
        })
    go (inr whole) =
        let longer : length (o.line ++ record { wait = k; pass = c } ∷ []) ≡ length o.line + 1 =
        length_push o.line (record { wait = k; pass = c }) in
        let passed : early_of (o.next + 1) o.spoiled ≡ early o = early-next o.next o.spoiled (rw next at whole) in
        let less : early o < length o.door = some_door may in
        let same : length (without (λ d. d) c o.door) + length (o.line ++ record { wait = k; pass = c } ∷ [])
        - early_of (o.next + 1) o.spoiled ≡ due o =
        omega (arith, passed, shorter, longer) in
        rw whole (record {
          conserved = b.conserved;
          wanted = rw same b.wanted;
          early = omega (arith, passed, shorter, less);
          eager = rw same b.eager;
        })
      where
        some_door : (has_spoiled k o.spoiled ≡ true) ⊎ (early o < length o.door) → early o < length o.door
        some_door (inl broken) = absurd (cc (broken, whole))
        some_door (inr less) = less
balanced-entry permits o (entry.TryGot c) a free b = balanced-taken permits o free b
balanced-entry permits o (entry.TryBusy c) a none b = b
balanced-entry permits o (entry.GiveFreed c) a (some, all) b =
    let conserved : o.held + o.free + o.way ≡ permits = b.conserved in
    record { conserved = omega arith; wanted = b.wanted; early = b.early; eager = inr all }
balanced-entry permits o (entry.GiveSent c) a (some, few) b =
    let conserved : o.held + o.free + o.way ≡ permits = b.conserved in
    let none : o.free ≡ 0 = omega (arith, b.eager, few) in
    record { conserved = omega arith; wanted = omega arith; early = b.early; eager = inl none }
balanced-entry permits o (entry.Deliver k) a (c, waits) b =
    let among : (0 < o.way) × Waits k c o.line = in-take (record { wait = k; pass = c }) o.way o.line waits in
    let some : 0 < o.way = among.0 in
    let shorter : length (without (λ w. w.wait) k o.line) + 1 ≡ length o.line =
    line-shorter k c o.line among.1 in
    let conserved : o.held + o.free + o.way ≡ permits = b.conserved in
    let wanted : o.way < due o + 1 = b.wanted in
    let few : early o ≤ length o.door = b.early in
    let eager : (o.free ≡ 0) ⊎ (o.way ≡ due o) = b.eager in
    record {
      conserved = omega arith;
      wanted = omega arith;
      early = b.early;
      eager = balanced-served o k some few shorter eager;
    }
balanced-entry permits o (entry.Spoil d k) a (some, may) b = go may
  where
    conserved : o.held + o.free + o.way ≡ permits
    conserved = b.conserved

    wanted : o.way < due o + 1
    wanted = b.wanted

    few : early o ≤ length o.door
    few = b.early

    new : Spoiled
    new = record { wait = k; pass = waiting_pass (find_wait k o.line) }

    placed : early_of o.next (insert_by spoiled_key new o.spoiled) ≡ early o + bit (nat_le o.next k)
    placed = early-placed o.next new o.spoiled

    none_or_all : (o.free ≡ 0) ⊎ (o.way ≡ due o)
        → length o.door + length (without (λ w. w.wait) k o.line) - early_of o.next
        (insert_by spoiled_key new o.spoiled)
        + 1 ≡ due o
        → (o.free ≡ 0) ⊎ (o.way - 1 ≡ length o.door + length (without (λ w. w.wait) k o.line)
        - early_of o.next (insert_by spoiled_key new o.spoiled))
    none_or_all (inl none) one = inl none
    none_or_all (inr all) one = inr (omega (arith, all, one))

    go : MaySpoil o k → IsBalanced permits (after_entry o (entry.Spoil d k))
    go (inl (c, waits)) =
        let among : (0 < o.way) × Waits k c o.line = in-take (record { wait = k; pass = c }) o.way o.line waits in
        let shorter : length (without (λ w. w.wait) k o.line) + 1 ≡ length o.line = line-shorter k c o.line among.1 in
        let low : k < o.next =
        rising-below waiting_key 0 o.next (record { wait = k; pass = c }) o.line a.line among.1 in
        let entered : bit (nat_le o.next k) ≡ 0 = ap bit (lt-leb o.next k low) in
        let one : length o.door + length (without (λ w. w.wait) k o.line)
        - early_of o.next (insert_by spoiled_key new o.spoiled) + 1 ≡ due o =
        omega (arith, shorter, placed, entered, few) in
        record {
          conserved = omega (arith, conserved, some);
          wanted = omega (arith, wanted, one, some);
          early = omega (arith, placed, entered, few);
          eager = none_or_all b.eager one;
        }
    go (inr (past, whole, less)) =
        let same : without (λ w. w.wait) k o.line ≡ o.line =
        without-lacks waiting_key k o.line (rising-past_lacks waiting_key k 0 o.next o.line past a.line) in
        let as_long : length (without (λ w. w.wait) k o.line) ≡ length o.line = ap length same in
        let beyond : bit (nat_le o.next k) ≡ 1 = ap bit (le-leb o.next k past) in
        let one : length o.door + length (without (λ w. w.wait) k o.line)
        - early_of o.next (insert_by spoiled_key new o.spoiled) + 1 ≡ due o =
        omega (arith, as_long, placed, beyond, less) in
        record {
          conserved = omega (arith, conserved, some);
          wanted = omega (arith, wanted, one, some);
          early = omega (arith, placed, beyond, less);
          eager = none_or_all b.eager one;
        }
balanced-entry permits o (entry.Undo c k) a undoes b =
    let gone : IsGone o k = a.placed (record { wait = k; pass = Some c }) undoes in
    let low : k < o.next = gone.entered in
    let entered : bit (nat_le o.next k) ≡ 0 = ap bit (lt-leb o.next k low) in
    let left : early_of o.next (without spoiled_key k o.spoiled) + bit (nat_le o.next k) ≡ early o =
    early-without o.next (record { wait = k; pass = Some c }) o.spoiled undoes in
    let same : early_of o.next (without spoiled_key k o.spoiled) ≡ early o = omega (arith, left, entered) in
    let as_due : length o.door + length o.line - early_of o.next (without spoiled_key k o.spoiled) ≡ due o =
    omega (arith, same) in
    record {
      conserved = b.conserved;
      wanted = rw as_due b.wanted;
      early = omega (arith, same, b.early);
      eager = rw as_due b.eager;
    }
balanced-entry permits o (entry.Leave c k) a waits b =
    let shorter : length (without (λ w. w.wait) k o.line) + 1 ≡ length o.line = line-shorter k c o.line waits in
    let wanted : o.way < due o + 1 = b.wanted in
    let few : early o ≤ length o.door = b.early in
    balanced-turned permits (record o { line = without (λ w. w.wait) k o.line }) b.conserved (omega arith)
    (balanced-left o k few shorter b.eager) few
balanced-entry permits o (entry.Late c k) a served b =
    record { conserved = b.conserved; wanted = b.wanted; early = b.early; eager = b.eager }
balanced-entry permits o (entry.LookGranted c k) a served b =
    record { conserved = b.conserved; wanted = b.wanted; early = b.early; eager = b.eager }
balanced-entry permits o (entry.LookPending c k) a waits b = b

balanced-opening : (permits : ℕ) → IsBalanced permits (opening permits)
balanced-opening permits =
    record { conserved = omega arith; wanted = omega arith; early = omega arith; eager = inr (omega arith) }

-- apart and balanced at once
abbrev IsSteady : ℕ → Semaphore → Type 0
IsSteady permits o = AreWaitsApart o × IsBalanced permits o

pub every-history-balanced : EveryLegalHistoryIsBalanced
every-history-balanced permits history legal =
    let whole : IsSteady permits (object_before permits history (length history)) =
    walk-all IsAllowed after_entry (opening permits) history (IsSteady permits) legal
    (λ o e allowed both. (apart-entry o e allowed both.0, balanced-entry permits o e both.0 allowed both.1))
    (apart-opening permits, balanced-opening permits) (length history) (omega arith) in
    subst (λ h. IsBalanced permits (object_after permits h)) (take_all (length history) history (omega arith))
    whole.1

-- the one wait among the first one is the first
only-first : (k c : ℕ) (line : List Waiting) → Waits k c (take 1 line) → IsFirst k line
only-first k c [] waits = in-none (record { wait = k; pass = c }) waits
only-first k c (w ∷ line) waits =
    go (record { wait = k; pass = c }) refl (in-behind (record { wait = k; pass = c }) w [] waits)
  where
    go : (v : Waiting) → v.wait ≡ k → (v ≡ w) ⊎ IsIn v [] → w.wait ≡ k
    go v is (inl same) = ap (λ u. u.wait) (sym same) ∙ is
    go v is (inr later) = absurd (in-none v later)

pub one-permit-to-first : OnePermitGoesToTheFirst
one-permit-to-first permits history n k legal got one =
    let allowed : IsAllowed (object_before permits history n) (entry.Deliver k) =
    legal.at n (entry.Deliver k) got in
    go (object_before permits history n) one allowed
  where
    go : (o : Semaphore) → o.way ≡ 1 → IsAllowed o (entry.Deliver k) → IsFirst k o.line
    go o one (c, waits) = only-first k c o.line (rw one at waits)
