-- The laws of the barrier, entry by entry and over every legal history.
use Rattle.std.proofs.Common.{◌≡◌, ◌⊎◌, inl, inr, ℕ, suc, ◌+◌, ◌-◌, ◌<◌, ◌≤◌, List, [], ◌∷◌, ◌++◌, Some, length, take, slice_get, refl, ap, ◌∙◌, arith}
use Rattle.std.proofs.lemmas.Bool.{cases_lt}
use Rattle.std.proofs.lemmas.List.{length_push}
use Rattle.cqs_core.specs.Numbered.{IsIn}
use Rattle.cqs_core.specs.Keyed.{insert_by, without}
use Rattle.cqs_core.specs.QueueLine.{Waiting}
use Rattle.cqs_core.specs.QueueWaiters.{Waits, due_of, enters}
use Rattle.cqs_core.proofs.Histories.{walk, walk-end, before, take-next, object-next}
use Rattle.cqs_core.proofs.Places.{get-below, get-append_below, get-push_at}
use Rattle.cqs_core.proofs.Rising.{in-take, length-without, length-placed}
use Rattle.cqs_barrier_object.specs.declared.entries.BarrierEntry.{BarrierEntry}
use Rattle.cqs_barrier_object.specs.declared.entries.BarrierEntry.TheVariants as entry
use Rattle.cqs_barrier_object.specs.BarrierEntries.{IsAllowed, after_entry, IsLegal}
use Rattle.cqs_barrier_object.specs.BarrierLaws.{IsBalanced, EveryLegalHistoryIsBalanced, GoesThrough, HasLast, NobodyGoesThroughBeforeTheLast, ComesOrWithdraws, TheLastIsTheLast}
use Rattle.cqs_barrier_object.specs.BarrierSteps.{never}
use Rattle.cqs_barrier_object.specs.BarrierObject.{Barrier, opening}

-- a wait of the line leaves it: one fewer is due
line-shorter : (k c : ℕ) (line : List Waiting) → Waits k c line
    → length (without (λ w. w.wait) k line) + 1 ≡ length line
line-shorter k c line waits = length-without (λ w. w.wait) k (record { wait = k; pass = c }) line refl waits

-- the number of those that wait stays where one goes from the door to the line
same-due : (o : Barrier) (c k : ℕ) → IsIn c o.waiters.door
    → due_of (enters o.waiters c k) ≡ due_of o.waiters
same-due o c k stands =
    let shorter : length (without (λ d. d) c o.waiters.door) + 1 ≡ length o.waiters.door =
    length-without (λ d. d) c c o.waiters.door refl stands in
    let longer : length (o.waiters.line ++ record { wait = k; pass = c } ∷ []) ≡ length o.waiters.line + 1 =
    length_push o.waiters.line (record { wait = k; pass = c }) in
    omega arith

module _ (parties : ℕ) where
  -- each entry, where it may come, keeps the barrier balanced
  balanced-entry : (o : Barrier) (e : BarrierEntry) → IsAllowed o e → IsBalanced parties o
      → IsBalanced parties (after_entry o e)
  balanced-entry o (entry.ArriveLast c) one b = record { before = λ some. absurd (omega arith); after = λ none. refl }
  balanced-entry o (entry.ArriveDoor c) more b =
      let was = b.before (omega arith) in
      let longer : length (insert_by (λ d. d) c o.waiters.door) ≡ length o.waiters.door + 1 =
      length-placed (λ d. d) c o.waiters.door in
      record { before = λ some. (omega (arith, was.0), was.1); after = λ none. absurd (omega arith) }
  balanced-entry o (entry.Enter c k) (stands, next) b =
      let same = same-due o c k stands in
      record {
        before = λ some. let was = b.before some in (omega (arith, was.0), was.1);
        after = λ none. omega (arith, b.after none);
      }
  balanced-entry o (entry.Deliver k) (none, (c, waits)) b =
      let among : (0 < o.way) × Waits k c o.waiters.line =
      in-take (record { wait = k; pass = c }) o.way o.waiters.line waits in
      let shorter = line-shorter k c o.waiters.line among.1 in
      record { before = λ some. absurd (omega arith); after = λ zero. omega (arith, b.after none) }
  balanced-entry o (entry.Withdraw c k) (some, waits) b =
      let was = b.before some in
      let shorter = line-shorter k c o.waiters.line waits in
      record { before = λ any. (omega (arith, was.0), was.1); after = λ none. absurd (omega arith) }
  balanced-entry o (entry.Stay c k) (none, waits) b =
      let shorter = line-shorter k c o.waiters.line waits in
      record { before = λ some. absurd (omega arith); after = λ zero. omega (arith, b.after none) }
  balanced-entry o (entry.Late c k) served b = record { before = b.before; after = b.after }
  balanced-entry o (entry.LookGranted c k) served b = record { before = b.before; after = b.after }
  balanced-entry o (entry.LookPending c k) waits b = b

  balanced-opening : 0 < parties → IsBalanced parties (opening parties)
  balanced-opening some = record { before = λ any. (omega arith, refl); after = λ none. absurd (omega arith) }

pub every-history-balanced : EveryLegalHistoryIsBalanced
every-history-balanced parties history some legal =
    walk-end IsAllowed after_entry (opening parties) history (λ o. IsBalanced parties o) legal
    (λ o e allowed b. balanced-entry parties o e allowed b) (balanced-opening parties some)

-- where none is still to come, some pass's party was the last to arrive
has-last : (history : List BarrierEntry) (n : ℕ) (e : BarrierEntry) → slice_get history n ≡ Some e
    → HasLast (take n history) → HasLast (take (suc n) history)
has-last history n e got was =
    let more : take (suc n) history ≡ take n history ++ e ∷ [] = take-next history n e got in
    let low = get-below (take n history) was.there.place (entry.ArriveLast was.pass) was.there.there in
    record {
      pass = was.pass;
      there = record {
        place = was.there.place;
        there = rw more
            (get-append_below (take n history) (e ∷ []) was.there.place low ∙ was.there.there);
      };
    }

is-last : (history : List BarrierEntry) (n c : ℕ) → slice_get history n ≡ Some (entry.ArriveLast c)
    → HasLast (take (suc n) history)
is-last history n c got =
    let more : take (suc n) history ≡ take n history ++ entry.ArriveLast c ∷ [] =
    take-next history n (entry.ArriveLast c) got in
    record {
      pass = c;
      there = record {
        place = length (take n history);
        there = rw more (get-push_at (take n history) (entry.ArriveLast c) (length (take n history)) refl);
      };
    }

-- so it stays, entry by entry
comes-next : (history : List BarrierEntry) (n : ℕ) (e : BarrierEntry) (o : Barrier) → slice_get history n ≡ Some e
    → IsAllowed o e → (o.remaining ≡ 0 → HasLast (take n history))
    → (after_entry o e).remaining ≡ 0 → HasLast (take (suc n) history)
comes-next history n (entry.ArriveLast c) o got may was none = is-last history n c got
comes-next history n (entry.ArriveDoor c) o got may was none = absurd (omega arith)
comes-next history n (entry.Enter c k) o got may was none = has-last history n (entry.Enter c k) got (was none)
comes-next history n (entry.Deliver k) o got may was none = has-last history n (entry.Deliver k) got (was none)
comes-next history n (entry.Withdraw c k) o got may was none = absurd (omega arith)
comes-next history n (entry.Stay c k) o got may was none = has-last history n (entry.Stay c k) got (was none)
comes-next history n (entry.Late c k) o got may was none = has-last history n (entry.Late c k) got (was none)
comes-next history n (entry.LookGranted c k) o got may was none =
    has-last history n (entry.LookGranted c k) got (was none)
comes-next history n (entry.LookPending c k) o got may was none =
    has-last history n (entry.LookPending c k) got (was none)

none-left : (o : Barrier) (e : BarrierEntry) → IsAllowed o e → GoesThrough e → o.remaining ≡ 0
none-left o (entry.Deliver k) may through = may.0
none-left o (entry.Stay c k) may through = may.0
none-left o (entry.ArriveLast c) may through = absurd through
none-left o (entry.ArriveDoor c) may through = absurd through
none-left o (entry.Enter c k) may through = absurd through
none-left o (entry.Withdraw c k) may through = absurd through
none-left o (entry.Late c k) may through = absurd through
none-left o (entry.LookGranted c k) may through = absurd through
none-left o (entry.LookPending c k) may through = absurd through

pub nobody-before-last : NobodyGoesThroughBeforeTheLast
nobody-before-last parties history n e some legal got through =
    let below = get-below history n e got in
    walk IsAllowed after_entry (opening parties) history
    (λ m o. o.remaining ≡ 0 → HasLast (take m history)) legal
    (λ m d there may was. comes-next history m d (before IsAllowed after_entry (opening parties) history m) there may
    was)
    0 (λ none. absurd (omega arith)) n n (omega arith) (omega arith)
    (none-left (before IsAllowed after_entry (opening parties) history n) e (legal.at n e got) through)

-- from the last arrival on none is still to come
stays-none : (o : Barrier) (e : BarrierEntry) → IsAllowed o e → o.remaining ≡ 0 → (after_entry o e).remaining ≡ 0
stays-none o (entry.ArriveLast c) may none = refl
stays-none o (entry.ArriveDoor c) may none = absurd (omega arith)
stays-none o (entry.Enter c k) may none = none
stays-none o (entry.Deliver k) may none = none
stays-none o (entry.Withdraw c k) may none = absurd (omega (arith, may.0))
stays-none o (entry.Stay c k) may none = none
stays-none o (entry.Late c k) may none = none
stays-none o (entry.LookGranted c k) may none = none
stays-none o (entry.LookPending c k) may none = none

some-left : (o : Barrier) (e : BarrierEntry) → IsAllowed o e → ComesOrWithdraws e → 0 < o.remaining
some-left o (entry.ArriveLast c) may comes = omega arith
some-left o (entry.ArriveDoor c) may comes = omega arith
some-left o (entry.Withdraw c k) may comes = may.0
some-left o (entry.Enter c k) may comes = absurd comes
some-left o (entry.Deliver k) may comes = absurd comes
some-left o (entry.Stay c k) may comes = absurd comes
some-left o (entry.Late c k) may comes = absurd comes
some-left o (entry.LookGranted c k) may comes = absurd comes
some-left o (entry.LookPending c k) may comes = absurd comes

pub last-is-last : TheLastIsTheLast
last-is-last parties history m n c e legal last got comes = go (cases_lt m n)
  where
    go : (m < n) ⊎ (n ≤ m) → n ≤ m
    go (inr within) = within
    go (inl later) =
        let below = get-below history n e got in
        let start : (before IsAllowed after_entry (opening parties) history (suc m)).remaining ≡ 0 =
        ap (λ (o : Barrier). o.remaining)
        (object-next IsAllowed after_entry (opening parties) history m (entry.ArriveLast c) last) in
        let none =
        walk IsAllowed after_entry (opening parties) history (λ i o. o.remaining ≡ 0) legal
        (λ i d there may was. stays-none (before IsAllowed after_entry (opening parties) history i) d may was)
        (suc m) start (n - suc m) n (omega arith) (omega arith) in
        let some = some-left (before IsAllowed after_entry (opening parties) history n) e (legal.at n e got) comes in
        absurd (omega (arith, none, some))

-- no history goes on with a last arrival and another one at once
pub never-legal : (parties : ℕ) (history : List BarrierEntry) (c : ℕ) → IsLegal parties (history ++ never c) → ⊥
never-legal parties history c legal =
    let m : ℕ = length history in
    let whole : List BarrierEntry = history ++ never c in
    let start : m ≡ m + 0 = omega arith in
    let first : slice_get whole m ≡ Some (entry.ArriveLast c) =
    ap (slice_get whole) start ∙ get-append_at history (never c) 0 in
    let second : slice_get whole (m + 1) ≡ Some (entry.ArriveLast c) = get-append_at history (never c) 1 in
    let late : m + 1 ≤ m =
    last-is-last parties whole m (m + 1) c (entry.ArriveLast c) legal first second tt in
    omega arith
  where
    get-append_at : (xs ys : List BarrierEntry) (n : ℕ) → slice_get (xs ++ ys) (length xs + n) ≡ slice_get ys n
    get-append_at [] ys n = let is : 0 + n ≡ n = omega arith in ap (slice_get ys) is
    get-append_at (x ∷ xs) ys n =
        let is : suc (length xs) + n ≡ suc (length xs + n) = omega arith in
        ap (slice_get (x ∷ (xs ++ ys))) is ∙ get-append_at xs ys n
