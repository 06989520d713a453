-- Latches and the rounds of barriers: who waits there, and how many are still to come.
use Rattle.std.proofs.Common.{◌≡◌, ◌≢◌, ◌⊎◌, inl, inr, ℕ, zero, suc, ◌+◌, ◌<◌, ◌≤◌, ◌==◌, ◌||◌, Bool, true, false, List, [], ◌∷◌, ◌++◌, Option, Some, None, length, map, replicate, set, refl, sym, ap, subst, ◌∙◌, eq-eqb, ne_eqb, arith}
use Rattle.std.specs.List.{fold}
use Rattle.std.proofs.lemmas.Bool.{cases_eq}
use Rattle.std.proofs.lemmas.List.{length_push}
use Rattle.cqs_core.specs.Keyed.{without}
use Rattle.cqs_core.specs.QueueLine.{Waiting}
use Rattle.cqs_latch_object.specs.declared.entries.LatchEntry.TheVariants as latch
use Rattle.cqs_latch_object.specs.LatchEntries.{after_entry as latch_entry}
use Rattle.cqs_latch_object.specs.LatchObject.{Latch}
use Rattle.cqs_barrier_object.specs.declared.entries.BarrierEntry.{BarrierEntry}
use Rattle.cqs_barrier_object.specs.declared.entries.BarrierEntry.TheVariants as barrier
use Rattle.cqs_barrier_object.specs.BarrierEntries.{after_entry as barrier_entry}
use Rattle.cqs_barrier_object.specs.BarrierObject.{Barrier}
use Rattle.cqs_plan.specs.declared.plans.kind.Kind.{Kind}
use Rattle.cqs_plan.specs.declared.plans.kind.Kind.TheVariants as kind
use Rattle.cqs_plan.specs.Floor.{IsLatch}
use Rattle.cqs_plan.specs.FloorHistory.{History, of_permits, of_elements, of_latch, of_rounds, Deed, joins, gets, leaves, is_late, passes, counts, opens, is_open, completes, barrier_entries, latch_after, barrier_after, entries_in, no_history, standing_in, to_come, with_deed_in}
use Rattle.cqs_turns_report.proofs.ToCome.{latch_then, barrier_then, latch-then, round-set, barrier-then}
use Rattle.cqs_turns_laws.specs.Balances.{IsEvenRound}
use Rattle.cqs_turns_laws.proofs.DeedParts.{IsOfKind}
use Rattle.cqs_turns_laws.proofs.HeldKinds.{IsHeld}
use Rattle.cqs_turns_laws.proofs.Lines.{in_line}

-- a latch counts no more than at first, and nobody waits once it is open
pub record IsEvenLatch (size : ℕ) (o : Latch) : Type 0 where
  pub below : o.count ≤ size
  pub shut : (0 < o.count) ⊎ (o.waiters.line ≡ [])

abbrev IsEvenBarrier : ℕ → Barrier → Type 0
IsEvenBarrier parties o = IsEvenRound parties o.remaining (length o.waiters.line)

-- the same of what happened to a resource
abbrev pub IsEven : ℕ → History → Type 0
IsEven size (of_permits entries) = Unit {0}
IsEven size (of_elements entries) = Unit {0}
IsEven size (of_latch entries) = IsEvenLatch size (latch_after size entries)
IsEven size (of_rounds all) = (r : ℕ) → IsEvenBarrier size (barrier_after size (entries_in all r))

-- what can be held has none of this
pub held-even : (size : ℕ) (h : History) (round : ℕ) (deed : Deed) → IsHeld h
    → IsEven size (with_deed_in size h round deed)
held-even size (of_permits entries) round deed held = tt
held-even size (of_elements entries) round deed held = tt
held-even size (of_latch entries) round deed held = absurd held
held-even size (of_rounds all) round deed held = absurd held

-- where a deed leaves the latch, or the round, so, it leaves the resource so
pub even-by : (size : ℕ) (h : History) (round : ℕ) (deed : Deed)
    → ((o : Latch) → o.count ≡ to_come size h round → o.waiters.line ≡ (standing_in size h round).line
    → IsEvenLatch size o → IsEvenLatch size (latch_then o deed))
    → ((o : Barrier) → o.remaining ≡ to_come size h round → o.waiters.line ≡ (standing_in size h round).line
    → IsEvenBarrier size o → IsEvenBarrier size (barrier_then o deed))
    → IsEven size h → IsEven size (with_deed_in size h round deed)
even-by size (of_permits entries) round deed latches barriers even = tt
even-by size (of_elements entries) round deed latches barriers even = tt
even-by size (of_latch entries) round deed latches barriers even =
    subst (IsEvenLatch size) (sym (latch-then size entries deed)) (latches (latch_after size entries) refl refl even)
even-by size (of_rounds all) round deed latches barriers even = λ r. go r (round-set all round r now)
  where
    entries : List BarrierEntry
    entries = entries_in all round

    now : List BarrierEntry
    now = entries ++ barrier_entries (barrier_after size entries).waiters.line deed

    go : (r : ℕ) → (entries_in (set all round now) r ≡ entries_in all r)
        ⊎ ((r ≡ round) × (entries_in (set all round now) r ≡ now))
        → IsEvenBarrier size (barrier_after size (entries_in (set all round now) r))
    go r (inl same) = rw same (even r)
    go r (inr (own, is)) =
        rw is (subst (IsEvenBarrier size) (sym (barrier-then size entries deed))
        (barriers (barrier_after size entries) refl refl (even round)))

-- a look, or one who is late, changes nothing of it
pub gets-even : (size : ℕ) (h : History) (round k e : ℕ) → IsEven size h
    → IsEven size (with_deed_in size h round (gets k e))
gets-even size h round k e even =
    even-by size h round (gets k e) (λ o count line own. record { below = own.below; shut = own.shut })
    (λ o left line own. record { before = own.before; after = own.after }) even

pub late-even : (size : ℕ) (h : History) (round k e : ℕ) → IsEven size h
    → IsEven size (with_deed_in size h round (is_late k e))
late-even size h round k e even =
    even-by size h round (is_late k e) (λ o count line own. record { below = own.below; shut = own.shut })
    (λ o left line own. record { before = own.before; after = own.after }) even

-- who stands in the line is one of it
or-later : (a b : Bool) → a ≡ false → (a || b) ≡ true → b ≡ true
or-later true b none either = absurd (cc)
or-later false b none either = either

length-by : (k : ℕ) (w : Waiting) (line : List Waiting) → (k ≡ w.wait) ⊎ (k ≢ w.wait)
    → (in_line k line ≡ true → length (without (λ w. w.wait) k line) + 1 ≡ length line)
    → in_line k (w ∷ line) ≡ true → length (without (λ w. w.wait) k (w ∷ line)) + 1 ≡ length (w ∷ line)
length-by k w line (inl same) later there =
    let own : k == w.wait ≡ true = eq-eqb k w.wait same in rw own (omega arith)
length-by k w line (inr other) later there =
    let away : k == w.wait ≡ false = ne_eqb k w.wait other in
    let not : w.wait == k ≡ false = ne_eqb w.wait k (λ same. other (sym same)) in
    let fewer = later (or-later (w.wait == k) (in_line k line) not there) in
    rw away (omega (arith, fewer))

length-without : (k : ℕ) (line : List Waiting) → in_line k line ≡ true
    → length (without (λ w. w.wait) k line) + 1 ≡ length line
length-without k [] there = absurd (cc)
length-without k (w ∷ line) there = length-by k w line (cases_eq k w.wait) (length-without k line) there

without-none : (k : ℕ) (line : List Waiting) → line ≡ [] → without (λ w. w.wait) k line ≡ []
without-none k [] none = refl
without-none k (w ∷ line) none = absurd (cc)

some-line : (k : ℕ) (line : List Waiting) → in_line k line ≡ true → 0 < length line
some-line k [] there = absurd (cc)
some-line k (w ∷ line) there = omega arith

-- a wait that stood in the line leaves it
pub leaves-even : (size : ℕ) (h : History) (round k : ℕ) → in_line k (standing_in size h round).line ≡ true
    → IsEven size h → IsEven size (with_deed_in size h round (leaves k))
leaves-even size h round k stands even =
    even-by size h round (leaves k) (λ o count line own. record { below = own.below; shut = fewer o own.shut })
    (λ o left line own. withdraws o (ap (in_line k) line ∙ stands) own) even
  where
    fewer : (o : Latch) → (0 < o.count) ⊎ (o.waiters.line ≡ [])
        → (0 < o.count) ⊎ (without (λ w. w.wait) k o.waiters.line ≡ [])
    fewer o (inl shut) = inl shut
    fewer o (inr empty) = inr (without-none k o.waiters.line empty)

    withdraws : (o : Barrier) → in_line k o.waiters.line ≡ true → IsEvenBarrier size o
        → IsEvenBarrier size (barrier_then o (leaves k))
    withdraws o there own =
        let some : 0 < length o.waiters.line = some-line k o.waiters.line there in
        let less = length-without k o.waiters.line there in
        let still : 0 < o.remaining = open_still o.remaining (length o.waiters.line) own.after some in
        record {
          before = λ more. omega (arith, own.before still, less);
          after = λ none. absurd (omega (arith, none));
        }
      where
        open_still : (n m : ℕ) → (n ≡ 0 → m ≡ 0) → 0 < m → 0 < n
        open_still zero m none some = let empty : m ≡ 0 = none refl in absurd (omega (arith, empty, some))
        open_still (suc n) m none some = omega arith

-- a count down: it is the latch's own next
pub counts-even : (size : ℕ) (h : History) (n : ℕ) → to_come size h 0 ≡ suc (suc n) → IsEven size h
    → IsEven size (with_deed_in size h 0 (counts (suc n)))
counts-even size h n is even =
    even-by size h 0 (counts (suc n))
    (λ o count line own. record { below = omega (arith, count, is, own.below); shut = inl (omega arith) })
    (λ o left line own. record { before = own.before; after = own.after }) even

pub open-even : (size : ℕ) (h : History) → IsEven size h → IsEven size (with_deed_in size h 0 is_open)
open-even size h even =
    even-by size h 0 is_open (λ o count line own. record { below = own.below; shut = own.shut })
    (λ o left line own. record { before = own.before; after = own.after }) even

pub passes-even : (size : ℕ) (h : History) → IsEven size h → IsEven size (with_deed_in size h 0 passes)
passes-even size h even =
    even-by size h 0 passes (λ o count line own. record { below = own.below; shut = own.shut })
    (λ o left line own. record { before = own.before; after = own.after }) even

-- all who stand in the line are reached, one after the other
head-gone : (w : Waiting) (line : List Waiting) → without (λ v. v.wait) w.wait (w ∷ line) ≡ line
head-gone w line = let own : w.wait == w.wait ≡ true = eq-eqb w.wait w.wait refl in rw own refl

latch-empties : (line : List Waiting) (o : Latch) → o.waiters.line ≡ line
    → ((fold latch_entry o (map (λ w. latch.Deliver w.wait) line)).waiters.line ≡ [])
    × ((fold latch_entry o (map (λ w. latch.Deliver w.wait) line)).count ≡ o.count)
latch-empties [] o is = (is, refl)
latch-empties (w ∷ line) o is =
    latch-empties line (latch_entry o (latch.Deliver w.wait))
    (ap (without (λ v. v.wait) w.wait) is ∙ head-gone w line)

barrier-empties : (line : List Waiting) (o : Barrier) → o.waiters.line ≡ line
    → ((fold barrier_entry o (map (λ w. barrier.Deliver w.wait) line)).waiters.line ≡ [])
    × ((fold barrier_entry o (map (λ w. barrier.Deliver w.wait) line)).remaining ≡ o.remaining)
barrier-empties [] o is = (is, refl)
barrier-empties (w ∷ line) o is =
    barrier-empties line (barrier_entry o (barrier.Deliver w.wait))
    (ap (without (λ v. v.wait) w.wait) is ∙ head-gone w line)

pub opens-even : (size : ℕ) (h : History) → IsEven size h → IsEven size (with_deed_in size h 0 opens)
opens-even size h even =
    even-by size h 0 opens
    (λ o count line own.
    let all = latch-empties o.waiters.line (latch_entry (latch_entry o (latch.DownLast 0)) (latch.Open 0)) refl in
    record { below = omega (arith, all.1); shut = inr all.0 })
    (λ o left line own. record { before = own.before; after = own.after }) even

pub completes-even : (size : ℕ) (h : History) (round : ℕ) → IsEven size h
    → IsEven size (with_deed_in size h round completes)
completes-even size h round even =
    even-by size h round completes (λ o count line own. record { below = own.below; shut = own.shut })
    (λ o left line own.
    let all = barrier-empties o.waiters.line (barrier_entry o (barrier.ArriveLast 0)) refl in
    record {
      before = λ some. absurd (omega (arith, some, all.1));
      after = λ none. ap length all.0;
    }) even

-- one more waits at a latch that is shut, or in a round to which more than this one are still to come
pub joins-even : (size : ℕ) (h : History) (round k : ℕ) → ((o : Latch) → o.count ≡ to_come size h round → 0 < o.count)
    → ((o : Barrier) → o.remaining ≡ to_come size h round → 1 < o.remaining) → IsEven size h
    → IsEven size (with_deed_in size h round (joins k))
joins-even size h round k shut more even =
    even-by size h round (joins k) (λ o count line own. record { below = own.below; shut = inl (shut o count) })
    (λ o left line own.
    let some : 1 < o.remaining = more o left in
    let longer = length_push o.waiters.line (record { wait = k; pass = 0 }) in
    record {
      before = λ still. omega (arith, own.before (omega (arith, some)), longer, some);
      after = λ none. absurd (omega (arith, none, some));
    }) even

-- one more waits at a latch that is shut
pub latch-joins : (size : ℕ) (k : Option Kind) (h : History) (number : ℕ) → IsLatch k → IsOfKind k h
    → 0 < to_come size h 0 → IsEven size h → IsEven size (with_deed_in size h 0 (joins number))
latch-joins size None h number latch is some even = absurd latch
latch-joins size (Some (kind.Semaphore permits)) h number latch is some even = absurd latch
latch-joins size (Some kind.Mutex) h number latch is some even = absurd latch
latch-joins size (Some (kind.Pool elements)) h number latch is some even = absurd latch
latch-joins size (Some (kind.Latch count)) (of_permits entries) number latch is some even = absurd is
latch-joins size (Some (kind.Latch count)) (of_elements entries) number latch is some even = absurd is
latch-joins size (Some (kind.Latch count)) (of_latch entries) number latch is some even =
    subst (IsEvenLatch size) (sym (latch-then size entries (joins number)))
    (record { below = even.below; shut = inl some })
latch-joins size (Some (kind.Latch count)) (of_rounds all) number latch is some even = absurd is
latch-joins size (Some (kind.Rounds parties rounds)) h number latch is some even = absurd latch

-- as it opens
pub opens-so : (size : ℕ) (k : Kind) → IsEven size (no_history k)
opens-so size (kind.Semaphore permits) = tt
opens-so size kind.Mutex = tt
opens-so size (kind.Pool elements) = tt
opens-so size (kind.Latch count) = record { below = omega arith; shut = inr refl }
opens-so size (kind.Rounds parties rounds) = λ r. rw (none rounds r) (record {
  before = λ some. omega arith;
  after = λ empty. refl;
})
  where
    none : (n r : ℕ) → entries_in (replicate n []) r ≡ []
    none zero r = refl
    none (suc n) zero = refl
    none (suc n) (suc r) = none n r
