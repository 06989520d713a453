-- What a deed makes of a resource: of its next number, of its line, and of what came for its waits.
use Rattle.std.proofs.Common.{◌≡◌, ◌≢◌, ℕ, ◌+◌, ◌<◌, Bool, true, false, List, [], ◌∷◌, ◌++◌, length, map, set, refl, sym, ap, subst, ◌∙◌, arith}
use Rattle.std.specs.List.{fold}
use Rattle.std.proofs.lemmas.List.{get_or-set_same, get_or-set_other}
use Rattle.std.proofs.lemmas.List.Sums.{fold-append}
use Rattle.cqs_core.specs.declared.entries.Entry.{Entry}
use Rattle.cqs_core.specs.Keyed.{without}
use Rattle.cqs_core.specs.QueueLine.{Waiting}
use Rattle.cqs_core.specs.SemaphoreObject.{Semaphore}
use Rattle.cqs_core.specs.SemaphoreObject as semaphore
use Rattle.cqs_core.specs.SemaphoreEntries.{after_entry, at_door, has_spoiled}
use Rattle.cqs_core.proofs.Waits.{enters_by}
use Rattle.cqs_core.proofs.Counts.{bit}
use Rattle.cqs_pool_object.specs.declared.entries.PoolEntry.{PoolEntry}
use Rattle.cqs_pool_object.specs.PoolObject.{Pool}
use Rattle.cqs_pool_object.specs.PoolObject as pool
use Rattle.cqs_pool_object.specs.PoolEntries.{after_enter, put}
use Rattle.cqs_pool_object.specs.PoolEntries as elements
use Rattle.cqs_latch_object.specs.declared.entries.LatchEntry.TheVariants as latch
use Rattle.cqs_latch_object.specs.LatchEntries.{after_entry as latch_entry}
use Rattle.cqs_latch_object.specs.LatchObject.{Latch}
use Rattle.cqs_barrier_object.specs.declared.entries.BarrierEntry.{BarrierEntry}
use Rattle.cqs_barrier_object.specs.declared.entries.BarrierEntry.TheVariants as barrier
use Rattle.cqs_barrier_object.specs.BarrierEntries.{after_entry as barrier_entry}
use Rattle.cqs_barrier_object.specs.BarrierObject.{Barrier}
use Rattle.cqs_plan.specs.FloorHistory.{History, of_permits, of_elements, of_latch, of_rounds, Deed, takes, joins, frees, sends, gets, leaves, is_late, passes, counts, opens, is_open, completes, permit_entries, element_entries, permits_after, elements_after, latch_after, barrier_after, entries_in, with_deed, with_deed_in, standing, standing_in, came_for}
use Rattle.cqs_turns_report.proofs.ToCome.{latch_then, barrier_then, latch-then, barrier-then}
use Rattle.cqs_turns_laws.proofs.Lines.{in_line, joins-line, joins-next, line-longer, line-joined, line-fewer, turned-line, turned-next, turned-spoiled}
use Rattle.cqs_plan.proofs.PoolSeats.{AreSeated, came_in, came-closed, came-delivered-else, came-delivered-here, seated-closed, seated-delivered, seated-entered, seated-left}
use Rattle.cqs_turns_laws.proofs.DeedParts.{HasPart, is_of_pool, round_now}

-- how many numbers it draws: a take of a pool has one also where it doesn't wait
abbrev pub draws : Bool → Deed → ℕ
draws pool (takes e) = bit pool
draws pool (joins k) = 1
draws pool (frees e) = 0
draws pool (sends e k) = 0
draws pool (gets k e) = 0
draws pool (leaves k) = 0
draws pool (is_late k e) = 0
draws pool passes = 0
draws pool (counts n) = 0
draws pool opens = 0
draws pool is_open = 0
draws pool completes = 0

-- who waits under k is none that the deed is about, where n is the next number
abbrev pub IsElse : ℕ → ℕ → Deed → Type 0
IsElse n k (takes e) = k ≢ n
IsElse n k (joins j) = Unit {0}
IsElse n k (frees e) = Unit {0}
IsElse n k (sends e j) = k ≢ j
IsElse n k (gets j e) = Unit {0}
IsElse n k (leaves j) = k ≢ j
IsElse n k (is_late j e) = Unit {0}
IsElse n k passes = Unit {0}
IsElse n k (counts m) = Unit {0}
IsElse n k opens = ⊥
IsElse n k is_open = Unit {0}
IsElse n k completes = ⊥

pub permits-then : (size : ℕ) (entries : List Entry) (deed : Deed)
    → permits_after size (entries ++ permit_entries deed)
    ≡ fold after_entry (permits_after size entries) (permit_entries deed)
permits-then size entries deed = fold-append after_entry (semaphore.opening size) entries (permit_entries deed)

-- what a pool is after a deed
abbrev pub pool_then : Pool → Deed → Pool
pool_then o deed = fold elements.after_entry o (element_entries o.next deed)

pub elements-then : (size : ℕ) (entries : List PoolEntry) (deed : Deed)
    → elements_after size (entries ++ element_entries (elements_after size entries).next deed)
    ≡ pool_then (elements_after size entries) deed
elements-then size entries deed =
    fold-append elements.after_entry (pool.opening size) entries
    (element_entries (elements_after size entries).next deed)

next-permits : (o : Semaphore) (deed : Deed)
    → (fold after_entry o (permit_entries deed)).next ≡ o.next + draws false deed
next-permits o (takes e) = omega arith
next-permits o (joins k) = joins-next o k
next-permits o (frees e) = omega arith
next-permits o (sends e k) = omega arith
next-permits o (gets k e) = omega arith
next-permits o (leaves k) = omega (arith, turned-next (record o { line = without (λ w. w.wait) k o.line }))
next-permits o (is_late k e) = omega arith
next-permits o passes = omega arith
next-permits o (counts n) = omega arith
next-permits o opens = omega arith
next-permits o is_open = omega arith
next-permits o completes = omega arith

next-elements : (o : Pool) (deed : Deed) → (pool_then o deed).next ≡ o.next + draws true deed
next-elements o (takes e) = refl
next-elements o (joins k) = refl
next-elements o (frees e) = omega arith
next-elements o (sends e k) = omega arith
next-elements o (gets k e) = omega arith
next-elements o (leaves k) = omega arith
next-elements o (is_late k e) = omega arith
next-elements o passes = omega arith
next-elements o (counts n) = omega arith
next-elements o opens = omega arith
next-elements o is_open = omega arith
next-elements o completes = omega arith

-- who is reached leaves the next number as it is
reached-latch : (line : List Waiting) (o : Latch)
    → (fold latch_entry o (map (λ w. latch.Deliver w.wait) line)).waiters.next ≡ o.waiters.next
reached-latch [] o = refl
reached-latch (w ∷ line) o = reached-latch line (latch_entry o (latch.Deliver w.wait))

reached-barrier : (line : List Waiting) (o : Barrier)
    → (fold barrier_entry o (map (λ w. barrier.Deliver w.wait) line)).waiters.next ≡ o.waiters.next
reached-barrier [] o = refl
reached-barrier (w ∷ line) o = reached-barrier line (barrier_entry o (barrier.Deliver w.wait))

next-latch : (o : Latch) (deed : Deed) → (latch_then o deed).waiters.next ≡ o.waiters.next + draws false deed
next-latch o (takes e) = omega arith
next-latch o (joins k) = refl
next-latch o (frees e) = omega arith
next-latch o (sends e k) = omega arith
next-latch o (gets k e) = omega arith
next-latch o (leaves k) = omega arith
next-latch o (is_late k e) = omega arith
next-latch o passes = omega arith
next-latch o (counts n) = omega arith
next-latch o opens =
    omega (arith, reached-latch o.waiters.line (latch_entry (latch_entry o (latch.DownLast 0)) (latch.Open 0)))
next-latch o is_open = omega arith
next-latch o completes = omega arith

next-barrier : (o : Barrier) (deed : Deed) → (barrier_then o deed).waiters.next ≡ o.waiters.next + draws false deed
next-barrier o (takes e) = omega arith
next-barrier o (joins k) = refl
next-barrier o (frees e) = omega arith
next-barrier o (sends e k) = omega arith
next-barrier o (gets k e) = omega arith
next-barrier o (leaves k) = omega arith
next-barrier o (is_late k e) = omega arith
next-barrier o passes = omega arith
next-barrier o (counts n) = omega arith
next-barrier o opens = omega arith
next-barrier o is_open = omega arith
next-barrier o completes =
    omega (arith, reached-barrier o.waiters.line (barrier_entry o (barrier.ArriveLast 0)))

-- what a round is after a deed in it
pub round-then : (size : ℕ) (all : List (List BarrierEntry)) (round : ℕ) (deed : Deed) → round < length all
    → barrier_after size (entries_in (set all round (round_now size all round deed)) round)
    ≡ barrier_then (barrier_after size (entries_in all round)) deed
round-then size all round deed part =
    ap (barrier_after size) (get_or-set_same all round (round_now size all round deed) [] part)
    ∙ barrier-then size (entries_in all round) deed

pub next-after : (size : ℕ) (h : History) (round : ℕ) (deed : Deed) → HasPart h round
    → (standing_in size (with_deed_in size h round deed) round).next
    ≡ (standing_in size h round).next + draws (is_of_pool h) deed
next-after size (of_permits entries) round deed part =
    ap (λ (o : Semaphore). o.next) (permits-then size entries deed) ∙ next-permits (permits_after size entries) deed
next-after size (of_elements entries) round deed part =
    ap (λ (o : Pool). o.next) (elements-then size entries deed) ∙ next-elements (elements_after size entries) deed
next-after size (of_latch entries) round deed part =
    ap (λ (o : Latch). o.waiters.next) (latch-then size entries deed) ∙ next-latch (latch_after size entries) deed
next-after size (of_rounds all) round deed part =
    ap (λ (o : Barrier). o.waiters.next) (round-then size all round deed part)
    ∙ next-barrier (barrier_after size (entries_in all round)) deed

-- another round is as it was
pub standing-away : (size : ℕ) (h : History) (round r : ℕ) (deed : Deed) → HasPart h round → HasPart h r → r ≢ round
    → standing_in size (with_deed_in size h round deed) r ≡ standing_in size h r
standing-away size (of_permits entries) round r deed part own other = absurd (other (own ∙ sym part))
standing-away size (of_elements entries) round r deed part own other = absurd (other (own ∙ sym part))
standing-away size (of_latch entries) round r deed part own other = absurd (other (own ∙ sym part))
standing-away size (of_rounds all) round r deed part own other =
    ap (λ entries. standing_in size (of_rounds (entries ∷ [])) 0)
    (get_or-set_other all round r (round_now size all round deed) [] other)

line-permits : (o : Semaphore) (deed : Deed) (k : ℕ) → IsElse o.next k deed → in_line k o.line ≡ true
    → in_line k (fold after_entry o (permit_entries deed)).line ≡ true
line-permits o (takes e) k other stands = stands
line-permits o (joins j) k other stands = go (has_spoiled j o.spoiled)
  where
    go : (b : Bool) → in_line k (enters_by (at_door o 0) 0 j b).line ≡ true
    go true = stands
    go false = line-longer k o.line (record { wait = j; pass = 0 }) stands
line-permits o (frees e) k other stands = stands
line-permits o (sends e j) k other stands = line-fewer k j o.line other stands
line-permits o (gets j e) k other stands = stands
line-permits o (leaves j) k other stands =
    ap (in_line k) (turned-line (record o { line = without (λ w. w.wait) j o.line }))
    ∙ line-fewer k j o.line other stands
line-permits o (is_late j e) k other stands = stands
line-permits o passes k other stands = stands
line-permits o (counts n) k other stands = stands
line-permits o opens k other stands = stands
line-permits o is_open k other stands = stands
line-permits o completes k other stands = stands

line-elements : (o : Pool) (deed : Deed) (k : ℕ) → IsElse o.next k deed → in_line k o.line ≡ true
    → in_line k (pool_then o deed).line ≡ true
line-elements o (takes e) k other stands =
    line-fewer k o.next (after_enter o 0 o.next).line other
    (line-longer k o.line (record { wait = o.next; pass = 0 }) stands)
line-elements o (joins j) k other stands = line-longer k o.line (record { wait = j; pass = 0 }) stands
line-elements o (frees e) k other stands = stands
line-elements o (sends e j) k other stands = line-fewer k j o.line other stands
line-elements o (gets j e) k other stands = stands
line-elements o (leaves j) k other stands = line-fewer k j o.line other stands
line-elements o (is_late j e) k other stands = stands
line-elements o passes k other stands = stands
line-elements o (counts n) k other stands = stands
line-elements o opens k other stands = stands
line-elements o is_open k other stands = stands
line-elements o completes k other stands = stands

line-latch : (o : Latch) (deed : Deed) (k : ℕ) → IsElse o.waiters.next k deed → in_line k o.waiters.line ≡ true
    → in_line k (latch_then o deed).waiters.line ≡ true
line-latch o (takes e) k other stands = stands
line-latch o (joins j) k other stands = line-longer k o.waiters.line (record { wait = j; pass = 0 }) stands
line-latch o (frees e) k other stands = stands
line-latch o (sends e j) k other stands = stands
line-latch o (gets j e) k other stands = stands
line-latch o (leaves j) k other stands = line-fewer k j o.waiters.line other stands
line-latch o (is_late j e) k other stands = stands
line-latch o passes k other stands = stands
line-latch o (counts n) k other stands = stands
line-latch o opens k other stands = absurd other
line-latch o is_open k other stands = stands
line-latch o completes k other stands = absurd other

line-barrier : (o : Barrier) (deed : Deed) (k : ℕ) → IsElse o.waiters.next k deed → in_line k o.waiters.line ≡ true
    → in_line k (barrier_then o deed).waiters.line ≡ true
line-barrier o (takes e) k other stands = stands
line-barrier o (joins j) k other stands = line-longer k o.waiters.line (record { wait = j; pass = 0 }) stands
line-barrier o (frees e) k other stands = stands
line-barrier o (sends e j) k other stands = stands
line-barrier o (gets j e) k other stands = stands
line-barrier o (leaves j) k other stands = line-fewer k j o.waiters.line other stands
line-barrier o (is_late j e) k other stands = stands
line-barrier o passes k other stands = stands
line-barrier o (counts n) k other stands = stands
line-barrier o opens k other stands = absurd other
line-barrier o is_open k other stands = stands
line-barrier o completes k other stands = absurd other

-- who stands in the line still does
pub line-after : (size : ℕ) (h : History) (round : ℕ) (deed : Deed) (k : ℕ) → HasPart h round
    → IsElse (standing_in size h round).next k deed
    → in_line k (standing_in size h round).line ≡ true
    → in_line k (standing_in size (with_deed_in size h round deed) round).line ≡ true
line-after size (of_permits entries) round deed k part other stands =
    ap (λ (o : Semaphore). in_line k o.line) (permits-then size entries deed)
    ∙ line-permits (permits_after size entries) deed k other stands
line-after size (of_elements entries) round deed k part other stands =
    ap (λ (o : Pool). in_line k o.line) (elements-then size entries deed)
    ∙ line-elements (elements_after size entries) deed k other stands
line-after size (of_latch entries) round deed k part other stands =
    ap (λ (o : Latch). in_line k o.waiters.line) (latch-then size entries deed)
    ∙ line-latch (latch_after size entries) deed k other stands
line-after size (of_rounds all) round deed k part other stands =
    ap (λ (o : Barrier). in_line k o.waiters.line) (round-then size all round deed part)
    ∙ line-barrier (barrier_after size (entries_in all round)) deed k other stands

-- the numbers of a pool are its waits' own, and none of a semaphore is broken
abbrev pub HasSeats : ℕ → History → Type 0
HasSeats size (of_permits entries) = (permits_after size entries).spoiled ≡ []
HasSeats size (of_elements entries) = AreSeated (elements_after size entries)
HasSeats size (of_latch entries) = Unit {0}
HasSeats size (of_rounds all) = Unit {0}

-- who joins the line stands there
pub line-joins : (size : ℕ) (h : History) (round k : ℕ) → HasPart h round → HasSeats size h
    → in_line k (standing_in size (with_deed_in size h round (joins k)) round).line ≡ true
line-joins size (of_permits entries) round k part seated =
    let o : Semaphore = permits_after size entries in
    ap (λ (o : Semaphore). in_line k o.line) (permits-then size entries (joins k))
    ∙ ap (λ (o : Semaphore). in_line k o.line) (joins-line o k seated)
    ∙ line-joined k o.line (record { wait = k; pass = 0 }) refl
line-joins size (of_elements entries) round k part seated =
    ap (λ (o : Pool). in_line k o.line) (elements-then size entries (joins k))
    ∙ line-joined k (elements_after size entries).line (record { wait = k; pass = 0 }) refl
line-joins size (of_latch entries) round k part seated =
    ap (λ (o : Latch). in_line k o.waiters.line) (latch-then size entries (joins k))
    ∙ line-joined k (latch_after size entries).waiters.line (record { wait = k; pass = 0 }) refl
line-joins size (of_rounds all) round k part seated =
    ap (λ (o : Barrier). in_line k o.waiters.line) (round-then size all round (joins k) part)
    ∙ line-joined k (barrier_after size (entries_in all round)).waiters.line (record { wait = k; pass = 0 }) refl

-- who joins has the next number
abbrev pub JoinsNext : ℕ → Deed → Type 0
JoinsNext n (joins k) = k ≡ n
JoinsNext n (takes e) = Unit {0}
JoinsNext n (frees e) = Unit {0}
JoinsNext n (sends e k) = Unit {0}
JoinsNext n (gets k e) = Unit {0}
JoinsNext n (leaves k) = Unit {0}
JoinsNext n (is_late k e) = Unit {0}
JoinsNext n passes = Unit {0}
JoinsNext n (counts m) = Unit {0}
JoinsNext n opens = Unit {0}
JoinsNext n is_open = Unit {0}
JoinsNext n completes = Unit {0}

seats-elements : (o : Pool) (deed : Deed) → JoinsNext o.next deed → AreSeated o → AreSeated (pool_then o deed)
seats-elements o (takes e) fits seated =
    seated-delivered (after_enter o 0 o.next) o.next e (seated-entered o 0 seated)
seats-elements o (joins k) fits seated = rw fits (seated-entered o 0 seated)
seats-elements o (frees e) fits seated = record { once = seated.once; later = seated.later }
seats-elements o (sends e k) fits seated =
    seated-delivered (put o e) k e (record { once = seated.once; later = seated.later })
seats-elements o (gets k e) fits seated = seated-closed o k seated
seats-elements o (leaves k) fits seated = seated-left o k seated
seats-elements o (is_late k e) fits seated = seated-closed o k seated
seats-elements o passes fits seated = seated
seats-elements o (counts n) fits seated = seated
seats-elements o opens fits seated = seated
seats-elements o is_open fits seated = seated
seats-elements o completes fits seated = seated

seats-permits : (o : Semaphore) (deed : Deed) → o.spoiled ≡ []
    → (fold after_entry o (permit_entries deed)).spoiled ≡ []
seats-permits o (takes e) none = none
seats-permits o (joins k) none = ap (λ (o : Semaphore). o.spoiled) (joins-line o k none) ∙ none
seats-permits o (frees e) none = none
seats-permits o (sends e k) none = none
seats-permits o (gets k e) none = none
seats-permits o (leaves k) none = turned-spoiled (record o { line = without (λ w. w.wait) k o.line }) ∙ none
seats-permits o (is_late k e) none = none
seats-permits o passes none = none
seats-permits o (counts n) none = none
seats-permits o opens none = none
seats-permits o is_open none = none
seats-permits o completes none = none

pub seats-after : (size : ℕ) (h : History) (round : ℕ) (deed : Deed) → JoinsNext (standing_in size h round).next deed
    → HasSeats size h → HasSeats size (with_deed_in size h round deed)
seats-after size (of_permits entries) round deed fits seated =
    ap (λ (o : Semaphore). o.spoiled) (permits-then size entries deed)
    ∙ seats-permits (permits_after size entries) deed seated
seats-after size (of_elements entries) round deed fits seated =
    subst AreSeated (sym (elements-then size entries deed))
    (seats-elements (elements_after size entries) deed fits seated)
seats-after size (of_latch entries) round deed fits seated = tt
seats-after size (of_rounds all) round deed fits seated = tt

came-elements : (o : Pool) (deed : Deed) (k : ℕ) → IsElse o.next k deed
    → came_in k (pool_then o deed).served ≡ came_in k o.served
came-elements o (takes e) k other = came-delivered-else (after_enter o 0 o.next) o.next e k other
came-elements o (joins j) k other = refl
came-elements o (frees e) k other = refl
came-elements o (sends e j) k other = came-delivered-else (put o e) j e k other
came-elements o (gets j e) k other = came-closed j k o.served
came-elements o (leaves j) k other = refl
came-elements o (is_late j e) k other = came-closed j k o.served
came-elements o passes k other = refl
came-elements o (counts n) k other = refl
came-elements o opens k other = refl
came-elements o is_open k other = refl
came-elements o completes k other = refl

-- what came for a wait stays what it was
pub came-after : (size : ℕ) (h : History) (round : ℕ) (deed : Deed) (k : ℕ)
    → IsElse (standing_in size h round).next k deed
    → came_for size (with_deed_in size h round deed) k ≡ came_for size h k
came-after size (of_permits entries) round deed k other = refl
came-after size (of_elements entries) round deed k other =
    ap (λ (o : Pool). came_in k o.served) (elements-then size entries deed)
    ∙ came-elements (elements_after size entries) deed k other
came-after size (of_latch entries) round deed k other = refl
came-after size (of_rounds all) round deed k other = refl

-- also where it is in another round
pub came-away : (size : ℕ) (h : History) (round r : ℕ) (deed : Deed) (k : ℕ) → HasPart h round → HasPart h r → r ≢ round
    → came_for size (with_deed_in size h round deed) k ≡ came_for size h k
came-away size (of_permits entries) round r deed k part own other = refl
came-away size (of_elements entries) round r deed k part own other = absurd (other (own ∙ sym part))
came-away size (of_latch entries) round r deed k part own other = refl
came-away size (of_rounds all) round r deed k part own other = refl

-- and what is sent to the first of the line came for it
pub came-sent : (size : ℕ) (h : History) (w : Waiting) (line : List Waiting) (e : ℕ) → HasSeats size h
    → (standing size h).line ≡ w ∷ line → is_of_pool h ≡ true
    → came_for size (with_deed size h (sends e w.wait)) w.wait ≡ e
came-sent size (of_permits entries) w line e seated is pooled = absurd (cc)
came-sent size (of_elements entries) w line e seated is pooled =
    ap (λ (o : Pool). came_in w.wait o.served) (elements-then size entries (sends e w.wait))
    ∙ came-delivered-here (put (elements_after size entries) e) w line e is
    (record { once = seated.once; later = seated.later })
came-sent size (of_latch entries) w line e seated is pooled = absurd (cc)
came-sent size (of_rounds all) w line e seated is pooled = absurd (cc)
