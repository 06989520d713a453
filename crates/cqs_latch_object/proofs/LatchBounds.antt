-- How far the words of a latch go.
use Rattle.std.proofs.Common.{◌≡◌, ℕ, ◌+◌, ◌<◌, ◌≤◌, ℤ, pos, negsuc, ◌<ℤ◌, ◌≤ℤ◌, ◌+ℤ◌, Bool, true, false, length, refl, sym, ◌⊎◌, inl, inr, arith, Some, slice_get, get_or, slice_index, sum}
use Rattle.std.specs.List.{count_by}
use Rattle.std.proofs.lemmas.Bool.{cases_Bool}
use Rattle.std.proofs.lemmas.Int.{ints}
use Rattle.std.proofs.lemmas.List.Sums.{get_or-le-sum_by}
use Rattle.cqs_core.specs.declared.doings.Doing.TheVariants as doing
use Rattle.cqs_core.specs.QueueAsRefused.{as_refused}
use Rattle.cqs_core.specs.QueueSound.{IsSound}
use Rattle.cqs_core.specs.QueueLine.{door, due, going, ending}
use Rattle.cqs_core.specs.QueueState.{Queue}
use Rattle.cqs_core.proofs.LineMoves.{decide-leaves}
use Rattle.cqs_core.proofs.QueueAsRefused.{sound-back}
use Rattle.cqs_core.proofs.QueueReaches.{reaches-few, begins-few}
use Rattle.cqs_latch_object.specs.LatchObject as plain
use Rattle.cqs_latch_object.specs.LatchShown.{LatchShape, as_read, read_as, has_loaded, holes, holes_shown, shown_latch, IsShut, IsLatch, IsLatchCore}
use Rattle.cqs_latch_object.specs.LatchLaws.{EveryCountIsHigh, EveryCountIsLow, WaitersAreFew}
use Rattle.cqs_latch_object.specs.LatchWords.{IsToOpen}
use Rattle.cqs_latch_object.proofs.LatchFrame.{owes-there}
use Rattle.cqs_latch_object.proofs.LatchWords.{still-shut}
use Rattle.cqs_latch_object.proofs.Holes.{length-holes}
use Rattle.cqs_latch_object.proofs.Places.{few-wait}

-- what a latch reads of its queue beside the states of its cells is as it is
read-doing : (b : Bool) (q : Queue) → (read_as b q).doing ≡ q.doing
read-doing true q = refl
read-doing false q = refl

read-suspends : (b : Bool) (q : Queue) → (read_as b q).suspends ≡ q.suspends
read-suspends true q = refl
read-suspends false q = refl

-- the queue is sound
pub core-sound : (s : LatchShape) → IsLatchCore s → IsSound s.queue
core-sound s core = back s.simple core.sound
  where
    back : (b : Bool) → IsSound (read_as b s.queue) → IsSound s.queue
    back true sound = sound-back s.queue sound
    back false sound = sound

floor-high : (z : ℤ) (loaded passes : ℕ) → pos loaded <ℤ (z +ℤ pos passes) → passes ≤ 32 → negsuc 31 ≤ℤ z
floor-high z loaded passes low few = omega (arith, ints)

pub every-count-is-high : EveryCountIsHigh
every-count-is-high s core few =
    let r : Queue = read_as s.simple s.queue in
    floor-high s.count (count_by has_loaded r.doing) (length r.doing) core.fit.low
    (rw (read-doing s.simple s.queue) few)

pub every-count-is-low : EveryCountIsLow
every-count-is-low s core = core.fit.high

-- of a latch with its queue as it is read
few-read : (s : LatchShape) → IsLatch s → s.word ≤ s.queue.suspends + length s.queue.doing
few-read s is = go (cases_Bool s.done)
  where
    go : (s.done ≡ true) ⊎ (s.done ≡ false) → s.word ≤ s.queue.suspends + length s.queue.doing
    go (inl done) = let few = (is.opened done).few in omega arith
    go (inr shut) =
        let was = is.shut shut in
        let few = few-wait s.queue is.sound was.resumes in
        omega (arith, was.counted)

pub waiters-are-few : WaitersAreFew
waiters-are-few s core =
    let few : s.word ≤ (read_as s.simple s.queue).suspends + length (read_as s.simple s.queue).doing =
    few-read (as_read s) core in
    rw (read-suspends s.simple s.queue, read-doing s.simple s.queue) at few

-- where a resumption is under way, or owed, there is a number for it
enough : (s : LatchShape) → IsLatch s → going s.queue + sum s.owed ≤ due s.queue + ending s.queue
enough s is = go (cases_Bool s.done)
  where
    go : (s.done ≡ true) ⊎ (s.done ≡ false) → going s.queue + sum s.owed ≤ due s.queue + ending s.queue
    go (inl done) = let was = is.opened done in omega (arith, was.ways)
    go (inr shut) = let was = is.shut shut in omega (arith, was.none)

reach-read : (s : LatchShape) (p : ℕ) → IsLatch s → slice_get s.queue.doing p ≡ Some doing.Owes
    → s.queue.resumes < s.queue.suspends + length (door s.queue)
reach-read s p is owes =
    let few = enough s is in
    let below = reaches-few s.queue p 0 is.sound (omega arith) owes in
    omega arith

begin-read : (s : LatchShape) (p : ℕ) → IsLatch s → slice_get s.queue.doing p ≡ Some doing.Idle
    → 0 < slice_index s.owed p → s.queue.resumes < s.queue.suspends + length (door s.queue)
begin-read s p is idle some =
    let few = enough s is in
    let within : get_or s.owed p 0 ≤ sum s.owed =
    get_or-le-sum_by (λ n. n) s.owed p 0 (owes-there s p doing.Idle is idle) in
    let below = begins-few s.queue p 0 is.sound (omega arith) idle in
    omega arith

-- a number is left for a resumption that is owed
pub core-reaches_few : (s : LatchShape) (p : ℕ) → IsLatchCore s → slice_get s.queue.doing p ≡ Some doing.Owes
    → s.queue.resumes < s.queue.suspends + length (door s.queue)
core-reaches_few s p core owes = go s.simple core
  where
    go : (b : Bool) → IsLatch (record s { queue = read_as b s.queue; simple = b })
        → s.queue.resumes < s.queue.suspends + length (door s.queue)
    go true is = reach-read (record s { queue = as_refused s.queue; simple = true }) p is owes
    go false is = reach-read (record s { simple = false }) p is owes

pub core-begins_few : (s : LatchShape) (p : ℕ) → IsLatchCore s → slice_get s.queue.doing p ≡ Some doing.Idle
    → 0 < slice_index s.owed p → s.queue.resumes < s.queue.suspends + length (door s.queue)
core-begins_few s p core idle some = go s.simple core
  where
    go : (b : Bool) → IsLatch (record s { queue = read_as b s.queue; simple = b })
        → s.queue.resumes < s.queue.suspends + length (door s.queue)
    go true is = begin-read (record s { queue = as_refused s.queue; simple = true }) p is idle some
    go false is = begin-read (record s { simple = false }) p is idle some

-- who is to open a latch finds it shut
pub core-still_shut : (s : LatchShape) (p : ℕ) → IsLatchCore s → IsToOpen s p → s.done ≡ false
core-still_shut s p core may = go s.simple core
  where
    go : (b : Bool) → IsLatch (record s { queue = read_as b s.queue; simple = b }) → s.done ≡ false
    go true is = still-shut (record s { queue = as_refused s.queue; simple = true }) p is may.0 may.1 may.2
    go false is = still-shut (record s { simple = false }) p is may.0 may.1 may.2

-- who leaves is counted among the waiters
leaver-read : (s : LatchShape) (p k : ℕ) → IsLatch s → s.simple ≡ false
    → slice_get s.queue.doing p ≡ Some (doing.Leaving k) → 0 < s.word
leaver-read s p k is smart does = go (cases_Bool s.done)
  where
    some : 0 < due s.queue
    some = let leaves = decide-leaves s.queue p k true is.sound does in omega (arith, leaves.due)

    go : (s.done ≡ true) ⊎ (s.done ≡ false) → 0 < s.word
    go (inl done) = let was = is.opened done in omega (arith, was.enough smart, some)
    go (inr shut) = let was = is.shut shut in omega (arith, was.counted, some)

pub core-leaver : (s : LatchShape) (p k : ℕ) → IsLatchCore s → s.simple ≡ false
    → slice_get s.queue.doing p ≡ Some (doing.Leaving k) → 0 < s.word
core-leaver s p k core smart does = go s.simple smart core
  where
    go : (b : Bool) → b ≡ false → IsLatch (record s { queue = read_as b s.queue; simple = b }) → 0 < s.word
    go true not_smart is = absurd (cc)
    go false is_smart is = leaver-read (record s { simple = false }) p k is refl does

-- before it is open, the word counts all who are due
core-counted-read : (s : LatchShape) → IsLatch s → s.done ≡ false → s.word ≡ plain.due (shown_latch s)
core-counted-read s is shut = go s.simple refl
  where
    was : IsShut s
    was = is.shut shut

    go : (b : Bool) → b ≡ s.simple → s.word ≡ due s.queue + length (holes_shown b s.queue)
    go true at =
        let long : length (holes s.queue) ≡ ending s.queue = length-holes s.queue (is.fit.plain (sym at)) in
        omega (arith, was.counted, long)
    go false at = omega (arith, was.counted, was.kept (sym at))

pub core-counted : (s : LatchShape) → IsLatchCore s → s.done ≡ false → s.word ≡ plain.due (shown_latch (as_read s))
core-counted s core shut = core-counted-read (as_read s) core shut

-- the next number is that of the queue
pub core-next : (s : LatchShape) → (shown_latch (as_read s)).waiters.next ≡ s.queue.suspends
core-next s = read-suspends s.simple s.queue
