-- A pass that is alone: each of its calls answers as the plain latch does after all that the pass
-- has seen.
use Rattle.std.specs.Prelude.{◌≡◌, ℕ, ◌+◌, ◌<◌, ◌≤◌, map, true, false, List, [], ◌∷◌, ◌++◌, Result, Ok, Err}
use Rattle.cqs_core.specs.Keyed.{insert_by}
use Rattle.cqs_core.specs.QueueLine.{Waiting}
use Rattle.cqs_core.specs.QueueWaiters.{Waits, IsServed}
use Rattle.cqs_latch_object.specs.declared.entries.LatchEntry.{LatchEntry}
use Rattle.cqs_latch_object.specs.declared.entries.LatchEntry.TheVariants as entry
use Rattle.cqs_latch_object.specs.LatchObject as plain
use Rattle.cqs_rule_laws.specs.declared.config.AcquireError.{AcquireError}
use Rattle.cqs_rule_laws.specs.declared.config.AcquireError.TheVariants.{Worn, Crowded}
use Rattle.cqs_rule_laws.specs.declared.view.View.{View}
use Rattle.cqs_rule.specs.Waits.{place_of}
use Rattle.cqs_latch.specs.declared.answers.Down.{Down}
use Rattle.cqs_latch.specs.declared.answers.Down.TheVariants.{Left, Last, LastOwing, Already}
use Rattle.cqs_latch.specs.declared.answers.LatchLeft.{LatchLeft}
use Rattle.cqs_latch.specs.declared.answers.LatchLeft.TheVariants.{Gone, GoneOwing, TooLate}
use Rattle.cqs_latch.specs.declared.answers.Owed.{Owed}
use Rattle.cqs_latch.specs.declared.answers.LatchPolled.{LatchPolled}
use Rattle.cqs_latch.specs.declared.answers.LatchPolled.TheVariants.{Through, Pending}
use Rattle.cqs_latch.specs.declared.answers.LatchWait.{LatchWait}
use Rattle.cqs_latch.specs.declared.answers.LatchWait.TheVariants.{Passed, Later}
use Rattle.cqs_latch.specs.LatchTold.{latch_after}
use Rattle.cqs_latch.specs.Waking.{Ending, served_at, missed_at, ending_number, woken_entries}

-- these waits are served
abbrev pub delivers : List ℕ → List LatchEntry
delivers [] = []
delivers (k ∷ ks) = entry.Deliver k ∷ delivers ks

-- a resumption serves each of these waits
abbrev pub serves : List ℕ → List Ending
serves [] = []
serves (k ∷ ks) = served_at k ∷ serves ks

-- and one misses each of these, at the place that its number has among the others
abbrev pub with_misses : List ℕ → List Ending → List Ending
with_misses [] ends = ends
with_misses (k ∷ ks) ends = insert_by ending_number (missed_at k) (with_misses ks ends)

module _ {T : Type 0} where
  -- the plain latch, after all that the pass has seen
  abbrev pub plain_after : View LatchEntry T → plain.Latch
  plain_after v = latch_after v v.seen

  -- the numbers of those who wait in its line then, in order
  abbrev pub waiting_in : View LatchEntry T → List ℕ
  waiting_in v = map (λ (w : Waiting). w.wait) (plain_after v).waiters.line

  -- the count says what a count down answers
  abbrev pub IsPlainCount : View LatchEntry T → Down → Type 0
  IsPlainCount v Already = (plain_after v).count ≡ 0
  IsPlainCount v (Left left) = ((plain_after v).count ≡ left + 1) × (0 < left)
  IsPlainCount v Last = (plain_after v).count ≡ 1
  IsPlainCount v (LastOwing owed) = (plain_after v).count ≡ 1

  -- The latch is open, and nobody waits for it any more: each who had waited was served, or left.
  abbrev pub HasServedAll : View LatchEntry T → Type 0
  HasServedAll w = ((plain_after w).opened ≡ true) × ((plain_after w).waiters.line ≡ [])

  -- the last count down serves all who wait, unless a resumption is still owed
  abbrev pub IsPlainOpening : Down → View LatchEntry T → Type 0
  IsPlainOpening Already w = Unit {0}
  IsPlainOpening (Left left) w = Unit {0}
  IsPlainOpening Last w = HasServedAll w
  IsPlainOpening (LastOwing owed) w = (plain_after w).opened ≡ true

  -- and so does the end of what was owed
  abbrev pub IsPlainFinish : Result (Unit {0}) Owed → View LatchEntry T → Type 0
  IsPlainFinish (Ok done) w = HasServedAll w
  IsPlainFinish (Err again) w = (plain_after w).opened ≡ true

  -- In smart mode those who wait are served in order, and nothing else happens: so many of them,
  -- and the others still wait.
  pub record ServesFirst (own : List LatchEntry) (v w : View LatchEntry T) : Type 0 where
    pub served : List ℕ
    pub seen : w.seen ≡ v.seen ++ (own ++ delivers served)
    pub line : waiting_in v ≡ served ++ waiting_in w

  -- So does the last count down, and where nothing is owed then it serves all.
  abbrev pub OpensInOrder : View LatchEntry T → Down → View LatchEntry T → Type 0
  OpensInOrder v Already w = Unit {0}
  OpensInOrder v (Left left) w = Unit {0}
  OpensInOrder v Last w =
      w.seen ≡ v.seen ++ (entry.DownLast v.number ∷ entry.Open v.number ∷ delivers (waiting_in v))
  OpensInOrder v (LastOwing owed) w =
      ServesFirst (entry.DownLast v.number ∷ entry.Open v.number ∷ []) v w

  abbrev pub FinishesInOrder : View LatchEntry T → Result (Unit {0}) Owed → View LatchEntry T
      → Type 0
  FinishesInOrder v (Ok done) w = w.seen ≡ v.seen ++ delivers (waiting_in v)
  FinishesInOrder v (Err again) w = ServesFirst [] v w

  -- In simple mode a resumption comes to the number of each wait: it serves one that is in the
  -- line, and misses one that left. So they end, in the order of all these numbers.
  abbrev pub ends_due : View LatchEntry T → List Ending
  ends_due v = with_misses (plain_after v).holes (serves (waiting_in v))

  -- so many of them ended, in order, and nothing else happened
  pub record EndsFirst (own : List LatchEntry) (v w : View LatchEntry T) : Type 0 where
    pub ends : List Ending
    pub seen : w.seen ≡ v.seen ++ (own ++ woken_entries ends)
    pub due : ends_due v ≡ ends ++ ends_due w

  -- The last count down of simple mode ends all of them, unless one is still owed, and so does the
  -- end of what was owed.
  abbrev pub OpensByNumber : View LatchEntry T → Down → View LatchEntry T → Type 0
  OpensByNumber v Already w = Unit {0}
  OpensByNumber v (Left left) w = Unit {0}
  OpensByNumber v Last w =
      w.seen
      ≡ v.seen ++ (entry.DownLast v.number ∷ entry.Open v.number ∷ woken_entries (ends_due v))
  OpensByNumber v (LastOwing owed) w =
      EndsFirst (entry.DownLast v.number ∷ entry.Open v.number ∷ []) v w

  abbrev pub FinishesByNumber : View LatchEntry T → Result (Unit {0}) Owed → View LatchEntry T
      → Type 0
  FinishesByNumber v (Ok done) w = w.seen ≡ v.seen ++ woken_entries (ends_due v)
  FinishesByNumber v (Err again) w = EndsFirst [] v w

  -- A wait passes, or comes with the next number, or is refused by that number or below the limit.
  abbrev pub IsPlainWait : View LatchEntry T → Result LatchWait AcquireError → Type 0
  IsPlainWait v (Ok Passed) = (plain_after v).count ≡ 0
  IsPlainWait v (Ok (Later wait)) =
      ((plain_after v).opened ≡ false) × ((place_of wait).index ≡ (plain_after v).waiters.next)
  IsPlainWait v (Err Worn) = v.limit ≤ (plain_after v).waiters.next
  IsPlainWait v (Err Crowded) = (plain_after v).waiters.next < v.limit

  -- the wait k of the pass is in the line, or was served
  abbrev pub IsPlainPoll : ℕ → View LatchEntry T → LatchPolled → Type 0
  IsPlainPoll k v Through = IsServed k v.number (plain_after v).waiters.served
  IsPlainPoll k v (Pending wait) = Waits k v.number (plain_after v).waiters.line

  abbrev pub IsPlainCancel : ℕ → View LatchEntry T → LatchLeft → Type 0
  IsPlainCancel k v Gone = Waits k v.number (plain_after v).waiters.line
  IsPlainCancel k v (GoneOwing owed) = Waits k v.number (plain_after v).waiters.line
  IsPlainCancel k v TooLate = IsServed k v.number (plain_after v).waiters.served
