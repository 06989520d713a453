-- A pass that is alone: each of its calls is the plain pool's call, as one thread makes it.
use Rattle.std.specs.Prelude.{◌≡◌, ◌⊎◌, ℕ, true, List, [], ◌∷◌, ◌++◌, length, Some, None}
use Rattle.cqs_core.specs.Numbered.{IsIn}
use Rattle.cqs_core.specs.QueueLine.{Waiting}
use Rattle.cqs_core.specs.QueueWaiters.{Waits}
use Rattle.cqs_pool_object.specs.declared.entries.PoolEntry.{PoolEntry}
use Rattle.cqs_pool_object.specs.declared.entries.PoolEntry.TheVariants as entry
use Rattle.cqs_pool_object.specs.PoolObject as plain
use Rattle.cqs_pool_object.specs.PoolObject.{IsGiven}
use Rattle.cqs_pool_object.specs.PoolOrder.{IsByOne, IsFirstOnWay}
use Rattle.cqs_rule_laws.specs.declared.view.View.{View}
use Rattle.cqs_rule.specs.Waits.{place_of}
use Rattle.cqs_pool.specs.declared.answers.Placed.{Placed}
use Rattle.cqs_pool.specs.declared.answers.Placed.TheVariants.{Sent, Left, Under}
use Rattle.cqs_pool.specs.declared.answers.PoolLeft.{PoolLeft}
use Rattle.cqs_pool.specs.declared.answers.PoolLeft.TheVariants.{Cancelled, TooLate}
use Rattle.cqs_pool.specs.declared.answers.PoolPolled.{PoolPolled}
use Rattle.cqs_pool.specs.declared.answers.PoolPolled.TheVariants.{Granted, Pending}
use Rattle.cqs_pool.specs.declared.answers.Taking.{Taking}
use Rattle.cqs_pool.specs.declared.answers.Taking.TheVariants.{Took, Later}
use Rattle.cqs_pool.specs.declared.element.Element.{Element}
use Rattle.cqs_pool.specs.Answers.{IsInHand}
use Rattle.cqs_pool.specs.Calls.{plain_after}
use Rattle.cqs_pool.specs.Elements.{number_of, wait_of}

-- the first of the line
abbrev pub IsFirstOf : List Waiting → ℕ → Type 0
IsFirstOf [] k = ⊥
IsFirstOf (w ∷ line) k = w.wait ≡ k

-- just one element is on its way, or nobody waits: a put that was handed back goes to the first of
-- the line, or is free
abbrev pub CanEnd : plain.Pool → Type 0
CanEnd o = (length o.way ≡ 1) ⊎ (o.line ≡ [])

module _ {T : Type 0} where
  -- A take has the next number, and an element that is free; or it waits, and none is.
  abbrev pub IsPlainTake : View PoolEntry T → Taking → Type 0
  IsPlainTake v (Took element) =
      (wait_of element ≡ (plain_after v).next) × IsIn (number_of element) (plain_after v).way
  IsPlainTake v (Later wait) =
      ((place_of wait).index ≡ (plain_after v).next) × ((plain_after v).way ≡ [])

  -- A put goes to the first of the line; or nobody waits, and the element is free.
  abbrev pub IsPlainPut : View PoolEntry T → Placed → View PoolEntry T → Type 0
  IsPlainPut v (Sent k) w = IsFirstOf (plain_after v).line k × ((plain_after v).way ≡ [])
  IsPlainPut v (Left k) w = (plain_after v).line ≡ []
  IsPlainPut v (Under under) w = CanEnd (plain_after w)

  -- The end of one that was handed back does; or it is handed back again, and nothing has changed.
  abbrev pub IsPlainEnd : View PoolEntry T → Placed → View PoolEntry T → Type 0
  IsPlainEnd v (Sent k) w = IsFirstOf (plain_after v).line k
  IsPlainEnd v (Left k) w = (plain_after v).line ≡ []
  IsPlainEnd v (Under under) w = plain_after w ≡ plain_after v

  -- A look at the wait k finds it in the line; or served, and the element is the one with which it
  -- was.
  abbrev pub IsPlainPoll : ℕ → View PoolEntry T → PoolPolled → Type 0
  IsPlainPoll k v (Granted element) =
      IsGiven k v.number (number_of element) (plain_after v).served
  IsPlainPoll k v (Pending wait) = Waits k v.number (plain_after v).line

  -- A cancel finds it in the line, which it leaves, and no element is on its way to it; or served.
  abbrev pub IsPlainCancel : ℕ → View PoolEntry T → PoolLeft → View PoolEntry T → Type 0
  IsPlainCancel k v (Cancelled None) w =
      Waits k v.number (plain_after v).line × (w.seen ≡ v.seen ++ entry.Leave v.number k ∷ [])
  IsPlainCancel k v (Cancelled (Some under)) w = ⊥
  IsPlainCancel k v (TooLate element) w =
      IsGiven k v.number (number_of element) (plain_after v).served

  -- it is alone, and nobody else has made a call
  abbrev pub IsOnlyCaller : View PoolEntry T → Type 0
  IsOnlyCaller v = (v.alone ≡ true) × IsByOne v.number v.seen

  -- Which of the free elements it takes then: the first of those on their way. At the start they
  -- are in order of their numbers, and each that is put goes last.
  abbrev pub TakesFirst : View PoolEntry T → Taking → Type 0
  TakesFirst v (Took element) = IsFirstOnWay (number_of element) (plain_after v).way
  TakesFirst v (Later wait) = Unit {0}

  -- the element that comes is none of those that the pass has in hand already
  abbrev pub IsNewTo : View PoolEntry T → Element → Type 0
  IsNewTo v element = IsInHand (number_of element) v.facts → ⊥

  abbrev pub TakesNew : View PoolEntry T → Taking → Type 0
  TakesNew v (Took element) = IsNewTo v element
  TakesNew v (Later wait) = Unit {0}

  abbrev pub PollsNew : View PoolEntry T → PoolPolled → Type 0
  PollsNew v (Granted element) = IsNewTo v element
  PollsNew v (Pending wait) = Unit {0}

  abbrev pub CancelsNew : View PoolEntry T → PoolLeft → Type 0
  CancelsNew v (Cancelled under) = Unit {0}
  CancelsNew v (TooLate element) = IsNewTo v element
