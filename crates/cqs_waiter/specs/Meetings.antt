-- How a party came through a barrier: it was the last; or it waited, and looked at its wait until
-- it was served. What the barrier's own calls gave, one after the other.
use Rattle.std.specs.Prelude.{◌≡◌, true, [], None, Result, Ok, Err, IfOk, OnOk, IsErrOf}
use Rattle.cqs_barrier_object.specs.declared.entries.BarrierEntry.{BarrierEntry}
use Rattle.cqs_rule_laws.specs.declared.config.AcquireError.{AcquireError}
use Rattle.cqs_rule_laws.specs.declared.config.AcquireError.TheVariants as refused
use Rattle.cqs_rule_laws.specs.declared.view.Facts.{Facts}
use Rattle.cqs_rule_laws.specs.declared.view.View.{View}
use Rattle.cqs_rule_laws.specs.CallRule.{IsReady}
use Rattle.cqs_rule.specs.Waits.{place_of}
use Rattle.cqs_barrier.specs.declared.answers.Arrived.{Arrived}
use Rattle.cqs_barrier.specs.declared.answers.Arrived.TheVariants.{Last, LastOwing, Later}
use Rattle.cqs_barrier.specs.declared.answers.PartyPolled.{PartyPolled}
use Rattle.cqs_barrier.specs.declared.answers.PartyPolled.TheVariants as polled
use Rattle.cqs_barrier.specs.declared.answers.PartyWait.{PartyWait}
use Rattle.cqs_barrier.specs.Alone.{IsPlainArrive, IsPlainPoll}
use Rattle.cqs_barrier.specs.Answers.{IsPolled}
use Rattle.cqs_barrier.specs.Arriving.{Arrives, EndsAtCell, IsBelow, IsCrowded, IsWorn}
use Rattle.cqs_barrier.specs.Calls.{CallRule}
use Rattle.cqs_barrier.specs.Entries.{polled_entries}
use Rattle.cqs_barrier.specs.Resuming.{HasOwing}
use Rattle.cqs_barrier.specs.Waits.{wait_in}
use Rattle.cqs_waiter.specs.declared.barriers.Passage.{Passage}
use Rattle.cqs_waiter.specs.declared.barriers.Passage.TheVariants.{Through, ThroughOwing}
use Rattle.cqs_waiter.specs.Arrivals as calls
use Rattle.cqs_waiter.specs.Arrivals.{WaiterCalls}

-- what the pass is at then: the last party may still owe resumptions
abbrev pub IsReadyAfter : Result Passage AcquireError → Facts → Type 0
IsReadyAfter (Ok Through) f = IsReady f
IsReadyAfter (Ok (ThroughOwing owing)) f = HasOwing f owing
IsReadyAfter (Err e) f = IsReady f

-- a party that goes through at once is the last, or came when the last had arrived
abbrev pub arrived_of : Passage → Arrived
arrived_of Through = Last
arrived_of (ThroughOwing owing) = LastOwing owing

-- one that has waited owes nothing
abbrev pub OwesNothing : Passage → Type 0
OwesNothing Through = Unit {0}
OwesNothing (ThroughOwing owing) = ⊥

module _ {T : Type 0} where
  -- an arrival
  pub record HasArrived (v : View BarrierEntry T) (answer : Result Arrived AcquireError)
      (w : View BarrierEntry T) : Type 0 where
    pub worn : IsErrOf answer refused.Worn → IsWorn v w
    pub crowded : IsErrOf answer refused.Crowded → IsCrowded v w
    pub below : OnOk answer (IsBelow v w)
    pub arrived : IfOk answer (λ arrived. Arrives v arrived w)
    pub cell : IfOk answer (λ arrived. EndsAtCell v arrived w)
    pub alone : v.alone ≡ true → IfOk answer (λ arrived. IsPlainArrive v arrived w)

  -- a look at a wait
  pub record HasPolled (wait : PartyWait) (v : View BarrierEntry T) (answer : PartyPolled)
      (w : View BarrierEntry T) : Type 0 where
    pub called : CallRule v (polled_entries v.number (place_of (wait_in wait)).index answer) [] w
    pub polled : IsPolled (wait_in wait) v answer w
    pub alone : v.alone ≡ true → IsPlainPoll (place_of (wait_in wait)).index v answer

  abbrev pub party_calls : WaiterCalls (View BarrierEntry T) PartyWait Passage
  party_calls = record {
    at_once = λ v passage w. HasArrived v (Ok (arrived_of passage)) w;
    waits = λ v wait w. HasArrived v (Ok (Later wait)) w;
    refuses = λ v e w. HasArrived v (Err e) w;
    serves = λ wait v passage w. OwesNothing passage × HasPolled wait v polled.Through w;
    pends = λ wait v again w. HasPolled wait v (polled.Pending again) w;
  }

  -- what came of an arrival
  abbrev pub PassesBarrier : View BarrierEntry T → Result Passage AcquireError
      → View BarrierEntry T → Type 0
  PassesBarrier v answer w = calls.Arrives party_calls v None answer w
