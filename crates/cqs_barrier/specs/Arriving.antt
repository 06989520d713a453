-- What an arrival answers, and why.
use Rattle.std.specs.Prelude.{◌≡◌, ◌⊎◌, ℕ, ◌+◌, ◌-◌, ◌<◌, ◌≤◌, List, [], ◌∷◌, ◌++◌, length, Result, Ok, Err}
use Rattle.cqs_core.specs.declared.cells.CoreState.TheVariants as state
use Rattle.cqs_core.specs.QueueSteps.{installs, takes}
use Rattle.cqs_barrier_object.specs.declared.entries.BarrierEntry.{BarrierEntry}
use Rattle.cqs_barrier_object.specs.SoleCaller.{delivers}
use Rattle.cqs_barrier_object.specs.declared.entries.BarrierEntry.TheVariants as entry
use Rattle.cqs_barrier_object.specs.BarrierEntries.{object_after}
use Rattle.cqs_rule_laws.specs.declared.view.View.{View}
use Rattle.cqs_rule_laws.specs.Facts.{facts_counted}
use Rattle.cqs_rule_laws.specs.Lists.{IsPrefix}
use Rattle.cqs_rule_laws.specs.Saw.{Saw}
use Rattle.cqs_rule.specs.Claims.{WasCrowded}
use Rattle.cqs_rule.specs.Waits.{place_of, HasWait}
use Rattle.cqs_suspend.specs.Suspends.{EndsBy}
use Rattle.cqs_barrier.specs.declared.answers.Arrived.{Arrived}
use Rattle.cqs_barrier.specs.declared.answers.Arrived.TheVariants.{Last, LastOwing, Later}
use Rattle.cqs_barrier.specs.declared.answers.Owing.{Owing}
use Rattle.cqs_barrier.specs.Barrier.{barrier_object}
use Rattle.cqs_rule_laws.specs.CallRule.{IsReady}
use Rattle.cqs_barrier.specs.Calls.{CallRule, Rests, plain_after}
use Rattle.cqs_barrier.specs.Causes.{primitive_of, CellWas}
use Rattle.cqs_barrier.specs.Endings.{Served, owed_by}
use Rattle.cqs_barrier.specs.Leaving.{RemainingWas}
use Rattle.cqs_barrier.specs.Resuming.{HasOwing, IsHandedBack, owing_under, HasPassedOver}
use Rattle.cqs_barrier.specs.Waits.{wait_in}

module _ {T : Type 0} where
  -- the suspend counter was loaded as n: it is the next number of the plain barrier after all that
  -- the pass has seen
  pub record NextIs (v : View BarrierEntry T) (n : ℕ) (w : View BarrierEntry T) : Type 0 where
    pub saw : Saw barrier_object v (facts_counted v.limit n v.facts) [] w
    pub next : (plain_after w).waiters.next ≡ n

  -- An arrival was refused: as many numbers were drawn as the limit allows, or more. Nothing was
  -- appended, and the pass is at what it was.
  pub record IsWorn (v w : View BarrierEntry T) : Type 0 where
    pub called : CallRule v [] [] w
    pub worn : v.limit ≤ (plain_after w).waiters.next
    pub rests : Rests v v.facts.has.held v.facts.waits w

  -- one that wasn't refused as worn had found fewer
  pub record IsBelow (v w : View BarrierEntry T) : Type 0 where
    pub before : List BarrierEntry
    pub since : IsPrefix v.seen before
    pub seen : IsPrefix before w.seen
    pub below : (object_after w.opening.size before).waiters.next < v.limit

  -- An arrival was refused as crowded: it loaded the suspend counter below the limit, and then
  -- could have no two spare slots. Nothing was appended, and the pass is at what it was, but for
  -- its spare slots.
  pub record IsCrowded (v w : View BarrierEntry T) : Type 0 where
    pub called : CallRule v [] [] w
    pub count : ℕ
    pub next : (plain_after w).waiters.next ≡ count
    pub below : count < v.limit
    pub crowded : WasCrowded 2 (facts_counted v.limit count v.facts) v w
    pub rests : Rests v v.facts.has.held v.facts.waits w

  -- The remaining number was found as 1, and the party is the last.
  pub record WasLast (v w : View BarrierEntry T) : Type 0 where
    pub before : List BarrierEntry
    pub found : RemainingWas v 1 before (entry.ArriveLast v.number ∷ []) w

  -- it was found above 1: others are still to arrive
  pub record WasEarly (v w : View BarrierEntry T) : Type 0 where
    pub count : ℕ
    pub before : List BarrierEntry
    pub more : 1 < count
    pub found : RemainingWas v count before (entry.ArriveDoor v.number ∷ []) w

  -- The last party: the waits of these numbers were served by this call, each with its cell. Of the
  -- resumptions, one for each other party, all have ended but those that are owed still.
  pub record CameLast (ks : List ℕ) (v w : View BarrierEntry T) : Type 0 where
    pub called : CallRule v (entry.ArriveLast v.number ∷ []) (delivers ks) w
    pub last : WasLast v w
    pub served : Served ks v w
    pub many : length served.ends + owed_by w.facts ≡ w.opening.size - 1

  -- An earlier one: it drew this number, and these entries came after it, as the last ones.
  pub record CameEarly (k : ℕ) (further : List BarrierEntry) (v w : View BarrierEntry T)
      : Type 0 where
    pub called : CallRule v (entry.ArriveDoor v.number ∷ entry.Enter v.number k ∷ []) further w
    pub ends : (before : List BarrierEntry) × (w.seen ≡ before ++ further)
    pub early : WasEarly v w

  abbrev pub Arrives : View BarrierEntry T → Arrived → View BarrierEntry T → Type 0
  Arrives v Last w =
      (((ks : List ℕ) × CameLast ks v w)
      ⊎ ((k : ℕ) × CameEarly k (entry.Deliver k ∷ []) v w))
      × Rests v (v.facts.has.held - 1) v.facts.waits w
  Arrives v (LastOwing owing) w =
      (ks : List ℕ) × CameLast ks v w × HasOwing w.facts owing
      × IsHandedBack (owing_under owing) v w
      × (w.facts.has.held ≡ v.facts.has.held - 1) × (w.facts.waits ≡ v.facts.waits)
  Arrives v (Later wait) w =
      CameEarly (place_of (wait_in wait)).index [] v w
      × HasWait w (wait_in wait)
      × Rests v (v.facts.has.held - 1) (v.facts.waits ++ (place_of (wait_in wait)).index ∷ []) w

  -- The last step of an arrival that drew a number was made at the cell of it: the value of its
  -- resume was there, or nothing was, and the party waits.
  abbrev pub EndsAtCell : View BarrierEntry T → Arrived → View BarrierEntry T → Type 0
  EndsAtCell v Last w =
      ((ks : List ℕ) × CameLast ks v w)
      ⊎ ((k : ℕ) × CameEarly k (entry.Deliver k ∷ []) v w
      × CellWas state.Value k (entry.Deliver k ∷ []) w)
  EndsAtCell v (LastOwing owing) w = Unit {0}
  EndsAtCell v (Later wait) w = CellWas state.Empty (place_of (wait_in wait)).index [] w

  -- a party at the door drew a number: the value of its resume was there, or the party waits
  abbrev pub WaitsForOthers : View BarrierEntry T → Arrived → View BarrierEntry T → Type 0
  WaitsForOthers v Last w =
      (k : ℕ) × (payload : ℕ) × EndsBy barrier_object primitive_of takes 2 k payload v w
  WaitsForOthers v (LastOwing owing) w = ⊥
  WaitsForOthers v (Later wait) w =
      EndsBy barrier_object primitive_of installs 0 (place_of (wait_in wait)).index 0 v w
      × HasWait w (wait_in wait)

  -- A finish made no step but those of the resumptions that were owed, which served these waits,
  -- each with its cell. All that are owed no more have ended.
  pub record Finished (ks : List ℕ) (v w : View BarrierEntry T) : Type 0 where
    pub called : CallRule v [] (delivers ks) w
    pub served : Served ks v w
    pub many : length served.ends + owed_by w.facts ≡ owed_by v.facts
    pub held : w.facts.has.held ≡ v.facts.has.held
    pub waits : w.facts.waits ≡ v.facts.waits

  -- all that were owed ended, by way of these numbers that were passed over; or one was handed back
  abbrev pub Finishes : View BarrierEntry T → Result (Unit {0}) Owing → View BarrierEntry T → Type 0
  Finishes v (Ok done) w =
      (ks : List ℕ) × (over : List ℕ) × Finished ks v w × HasPassedOver over v w × IsReady w.facts
  Finishes v (Err owing) w =
      (ks : List ℕ) × Finished ks v w × IsHandedBack (owing_under owing) v w
      × HasOwing w.facts owing
