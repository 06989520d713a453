-- One round of a barrier of the running queue with its one pass, as a floor sees it, and what its
-- calls leave, in the words of the plain barrier.
use Rattle.std.specs.Prelude.{◌≡◌, ℕ, ◌+◌, ◌<◌, Bool, true, false, List, [], ◌∷◌, ◌++◌, filter, Option, Some, None}
use Rattle.cqs_core.specs.QueueWaiters.{Waits, IsServed}
use Rattle.cqs_barrier_object.specs.declared.entries.BarrierEntry.{BarrierEntry}
use Rattle.cqs_barrier_object.specs.declared.entries.BarrierEntry.TheVariants as entry
use Rattle.cqs_barrier_object.specs.SoleCaller.{delivers}
use Rattle.cqs_rule_laws.specs.CallRule.{IsReady}
use Rattle.cqs_barrier.specs.Calls.{IsMine, plain_after, waiting_in}
use Rattle.cqs_rule_laws.specs.declared.config.Place.{Place}
use Rattle.cqs_rule_laws.specs.declared.view.View.{View}
use Rattle.cqs_rule_laws.specs.Lists.{Has, without}
use Rattle.cqs_rule.specs.Passes.{pass_view}
use Rattle.cqs_rule_laws.specs.Views.{IsSame}
use Rattle.cqs_floor_alone_kinds.specs.declared.round_sole.RoundSole.{RoundSole}
use Rattle.cqs_floor_alone_kinds.specs.declared.sole_resource.Left.{Left}
use Rattle.cqs_floor_alone_kinds.specs.declared.sole_resource.Left.TheVariants.{Gone, Late, Through}
use Rattle.cqs_floor_alone_kinds.specs.declared.sole_resource.Looked.{Looked}
use Rattle.cqs_floor_alone_kinds.specs.declared.sole_resource.Looked.TheVariants as looked
use Rattle.cqs_floor_alone_kinds.specs.Waits.{WaitsAt}

-- an entry is news, but for a look that found nothing new
abbrev pub is_news : BarrierEntry → Bool
is_news (entry.LookPending c k) = false
is_news (entry.ArriveDoor c) = true
is_news (entry.ArriveLast c) = true
is_news (entry.Enter c k) = true
is_news (entry.Deliver k) = true
is_news (entry.Withdraw c k) = true
is_news (entry.Stay c k) = true
is_news (entry.Late c k) = true
is_news (entry.LookGranted c k) = true

-- a history without looks that found nothing new
abbrev pub news : List BarrierEntry → List BarrierEntry
news history = filter is_news history

-- The pass is alone, and is between two calls, which it makes as pass 0. It holds each party that
-- is still to arrive. The numbers that may still be drawn are below the limit, and each of its
-- waits was drawn.
pub record IsResting {T : Type 0} (v : View BarrierEntry T) (size room : ℕ) : Type 0 where
  pub size_is : v.opening.size ≡ size
  pub number : v.number ≡ 0
  pub alone : v.alone ≡ true
  pub ready : IsReady v.facts
  pub holds : v.facts.has.held ≡ (plain_after v).remaining
  pub below : (plain_after v).waiters.next + room < v.limit
  pub drawn : (k : ℕ) → Has k v.facts.waits → k < (plain_after v).waiters.next

-- it is a round of a barrier of so many parties, with room for so many arrivals
pub record IsFundedRound (parties room : ℕ) (x : RoundSole) : Type 0 where
  pub mine : IsMine x.barrier x.pass
  pub rests : IsResting (pass_view x.pass) parties room

-- as it is made: nothing has happened
pub record IsOpenedRound (parties room : ℕ) (x : RoundSole) : Type 0 where
  pub fresh : (pass_view x.pass).seen ≡ []
  pub funded : IsFundedRound parties room x

-- where a party may arrive, and where it may end its wait
pub record CanArrive (x : RoundSole) : Type 0 where
  pub parties : ℕ
  pub room : ℕ
  pub funded : IsFundedRound parties room x
  pub some : 0 < room
  pub to_come : 0 < (plain_after (pass_view x.pass)).remaining

pub record CanLeave (wait : Place) (x : RoundSole) : Type 0 where
  pub parties : ℕ
  pub room : ℕ
  pub funded : IsFundedRound parties room x
  pub has : WaitsAt (pass_view x.pass) wait

-- the pass of the one has come to that of the other by these entries, and has these waits
pub record ComesTo (entries : List BarrierEntry) (waits : List ℕ) (x y : RoundSole) : Type 0 where
  pub mine : IsMine y.barrier y.pass
  pub same : IsSame (pass_view x.pass) (pass_view y.pass)
  pub seen : (pass_view y.pass).seen ≡ (pass_view x.pass).seen ++ entries
  pub ready : IsReady (pass_view y.pass).facts
  pub waits_are : (pass_view y.pass).facts.waits ≡ waits
  pub holds : (pass_view y.pass).facts.has.held ≡ (plain_after (pass_view y.pass)).remaining
  pub keeps : (wait : Place) → WaitsAt (pass_view x.pass) wait
      → Has wait.index (pass_view y.pass).facts.waits → WaitsAt (pass_view y.pass) wait

abbrev pub HasArrived : RoundSole → Option Place → RoundSole → Type 0
HasArrived x None y =
    ((plain_after (pass_view x.pass)).remaining ≡ 1)
    × ComesTo (entry.ArriveLast 0 ∷ delivers (waiting_in (pass_view x.pass)))
    (pass_view x.pass).facts.waits x y
HasArrived x (Some wait) y =
    (1 < (plain_after (pass_view x.pass)).remaining)
    × (wait.index ≡ (plain_after (pass_view x.pass)).waiters.next)
    × WaitsAt (pass_view y.pass) wait
    × ComesTo (entry.ArriveDoor 0 ∷ entry.Enter 0 wait.index ∷ [])
    ((pass_view x.pass).facts.waits ++ wait.index ∷ []) x y

abbrev pub HasLooked : Place → RoundSole → Looked → RoundSole → Type 0
HasLooked wait x looked.Pending y =
    Waits wait.index 0 (plain_after (pass_view x.pass)).waiters.line
    × ComesTo (entry.LookPending 0 wait.index ∷ []) (pass_view x.pass).facts.waits x y
HasLooked wait x (looked.Got element) y = ⊥
HasLooked wait x looked.Through y =
    IsServed wait.index 0 (plain_after (pass_view x.pass)).waiters.served
    × ComesTo (entry.LookGranted 0 wait.index ∷ [])
    (without wait.index (pass_view x.pass).facts.waits) x y

abbrev pub HasLeft : Place → RoundSole → Left → RoundSole → Type 0
HasLeft wait x Gone y =
    Waits wait.index 0 (plain_after (pass_view x.pass)).waiters.line
    × ComesTo (entry.Withdraw 0 wait.index ∷ [])
    (without wait.index (pass_view x.pass).facts.waits) x y
HasLeft wait x (Late element) y = ⊥
HasLeft wait x Through y =
    IsServed wait.index 0 (plain_after (pass_view x.pass)).waiters.served
    × ComesTo (entry.Late 0 wait.index ∷ [])
    (without wait.index (pass_view x.pass).facts.waits) x y
