-- One round of a barrier that workers share, with the pass of one of them, as a floor sees it; and
-- what each call leaves of it.
use Rattle.std.specs.Prelude.{◌≡◌, ◌⊎◌, ℕ, ◌+◌, ◌-◌, ◌<◌, ◌≤◌, Bool, true, false, List, [], ◌∷◌, ◌++◌, drop, count_by, Option, Some}
use Rattle.std.specs.Arc.{arc_value}
use Rattle.cqs_barrier.specs.Barrier.{barrier_object}
use Rattle.cqs_rule_laws.specs.CallRule.{IsReady}
use Rattle.cqs_barrier.specs.Calls.{IsMine, Rests}
use Rattle.cqs_barrier_object.specs.BarrierEntries.{object_after}
use Rattle.cqs_barrier_object.specs.BarrierNames.{entry_names}
use Rattle.cqs_barrier_object.specs.declared.entries.BarrierEntry.{BarrierEntry}
use Rattle.cqs_barrier_object.specs.declared.entries.BarrierEntry.TheVariants as entry
use Rattle.cqs_core.specs.Numbered.{IsIn}
use Rattle.cqs_plan.specs.declared.floors.answers.FloorLeave.{FloorLeave}
use Rattle.cqs_plan.specs.declared.floors.answers.FloorLeave.TheVariants.{Gone, Late}
use Rattle.cqs_plan.specs.declared.floors.answers.FloorLook.{FloorLook}
use Rattle.cqs_plan.specs.declared.floors.answers.FloorLook.TheVariants.{Pending, Granted}
use Rattle.cqs_rule_laws.specs.declared.config.Place.{Place}
use Rattle.cqs_rule_laws.specs.declared.view.View.{View}
use Rattle.cqs_rule_laws.specs.Crew.{CameWith}
use Rattle.cqs_rule_laws.specs.Lists.{IsDistinct, without}
use Rattle.cqs_rule.specs.Passes.{pass_view}
use Rattle.cqs_rule.specs.Seats.{HasGiven, HasMet}
use Rattle.cqs_floor_shared.specs.AnswerEntries.{party_arrived, party_left, party_looked}
use Rattle.cqs_floor_shared.specs.Entries.{enters_at_barrier}
use Rattle.cqs_floor_shared_any.specs.declared.kinds.round.SharedRound.{SharedRound}
use Rattle.cqs_floor_shared_kinds.specs.declared.resource.Came.{Came}
use Rattle.cqs_floor_shared_kinds.specs.declared.resource.Came.TheVariants as came
use Rattle.cqs_floor_shared_kinds.specs.Accounts.{over}
use Rattle.cqs_floor_shared_kinds.specs.Families.{queue_name}
use Rattle.cqs_floor_shared_kinds.specs.Runs.{WaitsAt, Went}
pub use Rattle.cqs_floor_shared_any.specs.RoundLeaves.{HasNumbers, LeavesAt}

-- a caller was the last to arrive
abbrev pub lasts : BarrierEntry → ℕ
lasts (entry.ArriveLast c) = 1
lasts (entry.ArriveDoor c) = 0
lasts (entry.Enter c k) = 0
lasts (entry.Deliver k) = 0
lasts (entry.Withdraw c k) = 0
lasts (entry.Stay c k) = 0
lasts (entry.Late c k) = 0
lasts (entry.LookGranted c k) = 0
lasts (entry.LookPending c k) = 0

-- what the passes of all rounds have in common: their number, the numbers that were met into them,
-- how many may be made in each round, and the limit of its waits
pub record Crew : Type 0 where
  pub number : ℕ
  pub met : List ℕ
  pub passes : ℕ
  pub limit : ℕ

abbrev pub numbers_of : Crew → List ℕ
numbers_of c = c.number ∷ c.met

-- how a round that has seen this stands: so many parties are still to arrive
abbrev pub to_arrive : ℕ → List BarrierEntry → ℕ
to_arrive parties seen = (object_after parties seen).remaining

-- the view of the pass of a round
abbrev pub view_of : SharedRound → View BarrierEntry (Unit {0})
view_of x = pass_view x.pass

-- What a round is between two calls of a floor: the pass is its own and owes nothing, and has
-- these numbers, none of them twice. Where it was told that all have arrived they have, and where
-- it wasn't none of its own was the last.
pub record IsRound (parties : ℕ) (crew : Crew) (x : SharedRound) : Type 0 where
  pub mine : IsMine (arc_value x.barrier) x.pass
  pub size_is : (view_of x).opening.size ≡ parties
  pub ready : IsReady (view_of x).facts
  pub number : (view_of x).number ≡ crew.number
  pub own : (view_of x).own ≡ numbers_of crew
  pub distinct : IsDistinct (numbers_of crew)
  pub passes : (view_of x).passes ≡ crew.passes
  pub limit : (view_of x).limit ≡ crew.limit
  pub told : x.over ≡ true → to_arrive parties (view_of x).seen ≡ 0
  pub untold : x.over ≡ false → over entry_names lasts (numbers_of crew) (view_of x).seen ≡ 0

-- The round went on by one call: these entries are the caller's, and the pass holds so many parties
-- then, and has these waits.
pub record Goes (entries : List BarrierEntry) (held : ℕ) (waits : List ℕ) (x y : SharedRound)
    : Type 0 where
  pub same_one : y.barrier ≡ x.barrier
  pub mine : IsMine (arc_value x.barrier) y.pass
  pub went : Went barrier_object (view_of x) entries (view_of y)
  pub rests : Rests (view_of x) held waits (view_of y)
  pub keeps : (parties : ℕ) (crew : Crew) → IsRound parties crew x → IsRound parties crew y

-- where a party may arrive, and where it may end its wait
pub record CanCome (x : SharedRound) : Type 0 where
  pub parties : ℕ
  pub crew : Crew
  pub round : IsRound parties crew x
  pub holds : 0 < (view_of x).facts.has.held

pub record CanLeave (wait : Place) (x : SharedRound) : Type 0 where
  pub parties : ℕ
  pub crew : Crew
  pub round : IsRound parties crew x
  pub has : WaitsAt (view_of x) wait

-- The party goes on: it was the last, or it drew a number for which the last had left its value.
pub record GoesOn (x y : SharedRound) : Type 0 where
  pub drew : Option ℕ
  pub goes : Goes (party_arrived (view_of x).number drew) ((view_of x).facts.has.held - 1)
      (view_of x).facts.waits x y
  pub had : (k : ℕ) → drew ≡ Some k → IsIn (entry.Deliver k) (view_of y).seen

abbrev pub HasCome : SharedRound → Came → SharedRound → Type 0
HasCome x (came.Now e) y = (e ≡ 0) × GoesOn x y
HasCome x (came.Under k) y = ⊥
HasCome x (came.Waits wait) y =
    Goes (party_arrived (view_of x).number (Some wait.index)) ((view_of x).facts.has.held - 1)
    ((view_of x).facts.waits ++ wait.index ∷ []) x y
    × WaitsAt (view_of y) wait
HasCome x came.Worn y =
    Goes [] (view_of x).facts.has.held (view_of x).facts.waits x y
    × ((view_of x).limit ≤ count_by enters_at_barrier (view_of y).seen)

abbrev pub HasLooked : Place → SharedRound → FloorLook → SharedRound → Type 0
HasLooked wait x Pending y =
    Goes (party_looked (view_of x).number wait.index Pending) (view_of x).facts.has.held
    (view_of x).facts.waits x y
HasLooked wait x (Granted e) y =
    (e ≡ 0)
    × Goes (party_looked (view_of x).number wait.index (Granted e)) (view_of x).facts.has.held
    (without wait.index (view_of x).facts.waits) x y

abbrev pub HasLeft : Place → SharedRound → FloorLeave → SharedRound → Type 0
HasLeft wait x Gone y =
    Goes (entry.Withdraw (view_of x).number wait.index ∷ []) ((view_of x).facts.has.held + 1)
    (without wait.index (view_of x).facts.waits) x y
HasLeft wait x (Late e) y =
    (e ≡ 0) × (stays : Bool)
    × Goes (party_left (view_of x).number wait.index (Late e) stays) (view_of x).facts.has.held
    (without wait.index (view_of x).facts.waits) x y

-- as it is made: nothing has happened
pub record IsOpenedRound (parties workers room : ℕ) (x : SharedRound) : Type 0 where
  pub round : IsRound parties (record
      { number = 0; met = []; passes = workers; limit = room + 1 }) x
  pub nothing : (view_of x).seen ≡ []
  pub held : (view_of x).facts.has.held ≡ parties
  pub waits : (view_of x).facts.waits ≡ []

-- where it may be split: its pass holds so many parties
pub record CanGive (gives : ℕ) (x : SharedRound) : Type 0 where
  pub parties : ℕ
  pub crew : Crew
  pub round : IsRound parties crew x
  pub enough : gives ≤ (view_of x).facts.has.held

-- its pass made another, which has seen what it has seen, and gave it so many parties
pub record HasSplitOff (gives : ℕ) (x made y : SharedRound) : Type 0 where
  pub same_one : y.barrier ≡ x.barrier
  pub mine : IsMine (arc_value x.barrier) y.pass
  pub same_over : y.over ≡ x.over
  pub gave : HasGiven gives x.pass y.pass
  pub shared : arc_value made.barrier ≡ arc_value x.barrier
  pub made_mine : IsMine (arc_value x.barrier) made.pass
  pub made_over : made.over ≡ false
  pub came : CameWith barrier_object gives (view_of y) (view_of made)

-- where it may take the pass of another worker in: that is of the same barrier, and has no wait
pub record CanTakeIn (given x : SharedRound) : Type 0 where
  pub parties : ℕ
  pub crew : Crew
  pub theirs : Crew
  pub round : IsRound parties crew x
  pub given_round : IsRound parties theirs given
  pub same : queue_name given.pass ≡ queue_name x.pass
  pub waitless : (view_of given).facts.waits ≡ []

pub record HasTakenIn (given x y : SharedRound) : Type 0 where
  pub same_one : y.barrier ≡ x.barrier
  pub mine : IsMine (arc_value x.barrier) y.pass
  pub met : HasMet x.pass given.pass y.pass
  pub held : (view_of y).facts.has.held
      ≡ (view_of x).facts.has.held + (view_of given).facts.has.held
  pub ready : IsReady (view_of y).facts
  pub told : y.over ≡ true → (x.over ≡ true) ⊎ (given.over ≡ true)
  pub untold : y.over ≡ false → (x.over ≡ false) × (given.over ≡ false)
