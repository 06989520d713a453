-- The rounds of a barrier that workers share, with the passes of one of them, as a floor sees them.
use Rattle.std.specs.Prelude.{◌≡◌, ℕ, ◌<◌, ◌≤◌, List, [], ◌∷◌, drop, length, map, sum_by, Some, slice_get}
use Rattle.cqs_core.specs.Numbered.{EachAt}
use Rattle.cqs_barrier_object.specs.declared.entries.BarrierEntry.{BarrierEntry}
use Rattle.cqs_plan.specs.declared.plans.kind.Kind.{Kind}
use Rattle.cqs_plan.specs.declared.plans.kind.Kind.TheVariants as kind
use Rattle.cqs_plan.specs.Floor.{size_of}
use Rattle.cqs_plan.specs.FloorHistory.{of_rounds}
use Rattle.cqs_rule_laws.specs.declared.config.Place.{Place}
use Rattle.cqs_floor_shared_any.specs.declared.kinds.round.SharedRound.{SharedRound}
use Rattle.cqs_floor_shared_any.specs.declared.kinds.rounds.SharedRounds.{SharedRounds}
use Rattle.cqs_floor_shared_kinds.specs.Families.{queue_name}
use Rattle.cqs_floor_shared_any.specs.RoundsOne.{Crew, IsRound, view_of}
use Rattle.cqs_floor_shared_kinds.specs.Runs.{WaitsAt}
use Rattle.cqs_floor_shared_kinds.specs.Shares.{Funds, Share}

-- the resource is a barrier, of so many rounds
abbrev pub IsOfRounds : Kind → ℕ → Type 0
IsOfRounds (kind.Rounds parties rounds) many = many ≡ rounds
IsOfRounds (kind.Semaphore permits) many = ⊥
IsOfRounds kind.Mutex many = ⊥
IsOfRounds (kind.Pool elements) many = ⊥
IsOfRounds (kind.Latch count) many = ⊥

abbrev pub IsBarrier : Kind → Type 0
IsBarrier (kind.Rounds parties rounds) = Unit {0}
IsBarrier (kind.Semaphore permits) = ⊥
IsBarrier kind.Mutex = ⊥
IsBarrier (kind.Pool elements) = ⊥
IsBarrier (kind.Latch count) = ⊥

-- what the passes have in common is read off that of the first round
abbrev pub crew_at : SharedRound → Crew
crew_at r = record {
  number = (view_of r).number;
  met = drop 1 (view_of r).own;
  passes = (view_of r).passes;
  limit = (view_of r).limit;
}

abbrev pub crew_in : List SharedRound → Crew
crew_in [] = record { number = 0; met = []; passes = 0; limit = 0 }
crew_in (r ∷ rounds) = crew_at r

abbrev pub crew_of : SharedRounds → Crew
crew_of x = crew_in x.rounds.items

-- of a round what its pass has seen, how many parties it holds and how many waits it has, and the
-- name of its queue; and of each round, in order
abbrev pub seen_of : SharedRound → List BarrierEntry
seen_of r = (view_of r).seen

abbrev pub held_of : SharedRound → ℕ
held_of r = (view_of r).facts.has.held

abbrev pub waits_of : SharedRound → ℕ
waits_of r = length (view_of r).facts.waits

abbrev pub name_of : SharedRound → List ℕ
name_of r = queue_name r.pass

abbrev pub seen_in : List SharedRound → List (List BarrierEntry)
seen_in rounds = map seen_of rounds

abbrev pub held_in : List SharedRound → List ℕ
held_in rounds = map held_of rounds

abbrev pub names_in : List SharedRound → List (List ℕ)
names_in rounds = map name_of rounds

-- They are the rounds of such a barrier, each with a pass of this worker, whose waits are those of
-- the jobs. Nothing of a barrier can be held, and nothing comes with its number.
pub record IsFunded (x : SharedRounds) (a : Funds) : Type 0 where
  pub sort : IsOfRounds a.kind (length x.rounds.items)
  pub few : length x.rounds.items ≤ 64
  pub some : 0 < size_of (Some a.kind)
  pub none_came : a.came ≡ 0
  pub each : EachAt (λ round r. IsRound (size_of (Some a.kind)) (crew_of x) r) x.rounds.items
  pub waits_are : sum_by waits_of x.rounds.items ≡ a.waiting

-- its caller has the wait of this round
pub record HasIn (x : SharedRounds) (round : ℕ) (wait : Place) : Type 0 where
  pub one : SharedRound
  pub there : slice_get x.rounds.items round ≡ Some one
  pub waits : WaitsAt (view_of one) wait

abbrev pub share_rounds : Share SharedRounds
share_rounds = record {
  seen = λ x. of_rounds (seen_in x.rounds.items);
  number = λ x. (crew_of x).number;
  met = λ x. (crew_of x).met;
  passes = λ x. (crew_of x).passes;
  limit = λ x. (crew_of x).limit;
  parties = λ x. held_in x.rounds.items;
  family = λ x. names_in x.rounds.items;
  funded = IsFunded;
  has = HasIn;
}
