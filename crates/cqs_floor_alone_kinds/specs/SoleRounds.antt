-- The rounds of a barrier of the running queue, as a floor sees them.
use Rattle.std.specs.Prelude.{◌≡◌, ℕ, ◌≤◌, true, List, Option, Some, None, length, map, count_by, slice_get}
use Rattle.cqs_core.specs.Numbered.{EachAt}
use Rattle.cqs_barrier_object.specs.declared.entries.BarrierEntry.{BarrierEntry}
use Rattle.cqs_plan.specs.declared.plans.kind.Kind.{Kind}
use Rattle.cqs_plan.specs.declared.plans.kind.Kind.TheVariants as kind
use Rattle.cqs_plan.specs.Floor.{size_of}
use Rattle.cqs_plan.specs.FloorHistory.{is_over, of_rounds}
use Rattle.cqs_barrier.specs.Calls.{IsMine}
use Rattle.cqs_rule.specs.Passes.{pass_view}
use Rattle.cqs_rule_laws.specs.declared.config.Place.{Place}
use Rattle.cqs_floor_alone_kinds.specs.declared.round_sole.RoundSole.{RoundSole}
use Rattle.cqs_floor_alone_kinds.specs.declared.rounds_sole.RoundsSole.{RoundsSole}
use Rattle.cqs_floor_alone_kinds.specs.SoleRound.{IsFundedRound, news}
use Rattle.cqs_floor_alone_kinds.specs.Stores.{Store}
use Rattle.cqs_floor_alone_kinds.specs.Waits.{WaitsAt}

-- how many rounds a barrier has
abbrev pub IsOfRounds : Option Kind → ℕ → Type 0
IsOfRounds (Some (kind.Rounds parties rounds)) many = many ≡ rounds
IsOfRounds (Some (kind.Semaphore permits)) many = ⊥
IsOfRounds (Some kind.Mutex) many = ⊥
IsOfRounds (Some (kind.Pool elements)) many = ⊥
IsOfRounds (Some (kind.Latch count)) many = ⊥
IsOfRounds None many = ⊥

-- what happened in each round
abbrev pub seen_of : RoundSole → List BarrierEntry
seen_of x = news (pass_view x.pass).seen

abbrev pub all_seen : List RoundSole → List (List BarrierEntry)
all_seen rounds = map seen_of rounds

-- They are the rounds of such a barrier, at most 64, each with room for so many arrivals, and it is
-- counted how many are over.
pub record IsFunded (x : RoundsSole) (kind : Option Kind) (room waiting : ℕ)
    (held : List (List ℕ)) : Type 0 where
  pub sort : IsOfRounds kind (length x.rounds.items)
  pub few : length x.rounds.items ≤ 64
  pub each : EachAt (λ round r. IsFundedRound (size_of kind) room r) x.rounds.items
  pub over : x.over ≡ count_by (is_over (size_of kind)) (all_seen x.rounds.items)

-- its caller has the wait of this round
pub record HasIn (x : RoundsSole) (round : ℕ) (wait : Place) : Type 0 where
  pub sole : RoundSole
  pub there : slice_get x.rounds.items round ≡ Some sole
  pub waits : WaitsAt (pass_view sole.pass) wait

abbrev pub store_rounds : Store RoundsSole
store_rounds = record {
  history = λ x. of_rounds (all_seen x.rounds.items);
  funded = IsFunded;
  has = HasIn;
}

-- each round has one pass, which is its own
pub record IsAloneRound (x : RoundSole) : Type 0 where
  pub mine : IsMine x.barrier x.pass
  pub alone : (pass_view x.pass).alone ≡ true

abbrev pub AreAlone : List RoundSole → Type 0
AreAlone rounds = EachAt (λ round r. IsAloneRound r) rounds
