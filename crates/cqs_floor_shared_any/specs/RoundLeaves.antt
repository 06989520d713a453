-- What a party that gives its wait up needs of its pass, and leaves of it: it has withdrawn, or it
-- came too late and goes through.
use Rattle.std.specs.Prelude.{◌≡◌, ℕ, ◌+◌, Bool, [], ◌∷◌, drop}
use Rattle.cqs_barrier.specs.Barrier.{barrier_object}
use Rattle.cqs_barrier.specs.Calls.{Rests}
use Rattle.cqs_barrier_object.specs.declared.entries.BarrierEntry.{BarrierEntry}
use Rattle.cqs_barrier_object.specs.declared.entries.BarrierEntry.TheVariants as entry
use Rattle.cqs_plan.specs.declared.floors.answers.FloorLeave.{FloorLeave}
use Rattle.cqs_plan.specs.declared.floors.answers.FloorLeave.TheVariants.{Gone, Late}
use Rattle.cqs_rule_laws.specs.declared.view.View.{View}
use Rattle.cqs_rule_laws.specs.Lists.{IsDistinct, without}
use Rattle.cqs_floor_shared.specs.AnswerEntries.{party_left}
use Rattle.cqs_floor_shared_kinds.specs.Runs.{Went}

-- the pass has its own number first among those that it has
pub record HasNumbers {T : Type 0} (v : View BarrierEntry T) : Type 0 where
  pub first : v.own ≡ v.number ∷ drop 1 v.own
  pub distinct : IsDistinct v.own

abbrev pub LeavesAt : ℕ → View BarrierEntry (Unit {0}) → FloorLeave → View BarrierEntry (Unit {0})
    → Type 0
LeavesAt k v Gone w =
    Went barrier_object v (entry.Withdraw v.number k ∷ []) w
    × Rests v (v.facts.has.held + 1) (without k v.facts.waits) w
LeavesAt k v (Late e) w =
    (e ≡ 0) × (stays : Bool) × Went barrier_object v (party_left v.number k (Late e) stays) w
    × Rests v v.facts.has.held (without k v.facts.waits) w
