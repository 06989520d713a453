-- The making of a floor: which plans it can carry out, and what stands when nothing
-- has happened.
pub use Rattle.cqs_plan.specs.Runnable.{AreSized}
use Rattle.std.specs.Prelude.{◌≡◌, ℕ, ◌*◌, ◌≤◌, List, [], length, map, replicate, sum, Some, None, slice_get, slice_index}
use Rattle.std.specs.List.{range_with_len}
use Rattle.cqs_plan.specs.declared.plans.plan.Plan.{Plan}
use Rattle.cqs_plan.specs.declared.plans.resource.Resource.{Resource}
use Rattle.cqs_plan.specs.Floor.{room_for}
use Rattle.cqs_plan.specs.Runnable.{kinds_of}
use Rattle.cqs_floor_alone.specs.Ledger.{Ledger}
use Rattle.cqs_floor_alone_kinds.specs.Stores.{Store, IsOpened}

module _ {X : Type 0} (s : Store X) where
  -- something for each of the first resources, with room for jobs that begin to wait so often
  pub record AreOpened (resources : List Resource) (room : List ℕ) (soles : List X) : Type 0 where
    pub each : (at : ℕ) (resource : Resource) (sole : X) → slice_get resources at ≡ Some resource
        → slice_get soles at ≡ Some sole
        → IsOpened s resource.kind (slice_index room at) sole

  -- nothing has happened, and there is memory for all that a plan's steps can lead to
  pub record IsOpening (plan : Plan) (l : Ledger X) : Type 0 where
    pub kinds : l.kinds ≡ kinds_of plan.resources
    pub long : length l.soles ≡ length plan.resources
    pub soles : AreOpened plan.resources l.room l.soles
    pub room : l.room ≡ map (room_for plan) (range_with_len 0 (length plan.resources))
    pub waits : l.waits ≡ replicate (length plan.jobs) None
    pub rounds : l.rounds ≡ replicate (length plan.jobs) (replicate (length plan.resources) 0)
    pub transfers : l.transfers ≡ []
    pub spare : 2 * sum l.room ≤ l.spare
