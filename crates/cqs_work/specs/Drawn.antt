-- How many numbers are drawn, beside how often jobs may begin to wait.
use Rattle.std.specs.Prelude.{◌≡◌, ℕ, ◌<◌, ◌≤◌, List, Some, count_by, length, slice_get, slice_index, sum_by}
use Rattle.cqs_core.specs.Parts.{part}
use Rattle.cqs_core.specs.SemaphoreNames.{entry_names as permit_names}
use Rattle.cqs_pool_object.specs.PoolNames.{entry_names as element_names}
use Rattle.cqs_latch_object.specs.LatchNames.{entry_names as latch_names}
use Rattle.cqs_barrier_object.specs.BarrierNames.{entry_names as party_names}
use Rattle.cqs_plan.specs.declared.plans.job.Job.{Job}
use Rattle.cqs_plan.specs.declared.plans.plan.Plan.{Plan}
use Rattle.cqs_plan.specs.Floor.{waits_of_job}
use Rattle.cqs_plan.specs.FloorHistory.{History, of_permits, of_elements, of_latch, of_rounds, entries_in}
use Rattle.cqs_floor_shared.specs.Entries.{drawn_in, enters_for_permit, enters_for_element, enters_at_latch, enters_at_barrier}
use Rattle.cqs_floor_shared.specs.Shared.{Shared, seen_at}

-- how many numbers of a history the caller n drew, at a barrier in this round
abbrev pub own_drawn : ℕ → History → ℕ → ℕ
own_drawn n (of_permits h) round = count_by enters_for_permit (part permit_names n h)
own_drawn n (of_elements h) round = count_by enters_for_element (part element_names n h)
own_drawn n (of_latch h) round = count_by enters_at_latch (part latch_names n h)
own_drawn n (of_rounds all) round =
    count_by enters_at_barrier (part party_names n (entries_in all round))

-- how many the floor's pass drew
abbrev pub drew : Shared → ℕ → ℕ → ℕ
drew f at round = own_drawn f.number (seen_at f at) round

-- how often the jobs may begin to wait at a resource, with all retries
abbrev pub all_waits : ℕ → List Job → ℕ
all_waits at jobs = sum_by (waits_of_job at) jobs

-- at each resource no more numbers were drawn, at a barrier in one round
pub record AreFew (plan : Plan) (final : Shared) : Type 0 where
  pub at : (at round : ℕ) → drawn_in (seen_at final at) round ≤ all_waits at plan.jobs

-- the limits of each floor are above that
pub record AreWide (plan : Plan) (floors : List Shared) : Type 0 where
  pub at : (worker : ℕ) (f : Shared) (at : ℕ) → slice_get floors worker ≡ Some f
      → at < length plan.resources → all_waits at plan.jobs < slice_index f.limits at
