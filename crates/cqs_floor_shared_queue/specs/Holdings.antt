-- What jobs hold of all resources of a floor.
use Rattle.std.specs.Prelude.{ℕ, Bool, ◌&&◌, ◌==◌, List, [], ◌∷◌, ◌++◌, map, if◌then◌else◌}
use Rattle.std.specs.List.{range_with_len}
use Rattle.cqs_plan.specs.declared.plans.kind.Kind.{Kind}
use Rattle.cqs_plan.specs.Floor.{Holding}
use Rattle.cqs_plan.specs.Language.{can_hold}
use Rattle.cqs_floor_shared_queue.specs.declared.floors.holdings.JobHolding.{JobHolding}
use Rattle.cqs_floor_shared_kinds.specs.declared.resource.Came.{Came}
use Rattle.cqs_floor_shared_kinds.specs.declared.resource.Came.TheVariants as came

-- one job, oldest first; and each of so many
abbrev pub held_by_job : ℕ → List JobHolding → List Holding
held_by_job job [] = []
held_by_job job (h ∷ hs) =
    if h.job == job then record { at = h.at; element = h.element } ∷ held_by_job job hs
    else held_by_job job hs

abbrev pub held_by_jobs : ℕ → List JobHolding → List (List Holding)
held_by_jobs jobs hs = map (λ job. held_by_job job hs) (range_with_len 0 jobs)

-- a job has one more
abbrev pub and_more : List JobHolding → ℕ → ℕ → ℕ → List JobHolding
and_more hs at job element = hs ++ record { job = job; at = at; element = element } ∷ []

-- it has what it took at once
abbrev pub and_taken : List JobHolding → ℕ → ℕ → Came → List JobHolding
and_taken hs at job (came.Now element) = and_more hs at job element
and_taken hs at job (came.Under k) = hs
and_taken hs at job (came.Waits place) = hs
and_taken hs at job came.Worn = hs

-- it has what came, where the kind can be held
abbrev pub and_brought : Kind → List JobHolding → ℕ → ℕ → ℕ → List JobHolding
and_brought k hs at job element = if can_hold k then and_more hs at job element else hs

-- this is of the resource, and the job holds it
abbrev pub is_of : ℕ → ℕ → JobHolding → Bool
is_of at job h = (h.job == job) && (h.at == at)

-- the oldest that the job holds of the resource is gone
abbrev pub less_oldest : ℕ → ℕ → List JobHolding → List JobHolding
less_oldest at job [] = []
less_oldest at job (h ∷ hs) = if is_of at job h then hs else h ∷ less_oldest at job hs
