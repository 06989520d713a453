-- Where a job stands: its wait, and whether what it waits for came with its number.
use Rattle.std.specs.Prelude.{ℕ, Bool, true, false, not, ◌&&◌, ◌==◌, Option, Some, None, Result, Ok, Err}
use Rattle.cqs_plan.specs.declared.floors.answers.FloorTake.{FloorTake}
use Rattle.cqs_plan.specs.declared.floors.answers.FloorTake.TheVariants as take
use Rattle.cqs_plan.specs.Floor.{JobWait}
use Rattle.cqs_rule_laws.specs.declared.config.Place.{Place}
use Rattle.cqs_floor_shared.specs.declared.shared.Turned.{Turned}
use Rattle.cqs_floor_shared_queue.specs.declared.floors.spots.FloorWait.{FloorWait}
use Rattle.cqs_floor_shared_queue.specs.declared.floors.spots.Spot.{Spot}
use Rattle.cqs_floor_shared_kinds.specs.declared.resource.Came.{Came}
use Rattle.cqs_floor_shared_kinds.specs.declared.resource.Came.TheVariants as came

-- where the cell of a wait stands
abbrev pub place_in : FloorWait → Place
place_in w = record { word = w.word; index = w.index }

-- the wait for a resource, in this round, whose cell stands there
abbrev pub wait_for : ℕ → ℕ → Place → FloorWait
wait_for at round place =
    record { at = at; round = round; word = place.word; index = place.index }

-- the same wait, as a floor is seen
abbrev pub job_wait : FloorWait → JobWait
job_wait w = record { at = w.at; round = w.round; number = w.index }

-- a job without a wait; one whose wait stands in a cell; one whose wait came with its number
abbrev pub no_spot : Spot
no_spot = record { wait = None; came = false }

abbrev pub spot_in : FloorWait → Spot
spot_in w = record { wait = Some w; came = false }

abbrev pub spot_came : FloorWait → Spot
spot_came w = record { wait = Some w; came = true }

-- where a job stands after a call that may have to wait, and what the floor answers
abbrev pub spot_for : ℕ → ℕ → Came → Spot
spot_for at round (came.Now element) = no_spot
spot_for at round (came.Under k) = spot_came (wait_for at round (record { word = 0; index = k }))
spot_for at round (came.Waits place) = spot_in (wait_for at round place)
spot_for at round came.Worn = no_spot

abbrev pub answer_for : Came → Result FloorTake Turned
answer_for (came.Now element) = Ok (take.Now element)
answer_for (came.Under k) = Ok (take.Waits k)
answer_for (came.Waits place) = Ok (take.Waits place.index)
answer_for came.Worn = Err (record {})

-- its wait is over; whether that came with its number is known on
abbrev pub spot_over : Spot → Spot
spot_over spot = record spot { wait = None }

-- it waits for this resource; in a cell, or with a number that it came with
abbrev pub waits_at : ℕ → Option FloorWait → Bool
waits_at at None = false
waits_at at (Some w) = w.at == at

abbrev pub stands_at : ℕ → Spot → Bool
stands_at at spot = not spot.came && waits_at at spot.wait

abbrev pub came_at : ℕ → Spot → Bool
came_at at spot = spot.came && waits_at at spot.wait
