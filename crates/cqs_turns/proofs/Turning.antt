-- A turn: each job has its turn, in order.
use Rattle.std.proofs.Common.{◌≡◌, ℕ, ◌+◌, ◌<◌, List, ◌∷◌, Some, drop, length, slice_get, sym, ap, ◌∙◌}
use Rattle.std.specs.Option.{option_map_or}
use Rattle.std.proofs.lemmas.List.{drop_more}
use Rattle.std.proofs.lemmas.Option.{get_or_from_slice_get}
use Rattle.cqs_core.proofs.Places.{get-there, get-below}
use Rattle.cqs_plan.specs.declared.plans.job.Job.{Job}
use Rattle.cqs_plan.specs.declared.plans.plan.Plan.{Plan}
use Rattle.cqs_core.specs.Parts.{IsPrefix}
use Rattle.cqs_turns_report.specs.Running.{turn_at}
use Rattle.cqs_turns_report.specs.Turns.{Machine, one_job, each_job, one_turn}
use Rattle.cqs_turns_report.proofs.Growth.{prefix-through, each_job-grows}

-- the jobs before `place` have had their turns since the start
pub record TurningOn (plan : Plan) (turn place : ℕ) (start now : Machine) : Type 0 where
  pub whole : each_job plan.resources turn place (drop place plan.jobs) now ≡ one_turn plan turn start

drop-at : {X : Type 0} (xs : List X) (i : ℕ) (x : X) → slice_get xs i ≡ Some x → drop i xs ≡ x ∷ drop (i + 1) xs
drop-at xs i x got =
    drop_more xs i x (get-below xs i x got) ∙ ap (λ y. y ∷ drop (i + 1) xs) (get_or_from_slice_get xs i x x got)

-- what remains, seen as the next job and the rest
turn-unrolled : (plan : Plan) (turn place : ℕ) (start now : Machine) → TurningOn plan turn place start now
    → place < length plan.jobs
    → each_job plan.resources turn (place + 1) (drop (place + 1) plan.jobs) (turn_at plan turn place now)
    ≡ one_turn plan turn start
turn-unrolled plan turn place start now on below =
    let next : (job : Job) × (slice_get plan.jobs place ≡ Some job) = get-there plan.jobs place below in
    let split : drop place plan.jobs ≡ next.0 ∷ drop (place + 1) plan.jobs = drop-at plan.jobs place next.0 next.1 in
    let its_turn : turn_at plan turn place now ≡ one_job plan.resources turn place next.0 now
    = ap (λ o. option_map_or (λ job. one_job plan.resources turn place job now) o now) next.1 in
    ap (each_job plan.resources turn (place + 1) (drop (place + 1) plan.jobs)) its_turn
    ∙ ap (λ jobs. each_job plan.resources turn place jobs now) (sym split) ∙ on.whole

pub turns_on : (plan : Plan) (turn place : ℕ) (start now after : Machine) → TurningOn plan turn place start now
    → place < length plan.jobs → after ≡ turn_at plan turn place now → TurningOn plan turn (place + 1) start after
turns_on plan turn place start now after on below same = record {
  whole = ap (each_job plan.resources turn (place + 1) (drop (place + 1) plan.jobs)) same
      ∙ turn-unrolled plan turn place start now on below;
}

pub turning_prefix : (plan : Plan) (turn place : ℕ) (start now : Machine) (text : List ℕ)
    → TurningOn plan turn place start now → place < length plan.jobs
    → IsPrefix text (turn_at plan turn place now).scene.text → IsPrefix text (one_turn plan turn start).scene.text
turning_prefix plan turn place start now text on below prefix =
    let after : Machine = turn_at plan turn place now in
    rw (← turn-unrolled plan turn place start now on below)
    (prefix-through _ after.scene.text text
    (each_job-grows plan.resources turn (place + 1) (drop (place + 1) plan.jobs) after) prefix)
