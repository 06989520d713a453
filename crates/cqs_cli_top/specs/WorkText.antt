-- The text of `work`: how each job ended, whose each wait was, how the resources stand after what
-- the floor has seen in which all have met, and how many jobs ended in each way.
use Rattle.std.specs.Prelude.{ℕ, ◌+◌, List, [], ◌∷◌, ◌++◌, codes, count_by, flat_map, slice_get}
use Rattle.std.specs.Option.{option_map_or}
use Rattle.std.specs.Fmt.{decimal}
use Rattle.cqs_plan.specs.declared.plans.job.Job.{Job}
use Rattle.cqs_plan.specs.declared.plans.plan.Plan.{Plan}
use Rattle.cqs_plan.specs.declared.plans.resource.Resource.{Resource}
use Rattle.cqs_floor_shared.specs.Calls.{end_answer}
use Rattle.cqs_floor_shared.specs.Shared.{Shared}
use Rattle.cqs_turns_report.specs.Lines.{end_text, name_at}
use Rattle.cqs_work.specs.declared.ends.JobEnd.{JobEnd}
use Rattle.cqs_work.specs.declared.ends.JobEnd.TheVariants.{Done, GaveUp, Late, Crowded, Unfinished}
use Rattle.cqs_work.specs.Ends.{is_done, has_given_up, is_late, is_crowded, is_unfinished}
use Rattle.cqs_work.specs.declared.waits.WaitLine.{WaitLine}

-- the word for how a job ended
abbrev pub end_word : JobEnd → List ℕ
end_word Done = codes "done"
end_word GaveUp = codes "gaveup"
end_word Late = codes "late"
end_word Crowded = codes "crowded"
end_word Unfinished = codes "unfinished"

-- the line of a job
abbrev pub job_text : List ℕ → JobEnd → List ℕ
job_text name end = codes "job " ++ name ++ codes " " ++ end_word end ++ codes "\n"

-- the lines of the jobs, in order, each with its end
abbrev pub jobs_text : List Job → List JobEnd → List ℕ
jobs_text [] ends = []
jobs_text (job ∷ jobs) [] = []
jobs_text (job ∷ jobs) (end ∷ ends) = job_text job.name end ++ jobs_text jobs ends

-- the name of the job at a place
abbrev pub name_of_job : List Job → ℕ → List ℕ
name_of_job jobs place = option_map_or (λ job. job.name) (slice_get jobs place) []

-- the line of a wait: where it was, its number there, and whose it was
abbrev pub wait_text : Plan → WaitLine → List ℕ
wait_text plan wait =
    codes "waits " ++ name_at plan.resources wait.at ++ codes " " ++ decimal wait.number
    ++ codes " " ++ name_of_job plan.jobs wait.job ++ codes "\n"

abbrev pub waits_text : Plan → List WaitLine → List ℕ
waits_text plan waits = flat_map (wait_text plan) waits

-- the end lines of these resources, in order; the first one's place is `at`
abbrev pub ends_text : List Resource → ℕ → Shared → List ℕ
ends_text [] at f = []
ends_text (resource ∷ resources) at f =
    end_text resource.name (end_answer f at) ++ ends_text resources (at + 1) f

-- how many jobs ended in each way
abbrev pub total_text : List JobEnd → List ℕ
total_text ends =
    codes "total done " ++ decimal (count_by is_done ends)
    ++ codes " gaveup " ++ decimal (count_by has_given_up ends)
    ++ codes " late " ++ decimal (count_by is_late ends)
    ++ codes " crowded " ++ decimal (count_by is_crowded ends)
    ++ codes " unfinished " ++ decimal (count_by is_unfinished ends) ++ codes "\n"

-- the whole text
abbrev pub work_text : Plan → List JobEnd → List WaitLine → Shared → List ℕ
work_text plan ends waits f =
    jobs_text plan.jobs ends ++ waits_text plan waits ++ ends_text plan.resources 0 f
    ++ total_text ends
