-- How a fault line names a place of the document.
use Rattle.std.specs.Prelude.{ℕ, List, ◌++◌, codes}
use Rattle.std.specs.Fmt.{decimal}
use Rattle.cqs_plan_reader.specs.declared.reader.place.Place.{Place}
use Rattle.cqs_plan_reader.specs.declared.reader.place.Place.TheVariants.{Word, Resource, Number, Job, Part, Step}

-- what stands below a place, as `semaphore.db`
abbrev pub below_place : List ℕ → List ℕ → List ℕ
below_place place key = place ++ codes "." ++ key

-- the i-th of an array, as `job[3]`
abbrev pub at_index : List ℕ → ℕ → List ℕ
at_index place i = place ++ codes "[" ++ decimal i ++ codes "]"

-- the i-th job, and a part of it, as `job[3].name`
abbrev pub job_place : ℕ → List ℕ
job_place i = at_index (codes "job") i

abbrev pub part_place : ℕ → List ℕ → List ℕ
part_place i key = below_place (job_place i) key

-- the text of a place
abbrev pub place_text : Place → List ℕ
place_text (Word word) = word.now
place_text (Resource kind name) = below_place kind.now name.now
place_text (Number kind name key) = below_place (below_place kind.now name.now) key.now
place_text (Job job) = job_place job
place_text (Part job key) = part_place job key.now
place_text (Step job step) = at_index (part_place job (codes "steps")) step
