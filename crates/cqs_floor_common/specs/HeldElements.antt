-- The elements of a pool that jobs hold, and what each job holds of a resource.
use Rattle.std.specs.Prelude.{ℕ, ◌==◌, List, [], ◌∷◌, ◌++◌, drop, map, slice_index_or, slice_set, if◌then◌else◌}
use Rattle.cqs_pool.specs.Elements.{number_of}
use Rattle.cqs_floor_common.specs.declared.held.HeldElement.{HeldElement}

-- the elements of a job among those that are held, oldest first
abbrev pub elements_held : ℕ → List HeldElement → List ℕ
elements_held job [] = []
elements_held job (h ∷ hs) =
    if h.job == job then number_of h.element ∷ elements_held job hs else elements_held job hs

-- all that are held
abbrev pub all_held : List HeldElement → List ℕ
all_held hs = map (λ h. number_of h.element) hs

-- Of the lists of what each job holds of a resource, oldest first, that of a job.
abbrev pub held_by : List (List ℕ) → ℕ → List ℕ
held_by held job = slice_index_or held job []

-- a job has one more, or the oldest less
abbrev pub with_more : List (List ℕ) → ℕ → ℕ → List (List ℕ)
with_more held job element = slice_set held job (held_by held job ++ element ∷ [])

abbrev pub with_less : List (List ℕ) → ℕ → List (List ℕ)
with_less held job = slice_set held job (drop 1 (held_by held job))
