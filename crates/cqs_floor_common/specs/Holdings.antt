-- What jobs hold of one resource, among what they hold of all.
use Rattle.std.specs.Prelude.{ℕ, ◌==◌, List, [], ◌∷◌, map, if◌then◌else◌}
use Rattle.cqs_plan.specs.Floor.{Holding}

-- the elements of a resource among what a job holds, oldest first; and what each job has of them
abbrev pub elements_of : ℕ → List Holding → List ℕ
elements_of at [] = []
elements_of at (h ∷ hs) =
    if h.at == at then h.element ∷ elements_of at hs else elements_of at hs

abbrev pub held_at : List (List Holding) → ℕ → List (List ℕ)
held_at holds at = map (elements_of at) holds
