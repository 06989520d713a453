-- How a fault is told.
use Rattle.std.specs.Prelude.{ℕ, List, ◌++◌, codes}
use Rattle.cqs_plan.specs.declared.plans.fault_kind.FaultKind.{FaultKind}
use Rattle.cqs_plan.specs.declared.plans.fault_kind.FaultKind.TheVariants.{Key, Missing, Shape, Range, Name, Step, Target, Unheld, Many}

abbrev pub word_of : FaultKind → List ℕ
word_of Key = codes "key"
word_of Missing = codes "missing"
word_of Shape = codes "shape"
word_of Range = codes "range"
word_of Name = codes "name"
word_of Step = codes "step"
word_of Target = codes "target"
word_of Unheld = codes "unheld"
word_of Many = codes "many"

-- the line that names a fault by its place and its kind
abbrev pub line_of : List ℕ → FaultKind → List ℕ
line_of place kind = codes "bad plan: " ++ place ++ codes ": " ++ word_of kind ++ codes "\n"
