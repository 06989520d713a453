-- The words for an outcome: its name in lower case, and its numbers, each behind one space.
use Rattle.std.specs.Prelude.{ℕ, List, [], ◌∷◌, ◌++◌, true, false, codes, decimal}
use Rattle.std.specs.Fmt.{signed_decimal}
use Rattle.cqs_core.specs.declared.outcomes.Outcome.{Outcome}
use Rattle.cqs_core.specs.declared.outcomes.Outcome.TheVariants as outcome

abbrev pub outcome_name : Outcome → List ℕ
outcome_name outcome.Now = codes "now"
outcome_name outcome.Door = codes "door"
outcome_name outcome.Busy = codes "busy"
outcome_name (outcome.Loaded v) = codes "loaded"
outcome_name outcome.Got = codes "got"
outcome_name (outcome.Contended v w) = codes "contended"
outcome_name (outcome.Drew k) = codes "drew"
outcome_name (outcome.Waits k) = codes "waits"
outcome_name (outcome.Took k) = codes "took"
outcome_name outcome.Freed = codes "freed"
outcome_name outcome.Owes = codes "owes"
outcome_name (outcome.Reached k) = codes "reached"
outcome_name (outcome.Served k) = codes "served"
outcome_name (outcome.Left k) = codes "left"
outcome_name (outcome.Passed k) = codes "passed"
outcome_name (outcome.Void k) = codes "void"
outcome_name (outcome.Broke k) = codes "broke"
outcome_name (outcome.Handling k) = codes "handling"
outcome_name (outcome.Cancelling k) = codes "cancelling"
outcome_name (outcome.TooLate k) = codes "toolate"
outcome_name (outcome.Decided on) = codes "decided"
outcome_name (outcome.Cancelled k) = codes "cancelled"
outcome_name (outcome.Refused k) = codes "refused"
outcome_name (outcome.OwesOn k) = codes "oweson"
outcome_name outcome.Pending = codes "pending"
outcome_name outcome.Granted = codes "granted"

abbrev pub number_words : ℕ → List ℕ
number_words k = 32 ∷ decimal k

abbrev pub outcome_numbers : Outcome → List ℕ
outcome_numbers outcome.Now = []
outcome_numbers outcome.Door = []
outcome_numbers outcome.Busy = []
outcome_numbers (outcome.Loaded v) = 32 ∷ signed_decimal v
outcome_numbers outcome.Got = []
outcome_numbers (outcome.Contended v w) = (32 ∷ signed_decimal v) ++ 32 ∷ signed_decimal w
outcome_numbers (outcome.Drew k) = number_words k
outcome_numbers (outcome.Waits k) = number_words k
outcome_numbers (outcome.Took k) = number_words k
outcome_numbers outcome.Freed = []
outcome_numbers outcome.Owes = []
outcome_numbers (outcome.Reached k) = number_words k
outcome_numbers (outcome.Served k) = number_words k
outcome_numbers (outcome.Left k) = number_words k
outcome_numbers (outcome.Passed k) = number_words k
outcome_numbers (outcome.Void k) = number_words k
outcome_numbers (outcome.Broke k) = number_words k
outcome_numbers (outcome.Handling k) = number_words k
outcome_numbers (outcome.Cancelling k) = number_words k
outcome_numbers (outcome.TooLate k) = number_words k
outcome_numbers (outcome.Decided true) = codes " true"
outcome_numbers (outcome.Decided false) = codes " false"
outcome_numbers (outcome.Cancelled k) = number_words k
outcome_numbers (outcome.Refused k) = number_words k
outcome_numbers (outcome.OwesOn k) = number_words k
outcome_numbers outcome.Pending = []
outcome_numbers outcome.Granted = []

abbrev pub outcome_text : Outcome → List ℕ
outcome_text o = outcome_name o ++ outcome_numbers o
