-- What follows from which bytes are a plan.
use Rattle.std.proofs.Common.{ℕ, List, inl, inr}
use Rattle.cqs_plan_reader.proofs.OneAnswer.{faultless}
use Rattle.cqs_cli.specs.Plans.{IsFaultLine, IsPlan}

-- a plan is not answered by a line that says what is wrong
pub plan_has_no_fault : (bytes line : List ℕ) → IsPlan bytes → IsFaultLine bytes line → ⊥
plan_has_no_fault bytes line (plan, says) (inl (no_toml, _)) = no_toml says.root says.toml
plan_has_no_fault bytes line (plan, says) (inr fault) = faultless bytes plan fault.place fault.kind says fault.first
