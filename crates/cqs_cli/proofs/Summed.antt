-- What is written for the plan of a number.
use Rattle.std.proofs.Common.{◌≡◌, ℕ, List, ◌++◌, subst}
use Rattle.cqs_plan.specs.declared.plans.plan.Plan.{Plan}
use Rattle.cqs_turns_report.specs.Report.{summary_of}
use Rattle.cqs_cli.specs.KeptRuns.{KeepsRun}
use Rattle.cqs_cli.specs.declared.kept.Kept.{Kept}

-- a line, and behind it the summary of a plan, which is the one that was wanted
pub joined : (all line line_wanted tail : List ℕ) (plan wanted : Plan) → all ≡ line ++ tail → line ≡ line_wanted
    → tail ≡ summary_of plan → plan ≡ wanted → all ≡ line_wanted ++ summary_of wanted
joined all line line_wanted tail plan wanted whole first rest same = rw (← same, ← first, ← rest) whole

-- what keeps the run of a plan keeps that of the plan that was wanted
pub keeps-wanted : (plan wanted : Plan) (kept : Kept) → plan ≡ wanted → KeepsRun plan kept → KeepsRun wanted kept
keeps-wanted plan wanted kept same keeps = subst (λ (p : Plan). KeepsRun p kept) same keeps
