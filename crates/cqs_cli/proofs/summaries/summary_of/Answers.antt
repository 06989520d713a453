-- The plan that was run is the one of the number.
use Rattle.std.proofs.Common.{◌≡◌, ◌++◌, refl, rules, subst}
use Rattle.cqs_plan.specs.LegalFloor.{IsLegalFor}
use Rattle.cqs_plan.specs.declared.plans.plan.Plan.{Plan}
use Rattle.cqs_cli.specs.Plans.{floor_after}
use Rattle.cqs_cli.proofs.RunFloors.{has-run}
use Rattle.cqs_cli.proofs.Summed.{joined, keeps-wanted}
use Rattle.cqs_cli.proofs.summaries.summary_of.Goals as goal

pub returns-clause-summed : goal.returns-clause-summed
returns-clause-summed c =
    let whole : c.extend_from_slice.new.self.items ≡ c.in_ok-text.text.items ++ c.in_ok-summary.summary.items =
    search rules in
    joined _ _ _ _ _ _ whole c.in_ok-text.ensures c.in_ok-summary.ensures.summary c.in_ok-plan.ensures.plan

pub returns-clause-legal : goal.returns-clause-legal
returns-clause-legal c =
    subst (λ (p : Plan). IsLegalFor p (floor_after p)) c.in_ok-plan.ensures.plan
    (subst (λ f. IsLegalFor c.in_ok-plan.plan f) c.in_ok-summary.ensures.floor c.in_ok-summary.ensures.legal)

pub returns-clause-keeps : goal.returns-clause-keeps
returns-clause-keeps c =
    keeps-wanted c.in_ok-plan.plan _ _ c.in_ok-plan.ensures.plan (record {
      floor = c.summarize_plan.new.floor;
      is = refl;
      ran = has-run _ _ c.is_kept.ensures c.in_ok-summary.ensures.floor c.in_ok-summary.ensures.legal;
    })
