use Rattle.std.proofs.Common.{◌∙◌, ℕ, Option, None, Some, refl, arith}
use Rattle.cqs_rule.specs.Owed.{under_ticket}
use Rattle.cqs_pool.proofs.AloneSteps.{quiet, plain-end}
use Rattle.cqs_pool.proofs.ResumeSteps.{IsWhole, never-refused, drawn-past, ends-rule, ends-so, follows-now, further-so}
use Rattle.cqs_pool.proofs.pool.Pool.finish.Goals as goal

whole : (ticket : Option ℕ) → IsWhole 64 ticket
whole None = refl
whole (Some k) = omega arith

pub placed_by-requires : goal.placed_by-requires
placed_by-requires g c = never-refused _ _ _ _ _ c.finish.result c.finish.ensures.resumed

pub returns-clause-called : goal.returns-clause-called
returns-clause-called g c =
    ends-rule _ _ _ _ _ _ (c.finish.result, c.placed_by.ensures, c.finish.ensures.resumed)
    c.requires.belongs.live.own c.finish.ensures.belongs.live.legal

pub returns-clause-ends : goal.returns-clause-ends
returns-clause-ends g c =
    ends-so _ _ _ 64 (under_ticket c.args.under) _ _ (follows-now _) c.requires.further
    (whole (under_ticket c.args.under))
    (c.finish.result, c.placed_by.ensures, c.finish.ensures.resumed)

pub returns-clause-further : goal.returns-clause-further
returns-clause-further g c = λ ample.
    further-so _ c.finish.result _ c.placed_by.ensures (c.finish.ensures.further ample)

pub returns-clause-drawn_past : goal.returns-clause-drawn_past
returns-clause-drawn_past g c =
    drawn-past _ _ _ 64 _ _ c.finish.result _ c.requires.owes.reached (omega arith) c.placed_by.ensures
    c.finish.ensures.resumed

pub returns-clause-alone : goal.returns-clause-alone
returns-clause-alone g c = λ alone can.
    let rule = returns-clause-called g c in
    plain-end _ _ _ c.placed_by.result rule alone can
    (λ idle. quiet _ c.finish.ensures.belongs.alone c.finish.new.pass.live.0
    (rule.called.same.alone ∙ alone) idle) _ _ (returns-clause-ends g c)
