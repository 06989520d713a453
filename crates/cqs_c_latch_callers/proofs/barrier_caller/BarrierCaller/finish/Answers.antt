use Rattle.std.proofs.Common.{◌∙◌, ap, inr, subst, sym, Some}
use Rattle.cqs_rule.specs.Passes.{pass_view}
use Rattle.cqs_c_latch_callers.specs.BarrierAnswers.{HasFinished}
use Rattle.cqs_c_latch_callers.proofs.barrier_caller.BarrierCaller.finish.Goals as goal

pub returns-in-Some-Others-clause-answered : goal.returns-in-Some-Others-clause-answered
returns-in-Some-Others-clause-answered c =
    let w = pass_view c.resume.new.self.pass in
    let owed = (sym c.take.ensures.value ∙ c.in-Some-Others.is) ∙ ap Some c.in-Some-Others.field-0-is in
    inr (subst (λ o. HasFinished o (pass_view c.args.self.now.pass) c.resume.result w) (sym owed)
    c.resume.ensures.resumed)

pub returns-in-Some-Leave-clause-answered : goal.returns-in-Some-Leave-clause-answered
returns-in-Some-Leave-clause-answered c =
    let w = pass_view c.leave.new.self.pass in
    let owed = (sym c.take.ensures.value ∙ c.in-Some-Leave.is) ∙ ap Some c.in-Some-Leave.field-0-is in
    inr (subst (λ o. HasFinished o (pass_view c.args.self.now.pass) c.leave.result w) (sym owed) c.leave.ensures.went)
