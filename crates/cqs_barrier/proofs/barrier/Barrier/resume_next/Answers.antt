use Rattle.std.proofs.Common.{subst, sym, arith}
use Rattle.cqs_rule.specs.Passes.{pass_view}
use Rattle.cqs_barrier.specs.Calls.{IsMine}
use Rattle.cqs_barrier.specs.Resuming.{RanNext}
use Rattle.cqs_barrier.proofs.Grown.{grown-since}
use Rattle.cqs_barrier.proofs.ResumeSteps.{began, began-there, next-after}
use Rattle.cqs_barrier.proofs.barrier.Barrier.resume_next.Goals as goal

pub resume_on-requires-clause-belongs : goal.resume_on-requires-clause-belongs
resume_on-requires-clause-belongs g c = λ given lives.
    subst (λ p. IsMine c.args.self.now p) (sym c.under_of-under.ensures.same) c.add_table-number.ensures.belongs

pub returns-clause-ran : goal.returns-clause-ran
returns-clause-ran g c =
    let v = pass_view c.args.pass.now in
    let u = pass_view c.add_table-number.new.pass in
    let w = pass_view c.resume_on.new.pass in
    next-after c.args.left c.resume_on.result v u w
    (began c.add_table-number.result c.args.left v u c.requires.owes c.add_table-number.ensures.saw)
    (began-there c.add_table-number.result v u c.add_table-number.ensures.saw)
    (subst (λ p. RanNext c.args.left (pass_view p) c.resume_on.result w) c.under_of-under.ensures.same
    c.resume_on.ensures.ran)

pub returns-clause-grown : goal.returns-clause-grown
returns-clause-grown g c =
    let after = c.add_table-number.ensures.after.reached in
    let at = c.under_of-under.ensures.reached in
    grown-since _ _ c.resume_on.result (pass_view c.resume_on.new.pass) (omega (arith, after, at))
    c.resume_on.ensures.grown
