use Rattle.std.proofs.Common.{ℕ, ◌∙◌, subst}
use Rattle.cqs_resume.specs.declared.resumed.Resumed.{Resumed}
use Rattle.cqs_resume.specs.declared.resumed.Resumed.TheVariants as resumed
use Rattle.cqs_resume.specs.Resumes.{GoesOn}
use Rattle.cqs_rule.specs.Owed.{under_payload, under_ticket}
use Rattle.cqs_rule.specs.Passes.{pass_view}
use Rattle.cqs_barrier.specs.Barrier.{barrier_object}
use Rattle.cqs_barrier.specs.Causes.{primitive_of}
use Rattle.cqs_barrier.specs.Resuming.{most_passed_over}
use Rattle.cqs_barrier.proofs.Grown.{finished-grown}
use Rattle.cqs_barrier.proofs.ResumeSteps.{owing-under, ran-on}
use Rattle.cqs_barrier.proofs.barrier.Barrier.resume_on.Goals as goal

pub returns-in-Served-clause-ran : goal.returns-in-Served-clause-ran
returns-in-Served-clause-ran g c =
    let v = pass_view c.args.pass.now in
    let w = pass_view c.finish.new.pass in
    let t = under_ticket c.args.under in
    ran-on t c.args.left v w c.requires.further (c.requires.owes.owes.owed ∙ c.requires.payload)
    (owing-under c.args.under v c.requires.owes) (resumed.Served c.in-Served.field-0)
    c.finish.ensures.belongs.live.legal (c.requires.belongs.alone c.args.pass.now.live.0)
    (c.finish.ensures.belongs.alone c.finish.new.pass.live.0)
    (subst (λ (z : ℕ × Resumed). GoesOn barrier_object primitive_of most_passed_over t z.0 v z.1 w)
    (λ i. (c.requires.payload i, c.in-Served.is i)) c.finish.ensures.resumed)

pub returns-in-Left-clause-ran : goal.returns-in-Left-clause-ran
returns-in-Left-clause-ran g c =
    let v = pass_view c.args.pass.now in
    let w = pass_view c.finish.new.pass in
    let t = under_ticket c.args.under in
    ran-on t c.args.left v w c.requires.further (c.requires.owes.owes.owed ∙ c.requires.payload)
    (owing-under c.args.under v c.requires.owes) (resumed.Left c.in-Left.field-0)
    c.finish.ensures.belongs.live.legal (c.requires.belongs.alone c.args.pass.now.live.0)
    (c.finish.ensures.belongs.alone c.finish.new.pass.live.0)
    (subst (λ (z : ℕ × Resumed). GoesOn barrier_object primitive_of most_passed_over t z.0 v z.1 w)
    (λ i. (c.requires.payload i, c.in-Left.is i)) c.finish.ensures.resumed)

pub returns-in-Refused-clause-ran : goal.returns-in-Refused-clause-ran
returns-in-Refused-clause-ran g c =
    let v = pass_view c.args.pass.now in
    let w = pass_view c.finish.new.pass in
    let t = under_ticket c.args.under in
    ran-on t c.args.left v w c.requires.further (c.requires.owes.owes.owed ∙ c.requires.payload)
    (owing-under c.args.under v c.requires.owes) (resumed.Refused c.in-Refused.field-0)
    c.finish.ensures.belongs.live.legal (c.requires.belongs.alone c.args.pass.now.live.0)
    (c.finish.ensures.belongs.alone c.finish.new.pass.live.0)
    (subst (λ (z : ℕ × Resumed). GoesOn barrier_object primitive_of most_passed_over t z.0 v z.1 w)
    (λ i. (c.requires.payload i, c.in-Refused.is i)) c.finish.ensures.resumed)

pub returns-in-Under-clause-ran : goal.returns-in-Under-clause-ran
returns-in-Under-clause-ran g c =
    let v = pass_view c.args.pass.now in
    let w = pass_view c.finish.new.pass in
    let t = under_ticket c.args.under in
    ran-on t c.args.left v w c.requires.further (c.requires.owes.owes.owed ∙ c.requires.payload)
    (owing-under c.args.under v c.requires.owes) (resumed.Under c.in-Under.under)
    c.finish.ensures.belongs.live.legal (c.requires.belongs.alone c.args.pass.now.live.0)
    (c.finish.ensures.belongs.alone c.finish.new.pass.live.0)
    (subst (λ (z : ℕ × Resumed). GoesOn barrier_object primitive_of most_passed_over t z.0 v z.1 w)
    (λ i. (c.requires.payload i, c.in-Under.is i)) c.finish.ensures.resumed)

pub returns-in-Served-clause-grown : goal.returns-in-Served-clause-grown
returns-in-Served-clause-grown g c =
    let v = pass_view c.args.pass.now in
    let w = pass_view c.finish.new.pass in
    finished-grown c.args.under v w (resumed.Served c.in-Served.field-0) c.requires.owes
    (subst (λ r. GoesOn barrier_object primitive_of most_passed_over (under_ticket c.args.under)
    (under_payload c.args.under) v r w) c.in-Served.is c.finish.ensures.resumed)

pub returns-in-Left-clause-grown : goal.returns-in-Left-clause-grown
returns-in-Left-clause-grown g c =
    let v = pass_view c.args.pass.now in
    let w = pass_view c.finish.new.pass in
    finished-grown c.args.under v w (resumed.Left c.in-Left.field-0) c.requires.owes
    (subst (λ r. GoesOn barrier_object primitive_of most_passed_over (under_ticket c.args.under)
    (under_payload c.args.under) v r w) c.in-Left.is c.finish.ensures.resumed)

pub returns-in-Refused-clause-grown : goal.returns-in-Refused-clause-grown
returns-in-Refused-clause-grown g c =
    let v = pass_view c.args.pass.now in
    let w = pass_view c.finish.new.pass in
    finished-grown c.args.under v w (resumed.Refused c.in-Refused.field-0) c.requires.owes
    (subst (λ r. GoesOn barrier_object primitive_of most_passed_over (under_ticket c.args.under)
    (under_payload c.args.under) v r w) c.in-Refused.is c.finish.ensures.resumed)

pub returns-in-Under-clause-grown : goal.returns-in-Under-clause-grown
returns-in-Under-clause-grown g c =
    let v = pass_view c.args.pass.now in
    let w = pass_view c.finish.new.pass in
    finished-grown c.args.under v w (resumed.Under c.in-Under.under) c.requires.owes
    (subst (λ r. GoesOn barrier_object primitive_of most_passed_over (under_ticket c.args.under)
    (under_payload c.args.under) v r w) c.in-Under.is c.finish.ensures.resumed)
