use Rattle.std.proofs.Common.{Option, None, Some, subst, arith}
use Rattle.cqs_rule.specs.declared.queue.tokens.Under.{Under}
use Rattle.cqs_rule.specs.Owed.{under_reached, under_ticket}
use Rattle.cqs_rule.specs.Passes.{pass_view}
use Rattle.cqs_rule.proofs.Extends.{is-ample}
use Rattle.cqs_barrier.specs.declared.answers.Owing.{Owing}
use Rattle.cqs_barrier.specs.Resuming.{HasGrown, RanNext, RanAll}
use Rattle.cqs_barrier.proofs.AloneCalls.{plain-finish}
use Rattle.cqs_barrier.proofs.FinishSteps.{finish-handed, finish-on, no-ticket, ran-first}
use Rattle.cqs_barrier.proofs.ResumeSteps.{all-handed, ran-nothing}
use Rattle.cqs_barrier.proofs.barrier.Barrier.finish.Goals as goal

pub returns-in-Some-clause-finished : goal.returns-in-Some-clause-finished
returns-in-Some-clause-finished g c =
    let v = pass_view c.args.pass.now in
    let u = pass_view c.resume_on.new.pass in
    let left = c.args.owing.left in
    finish-handed left c.in-Some.under v u
    (subst (λ (z : Option Under). RanNext left v z u) c.in-Some.is c.resume_on.ensures.ran) c.requires.belongs.live.own
    c.resume_on.ensures.belongs.live.legal

pub returns-in-None-clause-finished : goal.returns-in-None-clause-finished
returns-in-None-clause-finished g c =
    let v = pass_view c.args.pass.now in
    let u = pass_view c.resume_on.new.pass in
    let w = pass_view c.resume_all.new.pass in
    let left = c.args.owing.left in
    finish-on left None v u w
    (subst (λ (z : Option Under). RanNext left v z u) c.in_default.is c.resume_on.ensures.ran)
    (subst (λ (z : Option Owing). RanAll u z w) c.in-None.is c.resume_all.ensures.ran) c.requires.belongs.live.own
    c.resume_all.ensures.belongs.live.legal

pub returns-in-Some-resume_all-clause-finished : goal.returns-in-Some-resume_all-clause-finished
returns-in-Some-resume_all-clause-finished g c =
    let v = pass_view c.args.pass.now in
    let u = pass_view c.resume_on.new.pass in
    let w = pass_view c.resume_all.new.pass in
    let left = c.args.owing.left in
    finish-on left (Some c.in-Some-resume_all.owing) v u w
    (subst (λ (z : Option Under). RanNext left v z u) c.in_default.is c.resume_on.ensures.ran)
    (subst (λ (z : Option Owing). RanAll u z w) c.in-Some-resume_all.is c.resume_all.ensures.ran)
    c.requires.belongs.live.own c.resume_all.ensures.belongs.live.legal

pub returns-in-Some-clause-alone : goal.returns-in-Some-clause-alone
returns-in-Some-clause-alone g c =
    let v = pass_view c.args.pass.now in
    let u = pass_view c.resume_on.new.pass in
    let left = c.args.owing.left in
    plain-finish (under_ticket c.args.owing.under) (Some (record { under = c.in-Some.under; left = left })) v u
    c.requires.owes.owes.owes.doing
    (all-handed left c.in-Some.under v v u (ran-nothing v)
    (subst (λ (z : Option Under). RanNext left v z u) c.in-Some.is c.resume_on.ensures.ran))
    c.requires.belongs.live.own c.resume_on.ensures.belongs.live.legal
    (c.requires.belongs.alone c.args.pass.now.live.0)
    (c.resume_on.ensures.belongs.alone c.resume_on.new.pass.live.0)

pub returns-in-None-clause-alone : goal.returns-in-None-clause-alone
returns-in-None-clause-alone g c =
    let v = pass_view c.args.pass.now in
    let u = pass_view c.resume_on.new.pass in
    let w = pass_view c.resume_all.new.pass in
    let left = c.args.owing.left in
    plain-finish (under_ticket c.args.owing.under) None v w c.requires.owes.owes.owes.doing
    (ran-first left None v u w
    (subst (λ (z : Option Under). RanNext left v z u) c.in_default.is c.resume_on.ensures.ran)
    (subst (λ (z : Option Owing). RanAll u z w) c.in-None.is c.resume_all.ensures.ran))
    c.requires.belongs.live.own c.resume_all.ensures.belongs.live.legal
    (c.requires.belongs.alone c.args.pass.now.live.0)
    (c.resume_all.ensures.belongs.alone c.resume_all.new.pass.live.0)

pub returns-in-Some-resume_all-clause-alone : goal.returns-in-Some-resume_all-clause-alone
returns-in-Some-resume_all-clause-alone g c =
    let v = pass_view c.args.pass.now in
    let u = pass_view c.resume_on.new.pass in
    let w = pass_view c.resume_all.new.pass in
    let left = c.args.owing.left in
    plain-finish (under_ticket c.args.owing.under) (Some c.in-Some-resume_all.owing) v w
    c.requires.owes.owes.owes.doing
    (ran-first left (Some c.in-Some-resume_all.owing) v u w
    (subst (λ (z : Option Under). RanNext left v z u) c.in_default.is c.resume_on.ensures.ran)
    (subst (λ (z : Option Owing). RanAll u z w) c.in-Some-resume_all.is c.resume_all.ensures.ran))
    c.requires.belongs.live.own c.resume_all.ensures.belongs.live.legal
    (c.requires.belongs.alone c.args.pass.now.live.0)
    (c.resume_all.ensures.belongs.alone c.resume_all.new.pass.live.0)

pub returns-in-Some-clause-further : goal.returns-in-Some-clause-further
returns-in-Some-clause-further g c =
    let first = subst (λ z. HasGrown (under_reached c.args.owing.under) z (pass_view c.resume_on.new.pass)) c.in-Some.is
    c.resume_on.ensures.grown in
    λ none. first.further none

pub returns-in-Some-clause-grown : goal.returns-in-Some-clause-grown
returns-in-Some-clause-grown g c =
    let v = pass_view c.args.pass.now in
    let u = pass_view c.resume_on.new.pass in
    let first = subst (λ z. HasGrown (under_reached c.args.owing.under) z u) c.in-Some.is c.resume_on.ensures.grown in
    let ran = subst (λ (z : Option Under). RanNext c.args.owing.left v z u) c.in-Some.is c.resume_on.ensures.ran in
    λ ample. first.further (no-ticket c.in-Some.under v u ran.1
    (is-ample c.args.self.now.queue c.args.pass.now c.requires.belongs ample))

pub returns-in-Some-resume_all-clause-further : goal.returns-in-Some-resume_all-clause-further
returns-in-Some-resume_all-clause-further g c =
    let first = subst (λ z. HasGrown (under_reached c.args.owing.under) z (pass_view c.resume_on.new.pass))
    c.in_default.is c.resume_on.ensures.grown in
    let later = c.in-Some-resume_all.ensures.grown in
    λ none. let after = later.further none in omega (arith, first, after)

pub returns-in-Some-resume_all-clause-grown : goal.returns-in-Some-resume_all-clause-grown
returns-in-Some-resume_all-clause-grown g c =
    let u = pass_view c.resume_on.new.pass in
    let w = pass_view c.resume_all.new.pass in
    let first = subst (λ z. HasGrown (under_reached c.args.owing.under) z u) c.in_default.is
    c.resume_on.ensures.grown in
    let later = c.in-Some-resume_all.ensures.grown in
    let ran = subst (λ (z : Option Owing). RanAll u z w) c.in-Some-resume_all.is c.resume_all.ensures.ran in
    λ ample.
    let none = no-ticket c.in-Some-resume_all.owing.under u w ran.2
    (is-ample c.args.self.now.queue c.resume_on.new.pass c.resume_on.ensures.belongs ample) in
    let after = later.further none in omega (arith, first, after)
