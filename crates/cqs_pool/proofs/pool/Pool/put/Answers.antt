use Rattle.std.proofs.Common.{[], ◌∙◌, ◌<◌, ap, subst}
use Rattle.cqs_rule_laws.proofs.Calls.{called-by}
use Rattle.cqs_rule_laws.proofs.Rules.{call-rule_own}
use Rattle.cqs_rule.proofs.Claiming.{saw-left}
use Rattle.cqs_pool.specs.Pool.{pool_object}
use Rattle.cqs_rule.specs.Passes.{pass_view}
use Rattle.cqs_pool.proofs.AloneSteps.{quiet, plain-put}
use Rattle.cqs_pool.proofs.PutSteps.{put-rule, put-ends}
use Rattle.cqs_pool.proofs.ResumeSteps.{never-refused, ends-called}
use Rattle.cqs_pool.proofs.Values.{full-lays, full-left, gave-value, gave-left}
use Rattle.cqs_pool.proofs.pool.Pool.put.Goals as goal

pub put_element-number-requires-clause-value : goal.put_element-number-requires-clause-value
put_element-number-requires-clause-value g c = λ low.
    let b = c.requires.belongs in
    let is = c.in-Ok.ensures.claimed.left.1.is in
    full-lays _ _ _ (pass_view c.claim_spares.new.pass)
    (full-left _ _ (pass_view c.args.pass.now) _ (ap (λ z. z.laid) is) (ap (λ z. z.handed) is)
    c.requires.full)
    (subst (λ n. c.args.element.number < n) b.slots low)

pub returns-clause-handed : goal.returns-clause-handed
returns-clause-handed g c =
    let on = (ends-called _ _ 63 _ _ _
    (c.resume_from.result, c.placed_by.ensures, c.resume_from.ensures.resumed)).0 in
    let is = c.in-Ok.ensures.claimed.left.1.is in
    gave-left _ _ _ _ _ (ap (λ z. z.laid) is) (ap (λ z. z.handed) is) (ap (λ z. z.seen) is) (ap (λ z. z.number) is)
    (gave-value _ _ _ _ _ _ c.put_element-number.ensures.saw c.put_element-number.ensures.given (on.more, on.seen)
    on.handed on.unlaid)

pub placed_by-requires : goal.placed_by-requires
placed_by-requires g c =
    never-refused _ _ _ _ _ c.resume_from.result c.resume_from.ensures.resumed

pub returns-clause-called : goal.returns-clause-called
returns-clause-called g c =
    put-rule _ _ _ _ _ _ _ c.in-Ok.ensures.claimed c.put_element-number.ensures.saw
    (c.resume_from.result, c.placed_by.ensures, c.resume_from.ensures.resumed)
    c.requires.belongs.live.own c.resume_from.ensures.belongs.live.legal

pub returns-clause-ends : goal.returns-clause-ends
returns-clause-ends g c =
    put-ends _ _ _ _ _ _ _ c.requires.ready c.in-Ok.ensures.claimed c.put_element-number.ensures.saw
    (c.resume_from.result, c.placed_by.ensures, c.resume_from.ensures.resumed)

pub returns-clause-alone : goal.returns-clause-alone
returns-clause-alone g c = λ alone.
    let rule = returns-clause-called g c in
    plain-put _ _ _ c.placed_by.result rule alone
    (quiet _ c.requires.belongs.alone c.args.pass.now.live.0 alone c.requires.ready.idle)
    (λ idle. quiet _ c.resume_from.ensures.belongs.alone c.resume_from.new.pass.live.0
    (rule.called.same.alone ∙ alone) idle) _ _ (returns-clause-ends g c)

-- each slot was seen not free
pub returns-in_default-clause-called : goal.returns-in_default-clause-called
returns-in_default-clause-called g c =
    let crowded = c.in_default.ensures.crowded in
    call-rule_own pool_object _ _ [] []
    (called-by pool_object _ _ _ [] (saw-left pool_object _ _ crowded.heads crowded.spares _ crowded.left)) tt
    c.requires.belongs.live.own c.in_default.ensures.belongs.live.legal
