use Rattle.std.proofs.Common.{◌≡◌, ◌<◌, true, false, Option, None, Some, sym, ◌∙◌, subst, arith}
use Rattle.cqs_rule.specs.Passes.{pass_view}
use Rattle.cqs_barrier.specs.declared.answers.Owing.{Owing}
use Rattle.cqs_barrier.specs.Resuming.{RanAll}
use Rattle.cqs_barrier.specs.Word.{is_last}
use Rattle.cqs_barrier.proofs.AloneCalls.{plain-last, plain-waits}
use Rattle.cqs_barrier.proofs.ArriveSteps.{last-called, worn, crowded, claimed, came, more-to-come, came-last, came-owing, came-early, ends-last, ends-early}
use Rattle.cqs_barrier.proofs.barrier.Barrier.arrive.Goals as goal

pub returns-then-next_wait-limit-clause-worn : goal.returns-then-next_wait-limit-clause-worn
returns-then-next_wait-limit-clause-worn g c =
    let same = c.requires.belongs.limit in
    let high = c.if-next_wait-limit.true in
    λ is. worn (pass_view c.args.pass.now) (pass_view c.next_wait.new.pass) c.next_wait.result c.next_wait.ensures.saw
    (omega (arith, c.limit.ensures)) c.requires.ready c.requires.belongs.live.own c.next_wait.ensures.belongs.live.legal

pub returns-in_default-clause-crowded : goal.returns-in_default-clause-crowded
returns-in_default-clause-crowded g c =
    let same = c.requires.belongs.limit in
    let low = c.if-next_wait-limit.false in
    let v = pass_view c.args.pass.now in
    let below : c.next_wait.result < v.limit = omega (arith, c.limit.ensures) in
    λ is. crowded v (pass_view c.next_wait.new.pass) (pass_view c.claim_spares.new.pass) c.next_wait.result
    c.next_wait.ensures.saw below c.in_default.ensures.crowded c.requires.ready c.requires.belongs.live.own
    c.claim_spares.ensures.belongs.live.legal

pub returns-in-None-clause-arrived : goal.returns-in-None-clause-arrived
returns-in-None-clause-arrived g c =
    let same = c.requires.belongs.limit in
    let low = c.if-next_wait-limit.false in
    let v = pass_view c.args.pass.now in
    let u = pass_view c.next_wait.new.pass in
    let z = pass_view c.claim_spares.new.pass in
    let x = pass_view c.arrive_once-found.new.pass in
    let w = pass_view c.resume_all.new.pass in
    let m = c.arrive_once-found.result in
    let is : is_last m ≡ true = sym c.last.ensures ∙ c.if-last.true in
    let below : c.next_wait.result < v.limit = omega (arith, c.limit.ensures) in
    let h = claimed v u z c.next_wait.result c.next_wait.ensures.saw c.in-Ok.ensures.claimed in
    (came-last m v x w is (came true v z x c.next_wait.result m is below h
    c.arrive_once-found.ensures.saw)
    (subst (λ (z : Option Owing). RanAll x z w) c.in-None.is c.resume_all.ensures.ran) c.requires.belongs.live.own
    c.resume_all.ensures.belongs.live.legal).0

pub returns-in-None-clause-below : goal.returns-in-None-clause-below
returns-in-None-clause-below g c =
    let same = c.requires.belongs.limit in
    let low = c.if-next_wait-limit.false in
    let v = pass_view c.args.pass.now in
    let u = pass_view c.next_wait.new.pass in
    let z = pass_view c.claim_spares.new.pass in
    let x = pass_view c.arrive_once-found.new.pass in
    let w = pass_view c.resume_all.new.pass in
    let m = c.arrive_once-found.result in
    let is : is_last m ≡ true = sym c.last.ensures ∙ c.if-last.true in
    let below : c.next_wait.result < v.limit = omega (arith, c.limit.ensures) in
    let h = claimed v u z c.next_wait.result c.next_wait.ensures.saw c.in-Ok.ensures.claimed in
    (came-last m v x w is (came true v z x c.next_wait.result m is below h
    c.arrive_once-found.ensures.saw)
    (subst (λ (z : Option Owing). RanAll x z w) c.in-None.is c.resume_all.ensures.ran) c.requires.belongs.live.own
    c.resume_all.ensures.belongs.live.legal).1

pub returns-in-Some-clause-arrived : goal.returns-in-Some-clause-arrived
returns-in-Some-clause-arrived g c =
    let same = c.requires.belongs.limit in
    let low = c.if-next_wait-limit.false in
    let v = pass_view c.args.pass.now in
    let u = pass_view c.next_wait.new.pass in
    let z = pass_view c.claim_spares.new.pass in
    let x = pass_view c.arrive_once-found.new.pass in
    let w = pass_view c.resume_all.new.pass in
    let m = c.arrive_once-found.result in
    let is : is_last m ≡ true = sym c.last.ensures ∙ c.if-last.true in
    let below : c.next_wait.result < v.limit = omega (arith, c.limit.ensures) in
    let h = claimed v u z c.next_wait.result c.next_wait.ensures.saw c.in-Ok.ensures.claimed in
    (came-owing m c.in-Some.owing v x w is (came true v z x c.next_wait.result m is below h
    c.arrive_once-found.ensures.saw)
    (subst (λ (z : Option Owing). RanAll x z w) c.in-Some.is c.resume_all.ensures.ran) c.requires.belongs.live.own
    c.resume_all.ensures.belongs.live.legal).0

pub returns-in-Some-clause-below : goal.returns-in-Some-clause-below
returns-in-Some-clause-below g c =
    let same = c.requires.belongs.limit in
    let low = c.if-next_wait-limit.false in
    let v = pass_view c.args.pass.now in
    let u = pass_view c.next_wait.new.pass in
    let z = pass_view c.claim_spares.new.pass in
    let x = pass_view c.arrive_once-found.new.pass in
    let w = pass_view c.resume_all.new.pass in
    let m = c.arrive_once-found.result in
    let is : is_last m ≡ true = sym c.last.ensures ∙ c.if-last.true in
    let below : c.next_wait.result < v.limit = omega (arith, c.limit.ensures) in
    let h = claimed v u z c.next_wait.result c.next_wait.ensures.saw c.in-Ok.ensures.claimed in
    (came-owing m c.in-Some.owing v x w is (came true v z x c.next_wait.result m is below h
    c.arrive_once-found.ensures.saw)
    (subst (λ (z : Option Owing). RanAll x z w) c.in-Some.is c.resume_all.ensures.ran) c.requires.belongs.live.own
    c.resume_all.ensures.belongs.live.legal).1

pub returns-clause-below : goal.returns-clause-below
returns-clause-below g c =
    let same = c.requires.belongs.limit in
    let low = c.if-next_wait-limit.false in
    let v = pass_view c.args.pass.now in
    let u = pass_view c.next_wait.new.pass in
    let z = pass_view c.claim_spares.new.pass in
    let x = pass_view c.arrive_once-found.new.pass in
    let w = pass_view c.wait_for_others.new.pass in
    let m = c.arrive_once-found.result in
    let is : is_last m ≡ false = sym c.last.ensures ∙ c.if-last.false in
    let below : c.next_wait.result < v.limit = omega (arith, c.limit.ensures) in
    let h = claimed v u z c.next_wait.result c.next_wait.ensures.saw c.in-Ok.ensures.claimed in
    let t = came false v z x c.next_wait.result m is below h c.arrive_once-found.ensures.saw in
    (came-early m c.wait_for_others.result v x w
    (more-to-come m v x t c.arrive_once-found.ensures.belongs.live.legal) c.requires.ready t
    c.wait_for_others.ensures.waits c.requires.belongs.live.own c.wait_for_others.ensures.belongs.live.legal).1

pub returns-clause-arrived : goal.returns-clause-arrived
returns-clause-arrived g c =
    let same = c.requires.belongs.limit in
    let low = c.if-next_wait-limit.false in
    let v = pass_view c.args.pass.now in
    let u = pass_view c.next_wait.new.pass in
    let z = pass_view c.claim_spares.new.pass in
    let x = pass_view c.arrive_once-found.new.pass in
    let w = pass_view c.wait_for_others.new.pass in
    let m = c.arrive_once-found.result in
    let is : is_last m ≡ false = sym c.last.ensures ∙ c.if-last.false in
    let below : c.next_wait.result < v.limit = omega (arith, c.limit.ensures) in
    let h = claimed v u z c.next_wait.result c.next_wait.ensures.saw c.in-Ok.ensures.claimed in
    let t = came false v z x c.next_wait.result m is below h c.arrive_once-found.ensures.saw in
    (came-early m c.wait_for_others.result v x w
    (more-to-come m v x t c.arrive_once-found.ensures.belongs.live.legal) c.requires.ready t
    c.wait_for_others.ensures.waits c.requires.belongs.live.own c.wait_for_others.ensures.belongs.live.legal).0

pub returns-in-None-clause-cell : goal.returns-in-None-clause-cell
returns-in-None-clause-cell g c =
    let same = c.requires.belongs.limit in
    let low = c.if-next_wait-limit.false in
    let v = pass_view c.args.pass.now in
    let u = pass_view c.next_wait.new.pass in
    let z = pass_view c.claim_spares.new.pass in
    let x = pass_view c.arrive_once-found.new.pass in
    let w = pass_view c.resume_all.new.pass in
    let m = c.arrive_once-found.result in
    let is : is_last m ≡ true = sym c.last.ensures ∙ c.if-last.true in
    let below : c.next_wait.result < v.limit = omega (arith, c.limit.ensures) in
    let h = claimed v u z c.next_wait.result c.next_wait.ensures.saw c.in-Ok.ensures.claimed in
    ends-last m v x w is (came true v z x c.next_wait.result m is below h
    c.arrive_once-found.ensures.saw)
    (subst (λ (z : Option Owing). RanAll x z w) c.in-None.is c.resume_all.ensures.ran) c.requires.belongs.live.own
    c.resume_all.ensures.belongs.live.legal

pub returns-clause-cell : goal.returns-clause-cell
returns-clause-cell g c =
    let same = c.requires.belongs.limit in
    let low = c.if-next_wait-limit.false in
    let v = pass_view c.args.pass.now in
    let u = pass_view c.next_wait.new.pass in
    let z = pass_view c.claim_spares.new.pass in
    let x = pass_view c.arrive_once-found.new.pass in
    let w = pass_view c.wait_for_others.new.pass in
    let m = c.arrive_once-found.result in
    let is : is_last m ≡ false = sym c.last.ensures ∙ c.if-last.false in
    let below : c.next_wait.result < v.limit = omega (arith, c.limit.ensures) in
    let h = claimed v u z c.next_wait.result c.next_wait.ensures.saw c.in-Ok.ensures.claimed in
    let t = came false v z x c.next_wait.result m is below h c.arrive_once-found.ensures.saw in
    ends-early m c.wait_for_others.result v x w
    (more-to-come m v x t c.arrive_once-found.ensures.belongs.live.legal) t c.wait_for_others.ensures.waits
    c.requires.belongs.live.own c.wait_for_others.ensures.belongs.live.legal

pub returns-in-None-clause-alone : goal.returns-in-None-clause-alone
returns-in-None-clause-alone g c =
    let same = c.requires.belongs.limit in
    let low = c.if-next_wait-limit.false in
    let v = pass_view c.args.pass.now in
    let u = pass_view c.next_wait.new.pass in
    let z = pass_view c.claim_spares.new.pass in
    let x = pass_view c.arrive_once-found.new.pass in
    let w = pass_view c.resume_all.new.pass in
    let m = c.arrive_once-found.result in
    let is : is_last m ≡ true = sym c.last.ensures ∙ c.if-last.true in
    let below : c.next_wait.result < v.limit = omega (arith, c.limit.ensures) in
    let h = claimed v u z c.next_wait.result c.next_wait.ensures.saw c.in-Ok.ensures.claimed in
    let t = came true v z x c.next_wait.result m is below h c.arrive_once-found.ensures.saw in
    plain-last m None v x w t (subst (λ (z : Option Owing). RanAll x z w) c.in-None.is c.resume_all.ensures.ran)
    (λ ks ran. (last-called m ks v x w is t ran c.requires.belongs.live.own
    c.resume_all.ensures.belongs.live.legal).called)
    c.arrive_once-found.ensures.belongs.live.legal
    (c.resume_all.ensures.belongs.alone c.resume_all.new.pass.live.0)

pub returns-in-Some-clause-alone : goal.returns-in-Some-clause-alone
returns-in-Some-clause-alone g c =
    let same = c.requires.belongs.limit in
    let low = c.if-next_wait-limit.false in
    let v = pass_view c.args.pass.now in
    let u = pass_view c.next_wait.new.pass in
    let z = pass_view c.claim_spares.new.pass in
    let x = pass_view c.arrive_once-found.new.pass in
    let w = pass_view c.resume_all.new.pass in
    let m = c.arrive_once-found.result in
    let is : is_last m ≡ true = sym c.last.ensures ∙ c.if-last.true in
    let below : c.next_wait.result < v.limit = omega (arith, c.limit.ensures) in
    let h = claimed v u z c.next_wait.result c.next_wait.ensures.saw c.in-Ok.ensures.claimed in
    let t = came true v z x c.next_wait.result m is below h c.arrive_once-found.ensures.saw in
    plain-last m (Some c.in-Some.owing) v x w t
    (subst (λ (z : Option Owing). RanAll x z w) c.in-Some.is c.resume_all.ensures.ran)
    (λ ks ran. (last-called m ks v x w is t ran c.requires.belongs.live.own
    c.resume_all.ensures.belongs.live.legal).called)
    c.arrive_once-found.ensures.belongs.live.legal
    (c.resume_all.ensures.belongs.alone c.resume_all.new.pass.live.0)

pub returns-clause-alone : goal.returns-clause-alone
returns-clause-alone g c =
    let same = c.requires.belongs.limit in
    let low = c.if-next_wait-limit.false in
    let v = pass_view c.args.pass.now in
    let u = pass_view c.next_wait.new.pass in
    let z = pass_view c.claim_spares.new.pass in
    let x = pass_view c.arrive_once-found.new.pass in
    let w = pass_view c.wait_for_others.new.pass in
    let m = c.arrive_once-found.result in
    let is : is_last m ≡ false = sym c.last.ensures ∙ c.if-last.false in
    let below : c.next_wait.result < v.limit = omega (arith, c.limit.ensures) in
    let h = claimed v u z c.next_wait.result c.next_wait.ensures.saw c.in-Ok.ensures.claimed in
    let t = came false v z x c.next_wait.result m is below h c.arrive_once-found.ensures.saw in
    plain-waits m v x w c.wait_for_others.result
    (more-to-come m v x t c.arrive_once-found.ensures.belongs.live.legal) c.requires.ready t
    c.wait_for_others.ensures.waits c.requires.belongs.live.own c.wait_for_others.ensures.belongs.live.legal
