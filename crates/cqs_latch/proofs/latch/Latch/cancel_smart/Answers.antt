use Rattle.cqs_latch.proofs.CancelSteps.{smart-gone, smart-passed, smart-owing, late}
use Rattle.cqs_latch.proofs.Simple.{is-asked}
use Rattle.cqs_rule_laws.specs.declared.config.CancelMode.TheVariants.{Smart}
use Rattle.cqs_latch.proofs.latch.Latch.cancel_smart.Goals as goal

pub cancel-requires-clause-asks : goal.cancel-requires-clause-asks
cancel-requires-clause-asks g c = λ given lives. is-asked _ c.requires.smart

pub returns-in-Gone-clause-left : goal.returns-in-Gone-clause-left
returns-in-Gone-clause-left g c =
    smart-gone _ _ c.requires.ready c.requires.belongs.live.own _ c.cancel.ensures.belongs.live.legal
    (rw c.in-Gone.is at c.cancel.ensures.cancelled)

pub returns-in-None-clause-left : goal.returns-in-None-clause-left
returns-in-None-clause-left g c =
    smart-passed _ _ c.requires.ready c.requires.belongs.live.own _ _ _ c.pass_on.ensures.belongs.live.legal
    (rw c.in-GoneOwing.is at c.cancel.ensures.cancelled) c.in-None.ensures.on

pub returns-in-Some-clause-left : goal.returns-in-Some-clause-left
returns-in-Some-clause-left g c =
    smart-owing _ _ c.requires.ready c.requires.belongs.live.own _ _ _ c.in-Some.under
    c.pass_on.ensures.belongs.live.legal (rw c.in-GoneOwing.is at c.cancel.ensures.cancelled) c.in-Some.ensures.on

pub returns-in-Late-clause-left : goal.returns-in-Late-clause-left
returns-in-Late-clause-left g c =
    late _ _ c.requires.ready c.requires.belongs.live.own Smart _ _ c.cancel.ensures.belongs.live.legal
    (rw c.in-Late.is at c.cancel.ensures.cancelled)
