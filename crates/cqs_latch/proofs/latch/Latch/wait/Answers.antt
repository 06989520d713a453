use Rattle.std.proofs.Common.{sym, ◌∙◌, arith, true, false, Ok, Err}
use Rattle.cqs_rule_laws.specs.declared.config.AcquireError.TheVariants.{Crowded, Worn}
use Rattle.cqs_latch.specs.declared.answers.LatchWait.TheVariants.{Passed}
use Rattle.cqs_latch.proofs.AloneSteps.{plain-waited}
use Rattle.cqs_latch.proofs.Kept.{keeps-waited}
use Rattle.cqs_latch.proofs.WaitSteps.{loaded, claimed, counted, crowded, used, worn, came, passed, waits, waited-ready, waited-crowded}
use Rattle.cqs_latch.proofs.latch.Latch.wait.Goals as goal

pub returns-then-not-is_above_zero-clause-waited :
    goal.returns-then-not-is_above_zero-clause-waited
returns-then-not-is_above_zero-clause-waited g c =
    used _ c.requires.ready c.requires.belongs.live.own _ _
    (sym c.is_above_zero.ensures ∙ c.if-not-is_above_zero.true) c.load_to_wait-loaded.ensures.saw
    c.load_to_wait-loaded.ensures.belongs.live.legal

pub returns-then-next_wait-limit-clause-waited : goal.returns-then-next_wait-limit-clause-waited
returns-then-next_wait-limit-clause-waited g c =
    let limit = c.limit.ensures in
    let is = c.requires.belongs.limit in
    let high = c.if-next_wait-limit.true in
    worn _ c.requires.ready c.requires.belongs.live.own _ _ _ _ _ _
    (loaded _ _ _ (sym c.is_above_zero.ensures ∙ c.if-not-is_above_zero.false) c.load_to_wait-loaded.ensures.saw)
    c.next_wait.ensures.saw (omega arith) c.turn_back.ensures.saw c.turn_back.ensures.belongs.live.legal

pub returns-in_default-clause-waited : goal.returns-in_default-clause-waited
returns-in_default-clause-waited g c =
    let limit = c.limit.ensures in
    let is = c.requires.belongs.limit in
    let below = c.if-next_wait-limit.false in
    crowded _ c.requires.ready c.requires.belongs.live.own _ _ _ _ _ _ _
    (sym c.is_above_zero.ensures ∙ c.if-not-is_above_zero.false) c.load_to_wait-loaded.ensures.saw
    c.next_wait.ensures.saw (omega arith) c.in_default.ensures.crowded c.turn_back-in_default.ensures.saw
    c.turn_back-in_default.ensures.belongs.live.legal

pub returns-then-is_done-clause-waited : goal.returns-then-is_done-clause-waited
returns-then-is_done-clause-waited g c =
    passed _ c.requires.ready c.requires.belongs.live.own _
    (came _ c.requires.ready c.requires.belongs.live.own true _ _ _ _
    (claimed _ _ _ _ (counted _ _ _ _ _
    (loaded _ _ _ (sym c.is_above_zero.ensures ∙ c.if-not-is_above_zero.false) c.load_to_wait-loaded.ensures.saw)
    c.next_wait.ensures.saw) c.in-Ok.ensures.claimed)
    (sym c.is_done.ensures ∙ c.if-is_done.true) c.come.ensures.saw)
    c.come.ensures.belongs.live.legal

pub returns-clause-waited : goal.returns-clause-waited
returns-clause-waited g c =
    waits _ c.requires.ready c.requires.belongs.live.own _ _ c.wait_in_line.result
    (came _ c.requires.ready c.requires.belongs.live.own false _ _ _ _
    (claimed _ _ _ _ (counted _ _ _ _ _
    (loaded _ _ _ (sym c.is_above_zero.ensures ∙ c.if-not-is_above_zero.false) c.load_to_wait-loaded.ensures.saw)
    c.next_wait.ensures.saw) c.in-Ok.ensures.claimed)
    (sym c.is_done.ensures ∙ c.if-is_done.false) c.come.ensures.saw)
    c.wait_in_line.ensures.waits c.wait_in_line.ensures.belongs.live.legal

pub returns-then-not-is_above_zero-clause-ready : goal.returns-then-not-is_above_zero-clause-ready
returns-then-not-is_above_zero-clause-ready g c =
    waited-ready _ _ (Ok Passed) (returns-then-not-is_above_zero-clause-waited g c)

pub returns-then-next_wait-limit-clause-ready : goal.returns-then-next_wait-limit-clause-ready
returns-then-next_wait-limit-clause-ready g c =
    waited-ready _ _ (Err Worn) (returns-then-next_wait-limit-clause-waited g c)

pub returns-then-is_done-clause-ready : goal.returns-then-is_done-clause-ready
returns-then-is_done-clause-ready g c =
    waited-ready _ _ (Ok Passed) (returns-then-is_done-clause-waited g c)

pub returns-clause-ready : goal.returns-clause-ready
returns-clause-ready g c =
    waited-ready _ _ (Ok c.wait_in_line.result) (returns-clause-waited g c)

pub returns-then-not-is_above_zero-clause-keeps : goal.returns-then-not-is_above_zero-clause-keeps
returns-then-not-is_above_zero-clause-keeps g c =
    keeps-waited (Ok Passed) _ _ (returns-then-not-is_above_zero-clause-waited g c)

pub returns-then-not-is_above_zero-clause-alone : goal.returns-then-not-is_above_zero-clause-alone
returns-then-not-is_above_zero-clause-alone g c =
    λ alone. plain-waited (Ok Passed) _ _ (returns-then-not-is_above_zero-clause-waited g c) alone

pub returns-then-next_wait-limit-clause-keeps : goal.returns-then-next_wait-limit-clause-keeps
returns-then-next_wait-limit-clause-keeps g c =
    keeps-waited (Err Worn) _ _ (returns-then-next_wait-limit-clause-waited g c)

pub returns-then-next_wait-limit-clause-alone : goal.returns-then-next_wait-limit-clause-alone
returns-then-next_wait-limit-clause-alone g c =
    λ alone. plain-waited (Err Worn) _ _ (returns-then-next_wait-limit-clause-waited g c) alone

pub returns-then-is_done-clause-keeps : goal.returns-then-is_done-clause-keeps
returns-then-is_done-clause-keeps g c = keeps-waited (Ok Passed) _ _ (returns-then-is_done-clause-waited g c)

pub returns-then-is_done-clause-alone : goal.returns-then-is_done-clause-alone
returns-then-is_done-clause-alone g c = λ alone.
    plain-waited (Ok Passed) _ _ (returns-then-is_done-clause-waited g c) alone

pub returns-clause-keeps : goal.returns-clause-keeps
returns-clause-keeps g c = keeps-waited (Ok c.wait_in_line.result) _ _ (returns-clause-waited g c)

pub returns-clause-alone : goal.returns-clause-alone
returns-clause-alone g c = λ alone. plain-waited (Ok c.wait_in_line.result) _ _ (returns-clause-waited g c) alone

pub returns-in_default-clause-crowded : goal.returns-in_default-clause-crowded
returns-in_default-clause-crowded g c = λ is. waited-crowded _ _ (returns-in_default-clause-waited g c)

pub returns-in_default-clause-ready : goal.returns-in_default-clause-ready
returns-in_default-clause-ready g c = waited-ready _ _ (Err Crowded) (returns-in_default-clause-waited g c)

pub returns-in_default-clause-keeps : goal.returns-in_default-clause-keeps
returns-in_default-clause-keeps g c = keeps-waited (Err Crowded) _ _ (returns-in_default-clause-waited g c)

pub returns-in_default-clause-alone : goal.returns-in_default-clause-alone
returns-in_default-clause-alone g c = λ alone.
    plain-waited (Err Crowded) _ _ (returns-in_default-clause-waited g c) alone
