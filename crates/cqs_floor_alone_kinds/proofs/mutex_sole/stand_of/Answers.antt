use Rattle.std.proofs.Common.{negsuc, pos, ◌≤ℤ◌, ap, sym, ◌∙◌, subst, rules}
use Rattle.cqs_core.specs.SemaphoreShown.{free_of, short_of, state_of}
use Rattle.cqs_floor_alone_kinds.proofs.PassRests.{state_same}
use Rattle.cqs_floor_alone_kinds.proofs.mutex_sole.stand_of.Goals as goal

pub stand_in-requires-clause-least : goal.stand_in-requires-clause-least
stand_in-requires-clause-least c =
    let is = c.state.ensures.state ∙ ap state_of (state_same _ _ c.state.ensures.called c.requires.alone) in
    let least = subst (λ z. negsuc 4294967294 ≤ℤ z) (sym is) c.requires.least in
    search rules

pub stand_in-requires-clause-most : goal.stand_in-requires-clause-most
stand_in-requires-clause-most c =
    let is = c.state.ensures.state ∙ ap state_of (state_same _ _ c.state.ensures.called c.requires.alone) in
    let most = subst (λ z. z ≤ℤ pos 4294967295) (sym is) c.requires.most in
    search rules

pub returns-clause-free : goal.returns-clause-free
returns-clause-free c =
    let is = c.state.ensures.state ∙ ap state_of (state_same _ _ c.state.ensures.called c.requires.alone) in
    let free = ap free_of is in
    search rules

pub returns-clause-line : goal.returns-clause-line
returns-clause-line c =
    let is = c.state.ensures.state ∙ ap state_of (state_same _ _ c.state.ensures.called c.requires.alone) in
    let line = ap short_of is in
    search rules
