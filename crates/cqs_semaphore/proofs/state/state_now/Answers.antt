use Rattle.std.proofs.Common.{[], ap, ◌∙◌, rules}
use Rattle.cqs_words.specs.declared.state.StateWord.{StateWord}
use Rattle.cqs_semaphore_client.specs.Semaphore.{semaphore_object}
use Rattle.cqs_rule_laws.proofs.Calls.{called-by}
use Rattle.cqs_rule_laws.proofs.Rules.{call-rule_own}
use Rattle.cqs_semaphore.proofs.States.{state-is, state-loaded, state-once}
use Rattle.cqs_semaphore.proofs.state.state_now.Goals as goal

pub returns-clause-state : goal.returns-clause-state
returns-clause-state g c =
    let is = ap (λ (x : StateWord). x.value) c.read.ensures.value ∙ state-is _ _ _ c.read_state.ensures.saw in
    search rules

pub returns-clause-was : goal.returns-clause-was
returns-clause-was g c = state-loaded _ _ _ c.read_state.ensures.saw

pub returns-clause-once : goal.returns-clause-once
returns-clause-once g c = state-once _ _ _ c.read_state.ensures.saw

pub returns-clause-called : goal.returns-clause-called
returns-clause-called g c =
    call-rule_own semaphore_object _ _ [] [] (called-by semaphore_object _ _ _ [] c.read_state.ensures.saw.saw) tt
    c.requires.belongs.live.own c.read_state.ensures.belongs.live.legal
