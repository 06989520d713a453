use Rattle.std.proofs.Common.{◌∷◌, [], true, false, sym, refl, ◌∙◌, subst}
use Rattle.cqs_core.specs.declared.entries.Entry.TheVariants as entry
use Rattle.cqs_rule.specs.Passes.{pass_view}
use Rattle.cqs_semaphore.specs.Answers.{Tries}
use Rattle.cqs_semaphore.specs.Calls.{CallRule}
use Rattle.cqs_semaphore.specs.Entries.{tried_entries}
use Rattle.cqs_semaphore.specs.Alone.{IsPlainTry}
use Rattle.cqs_semaphore.proofs.AloneSteps.{plain-busy, plain-got}
use Rattle.cqs_rule_laws.proofs.Rules.{call-rule_own}
use Rattle.cqs_semaphore_client.specs.Semaphore.{semaphore_object}
use Rattle.cqs_semaphore.proofs.TrySteps.{loaded, got, missed, busy-called, was-busy, swap-called, was-got, contended}
use Rattle.cqs_semaphore.proofs.trying.try_permit.Goals as goal

pub returns-then-not-is_above_zero-clause-called : goal.returns-then-not-is_above_zero-clause-called
returns-then-not-is_above_zero-clause-called g c =
    let v = pass_view c.args.pass.now in
    let l = loaded false _ _ _ (sym c.is_above_zero.ensures ∙ c.if-not-is_above_zero.true) c.load_state-saw.ensures.saw
    in
    call-rule_own semaphore_object _ _ (entry.TryBusy v.number ∷ []) _ (busy-called _ _ _ l) (λ n. refl, tt)
    c.requires.belongs.live.own c.load_state-saw.ensures.belongs.live.legal

pub returns-then-not-is_above_zero-clause-tries : goal.returns-then-not-is_above_zero-clause-tries
returns-then-not-is_above_zero-clause-tries g c =
    let is = sym c.is_above_zero.ensures ∙ c.if-not-is_above_zero.true in
    was-busy _ _ _ is c.requires.ready (loaded false _ _ _ is c.load_state-saw.ensures.saw)

pub returns-then-not-is_above_zero-clause-alone : goal.returns-then-not-is_above_zero-clause-alone
returns-then-not-is_above_zero-clause-alone g c = λ alone.
    plain-busy _ _ (returns-then-not-is_above_zero-clause-called g c) alone

pub returns-then-found-saw-clause-called : goal.returns-then-found-saw-clause-called
returns-then-found-saw-clause-called g c =
    let v = pass_view c.args.pass.now in
    let is = sym c.is_above_zero.ensures ∙ c.if-not-is_above_zero.false in
    let l = loaded true _ _ _ is c.load_state-saw.ensures.saw in
    let s = got _ _ _ _ c.if-found-saw.true c.try_take-found.ensures.saw in
    call-rule_own semaphore_object _ _ (entry.TryGot v.number ∷ []) _ (swap-called true _ _ _ _ _ l s) (λ n. refl, tt)
    c.requires.belongs.live.own c.try_take-found.ensures.belongs.live.legal

pub returns-then-found-saw-clause-tries : goal.returns-then-found-saw-clause-tries
returns-then-found-saw-clause-tries g c =
    let is = sym c.is_above_zero.ensures ∙ c.if-not-is_above_zero.false in
    let l = loaded true _ _ _ is c.load_state-saw.ensures.saw in
    let s = got _ _ _ _ c.if-found-saw.true c.try_take-found.ensures.saw in
    (refl, was-got _ _ _ _ _ is c.if-found-saw.true c.requires.ready l s)

pub returns-then-found-saw-clause-alone : goal.returns-then-found-saw-clause-alone
returns-then-found-saw-clause-alone g c = λ alone.
    plain-got _ _ (returns-then-found-saw-clause-called g c) alone

pub returns-clause-called : goal.returns-clause-called
returns-clause-called g c =
    let v = pass_view c.args.pass.now in
    let w = pass_view c.try_take-found.new.pass in
    let is = sym c.is_above_zero.ensures ∙ c.if-not-is_above_zero.false in
    let l = loaded true _ _ _ is c.load_state-saw.ensures.saw in
    let s = missed _ _ _ _ c.if-found-saw.false c.try_take-found.ensures.saw in
    subst (λ t. CallRule v (tried_entries v.number t) [] w) (sym c.contention.ensures)
    (call-rule_own semaphore_object _ _ [] _ (swap-called false _ _ _ _ _ l s) tt c.requires.belongs.live.own
    c.try_take-found.ensures.belongs.live.legal)

pub returns-clause-tries : goal.returns-clause-tries
returns-clause-tries g c =
    let v = pass_view c.args.pass.now in
    let w = pass_view c.try_take-found.new.pass in
    let is = sym c.is_above_zero.ensures ∙ c.if-not-is_above_zero.false in
    let l = loaded true _ _ _ is c.load_state-saw.ensures.saw in
    let s = missed _ _ _ _ c.if-found-saw.false c.try_take-found.ensures.saw in
    subst (λ t. Tries v t w) (sym c.contention.ensures)
    (contended _ _ _ _ _ is c.if-found-saw.false c.requires.ready l s)

pub returns-clause-alone : goal.returns-clause-alone
returns-clause-alone g c = λ alone.
    let is = sym c.is_above_zero.ensures ∙ c.if-not-is_above_zero.false in
    let l = loaded true _ _ _ is c.load_state-saw.ensures.saw in
    let s = missed _ _ _ _ c.if-found-saw.false c.try_take-found.ensures.saw in
    subst (λ t. IsPlainTry (pass_view c.args.pass.now) t) (sym c.contention.ensures)
    ((contended _ _ _ _ _ is c.if-found-saw.false c.requires.ready l s).together alone)
