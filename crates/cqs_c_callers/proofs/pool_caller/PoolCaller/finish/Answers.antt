use Rattle.cqs_rule_laws.proofs.Places.{goes-same}
use Rattle.cqs_c_callers.proofs.PoolKept.{ends_owes, elements_same}
use Rattle.cqs_c_callers.proofs.TokenSteps.{the_wait, same_waits}
use Rattle.cqs_c_callers.proofs.Every.{every_same}
use Rattle.std.proofs.Common.{inr, subst, sym, ◌∙◌}
use Rattle.cqs_rule.specs.Passes.{pass_view}
use Rattle.cqs_c_callers.specs.PoolAnswers.{HasFinished}
use Rattle.cqs_c_callers.specs.PoolCallers.{OwesJust}
use Rattle.cqs_c_callers.proofs.pool_caller.PoolCaller.finish.Goals as goal

pub keep-requires-clause-owes : goal.keep-requires-clause-owes
keep-requires-clause-owes c = (ends_owes _ _ _ _ _ _ c.finish-placed.ensures.ends).0

pub keep-requires-clause-waits : goal.keep-requires-clause-waits
keep-requires-clause-waits c =
    same_waits the_wait _ _ _
    (goes-same _ _ c.finish-placed.ensures.called.called.same, (ends_owes _ _ _ _ _ _ c.finish-placed.ensures.ends).2)
    c.requires.stands.waits

pub keep-requires-clause-every : goal.keep-requires-clause-every
keep-requires-clause-every c =
    every_same _ _ _ (ends_owes _ _ _ _ _ _ c.finish-placed.ensures.ends).2 c.requires.stands.every

pub keep-requires-clause-elements : goal.keep-requires-clause-elements
keep-requires-clause-elements c =
    elements_same _ _ _ (ends_owes _ _ _ _ _ _ c.finish-placed.ensures.ends).1 c.requires.stands.elements

pub returns-clause-answered : goal.returns-clause-answered
returns-clause-answered c =
    let v = pass_view c.args.self.now.pass in
    inr (subst (λ p. HasFinished v c.keep.result (pass_view p)) (sym c.keep.ensures.pass) (record {
      under = c.in-Some.under;
      owes = (subst (OwesJust v.facts) (sym c.take.ensures.value ∙ c.in-Some.is) c.requires.stands.owes).0;
      given = c.finish-placed.result;
      told = c.keep.ensures.told;
      called = c.finish-placed.ensures.called;
      ends = c.finish-placed.ensures.ends;
    }))
