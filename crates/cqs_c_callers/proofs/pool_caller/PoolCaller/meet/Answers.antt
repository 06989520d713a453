use Rattle.std.proofs.Common.{ap, sym, refl, inl, inr, ◌∙◌}
use Rattle.std.proofs.lemmas.Bool.{eqb-true}
use Rattle.cqs_rule_laws.specs.declared.view.Facts.{Facts}
use Rattle.cqs_rule.specs.Passes.{pass_view}
use Rattle.cqs_pool.specs.Pool.{pool_object}
use Rattle.cqs_rule_laws.proofs.Places.{goes-is, goes-met}
use Rattle.cqs_c_callers.proofs.PoolKept.{owes-none, elements_same, elements_both}
use Rattle.cqs_c_callers.proofs.TokenSteps.{the_wait, same_waits}
use Rattle.cqs_c_callers.proofs.Every.{every_same}
use Rattle.cqs_c_callers.proofs.NotRefused.{no-cause, none-there}
use Rattle.cqs_c_callers.proofs.pool_caller.PoolCaller.meet.Goals as goal

pub returns-in-Ok-clause-stands : goal.returns-in-Ok-clause-stands
returns-in-Ok-clause-stands c =
    let met = c.in-Ok.ensures.met in
    record {
      belongs = c.meet.ensures.belongs;
      owes = owes-none _ _ c.if-is_some.ensures c.meet.ensures.ready;
      waits = same_waits the_wait _ (pass_view c.meet.new.pass) _
          (goes-met pool_object _ _ _ _ _ _ met, ap (λ (f : Facts). f.waits) met.facts_are) c.requires.stands.waits;
      every = every_same _ _ _ (ap (λ (f : Facts). f.waits) met.facts_are) c.requires.stands.every;
      elements = elements_both _ _ _ _ c.in-Ok.ensures.elements
          (sym c.requires.given.elements.every
          ∙ (sym c.args.given.elements.ok.0 ∙ eqb-true _ 0 (sym c.if-not-is_empty.ensures)))
          c.requires.stands.elements;
    }

pub returns-in-Err-clause-stands : goal.returns-in-Err-clause-stands
returns-in-Err-clause-stands c =
    let same = c.in-Err.ensures.unchanged in
    record {
      belongs = c.meet.ensures.belongs;
      owes = owes-none _ _ c.if-is_some.ensures c.meet.ensures.ready;
      waits = same_waits the_wait _ _ _
          (goes-is _ _ (ap (λ p. pass_view p) same), ap (λ p. (pass_view p).facts.waits) same) c.requires.stands.waits;
      every = every_same _ _ _ (ap (λ p. (pass_view p).facts.waits) same) c.requires.stands.every;
      elements = elements_same _ _ _ (ap (λ p. (pass_view p).facts.has.slots) same) c.requires.stands.elements;
    }

pub returns-in-Ok-clause-met : goal.returns-in-Ok-clause-met
returns-in-Ok-clause-met c = record {
  free = λ more. elim more [
    | inl some ↦ none-there _ c.if-not-is_empty.ensures some
    | inr busy ↦ no-cause _ c.in-Ok.ensures.busy.1 busy
  ];
  met = c.in-Ok.ensures.met;
  laid = c.in-Ok.ensures.laid;
  course = c.in-Ok.ensures.course;
  elements = c.in-Ok.ensures.elements;
  keeps = record { waits = refl; elements = refl; under = refl };
}

pub returns-in-Err-clause-refused : goal.returns-in-Err-clause-refused
returns-in-Err-clause-refused c = inr (c.in-Err.ensures.busy.0 refl)
