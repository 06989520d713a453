use Rattle.std.proofs.Common.{ap, subst, sym, refl, ◌∙◌}
use Rattle.cqs_rule_laws.specs.declared.view.Facts.{Facts}
use Rattle.cqs_rule_laws.proofs.Places.{goes-looked}
use Rattle.cqs_c_callers.proofs.PoolKept.{owes-none, elements_same}
use Rattle.cqs_c_callers.proofs.TokenSteps.{the_wait, same_waits}
use Rattle.cqs_c_callers.proofs.Every.{every_same}
use Rattle.cqs_rule_laws.specs.Crew.{Came}
use Rattle.cqs_rule.specs.Passes.{pass_view}
use Rattle.cqs_pool.specs.Pool.{pool_object}
use Rattle.cqs_c_callers.proofs.NotRefused.{room-there}
use Rattle.cqs_c_callers.proofs.pool_caller.PoolCaller.split.Goals as goal

pub new-requires-clause-waits_for_nothing : goal.new-requires-clause-waits_for_nothing
new-requires-clause-waits_for_nothing c = ap (λ (f : Facts). f.waits) c.in-Ok.ensures.came.facts

pub new-requires-clause-has_nothing : goal.new-requires-clause-has_nothing
new-requires-clause-has_nothing c = ap (λ (f : Facts). f.has.slots) c.in-Ok.ensures.came.facts

pub returns-in-Ok-clause-stands : goal.returns-in-Ok-clause-stands
returns-in-Ok-clause-stands c =
    let same = c.split.ensures.looked.facts_are in
    record {
      belongs = c.split.ensures.belongs;
      owes = owes-none _ _ c.if-is_some.ensures c.split.ensures.ready;
      waits = same_waits the_wait _ _ _
          (goes-looked pool_object _ _ _ _ c.split.ensures.looked.saw, ap (λ (f : Facts). f.waits) same)
          c.requires.stands.waits;
      every = every_same _ _ _ (ap (λ (f : Facts). f.waits) same) c.requires.stands.every;
      elements = elements_same _ _ _ (ap (λ (f : Facts). f.has.slots) same) c.requires.stands.elements;
    }

pub returns-in-Err-clause-stands : goal.returns-in-Err-clause-stands
returns-in-Err-clause-stands c =
    let same = c.split.ensures.looked.facts_are in
    record {
      belongs = c.split.ensures.belongs;
      owes = owes-none _ _ c.if-is_some.ensures c.split.ensures.ready;
      waits = same_waits the_wait _ _ _
          (goes-looked pool_object _ _ _ _ c.split.ensures.looked.saw, ap (λ (f : Facts). f.waits) same)
          c.requires.stands.waits;
      every = every_same _ _ _ (ap (λ (f : Facts). f.waits) same) c.requires.stands.every;
      elements = elements_same _ _ _ (ap (λ (f : Facts). f.has.slots) same) c.requires.stands.elements;
    }

pub returns-in-Ok-clause-split : goal.returns-in-Ok-clause-split
returns-in-Ok-clause-split c = record {
  fewer = room-there _ _ c.in-Ok.ensures.crowd.1;
  looked = c.split.ensures.looked;
  came = subst (λ p. Came pool_object (pass_view c.split.new.pass) (pass_view p)) (sym c.new.ensures.pass)
      c.in-Ok.ensures.came;
  keeps = record { waits = refl; elements = refl; under = refl };
  no_waits = ap (λ ws. ws.items) c.new.ensures.waits ∙ c.requires.no_waits;
  no_elements = ap (λ xs. xs.items) c.new.ensures.elements ∙ c.requires.no_elements;
  owes_nothing = c.new.ensures.owes_nothing;
}

pub returns-in-Err-clause-refused : goal.returns-in-Err-clause-refused
returns-in-Err-clause-refused c = record {
  full = c.in-Err.ensures.crowd.0 refl;
  looked = c.split.ensures.looked;
  kept = c.in-Err.ensures.kept;
  keeps = record { waits = refl; elements = refl; under = refl };
}
