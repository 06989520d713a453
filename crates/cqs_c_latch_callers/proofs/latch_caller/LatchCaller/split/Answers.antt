use Rattle.std.proofs.Common.{ap, subst, sym, refl, ◌∙◌}
use Rattle.cqs_c_latch_callers.proofs.LatchKept.{owes-none}
use Rattle.cqs_c_callers.proofs.TokenSteps.{the_wait, tokens_stay}
use Rattle.cqs_c_callers.proofs.Every.{every_same}
use Rattle.cqs_rule_laws.specs.declared.view.Facts.{Facts}
use Rattle.cqs_rule_laws.specs.Crew.{Came}
use Rattle.cqs_rule.specs.Passes.{pass_view}
use Rattle.cqs_latch.specs.Latch.{latch_object}
use Rattle.cqs_c_callers.proofs.NotRefused.{room-there}
use Rattle.cqs_c_latch_callers.proofs.latch_caller.LatchCaller.split.Goals as goal

pub new-requires-clause-waits_for_nothing : goal.new-requires-clause-waits_for_nothing
new-requires-clause-waits_for_nothing c = ap (λ (f : Facts). f.waits) c.in-Ok.ensures.came.facts

pub returns-in-Ok-clause-stands : goal.returns-in-Ok-clause-stands
returns-in-Ok-clause-stands c = record {
  belongs = c.split.ensures.belongs;
  owes = owes-none _ _ c.if-is_some.ensures c.split.ensures.ready;
  waits = tokens_stay the_wait _ _ _ c.split.ensures.keeps c.requires.stands.waits;
  every = every_same _ _ _ (ap (λ (f : Facts). f.waits) c.split.ensures.looked.facts_are) c.requires.stands.every;
}

pub returns-in-Err-clause-stands : goal.returns-in-Err-clause-stands
returns-in-Err-clause-stands c = record {
  belongs = c.split.ensures.belongs;
  owes = owes-none _ _ c.if-is_some.ensures c.split.ensures.ready;
  waits = tokens_stay the_wait _ _ _ c.split.ensures.keeps c.requires.stands.waits;
  every = every_same _ _ _ (ap (λ (f : Facts). f.waits) c.split.ensures.looked.facts_are) c.requires.stands.every;
}

pub returns-in-Ok-clause-split : goal.returns-in-Ok-clause-split
returns-in-Ok-clause-split c = record {
  fewer = room-there _ _ c.in-Ok.ensures.crowd.1;
  looked = c.split.ensures.looked;
  came = subst (λ p. Came latch_object (pass_view c.split.new.pass) (pass_view p)) (sym c.new.ensures.pass)
      c.in-Ok.ensures.came;
  keeps = record { waits = refl; owed = refl; open_yet = c.split.ensures.keeps };
  no_waits = ap (λ ws. ws.items) c.new.ensures.waits ∙ c.requires.empty;
  owes_nothing = c.new.ensures.owes_nothing;
}

pub returns-in-Err-clause-refused : goal.returns-in-Err-clause-refused
returns-in-Err-clause-refused c = record {
  full = c.in-Err.ensures.crowd.0 refl;
  looked = c.split.ensures.looked;
  kept = c.in-Err.ensures.kept;
  keeps = record { waits = refl; owed = refl; open_yet = c.split.ensures.keeps };
}
