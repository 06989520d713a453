use Rattle.std.proofs.Common.{ap, refl}
use Rattle.cqs_rule_laws.specs.declared.view.Facts.{Facts}
use Rattle.cqs_rule.specs.Passes.{pass_view}
use Rattle.cqs_c_latch_callers.proofs.LatchKept.{owes-none}
use Rattle.cqs_c_callers.proofs.TokenSteps.{the_wait, tokens_stay}
use Rattle.cqs_c_callers.proofs.Every.{every_same}
use Rattle.cqs_c_callers.proofs.NotRefused.{no-cause}
use Rattle.cqs_c_latch_callers.proofs.latch_caller.LatchCaller.meet.Goals as goal

pub returns-in-Ok-clause-stands : goal.returns-in-Ok-clause-stands
returns-in-Ok-clause-stands c = record {
  belongs = c.meet.ensures.belongs;
  owes = owes-none _ _ c.if-is_some.ensures c.meet.ensures.ready;
  waits = tokens_stay the_wait _ _ _ c.meet.ensures.keeps c.requires.stands.waits;
  every = every_same _ _ _ (ap (λ (f : Facts). f.waits) c.in-Ok.ensures.met.facts_are) c.requires.stands.every;
}

pub returns-in-Err-clause-stands : goal.returns-in-Err-clause-stands
returns-in-Err-clause-stands c = record {
  belongs = c.meet.ensures.belongs;
  owes = owes-none _ _ c.if-is_some.ensures c.meet.ensures.ready;
  waits = tokens_stay the_wait _ _ _ c.meet.ensures.keeps c.requires.stands.waits;
  every = every_same _ _ _ (ap (λ p. (pass_view p).facts.waits) c.in-Err.ensures.unchanged) c.requires.stands.every;
}

pub returns-in-Ok-clause-met : goal.returns-in-Ok-clause-met
returns-in-Ok-clause-met c = record {
  free = no-cause _ c.in-Ok.ensures.busy.1;
  met = c.in-Ok.ensures.met;
  laid = c.in-Ok.ensures.laid;
  keeps = record { waits = refl; owed = refl; open_yet = c.meet.ensures.keeps };
}

pub returns-in-Err-clause-refused : goal.returns-in-Err-clause-refused
returns-in-Err-clause-refused c = c.in-Err.ensures.busy.0 refl
