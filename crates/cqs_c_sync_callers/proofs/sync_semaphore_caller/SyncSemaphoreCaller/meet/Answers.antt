use Rattle.std.proofs.Common.{ap, refl}
use Rattle.cqs_rule_laws.specs.declared.view.Facts.{Facts}
use Rattle.cqs_rule.specs.Passes.{pass_view}
use Rattle.cqs_semaphore_client.specs.Semaphore.{semaphore_object}
use Rattle.cqs_rule_laws.proofs.Places.{goes-met, goes-is}
use Rattle.cqs_c_callers.proofs.SemaphoreKept.{kept-same}
use Rattle.cqs_c_sync_callers.proofs.SyncKept.{owes-none}
use Rattle.cqs_c_callers.proofs.NotRefused.{no-cause}
use Rattle.cqs_c_callers.proofs.Every.{every_same}
use Rattle.cqs_c_sync_callers.proofs.sync_semaphore_caller.SyncSemaphoreCaller.meet.Goals as goal

pub returns-in-Ok-clause-stands : goal.returns-in-Ok-clause-stands
returns-in-Ok-clause-stands c = record {
  belongs = c.meet.ensures.belongs;
  owes = owes-none _ _ c.if-is_some.ensures c.meet.ensures.ready;
  waits = kept-same _ _ _ (goes-met semaphore_object _ _ _ _ _ _ c.in-Ok.ensures.met)
      (ap (λ (f : Facts). f.waits) c.in-Ok.ensures.met.facts_are) c.requires.stands.waits;
  apart = c.requires.stands.apart;
  every = every_same _ _ _ (ap (λ (f : Facts). f.waits) c.in-Ok.ensures.met.facts_are) c.requires.stands.every;
}

pub returns-in-Err-clause-stands : goal.returns-in-Err-clause-stands
returns-in-Err-clause-stands c = record {
  belongs = c.meet.ensures.belongs;
  owes = owes-none _ _ c.if-is_some.ensures c.meet.ensures.ready;
  waits = kept-same _ _ _ (goes-is _ _ (ap (λ p. pass_view p) c.in-Err.ensures.unchanged))
      (ap (λ p. (pass_view p).facts.waits) c.in-Err.ensures.unchanged) c.requires.stands.waits;
  apart = c.requires.stands.apart;
  every = every_same _ _ _ (ap (λ p. (pass_view p).facts.waits) c.in-Err.ensures.unchanged) c.requires.stands.every;
}

pub returns-in-Ok-clause-met : goal.returns-in-Ok-clause-met
returns-in-Ok-clause-met c = record {
  free = no-cause _ c.in-Ok.ensures.busy.1;
  met = c.in-Ok.ensures.met;
  course = c.in-Ok.ensures.course;
  held = c.in-Ok.ensures.held;
  keeps = record { waits = refl; under = refl };
}

pub returns-in-Err-clause-refused : goal.returns-in-Err-clause-refused
returns-in-Err-clause-refused c = c.in-Err.ensures.busy.0 refl
