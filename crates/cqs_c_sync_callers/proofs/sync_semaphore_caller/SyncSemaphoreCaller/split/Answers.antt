use Rattle.std.proofs.Common.{ap, subst, sym, refl, ◌∙◌}
use Rattle.cqs_rule_laws.specs.declared.view.Facts.{Facts}
use Rattle.cqs_rule_laws.proofs.Places.{goes-looked}
use Rattle.cqs_c_callers.proofs.SemaphoreKept.{kept-same}
use Rattle.cqs_c_sync_callers.proofs.SyncKept.{owes-none}
use Rattle.cqs_rule_laws.specs.Crew.{Came}
use Rattle.cqs_rule.specs.Passes.{pass_view}
use Rattle.cqs_semaphore_client.specs.Semaphore.{semaphore_object}
use Rattle.cqs_c_callers.proofs.NotRefused.{room-there}
use Rattle.cqs_c_callers.proofs.Every.{every_same}
use Rattle.cqs_c_sync_callers.proofs.sync_semaphore_caller.SyncSemaphoreCaller.split.Goals as goal

pub new-requires-clause-waits_for_nothing : goal.new-requires-clause-waits_for_nothing
new-requires-clause-waits_for_nothing c = ap (λ (f : Facts). f.waits) c.in-Ok.ensures.came.facts

pub returns-in-Ok-clause-stands : goal.returns-in-Ok-clause-stands
returns-in-Ok-clause-stands c = record {
  belongs = c.split.ensures.belongs;
  owes = owes-none _ _ c.if-is_some.ensures c.split.ensures.ready;
  waits = kept-same _ _ _ (goes-looked semaphore_object _ _ _ _ c.split.ensures.looked.saw)
      (ap (λ (f : Facts). f.waits) c.split.ensures.looked.facts_are) c.requires.stands.waits;
  apart = c.requires.stands.apart;
  every = every_same _ _ _ (ap (λ (f : Facts). f.waits) c.split.ensures.looked.facts_are) c.requires.stands.every;
}

pub returns-in-Err-clause-stands : goal.returns-in-Err-clause-stands
returns-in-Err-clause-stands c = record {
  belongs = c.split.ensures.belongs;
  owes = owes-none _ _ c.if-is_some.ensures c.split.ensures.ready;
  waits = kept-same _ _ _ (goes-looked semaphore_object _ _ _ _ c.split.ensures.looked.saw)
      (ap (λ (f : Facts). f.waits) c.split.ensures.looked.facts_are) c.requires.stands.waits;
  apart = c.requires.stands.apart;
  every = every_same _ _ _ (ap (λ (f : Facts). f.waits) c.split.ensures.looked.facts_are) c.requires.stands.every;
}

pub returns-in-Ok-clause-split : goal.returns-in-Ok-clause-split
returns-in-Ok-clause-split c = record {
  fewer = room-there _ _ c.in-Ok.ensures.crowd.1;
  looked = c.split.ensures.looked;
  came = subst (λ p. Came semaphore_object (pass_view c.split.new.pass) (pass_view p)) (sym c.new.ensures.pass)
      c.in-Ok.ensures.came;
  keeps = record { waits = refl; under = refl };
  no_waits = ap (λ ws. ws.items) c.new.ensures.waits ∙ c.requires.empty;
  owes_nothing = c.new.ensures.owes_nothing;
}

pub returns-in-Err-clause-refused : goal.returns-in-Err-clause-refused
returns-in-Err-clause-refused c = record {
  full = c.in-Err.ensures.crowd.0 refl;
  looked = c.split.ensures.looked;
  kept = c.in-Err.ensures.kept;
  keeps = record { waits = refl; under = refl };
}
