use Rattle.cqs_rule_laws.proofs.Places.{goes-same}
use Rattle.cqs_c_callers.proofs.SemaphoreKept.{kept-same}
use Rattle.cqs_c_sync_callers.proofs.SyncKept.{owes-none}
use Rattle.std.proofs.Common.{rules, ◌∙◌, inr, ap}
use Rattle.std.proofs.lemmas.Int.{to_z-of_z}
use mir.Syntax.{w64}
use Rattle.cqs_c_callers.specs.declared.answers.Answer.TheVariants.{State}
use Rattle.cqs_c_callers.proofs.Every.{every_same}
use Rattle.cqs_c_sync_callers.proofs.sync_semaphore_caller.SyncSemaphoreCaller.state.Goals as goal

pub returns-clause-stands : goal.returns-clause-stands
returns-clause-stands c = record {
  belongs = c.state.ensures.belongs;
  owes = owes-none _ _ c.if-is_some.ensures c.state.ensures.rests.ready;
  waits = kept-same _ _ _ (goes-same _ _ c.state.ensures.called.called.same) c.state.ensures.rests.waits_are
      c.requires.stands.waits;
  apart = c.requires.stands.apart;
  every = every_same _ _ _ c.state.ensures.rests.waits_are c.requires.stands.every;
}

pub returns-clause-answered : goal.returns-clause-answered
returns-clause-answered c =
    inr (record {
      told = ap State (to_z-of_z w64 _ (search rules) ∙ c.state.ensures.state);
      called = c.state.ensures.called;
    })
