use Rattle.cqs_rule_laws.proofs.Places.{goes-same}
use Rattle.cqs_c_callers.proofs.SemaphoreKept.{kept-same}
use Rattle.cqs_c_sync_callers.proofs.SyncKept.{owes-none}
use Rattle.std.proofs.Common.{rules, ◌∙◌, ℤ, ap, sym, inr}
use Rattle.std.proofs.lemmas.Int.{to_z-of_z}
use mir.Syntax.{w64}
use Rattle.cqs_c_callers.specs.declared.answers.Answer.TheVariants.{Contended}
use Rattle.cqs_c_callers.specs.SemaphoreTold.{told_tried}
use Rattle.cqs_c_callers.proofs.Every.{every_same}
use Rattle.cqs_c_sync_callers.proofs.sync_semaphore_caller.SyncSemaphoreCaller.try_acquire.Goals as goal

pub returns-in-Got-clause-stands : goal.returns-in-Got-clause-stands
returns-in-Got-clause-stands c =
    let tries = rw c.in-Got.is at c.try_acquire.ensures.tries in
    record {
      belongs = c.try_acquire.ensures.belongs;
      owes = owes-none _ _ c.if-is_some.ensures c.try_acquire.ensures.ready;
      waits = kept-same _ _ _ (goes-same _ _ c.try_acquire.ensures.called.called.same) tries.1.rests.waits_are
          c.requires.stands.waits;
      apart = c.requires.stands.apart;
      every = every_same _ _ _ tries.1.rests.waits_are c.requires.stands.every;
    }

pub returns-in-Busy-clause-stands : goal.returns-in-Busy-clause-stands
returns-in-Busy-clause-stands c =
    let tries = rw c.in-Busy.is at c.try_acquire.ensures.tries in
    record {
      belongs = c.try_acquire.ensures.belongs;
      owes = owes-none _ _ c.if-is_some.ensures c.try_acquire.ensures.ready;
      waits = kept-same _ _ _ (goes-same _ _ c.try_acquire.ensures.called.called.same) tries.rests.waits_are
          c.requires.stands.waits;
      apart = c.requires.stands.apart;
      every = every_same _ _ _ tries.rests.waits_are c.requires.stands.every;
    }

pub returns-in-Contended-clause-stands : goal.returns-in-Contended-clause-stands
returns-in-Contended-clause-stands c =
    let tries = rw c.in-Contended.is at c.try_acquire.ensures.tries in
    record {
      belongs = c.try_acquire.ensures.belongs;
      owes = owes-none _ _ c.if-is_some.ensures c.try_acquire.ensures.ready;
      waits = kept-same _ _ _ (goes-same _ _ c.try_acquire.ensures.called.called.same) tries.rests.waits_are
          c.requires.stands.waits;
      apart = c.requires.stands.apart;
      every = every_same _ _ _ tries.rests.waits_are c.requires.stands.every;
    }

pub returns-in-Got-clause-answered : goal.returns-in-Got-clause-answered
returns-in-Got-clause-answered c =
    inr (record {
      given = c.try_acquire.result;
      told = ap told_tried (sym c.in-Got.is);
      called = c.try_acquire.ensures.called;
      tries = c.try_acquire.ensures.tries;
    })

pub returns-in-Busy-clause-answered : goal.returns-in-Busy-clause-answered
returns-in-Busy-clause-answered c =
    inr (record {
      given = c.try_acquire.result;
      told = ap told_tried (sym c.in-Busy.is);
      called = c.try_acquire.ensures.called;
      tries = c.try_acquire.ensures.tries;
    })

pub returns-in-Contended-clause-answered : goal.returns-in-Contended-clause-answered
returns-in-Contended-clause-answered c =
    inr (record {
      given = c.try_acquire.result;
      told = ap (λ (p : ℤ × ℤ). Contended p.0 p.1) (λ k.
          (to_z-of_z w64 c.in-Contended.saw (search rules) k, to_z-of_z w64 c.in-Contended.found (search rules) k))
          ∙ ap told_tried (sym c.in-Contended.is);
      called = c.try_acquire.ensures.called;
      tries = c.try_acquire.ensures.tries;
    })
