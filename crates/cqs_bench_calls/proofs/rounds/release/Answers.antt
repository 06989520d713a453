use Rattle.std.proofs.Common.{refl}
use Rattle.cqs_semaphore_client.specs.Semaphore.{semaphore_object}
use Rattle.cqs_bench_calls.proofs.Keeping.{keeps-step, keeps-resumed, idle-resumed}
use Rattle.cqs_bench_calls.proofs.rounds.release.Goals as goal

pub returns-then-not-is_below_zero-clause-waits :
    goal.returns-then-not-is_below_zero-clause-waits
returns-then-not-is_below_zero-clause-waits c = record {
  each = keeps-step semaphore_object _ _ _ _ c.give_permit.ensures.saw.saw refl;
}

pub returns-in-Under-clause-waits : goal.returns-in-Under-clause-waits
returns-in-Under-clause-waits c = record {
  each = λ wait h. keeps-resumed semaphore_object _ _ _ _ _ _ _ (c.resume.ensures.ample c.requires.ample) wait
      (keeps-step semaphore_object _ _ _ _ c.give_permit.ensures.saw.saw refl wait h);
}

pub returns-in-Served : goal.returns-in-Served
returns-in-Served c = record {
  belongs = c.resume.ensures.belongs;
  idle = λ _. idle-resumed semaphore_object _ _ _ _ _ _ _ (c.resume.ensures.ample c.requires.ample) c.in-Served.is;
  waits = record {
    each = λ wait h. keeps-resumed semaphore_object _ _ _ _ _ _ _ (c.resume.ensures.ample c.requires.ample) wait
        (keeps-step semaphore_object _ _ _ _ c.give_permit.ensures.saw.saw refl wait h);
  };
}
