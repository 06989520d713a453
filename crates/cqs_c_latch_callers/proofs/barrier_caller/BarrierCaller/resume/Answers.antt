use Rattle.std.proofs.Common.{subst, sym, ◌∙◌, ap}
use Rattle.cqs_barrier.specs.Waits.{wait_in}
use Rattle.cqs_rule.specs.Passes.{pass_view}
use Rattle.cqs_rule_laws.proofs.Places.{goes-same}
use Rattle.cqs_c_latch_callers.specs.BarrierCallers.{OwesJust, StayApart, AreEvery}
use Rattle.cqs_c_callers.proofs.TokenSteps.{same_waits}
use Rattle.cqs_c_callers.proofs.Every.{every_same}
use Rattle.cqs_c_callers.specs.declared.answers.Answer.TheVariants as answer
use Rattle.cqs_c_latch_callers.specs.BarrierTold.{told_finished}
use Rattle.cqs_c_latch_callers.proofs.barrier_caller.BarrierCaller.resume.Goals as goal

pub returns-in-Ok-clause-stands : goal.returns-in-Ok-clause-stands
returns-in-Ok-clause-stands c =
    let v = pass_view c.args.self.now.pass in
    let w = pass_view c.finish.new.pass in
    let told = c.in-Ok.ensures.finished in
    record {
      belongs = c.finish.ensures.belongs;
      owes = subst (OwesJust w) (sym c.requires.free) told.4;
      waits = same_waits wait_in v w _ (goes-same _ _ told.2.called.called.same, told.2.waits) c.requires.waits;
      apart = subst (λ o. StayApart o c.args.self.now.waits.items) (sym c.requires.free) tt;
      every = subst (λ o. AreEvery o c.args.self.now.waits.items w.facts.waits) (sym c.requires.free)
          (every_same _ _ _ told.2.waits c.requires.every);
    }

pub returns-in-Err-clause-stands : goal.returns-in-Err-clause-stands
returns-in-Err-clause-stands c =
    let v = pass_view c.args.self.now.pass in
    let w = pass_view c.finish.new.pass in
    let told = c.in-Err.ensures.finished in
    record {
      belongs = c.finish.ensures.belongs;
      owes = told.3;
      waits = same_waits wait_in v w _ (goes-same _ _ told.1.called.called.same, told.1.waits) c.requires.waits;
      apart = tt;
      every = every_same _ _ _ told.1.waits c.requires.every;
    }

pub returns-in-Ok-clause-resumed : goal.returns-in-Ok-clause-resumed
returns-in-Ok-clause-resumed c =
    record { given = c.finish.result; told = ap told_finished (sym c.in-Ok.is); finished = c.finish.ensures.finished }

pub returns-in-Err-clause-resumed : goal.returns-in-Err-clause-resumed
returns-in-Err-clause-resumed c =
    record {
      given = c.finish.result;
      told = ap answer.Under c.reached-reached.ensures ∙ ap told_finished (sym c.in-Err.is);
      finished = c.finish.ensures.finished;
    }
