use Rattle.std.proofs.Common.{ap, refl, inl, inr}
use Rattle.cqs_barrier.specs.Waits.{wait_in}
use Rattle.cqs_rule_laws.specs.declared.view.Facts.{Facts}
use Rattle.cqs_rule.specs.Passes.{pass_view}
use Rattle.cqs_barrier.specs.Barrier.{barrier_object}
use Rattle.cqs_rule_laws.proofs.Places.{goes-is, goes-met}
use Rattle.cqs_c_latch_callers.proofs.BarrierKept.{owes-none, apart-none, every-stays}
use Rattle.cqs_c_callers.proofs.TokenSteps.{same_waits}
use Rattle.cqs_c_callers.proofs.NotRefused.{no-cause}
use Rattle.cqs_c_latch_callers.proofs.barrier_caller.BarrierCaller.meet.Goals as goal

pub returns-in-Ok-clause-stands : goal.returns-in-Ok-clause-stands
returns-in-Ok-clause-stands c =
    let v = pass_view c.args.self.now.pass in
    let w = pass_view c.meet.new.pass in
    let met = c.in-Ok.ensures.met in
    record {
      belongs = c.meet.ensures.belongs;
      owes = owes-none w _ c.if-is_some.ensures c.meet.ensures.ready;
      waits = same_waits wait_in v w _
          (goes-met barrier_object _ _ _ _ _ _ met, ap (λ (f : Facts). f.waits) met.facts_are) c.requires.stands.waits;
      apart = apart-none _ _ c.if-is_some.ensures;
      every = every-stays _ _ _ _ (ap (λ (f : Facts). f.waits) met.facts_are) c.requires.stands.every;
    }

pub returns-in-Err-clause-stands : goal.returns-in-Err-clause-stands
returns-in-Err-clause-stands c =
    let v = pass_view c.args.self.now.pass in
    let w = pass_view c.meet.new.pass in
    let same = c.in-Err.ensures.unchanged in
    record {
      belongs = c.meet.ensures.belongs;
      owes = owes-none w _ c.if-is_some.ensures c.meet.ensures.ready;
      waits = same_waits wait_in v w _
          (goes-is _ _ (ap (λ p. pass_view p) same), ap (λ p. (pass_view p).facts.waits) same) c.requires.stands.waits;
      apart = apart-none _ _ c.if-is_some.ensures;
      every = every-stays _ _ _ _ (ap (λ p. (pass_view p).facts.waits) same) c.requires.stands.every;
    }

pub returns-in-Ok-clause-met : goal.returns-in-Ok-clause-met
returns-in-Ok-clause-met c = record {
  free = λ more. elim more [
    | inl owes ↦ let no = c.if-is_some-2.ensures in absurd (cc)
    | inr busy ↦ no-cause _ c.in-Ok.ensures.busy.1 busy
  ];
  met = c.in-Ok.ensures.met;
  laid = c.in-Ok.ensures.laid;
  held = c.in-Ok.ensures.held;
  keeps = record { waits = refl; owed = refl };
}

pub returns-in-Err-clause-refused : goal.returns-in-Err-clause-refused
returns-in-Err-clause-refused c = inr (c.in-Err.ensures.busy.0 refl)
