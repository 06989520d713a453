use Rattle.std.proofs.Common.{ap, subst, sym, refl, ◌∙◌, arith}
use Rattle.cqs_rule_laws.specs.CallRule.{IsReady}
use Rattle.cqs_barrier.specs.Waits.{wait_in}
use Rattle.cqs_rule_laws.specs.declared.view.Facts.{Facts}
use Rattle.cqs_rule.specs.Passes.{pass_view}
use Rattle.cqs_rule_laws.proofs.Places.{goes-looked}
use Rattle.cqs_c_latch_callers.proofs.BarrierKept.{owes-none, none-owed, apart-none, lessened-ready, first-ready, every-stays}
use Rattle.cqs_c_callers.proofs.TokenSteps.{same_waits}
use Rattle.cqs_rule_laws.specs.Crew.{CameWith}
use Rattle.cqs_barrier.specs.Barrier.{barrier_object}
use Rattle.cqs_c_callers.proofs.NotRefused.{room-there}
use Rattle.cqs_c_latch_callers.proofs.barrier_caller.BarrierCaller.split.Goals as goal

pub new-requires-clause-ready : goal.new-requires-clause-ready
new-requires-clause-ready c = first-ready _ _ c.in-Ok.ensures.came.facts

pub new-requires-clause-waits_for_nothing : goal.new-requires-clause-waits_for_nothing
new-requires-clause-waits_for_nothing c = ap (λ (f : Facts). f.waits) c.in-Ok.ensures.came.facts

pub returns-in-Ok-clause-stands : goal.returns-in-Ok-clause-stands
returns-in-Ok-clause-stands c =
    let v = pass_view c.args.self.now.pass in
    let w = pass_view c.split.new.pass in
    let gave = c.in-Ok.ensures.gave in
    record {
      belongs = c.split.ensures.belongs;
      owes = owes-none w _ c.if-is_some.ensures
          (lessened-ready _ v.facts w.facts gave.facts_are (none-owed v _ c.if-is_some.ensures c.requires.stands.owes));
      waits = same_waits wait_in v w _
          (goes-looked barrier_object _ _ _ _ gave, ap (λ (f : Facts). f.waits) gave.facts_are)
          c.requires.stands.waits;
      apart = apart-none _ _ c.if-is_some.ensures;
      every = every-stays _ _ _ _ (ap (λ (f : Facts). f.waits) gave.facts_are) c.requires.stands.every;
    }

pub returns-in-Err-clause-stands : goal.returns-in-Err-clause-stands
returns-in-Err-clause-stands c =
    let v = pass_view c.args.self.now.pass in
    let w = pass_view c.split.new.pass in
    let looked = c.in-Err.ensures.refused in
    record {
      belongs = c.split.ensures.belongs;
      owes = owes-none w _ c.if-is_some.ensures
          (subst IsReady (sym looked.facts_are) (none-owed v _ c.if-is_some.ensures c.requires.stands.owes));
      waits = same_waits wait_in v w _
          (goes-looked barrier_object _ _ _ _ looked, ap (λ (f : Facts). f.waits) looked.facts_are)
          c.requires.stands.waits;
      apart = apart-none _ _ c.if-is_some.ensures;
      every = every-stays _ _ _ _ (ap (λ (f : Facts). f.waits) looked.facts_are) c.requires.stands.every;
    }

pub returns-in-Ok-clause-split : goal.returns-in-Ok-clause-split
returns-in-Ok-clause-split c = record {
  enough = omega arith;
  fewer = room-there _ _ c.in-Ok.ensures.crowd.1;
  gave = c.in-Ok.ensures.gave;
  came = subst (λ p. CameWith barrier_object c.args.gives (pass_view c.split.new.pass) (pass_view p))
      (sym c.new.ensures.pass)
      c.in-Ok.ensures.came;
  keeps = record { waits = refl; owed = refl };
  no_waits = ap (λ ws. ws.items) c.new.ensures.waits ∙ c.requires.empty;
  owes_nothing = c.new.ensures.owes_nothing;
}

pub returns-in-Err-clause-refused : goal.returns-in-Err-clause-refused
returns-in-Err-clause-refused c = record {
  full = c.in-Err.ensures.crowd.0 refl;
  looked = c.in-Err.ensures.refused;
  kept = c.in-Err.ensures.kept;
  keeps = record { waits = refl; owed = refl };
}
