use Rattle.std.proofs.Common.{ap, subst, sym, ◌∙◌, inr, Ok, Err}
use Rattle.cqs_barrier.specs.Arriving.{Arrives}
use Rattle.cqs_barrier.specs.Waits.{wait_in}
use Rattle.cqs_rule.specs.Passes.{pass_view}
use Rattle.cqs_c_callers.specs.Tokens.{HasTokens}
use Rattle.cqs_rule_laws.proofs.Places.{goes-same}
use Rattle.cqs_c_latch_callers.proofs.BarrierKept.{owes-none, apart-none, through-waits, every-none, none-every, every-stays}
use Rattle.cqs_c_callers.proofs.TokenSteps.{same_waits, one_more}
use Rattle.cqs_c_callers.proofs.Every.{every_same, every_more}
use Rattle.cqs_c_callers.specs.declared.answers.Answer.TheVariants as answer
use Rattle.cqs_c_latch_callers.specs.BarrierTold.{told_arrived}
use Rattle.cqs_c_latch_callers.proofs.barrier_caller.BarrierCaller.arrive.Goals as goal

pub returns-in-Ok-Last-clause-stands : goal.returns-in-Ok-Last-clause-stands
returns-in-Ok-Last-clause-stands c =
    let v = pass_view c.args.self.now.pass in
    let w = pass_view c.arrive.new.pass in
    let told = subst (λ arrived. Arrives v arrived w) c.in-Ok-Last.field-0-is c.in-Ok-Last.ensures.arrived in
    record {
      belongs = c.arrive.ensures.belongs;
      owes = owes-none w _ c.if-is_some.ensures told.1.ready;
      waits = same_waits wait_in v w _ (through-waits v w told) c.requires.stands.waits;
      apart = apart-none _ _ c.if-is_some.ensures;
      every = every-stays _ _ _ _ (through-waits v w told).1 c.requires.stands.every;
    }

pub returns-in-Ok-LastOwing-clause-stands : goal.returns-in-Ok-LastOwing-clause-stands
returns-in-Ok-LastOwing-clause-stands c =
    let v = pass_view c.args.self.now.pass in
    let w = pass_view c.arrive.new.pass in
    let told = subst (λ arrived. Arrives v arrived w) c.in-Ok-LastOwing.field-0-is c.in-Ok-LastOwing.ensures.arrived in
    record {
      belongs = c.arrive.ensures.belongs;
      owes = told.2;
      waits = same_waits wait_in v w _ (goes-same _ _ told.1.called.called.same, told.5) c.requires.stands.waits;
      apart = tt;
      every = every_same _ _ _ told.5 (none-every _ _ _ c.if-is_some.ensures c.requires.stands.every);
    }

pub returns-in-Ok-Later-clause-stands : goal.returns-in-Ok-Later-clause-stands
returns-in-Ok-Later-clause-stands c =
    let v = pass_view c.args.self.now.pass in
    let w = pass_view c.arrive.new.pass in
    let wait = c.in-Ok-Later.wait in
    let told = subst (λ arrived. Arrives v arrived w) c.in-Ok-Later.field-0-is c.in-Ok-Later.ensures.arrived in
    record {
      belongs = c.arrive.ensures.belongs;
      owes = owes-none w _ c.if-is_some.ensures told.2.ready;
      waits = subst (HasTokens wait_in w) (sym c.push_reserved.ensures.items)
          (one_more wait_in v w _ wait (goes-same _ _ told.0.called.called.same, told.2.waits_are)
          c.arrive.ensures.belongs.live.inside told.1 c.requires.stands.waits);
      apart = apart-none _ _ c.if-is_some.ensures;
      every = every-none _ _ _ c.if-is_some.ensures
          (every_more _ _ _ _ wait _ c.push_reserved.ensures.items told.2.waits_are
          (none-every _ _ _ c.if-is_some.ensures c.requires.stands.every));
    }

pub returns-in-Err-Worn-clause-stands : goal.returns-in-Err-Worn-clause-stands
returns-in-Err-Worn-clause-stands c =
    let v = pass_view c.args.self.now.pass in
    let w = pass_view c.arrive.new.pass in
    let worn = c.in-Err-Worn.ensures.worn (ap Err c.in-Err-Worn.field-0-is) in
    record {
      belongs = c.arrive.ensures.belongs;
      owes = owes-none w _ c.if-is_some.ensures worn.rests.ready;
      waits = same_waits wait_in v w _ (goes-same _ _ worn.called.called.same, worn.rests.waits_are)
          c.requires.stands.waits;
      apart = apart-none _ _ c.if-is_some.ensures;
      every = every-stays _ _ _ _ worn.rests.waits_are c.requires.stands.every;
    }

pub returns-in-Err-Crowded-clause-stands : goal.returns-in-Err-Crowded-clause-stands
returns-in-Err-Crowded-clause-stands c =
    let v = pass_view c.args.self.now.pass in
    let w = pass_view c.arrive.new.pass in
    let crowded = c.in-Err-Crowded.ensures.crowded (ap Err c.in-Err-Crowded.field-0-is) in
    record {
      belongs = c.arrive.ensures.belongs;
      owes = owes-none w _ c.if-is_some.ensures crowded.rests.ready;
      waits = same_waits wait_in v w _ (goes-same _ _ crowded.called.called.same, crowded.rests.waits_are)
          c.requires.stands.waits;
      apart = apart-none _ _ c.if-is_some.ensures;
      every = every-stays _ _ _ _ crowded.rests.waits_are c.requires.stands.every;
    }

pub returns-in-Ok-Last-clause-answered : goal.returns-in-Ok-Last-clause-answered
returns-in-Ok-Last-clause-answered c =
    inr (record {
      given = c.arrive.result;
      told = ap told_arrived (sym (c.in-Ok-Last.is ∙ ap Ok c.in-Ok-Last.field-0-is));
      worn = c.arrive.ensures.worn;
      crowded = c.arrive.ensures.crowded;
      arrived = c.arrive.ensures.arrived;
    })

pub returns-in-Ok-LastOwing-clause-answered : goal.returns-in-Ok-LastOwing-clause-answered
returns-in-Ok-LastOwing-clause-answered c =
    inr (record {
      given = c.arrive.result;
      told = ap answer.LastOwing c.reached-reached.ensures
          ∙ ap told_arrived (sym (c.in-Ok-LastOwing.is ∙ ap Ok c.in-Ok-LastOwing.field-0-is));
      worn = c.arrive.ensures.worn;
      crowded = c.arrive.ensures.crowded;
      arrived = c.arrive.ensures.arrived;
    })

pub returns-in-Ok-Later-clause-answered : goal.returns-in-Ok-Later-clause-answered
returns-in-Ok-Later-clause-answered c =
    inr (record {
      given = c.arrive.result;
      told = ap answer.Later c.number-number.ensures
          ∙ ap told_arrived (sym (c.in-Ok-Later.is ∙ ap Ok c.in-Ok-Later.field-0-is));
      worn = c.arrive.ensures.worn;
      crowded = c.arrive.ensures.crowded;
      arrived = c.arrive.ensures.arrived;
    })

pub returns-in-Err-Worn-clause-answered : goal.returns-in-Err-Worn-clause-answered
returns-in-Err-Worn-clause-answered c =
    inr (record {
      given = c.arrive.result;
      told = ap told_arrived (sym (c.in-Err-Worn.is ∙ ap Err c.in-Err-Worn.field-0-is));
      worn = c.arrive.ensures.worn;
      crowded = c.arrive.ensures.crowded;
      arrived = c.arrive.ensures.arrived;
    })

pub returns-in-Err-Crowded-clause-answered : goal.returns-in-Err-Crowded-clause-answered
returns-in-Err-Crowded-clause-answered c =
    inr (record {
      given = c.arrive.result;
      told = ap told_arrived (sym (c.in-Err-Crowded.is ∙ ap Err c.in-Err-Crowded.field-0-is));
      worn = c.arrive.ensures.worn;
      crowded = c.arrive.ensures.crowded;
      arrived = c.arrive.ensures.arrived;
    })
