use Rattle.std.proofs.Common.{refl, ap, ◌∙◌, arith}
use Rattle.cqs_rule_laws.specs.declared.view.Opening.{Opening}
use Rattle.cqs_rule.specs.Passes.{pass_view}
use Rattle.cqs_rule.proofs.Places.{knows-saw}
use Rattle.cqs_resume.proofs.ValueLooks.{broken-seen, looks-taken, seen-looked, seen-none, seen-value, taken-seen, taken-since, value-stays}
use Rattle.cqs_resume.proofs.watching.watch_value.Goals as goal

pub loop-look-init : goal.loop-look-init
loop-look-init g c =
    let C = g.C.ClientWords in record {
      belongs = c.requires.belongs;
      watching = c.requires.watching;
      place = c.requires.place;
      seen = seen-none C.object C.primitive _ _;
    }

pub returns-in-Taken-clause-watched : goal.returns-in-Taken-clause-watched
returns-in-Taken-clause-watched g c =
    let C = g.C.ClientWords in
    let opening = ap (λ (o : Opening). o.looks) c.requires.belongs.opening ∙ c.requires.belongs.looks in (
      refl,
      taken-seen C.object C.primitive c.args.at.index c.loop-look._look _ _ _ _ c.loop-look.invariant.seen
          (omega (arith, opening, c.looks-look-end.ensures)) c.look.ensures.looks c.in-Taken.is,
    )

pub loop-look-preserved : goal.loop-look-preserved
loop-look-preserved g c =
    let C = g.C.ClientWords in
    let then = value-stays C.object C.primitive c.args.at.index _ _ _ c.look.ensures.looks c.in_default.not-Taken in
    record {
      belongs = c.look.ensures.belongs;
      watching = then.0;
      place = then.1 c.args.at c.loop-look.invariant.place;
      seen = seen-value C.object C.primitive c.args.at.index c.loop-look._look _ _ _ _ c.loop-look.invariant.seen
          c.look.ensures.looks c.in_default.not-Taken;
    }

pub break_value-requires-clause-looked : goal.break_value-requires-clause-looked
break_value-requires-clause-looked g c =
    let C = g.C.ClientWords in
    let opening = ap (λ (o : Opening). o.looks) c.loop-look.invariant.belongs.opening
    ∙ c.loop-look.invariant.belongs.looks in
    let looked = seen-looked C.object C.primitive c.args.at.index c.loop-look._look _ _ c.loop-look.invariant.seen
    c.requires.fresh in
    omega (arith, opening, looked, c.looks-look-end.ensures)

pub look-requires-in-Err-clause-place : goal.look-requires-in-Err-clause-place
look-requires-in-Err-clause-place g c =
    let C = g.C.ClientWords in
    knows-saw C.object (pass_view c.loop-look.pass) (pass_view c.break_value.new.pass) _ _ _
    c.in-Err.ensures.missed.0.saw
    c.loop-look.invariant.place

pub returns-in-Ok-clause-watched : goal.returns-in-Ok-clause-watched
returns-in-Ok-clause-watched g c =
    let C = g.C.ClientWords in
    let opening = ap (λ (o : Opening). o.looks) c.requires.belongs.opening ∙ c.requires.belongs.looks in (
      refl,
      broken-seen C.object C.primitive c.args.at.index c.loop-look._look _ _ _ _ c.loop-look.invariant.seen
          (omega (arith, opening, c.looks-look-end.ensures)) c.in-Ok.ensures.made.1,
    )

pub returns-in-Taken-state-clause-watched : goal.returns-in-Taken-state-clause-watched
returns-in-Taken-state-clause-watched g c =
    let C = g.C.ClientWords in
    let opening = ap (λ (o : Opening). o.looks) c.requires.belongs.opening ∙ c.requires.belongs.looks in (
      refl,
      taken-since C.object C.primitive c.args.at.index c.loop-look._look _ _ _ _ _ _ c.loop-look.invariant.seen
          (omega (arith, opening, c.looks-look-end.ensures)) c.in-Err.ensures.missed.0 c.look-in-Err.ensures.looks
          c.in-Taken-state.is,
    )

pub unreachable-requires : goal.unreachable-requires
unreachable-requires g c =
    let C = g.C.ClientWords in
    looks-taken C.object C.primitive c.args.at.index _ _ _ _ _ c.in-Err.ensures.missed.0 c.in-Err.ensures.missed.1
    c.look-in-Err.ensures.looks c.in_default-state.not-Taken
