use Rattle.std.proofs.Common.{ap, ◌∙◌, sym}
use Rattle.cqs_core.specs.declared.cells.CoreState.TheVariants as state
use Rattle.cqs_rule_laws.specs.Ruled.{shown_state}
use Rattle.cqs_rule_laws.proofs.CellSteps.{shown-injective}
use Rattle.cqs_cell.proofs.Made.{after-miss, made_after_miss, missed-once, missed-twice, never-back, taken-away}
use Rattle.cqs_cell.proofs.watching.break_value.Goals as goal

pub cross-requires-in-Value-clause-place : goal.cross-requires-in-Value-clause-place
cross-requires-in-Value-clause-place g c =
    let C = g.C.ClientWords in
    let m = c.in-Err.ensures.missed in
    let is = shown-injective m.missed.glimpse.state state.Value (m.missed.state_is ∙ c.in-Value.is) in
    (after-miss C.object C.primitive _ _ _ state.Value _ _ _ m is (λ e. absurd (cc))).place c.args.at c.requires.place

pub returns-in-Ok-cross-clause-made : goal.returns-in-Ok-cross-clause-made
returns-in-Ok-cross-clause-made g c =
    let C = g.C.ClientWords in (
      c.in-Err.cell.payload,
      made_after_miss C.object C.primitive _ _ _ _ _ _ _ _ _ c.in-Err.ensures.missed c.in-Ok-cross.ensures.made,
    )

pub returns-in-Err-cross-clause-missed : goal.returns-in-Err-cross-clause-missed
returns-in-Err-cross-clause-missed g c =
    let C = g.C.ClientWords in
    let m = c.in-Err.ensures.missed in
    let n = c.in-Err-cross.ensures.missed in
    let is = shown-injective m.missed.glimpse.state state.Value (m.missed.state_is ∙ c.in-Value.is) in
    let last = (after-miss C.object C.primitive _ _ _ state.Value _ _ _ m is (λ e. absurd (cc))).last in (
      missed-twice C.object C.primitive _ _ _ _ _ _ _ m.missed n.missed,
      sym n.missed.state_is ∙ taken-away n.missed.glimpse.state n.missed.may
          (never-back C.object C.primitive _ _ _ _ _ _ n last),
    )

pub returns-in_default-clause-missed : goal.returns-in_default-clause-missed
returns-in_default-clause-missed g c =
    let C = g.C.ClientWords in
    let m = c.in-Err.ensures.missed.missed in (
      missed-once C.object C.primitive _ _ _ _ _ m,
      sym m.state_is
          ∙ taken-away m.glimpse.state m.may
          (λ stands. c.in_default.not-Value (sym m.state_is ∙ ap shown_state stands)),
    )
