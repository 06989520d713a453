use Rattle.std.proofs.Common.{ap, subst, ◌∙◌}
use Rattle.cqs_core.specs.QueueStages as stage
use Rattle.cqs_core.specs.QueueStages.{MayFind}
use Rattle.cqs_rule_laws.specs.declared.view.Opening.{Opening}
use Rattle.cqs_rule.proofs.PlainQueues.{plain-opening}
use Rattle.cqs_core.specs.declared.cells.CoreState.TheVariants as state
use Rattle.cqs_rule_laws.proofs.CellSteps.{shown-injective}
use Rattle.cqs_cell.proofs.Made.{after-miss, none-takes}
use Rattle.cqs_cell.proofs.values.take_value.Goals as goal

pub cross_surely-requires-clause-works : goal.cross_surely-requires-clause-works
cross_surely-requires-clause-works g c =
    let C = g.C.ClientWords in
    let m = c.in-Err.ensures.missed in
    let is = shown-injective m.missed.glimpse.state state.Value (m.missed.state_is ∙ c.in-Value.is) in
    (after-miss C.object C.primitive _ _ _ state.Value _ _ _ m is (λ e. absurd (cc))).doing ∙ c.requires.drawn

pub cross_surely-requires-clause-place : goal.cross_surely-requires-clause-place
cross_surely-requires-clause-place g c =
    let C = g.C.ClientWords in
    let m = c.in-Err.ensures.missed in
    let is = shown-injective m.missed.glimpse.state state.Value (m.missed.state_is ∙ c.in-Value.is) in
    (after-miss C.object C.primitive _ _ _ state.Value _ _ _ m is (λ e. absurd (cc))).place c.args.at c.requires.place

pub cross_surely-requires-clause-last : goal.cross_surely-requires-clause-last
cross_surely-requires-clause-last g c =
    let C = g.C.ClientWords in
    let m = c.in-Err.ensures.missed in
    let is = shown-injective m.missed.glimpse.state state.Value (m.missed.state_is ∙ c.in-Value.is) in
    (after-miss C.object C.primitive _ _ _ state.Value _ _ _ m is (λ e. absurd (cc))).last

pub cross_surely-requires-clause-sure : goal.cross_surely-requires-clause-sure
cross_surely-requires-clause-sure g c =
    let C = g.C.ClientWords in
    let m = c.in-Err.ensures.missed in
    let plain = plain-opening c.args.queue.now c.args.pass.now g.met.C.ClientWords.keeps c.requires.belongs
    c.requires.plain in
    let same = ap (λ (o : Opening). o.sync) m.missed.saw.same.opening ∙ plain in
    λ x may more. none-takes x (subst (λ b. MayFind b stage.drawn x) same may) more
