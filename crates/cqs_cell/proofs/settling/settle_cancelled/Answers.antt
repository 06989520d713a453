use Rattle.std.proofs.Common.{◌∙◌}
use Rattle.cqs_core.specs.declared.cells.CoreState.TheVariants as state
use Rattle.cqs_cell.proofs.Made.{after-miss, delegated-left, none-settles}
use Rattle.cqs_cell.proofs.settling.settle_cancelled.Goals as goal

pub cross_surely-requires-clause-works : goal.cross_surely-requires-clause-works
cross_surely-requires-clause-works g c =
    let C = g.C.ClientWords in
    let m = c.in-Err.ensures.missed in
    let is = delegated-left m.missed.glimpse.state m.missed.may (m.missed.other tt) in
    (after-miss C.object C.primitive _ _ _ state.Delegated _ _ _ m is (λ e. absurd (cc))).doing ∙ c.requires.decided

pub cross_surely-requires-clause-place : goal.cross_surely-requires-clause-place
cross_surely-requires-clause-place g c =
    let C = g.C.ClientWords in
    let m = c.in-Err.ensures.missed in
    let is = delegated-left m.missed.glimpse.state m.missed.may (m.missed.other tt) in
    (after-miss C.object C.primitive _ _ _ state.Delegated _ _ _ m is (λ e. absurd (cc))).place c.args.at
    c.requires.place

pub cross_surely-requires-clause-last : goal.cross_surely-requires-clause-last
cross_surely-requires-clause-last g c =
    let C = g.C.ClientWords in
    let m = c.in-Err.ensures.missed in
    let is = delegated-left m.missed.glimpse.state m.missed.may (m.missed.other tt) in
    (after-miss C.object C.primitive _ _ _ state.Delegated _ _ _ m is (λ e. absurd (cc))).last

pub cross_surely-requires-clause-sure : goal.cross_surely-requires-clause-sure
cross_surely-requires-clause-sure g c = none-settles
