use Rattle.std.proofs.Common.{[], refl, subst, ◌∙◌}
use Rattle.cqs_barrier.specs.Barrier.{barrier_object}
use Rattle.cqs_barrier.specs.Leaving.{leaving_at}
use Rattle.cqs_plan.specs.declared.floors.answers.FloorLeave.TheVariants.{Gone, Late}
use Rattle.cqs_rule.specs.Passes.{pass_view}
use Rattle.cqs_floor_shared_any.specs.RoundsOne.{LeavesAt}
use Rattle.cqs_floor_shared_any.proofs.RoundsOne.{leaves-then, left-gone, left-late, numbers-then, silent}
use Rattle.cqs_floor_shared_kinds.proofs.Runs.{went-none, went-then}
use Rattle.cqs_floor_shared_any.proofs.kinds.round.leave_on.Goals as goal

pub loop-init : goal.loop-init
loop-init g c = record {
  mine = c.requires.mine;
  numbers = c.requires.numbers;
  has = c.requires.has;
  same_wait = refl;
  went = went-none barrier_object (pass_view c.args.pass.now) c.requires.mine.live.legal;
  held = refl;
  waits = refl;
}

pub loop-preserved : goal.loop-preserved
loop-preserved g c =
    let l = c.loop.invariant in
    let told = rw c.in-Contended.is at c.leave_again.ensures.left in
    let went = silent (pass_view c.loop.pass) (pass_view c.leave_again.new.pass) [] told.0 in
    record {
      mine = c.leave_again.ensures.belongs;
      numbers = numbers-then _ _ went.same l.numbers;
      has = told.1.still;
      same_wait = told.2 ∙ l.same_wait;
      went = went-then barrier_object _ _ _ [] [] l.went went;
      held = told.3 ∙ l.held;
      waits = told.4 ∙ l.waits;
    }

pub returns-in-Withdrawn-clause-left : goal.returns-in-Withdrawn-clause-left
returns-in-Withdrawn-clause-left g c =
    let l = c.loop.invariant in
    let u = pass_view c.loop.pass in
    let w = pass_view c.leave_again.new.pass in
    subst (λ k. LeavesAt k (pass_view c.args.pass.now) Gone w) l.same_wait
    (leaves-then (leaving_at c.loop.leaving).index (pass_view c.args.pass.now) u w Gone l.went l.held l.waits
    (left-gone (leaving_at c.loop.leaving).index u w l.numbers (rw c.in-Withdrawn.is at c.leave_again.ensures.left)))

pub returns-in-TooLate-clause-left : goal.returns-in-TooLate-clause-left
returns-in-TooLate-clause-left g c =
    let l = c.loop.invariant in
    let u = pass_view c.loop.pass in
    let w = pass_view c.leave_again.new.pass in
    subst (λ k. LeavesAt k (pass_view c.args.pass.now) (Late 0) w) l.same_wait
    (leaves-then (leaving_at c.loop.leaving).index (pass_view c.args.pass.now) u w (Late 0) l.went l.held l.waits
    (left-late (leaving_at c.loop.leaving).index u w l.numbers (rw c.in-TooLate.is at c.leave_again.ensures.left)))
