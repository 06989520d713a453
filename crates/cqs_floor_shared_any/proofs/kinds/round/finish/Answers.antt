use Rattle.std.proofs.Common.{[], refl, ◌∙◌}
use Rattle.cqs_barrier.specs.Barrier.{barrier_object}
use Rattle.cqs_barrier_object.specs.SoleCaller.{delivers}
use Rattle.cqs_rule.specs.Passes.{pass_view}
use Rattle.cqs_floor_shared_any.proofs.RoundsOne.{silent}
use Rattle.cqs_floor_shared_kinds.proofs.Runs.{went-none, went-then}
use Rattle.cqs_floor_shared_any.proofs.kinds.round.finish.Goals as goal

pub loop-init : goal.loop-init
loop-init g c = record {
  mine = c.requires.mine;
  owes = c.requires.owes;
  went = went-none barrier_object (pass_view c.args.pass.now) c.requires.mine.live.legal;
  held = refl;
  waits = refl;
}

pub loop-preserved : goal.loop-preserved
loop-preserved g c =
    let l = c.loop.invariant in
    let how = rw c.in-Err.is at c.finish.ensures.finished in
    record {
      mine = c.finish.ensures.belongs;
      owes = how.3;
      went = went-then barrier_object _ _ _ [] [] l.went (silent _ _ (delivers how.0) how.1.called);
      held = how.1.held ∙ l.held;
      waits = how.1.waits ∙ l.waits;
    }

pub returns-in-Ok-clause-went : goal.returns-in-Ok-clause-went
returns-in-Ok-clause-went g c =
    let how = rw c.in-Ok.is at c.finish.ensures.finished in
    went-then barrier_object _ _ _ [] [] c.loop.invariant.went (silent _ _ (delivers how.0) how.2.called)

pub returns-in-Ok-clause-rests : goal.returns-in-Ok-clause-rests
returns-in-Ok-clause-rests g c =
    let l = c.loop.invariant in
    let how = rw c.in-Ok.is at c.finish.ensures.finished in
    record { ready = how.4; held_is = how.2.held ∙ l.held; waits_are = how.2.waits ∙ l.waits }
