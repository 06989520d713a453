use Rattle.std.proofs.Common.{[], refl, rules, ◌∙◌}
use Rattle.cqs_semaphore_client.specs.Semaphore.{semaphore_object}
use Rattle.cqs_rule.specs.Passes.{pass_view}
use Rattle.cqs_semaphore.proofs.PlainPasses.{plain-opening}
use Rattle.cqs_floor_shared_kinds.proofs.PermitLeaves.{silent}
use Rattle.cqs_floor_shared_kinds.proofs.PermitsServed.{found-gone, left-unserved, void-unserved}
use Rattle.cqs_floor_shared_kinds.proofs.Runs.{went-none, went-then}
use Rattle.cqs_floor_shared_kinds.proofs.kinds.permits.finish.Goals as goal

pub returns-in-Sent-clause-went : goal.returns-in-Sent-clause-went
returns-in-Sent-clause-went g c =
    went-then semaphore_object _ _ _ [] [] c.loop.invariant.went
    (silent _ _ _ (rw c.in-Sent.is at c.finish.ensures.called))

pub returns-in-Sent-clause-tells : goal.returns-in-Sent-clause-tells
returns-in-Sent-clause-tells g c =
    let rule = rw c.in-Sent.is at c.finish.ensures.called in
    (refl, (rule.called.before, rule.called.ends))

pub returns-in-Left-clause-went : goal.returns-in-Left-clause-went
returns-in-Left-clause-went g c =
    went-then semaphore_object _ _ _ [] [] c.loop.invariant.went
    (silent _ _ _ (rw c.in-Left.is at c.finish.ensures.called))

pub returns-in-Left-clause-tells : goal.returns-in-Left-clause-tells
returns-in-Left-clause-tells g c =
    let ends = rw c.in-Left.is at c.finish.ensures.ends in
    let unserved = left-unserved _ _ (plain-opening c.args.semaphore.now c.finish.ensures.belongs (λ s. refl)) ends.0 in
    search rules

pub returns-in-Void-clause-tells : goal.returns-in-Void-clause-tells
returns-in-Void-clause-tells g c =
    let ends = rw c.in-Void.is at c.finish.ensures.ends in
    let plain = plain-opening c.args.semaphore.now c.finish.ensures.belongs (λ s. refl) in
    (found-gone _ _ plain ends.0, void-unserved _ _ plain ends.0)

pub returns-in-Void-clause-went : goal.returns-in-Void-clause-went
returns-in-Void-clause-went g c =
    went-then semaphore_object _ _ _ [] [] c.loop.invariant.went
    (silent _ _ _ (rw c.in-Void.is at c.finish.ensures.called))

pub loop-preserved : goal.loop-preserved
loop-preserved g c =
    let ends = rw c.in-Under.is at c.finish.ensures.ends in
    record {
      mine = c.finish.ensures.belongs;
      owes = ends.owes;
      further = ends.further;
      went = went-then semaphore_object _ _ _ [] [] c.loop.invariant.went
          (silent _ _ _ (rw c.in-Under.is at c.finish.ensures.called));
      held = ends.held_is ∙ c.loop.invariant.held;
      waits = ends.waits_are ∙ c.loop.invariant.waits;
    }

pub loop-init : goal.loop-init
loop-init g c =
    let mine = c.requires.mine in record {
      mine = mine;
      owes = c.requires.owes;
      further = c.requires.further;
      went = went-none semaphore_object (pass_view c.args.pass.now) mine.live.legal;
      held = refl;
      waits = refl;
    }
