use Rattle.std.proofs.Common.{[], refl, subst, ◌∙◌}
use Rattle.cqs_plan.specs.FloorHistory.{of_elements}
use Rattle.cqs_pool.specs.Pool.{pool_object}
use Rattle.cqs_rule.specs.Passes.{pass_view}
use Rattle.cqs_floor_shared.specs.Entries.{EndsDelivered}
use Rattle.cqs_floor_shared_kinds.proofs.ElementsServed.{left-unserved}
use Rattle.cqs_floor_shared_kinds.proofs.PoolShares.{silent}
use Rattle.cqs_floor_shared_kinds.proofs.Runs.{went-none, went-then}
use Rattle.cqs_floor_shared_kinds.proofs.kinds.pool.finish.Goals as goal

pub returns-in-Sent-clause-went : goal.returns-in-Sent-clause-went
returns-in-Sent-clause-went g c =
    went-then pool_object _ _ _ [] [] c.loop.invariant.went (silent _ _ _ (rw c.in-Sent.is at c.finish.ensures.called))

pub returns-in-Sent-clause-tells : goal.returns-in-Sent-clause-tells
returns-in-Sent-clause-tells g c =
    let rule = rw c.in-Sent.is at c.finish.ensures.called in
    subst (λ e. EndsDelivered (of_elements (pass_view c.finish.new.pass).seen) c.in-Sent.number e)
    c.loop.invariant.brings (rule.called.before, rule.called.ends)

pub returns-in-Left-clause-went : goal.returns-in-Left-clause-went
returns-in-Left-clause-went g c =
    went-then pool_object _ _ _ [] [] c.loop.invariant.went (silent _ _ _ (rw c.in-Left.is at c.finish.ensures.called))

pub returns-in-Left-clause-tells : goal.returns-in-Left-clause-tells
returns-in-Left-clause-tells g c =
    let ends = rw c.in-Left.is at c.finish.ensures.ends in left-unserved _ _ ends.0

pub loop-preserved : goal.loop-preserved
loop-preserved g c =
    let ends = rw c.in-Under.is at c.finish.ensures.ends in
    record {
      mine = c.finish.ensures.belongs;
      owes = ends.owes;
      brings = ends.brings ∙ c.loop.invariant.brings;
      further = ends.further;
      went = went-then pool_object _ _ _ [] [] c.loop.invariant.went
          (silent _ _ _ (rw c.in-Under.is at c.finish.ensures.called));
      slots = ends.elements_are ∙ c.loop.invariant.slots;
      waits = ends.waits_are ∙ c.loop.invariant.waits;
    }

pub loop-init : goal.loop-init
loop-init g c =
    let mine = c.requires.mine in record {
      mine = mine;
      owes = c.requires.owes;
      brings = refl;
      further = c.requires.further;
      went = went-none pool_object (pass_view c.args.pass.now) mine.live.legal;
      slots = refl;
      waits = refl;
    }
