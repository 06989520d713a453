use Rattle.std.proofs.Common.{◌≡◌, ◌≤◌, ◌++◌, ℕ, [], None, length}
use Rattle.std.specs.Vec.Iter.{into_iter_items}
use Rattle.cqs_rule.specs.Passes.{pass_view}
use Rattle.cqs_rule_laws.specs.Slots.{handed_in}
use Rattle.cqs_rule_laws.specs.SlotSteps.{Swapped}
use Rattle.cqs_pool.specs.Calls.{IsMine}
use Rattle.cqs_pool_values.specs.Pools.{HoldsEach, BeginsEach}
use Rattle.cqs_pool_values.proofs.opening.fill.Given as goal

-- the slots of those that came so far hold their values, and each other one is empty
abbrev pub invariant-loop-value : goal.invariant-loop-value
invariant-loop-value g l = record {
  mine : IsMine l.pool l.pass;
  swapped : Swapped [] (pass_view l.fn.pass) (pass_view l.pass);
  slot : l.slot ≡ length l.yielded;
  all : l.yielded ++ into_iter_items l.value-iterator ≡ l.fn.values.items;
  filled : HoldsEach l.yielded (pass_view l.pass).handed;
  begins : BeginsEach l.yielded (pass_view l.pass).handed;
  empty : (k : ℕ) → l.slot ≤ k → handed_in (pass_view l.pass).handed k ≡ None;
}
