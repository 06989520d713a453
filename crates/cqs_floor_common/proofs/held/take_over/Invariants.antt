use Rattle.std.proofs.Common.{◌≡◌, ◌++◌, vec_capacity}
use Rattle.std.specs.Vec.Iter.{into_iter_items}
use Rattle.cqs_floor_common.proofs.held.take_over.Given as goal

-- those that were taken over so far stand behind what was held
abbrev pub invariant-loop-one : goal.invariant-loop-one
invariant-loop-one l = record {
  so_far : l.held.items ≡ l.fn.held.items ++ l.yielded;
  all : l.yielded ++ into_iter_items l.one-iterator ≡ l.fn.given.items;
  capacity : vec_capacity l.held ≡ vec_capacity l.fn.held;
}
