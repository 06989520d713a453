use Rattle.std.proofs.Common.{◌≡◌, ◌++◌, take, vec_capacity}
use Rattle.cqs_floor_shared_queue.proofs.floors.holdings.take_over.Given as goal

-- those that were taken over so far stand behind what was held
abbrev pub invariant-loop-one : goal.invariant-loop-one
invariant-loop-one l = record {
  so_far : l.holdings.items ≡ l.fn.holdings.items ++ take l.one-index l.given;
  capacity : vec_capacity l.holdings ≡ vec_capacity l.fn.holdings;
}
