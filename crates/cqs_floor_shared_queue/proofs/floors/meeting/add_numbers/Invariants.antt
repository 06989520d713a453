use Rattle.std.proofs.Common.{◌≡◌, ◌++◌, take, vec_capacity}
use Rattle.cqs_floor_shared_queue.proofs.floors.meeting.add_numbers.Given as goal

abbrev pub invariant-loop-number : goal.invariant-loop-number
invariant-loop-number l = record {
  so_far : l.met.items ≡ l.fn.met.items ++ take l.number-index l.given.items;
  capacity : vec_capacity l.met ≡ vec_capacity l.fn.met;
}
