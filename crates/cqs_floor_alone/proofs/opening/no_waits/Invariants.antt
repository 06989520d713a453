use Rattle.std.proofs.Common.{◌≡◌, None, map, replicate}
use Rattle.cqs_floor_alone_kinds.specs.Waits.{slot_wait}
use Rattle.cqs_floor_alone.proofs.opening.no_waits.Given as goal

abbrev pub invariant-loop-job : goal.invariant-loop-job
invariant-loop-job l = record {
  none : map slot_wait l.waits.items ≡ replicate l._job None;
}
