use Rattle.std.proofs.Common.{◌≡◌, ◌++◌, length, map, Ok}
use Rattle.std.specs.Vec.Iter.{into_iter_items, into_iter_len}
use Rattle.cqs_limiter_workers.proofs.gathers.part.Given as goal

abbrev pub invariant-loop-one : goal.invariant-loop-one
invariant-loop-one g l = record {
  all : l.yielded ++ into_iter_items l.one-iterator ≡ into_iter_items l.initial.one-iterator;
  len : into_iter_len l.one-iterator ≡ length (into_iter_items l.one-iterator);
  parted : l.yielded ≡ map (λ told. Ok told) l.hands.items;
}
