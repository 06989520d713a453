use Rattle.std.proofs.Common.{◌≡◌, ◌++◌, length}
use Rattle.std.specs.Vec.Iter.{into_iter_items, into_iter_len}
use Rattle.cqs_work.specs.Opening.{ArePosts}
use Rattle.cqs_work.proofs.posts.posts_for.Given as goal

abbrev pub invariant-loop-floor : goal.invariant-loop-floor
invariant-loop-floor g l = record {
  all : l.yielded ++ into_iter_items l.floor-iterator ≡ into_iter_items l.initial.floor-iterator;
  len : into_iter_len l.floor-iterator ≡ length (into_iter_items l.floor-iterator);
  posts : ArePosts l.jobs l.workers l.yielded l.posts.items;
}
