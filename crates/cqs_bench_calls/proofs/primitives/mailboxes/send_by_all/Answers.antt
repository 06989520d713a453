use Rattle.std.proofs.Common.{subst, sym}
use Rattle.cqs_mailbox.specs.Callers.{IsAtRest}
use Rattle.cqs_bench_calls.proofs.primitives.mailboxes.send_by_all.Goals as goal

-- each thread gets one of the posts
pub map_vec-sent-requires-after_bounds : goal.map_vec-sent-requires-after_bounds
map_vec-sent-requires-after_bounds g c κs within = λ i x less same.
    subst (IsAtRest c.args.mailbox.now) (sym same) (c.requires.rest i x less)
