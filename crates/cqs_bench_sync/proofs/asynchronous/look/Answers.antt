use Rattle.std.proofs.Common.{◌+◌, ap, ◌∙◌}
use Rattle.cqs_rule_laws.specs.Lists.{without}
use Rattle.cqs_rule.specs.Waits.{place_of}
use Rattle.cqs_bench_sync.proofs.Kept.{without-one}
use Rattle.cqs_bench_sync.proofs.asynchronous.look.Goals as goal

pub returns-in-Granted : goal.returns-in-Granted
returns-in-Granted c =
    let waits = c.requires.waits.0 in
    let polled = rw c.in-Granted.is at c.poll.ensures.polled in
    let k = (place_of c.args.wait).index in
    record {
      rest = record {
        belongs = c.poll.ensures.belongs;
        ready = c.poll.ensures.ready;
        held_is = polled.2.held_is ∙ ap (λ n. n + 1) waits.held_is;
        waits_are = polled.2.waits_are ∙ (ap (without k) waits.waits_are ∙ without-one k);
      };
    }
