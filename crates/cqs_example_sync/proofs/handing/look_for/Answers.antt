use Rattle.std.proofs.Common.{◌≡◌, ℕ, ◌+◌, [], ◌∷◌, ap, ◌∙◌, rules}
use Rattle.cqs_rule_laws.specs.Lists.{without}
use Rattle.cqs_rule.specs.Waits.{place_of}
use Rattle.cqs_example_sync.proofs.handing.look_for.Goals as goal

-- the one wait was this
without-one : (k : ℕ) → without k (k ∷ []) ≡ []
without-one k = search rules

pub returns-in-Granted : goal.returns-in-Granted
returns-in-Granted g c =
    let waits = c.loop.invariant.waits.0 in
    let polled = rw c.in-Granted.is at c.poll.ensures.polled in
    let k = (place_of c.loop.wait).index in
    record {
      rest = record {
        belongs = c.poll.ensures.belongs;
        ready = c.poll.ensures.ready;
        held_is = polled.2.held_is ∙ ap (λ n. n + 1) waits.held_is;
        waits_are = polled.2.waits_are ∙ (ap (without k) waits.waits_are ∙ without-one k);
      };
    }
