use Rattle.std.proofs.Common.{ap}
use Rattle.cqs_rule_laws.specs.declared.view.Facts.{Facts}
use Rattle.cqs_test_mailbox.specs.Posts.{IsAtRest}
use Rattle.cqs_test_mailbox.proofs.eight.run.Goals as goal

pub run_eight-requires-clause-first : goal.run_eight-requires-clause-first
run_eight-requires-clause-first g c κs within =
    let new = c.in_ok-mailbox.ensures.new.first.facts in
    let zero : IsAtRest c.in_ok-mailbox.mailbox c.in_ok-mailbox.zero = record {
      belongs = c.in_ok-mailbox.ensures.post;
      ready = record {
        idle = ap (λ (f : Facts). f.doing) new;
        further = ap (λ (f : Facts). f.has.further) new;
      };
    } in ((zero, c.hire-one.ensures.rest), c.hire_two-pair.ensures.rest)
