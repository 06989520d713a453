use Rattle.std.proofs.Common.{◌∙◌, ap, vec_capacity}
use Rattle.cqs_rule.specs.Passes.{pass_view}
use Rattle.cqs_c_numbers.proofs.Opens.{opens-first}
use Rattle.cqs_c_numbers.proofs.numbered.Numbered.sync_semaphore.Goals as goal

pub returns-clause-open : goal.returns-clause-open
returns-clause-open c =
    let made = c.in_ok-semaphore.ensures in
    let first = c.new-first.ensures in
    let number = ap (λ p. (pass_view p).number) first.pass ∙ made.first in
    let seen = ap (λ p. (pass_view p).seen) first.pass ∙ made.nothing in
    let held = ap (λ p. (pass_view p).facts.has.held) first.pass ∙ made.ready.held_is in
    let none = ap (λ v. v.items) first.waits ∙ c.in_ok-room.ensures.items in
    let room = ap (λ v. vec_capacity v) first.waits ∙ c.in_ok-room.ensures.exact in
    let slots = ap (λ p. (pass_view p).slots) first.pass ∙ made.slots in
    opens-first c.args.config 0 c.args.waits 0 _ _ c.open.result made.passes.0 made.passes.1
    first.stands number (seen, held, none, room) slots c.open.ensures.opened
