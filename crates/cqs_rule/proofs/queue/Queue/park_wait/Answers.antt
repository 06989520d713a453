use Rattle.std.proofs.Common.{rules, ◌≡◌, ◌<◌, ap, ◌∙◌, subst, arith}
use Rattle.cqs_rule_laws.specs.Layout.{words_for}
use Rattle.cqs_rule_laws.proofs.CellsStand.{place-low}
use Rattle.cqs_rule.proofs.queue.Queue.park_wait.Goals as goal

pub low_half-waiter-requires : goal.low_half-waiter-requires
low_half-waiter-requires g c =
    let p = c.args.pass.now in
    let low : c.args.wait.now.number < p.seat.me.0.cells =
    p.inside.waits c.args.wait.now.number c.requires.has.open_yet in
    let few : p.seat.me.0.cells < 137438953472 = p.few_cells in
    let number : c.args.wait.now.number < 1099511627776 = omega arith in search rules

pub park-requires : goal.park-requires
park-requires g c =
    let p = c.args.pass.now in
    let words : words_for p.seat.me.0.slots ≡ c.args.self.now.table.shared.table_id.words =
    p.slots_are ∙ ap (λ t. t.words) c.requires.belongs.table in
    subst (λ z. c.args.wait.now.word < z) words
    (place-low _ c.args.wait.now.number c.args.wait.now.word c.requires.has.place)
