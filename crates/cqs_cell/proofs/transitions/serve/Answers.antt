use Rattle.std.proofs.Common.{◌≡◌, ◌<◌, ap, ◌∙◌, subst}
use Rattle.cqs_rule_laws.specs.Layout.{words_for}
use Rattle.cqs_rule_laws.proofs.CellsStand.{place-low}
use Rattle.cqs_cell.proofs.transitions.serve.Goals as goal

-- the cell of the ticket stands in the table
pub wake_cell-requires : goal.wake_cell-requires
wake_cell-requires g c =
    let p = c.args.pass.now in
    let words : words_for p.seat.me.0.slots ≡ c.args.queue.now.table.shared.table_id.words =
    p.slots_are ∙ ap (λ t. t.words) c.requires.belongs.table in
    record {
      inside = subst (λ z. c.args.at.word < z) words
          (place-low _ c.args.at.index c.args.at.word c.requires.place);
    }
