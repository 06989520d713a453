use Rattle.std.proofs.Common.{max}
use mathlib.Core.Option.{none}
use Rattle.atomic_table.specs.Table.{step}
use Rattle.cqs_rule_laws.proofs.Alone.{tells-alone}
use Rattle.cqs_rule_laws.proofs.steps.max_at.Goals as goal

pub fetch_max-requires : goal.fetch_max-requires
fetch_max-requires g c =
    let C = g.C.ClientWords in
    let words = c.args.words.now in
    let slots = words.table_id.slots in
    let me = c.args.seat.now.me in (
      c.requires.table,
      c.requires.inside,
      tells-alone C.object C.primitive _ _ words.key.client (g.met.C.ClientWords.keeps words.key.client) slots
          c.args.seat.now.id me c.args.word (λ n. max n c.args.least)
          (g.T.Telling.told (step slots c.args.word c.args.least 0 none) me)
          c.requires.allowed,
    )
