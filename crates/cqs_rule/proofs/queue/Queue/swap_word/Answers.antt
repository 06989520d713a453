use Rattle.std.proofs.Common.{refl, ap, sym, ◌∙◌, ◌==◌}
use prog.Atomic.{either}
use Rattle.cqs_rule_laws.specs.Events.{where_found}
use Rattle.cqs_rule_laws.proofs.Moves.{moves-at}
use Rattle.cqs_rule.proofs.Fitting.{word-inside, moved-word}
use Rattle.cqs_rule.proofs.Moved.{keeps-moved, moved-ticket}
use Rattle.cqs_rule.proofs.queue.Queue.swap_word.Goals as goal

pub exchange_at-found-requires-clause-table : goal.exchange_at-found-requires-clause-table
exchange_at-found-requires-clause-table g c = c.requires.belongs.table

pub exchange_at-found-requires-clause-inside : goal.exchange_at-found-requires-clause-inside
exchange_at-found-requires-clause-inside g c =
    word-inside c.args.self.now c.args.pass.now c.args.word c.place.result c.place.ensures c.requires.word
    c.requires.belongs.table

pub exchange_at-found-requires-clause-allowed : goal.exchange_at-found-requires-clause-allowed
exchange_at-found-requires-clause-allowed g c =
    let C = g.C.ClientWords in
    let x = c.args.self.now.table.shared.key.client in
    moves-at C.object C.primitive _ _ x (g.met.C.ClientWords.keeps x) g.M.Shown.event
    (where_found c.args.saw) c.args.self.now.table.shared.table_id.slots c.args.pass.now.seat.id
    c.args.pass.now.seat.me c.args.word _ _
    (λ n. either (n == c.args.saw) c.args.new n)
    (record { one = c.args.pass.now.live.0; shut = c.args.pass.now.shut; stay = c.requires.slots })
    c.requires.word c.place.ensures (λ n. refl) c.requires.law

pub invariant_of-pass : goal.invariant_of-pass
invariant_of-pass g c =
    let e = c.exchange_at-found.ensures in
    let seat = c.exchange_at-found.new.seat in
    keeps-moved g.M.Shown.event (where_found c.args.saw) c.place.result c.args.pass.now c.exchange_at-found.result
    seat.me.0 e.told.0 e.told.2 seat.me.1 seat.table_id.words c.held_after-pass.result c.further_after-pass.result
    c.owes_after-pass.result e.told.1 (ap (λ t. t.words) (sym e.table)) c.held_after-pass.ensures
    c.owes_after-pass.ensures c.further_after-pass.ensures
    (moved-ticket c.args.self.now.table.shared.key.client g.M.Shown.event (where_found c.args.saw) c.args.pass.now
    c.args.word _
    c.requires.law c.requires.belongs.opening c.exchange_at-found.result)

pub returns-clause-belongs : goal.returns-clause-belongs
returns-clause-belongs g c =
    let b = c.requires.belongs in
    let e = c.exchange_at-found.ensures in
    let same = e.told.0.saw.same in record {
      table = e.table ∙ b.table;
      slots = b.slots;
      passes = same.passes ∙ b.passes;
      limit = same.limit ∙ b.limit;
      cells = same.cells ∙ b.cells;
      mode = b.mode;
      ample = b.ample;
      looks = b.looks;
      live = e.told.2;
      opening = same.opening ∙ b.opening;
      alone = e.alone;
    }

pub returns-clause-saw : goal.returns-clause-saw
returns-clause-saw g c =
    moved-word g.M.Shown.event (where_found c.args.saw) c.args.word c.place.result c.args.pass.now
    c.exchange_at-found.result c.exchange_at-found.new.seat.me.0 c.place.ensures c.exchange_at-found.ensures.told.0
