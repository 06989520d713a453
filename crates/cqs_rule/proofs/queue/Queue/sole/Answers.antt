use Rattle.std.proofs.Common.{◌∙◌}
use Rattle.cqs_rule_laws.specs.Crew.{IsSole}
use Rattle.cqs_rule_laws.proofs.CrewLooks.{counts}
use Rattle.cqs_rule_laws.proofs.Tries.{sole-tells}
use Rattle.cqs_rule.proofs.Looked.{crew-inside, keeps-looked}
use Rattle.cqs_rule.proofs.queue.Queue.sole.Goals as goal

pub load_at-found-requires-clause-table : goal.load_at-found-requires-clause-table
load_at-found-requires-clause-table g c = c.requires.belongs.table

pub load_at-found-requires-clause-inside : goal.load_at-found-requires-clause-inside
load_at-found-requires-clause-inside g c = crew-inside c.args.self.now c.args.pass.now c.requires.belongs.table

pub load_at-found-requires-clause-allowed : goal.load_at-found-requires-clause-allowed
load_at-found-requires-clause-allowed g c =
    let C = g.C.ClientWords in
    let x = c.args.self.now.table.shared.key.client in
    counts C.object (C.primitive x) _ _ (g.met.C.ClientWords.keeps x)
    (IsSole C.primitive) c.args.self.now.table.shared.table_id.slots c.args.pass.now.seat.id
    c.args.pass.now.seat.me c.args.pass.now.live.0
    (sole-tells C.primitive x)

pub returns-clause-kept : goal.returns-clause-kept
returns-clause-kept g c = c.load_at-found.ensures.told.0.kept

pub invariant_of-pass : goal.invariant_of-pass
invariant_of-pass g c =
    let e = c.load_at-found.ensures in
    let seat = c.load_at-found.new.seat in
    keeps-looked c.args.pass.now seat.me.0 e.told.0.saw e.told.0.weight e.told.2.inside seat.me.1 seat.table_id e.told.1
    e.table

pub returns-clause-belongs : goal.returns-clause-belongs
returns-clause-belongs g c =
    let b = c.requires.belongs in
    let e = c.load_at-found.ensures in
    let same = e.told.0.saw.same in record {
      table = e.table ∙ b.table;
      slots = b.slots;
      passes = same.passes ∙ b.passes;
      limit = same.limit ∙ b.limit;
      cells = same.cells ∙ b.cells;
      mode = b.mode;
      ample = b.ample;
      looks = b.looks;
      live = e.told.2;
      opening = same.opening ∙ b.opening;
      alone = e.alone;
    }

pub returns-clause-looked : goal.returns-clause-looked
returns-clause-looked g c = c.load_at-found.ensures.told.0.saw
