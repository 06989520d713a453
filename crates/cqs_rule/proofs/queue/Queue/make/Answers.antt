use Rattle.std.proofs.Common.{ap, arith, subst, sym}
use Rattle.cqs_rule_laws.proofs.CrewSplits.{makes-to}
use Rattle.cqs_rule.proofs.queue.Queue.make.Goals as goal
use Rattle.cqs_rule_laws.specs.Crew.{MayGive, Tried}

pub exchange_at-requires-clause-table : goal.exchange_at-requires-clause-table
exchange_at-requires-clause-table g c = c.requires.table

pub exchange_at-requires-clause-inside : goal.exchange_at-requires-clause-inside
exchange_at-requires-clause-inside g c =
    let is = c.requires.cells in omega (arith, ap (λ t. t.words) c.requires.table)

pub exchange_at-requires-clause-allowed : goal.exchange_at-requires-clause-allowed
exchange_at-requires-clause-allowed g c =
    let C = g.C.ClientWords in
    let x = c.args.self.now.table.shared.key.client in
    makes-to C.object (C.primitive x) _ _ (g.met.C.ClientWords.keeps x)
    c.args.self.now.table.shared.table_id.slots
    c.args.seat.now.id c.args.saw c.with_one_more.result g.G.Gift.gives c.args.seat.now.me
    c.requires.live c.requires.shut c.requires.room c.with_one_more.ensures
    (subst (λ n. MayGive (C.primitive x).opens n c.args.seat.now.me.0.facts) c.requires.named c.requires.may)

pub returns-clause-tried : goal.returns-clause-tried
returns-clause-tried g c =
    subst (λ n. Tried g.C.ClientWords.object n c.args.saw c.args.seat.now.me.0 c.exchange_at.result
    c.exchange_at.new.seat.me.0) (sym c.requires.named) c.exchange_at.ensures.told.0

pub returns-clause-carried : goal.returns-clause-carried
returns-clause-carried g c = c.exchange_at.ensures.told.1

pub returns-clause-alive : goal.returns-clause-alive
returns-clause-alive g c = c.exchange_at.ensures.told.2

pub returns-clause-alone : goal.returns-clause-alone
returns-clause-alone g c = c.exchange_at.ensures.alone
