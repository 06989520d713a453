use Rattle.std.proofs.Common.{◌⊎◌, ◌≡◌, true, subst, sym, arith}
use Rattle.cqs_rule_laws.specs.SlotSteps.{TookOut, KnowsLast}
use Rattle.cqs_rule_laws.proofs.Swaps.{takes-out}
use Rattle.cqs_rule.proofs.queue.Queue.take_out.Goals as goal

pub load_at-requires-clause-allowed : goal.load_at-requires-clause-allowed
load_at-requires-clause-allowed g c =
    let C = g.C.ClientWords in
    let x = c.args.self.now.table.shared.key.client in
    let v = c.args.seat.now.me.0 in
    let slot = c.requires.number in
    let low = c.requires.low in
    takes-out C.object (C.primitive x) _ _ (g.met.C.ClientWords.keeps x) _ _ g.K.Numbered.slot _ c.requires.one
    c.requires.shut c.requires.bare (omega arith)
    (subst (λ k. (C.primitive x).opens v.facts.has k ⊎ (v.alone ≡ true)) slot c.requires.may)

pub returns-clause-took : goal.returns-clause-took
returns-clause-took g c =
    subst (λ k. TookOut k c.args.seat.now.me.0 c.load_at.new.seat.me.0 c.load_at.new.seat.me.1) (sym c.requires.number)
    c.load_at.ensures.told.0

pub returns-clause-last : goal.returns-clause-last
returns-clause-last g c =
    subst (λ k. KnowsLast g.C.ClientWords.object k c.load_at.new.seat.me.0) (sym c.requires.number)
    c.load_at.ensures.told.1
