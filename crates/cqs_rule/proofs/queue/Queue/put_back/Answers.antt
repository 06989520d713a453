use Rattle.std.proofs.Common.{◌∙◌, [], ◌∷◌, ap, subst, arith, Some}
use Rattle.cqs_rule_laws.proofs.Swaps.{puts-back}
use Rattle.cqs_rule.proofs.queue.Queue.put_back.Goals as goal

pub load_at-requires-clause-allowed : goal.load_at-requires-clause-allowed
load_at-requires-clause-allowed g c =
    let C = g.C.ClientWords in
    let x = c.args.self.now.table.shared.key.client in
    let v = c.args.seat.now.me.0 in
    let slot = c.requires.number in
    let low = c.requires.low in
    let item = c.requires.item in
    puts-back C.object (C.primitive x) _ _ (g.met.C.ClientWords.keeps x) _ _ g.K.Numbered.slot
    c.args.seat.now.me c.requires.one (c.requires.out ∙ ap Some slot) (omega arith)
    (subst ((C.primitive x).opens v.facts.has) slot c.requires.may) item.0
    (item.1 ∙ ap (λ k. (k, item.0) ∷ []) slot)
