use Rattle.std.proofs.Common.{◌≡◌, ◌∙◌, [], ◌∷◌, ap, subst, arith, Some, None}
use Rattle.cqs_rule_laws.specs.Slots.{laid_in, handed_in}
use Rattle.cqs_rule_laws.proofs.Swaps.{fills}
use Rattle.cqs_rule.proofs.queue.Queue.put_first.Goals as goal

pub load_at-requires-clause-allowed : goal.load_at-requires-clause-allowed
load_at-requires-clause-allowed g c =
    let C = g.C.ClientWords in
    let x = c.args.self.now.table.shared.key.client in
    let v = c.args.seat.now.me.0 in
    let slot = c.requires.number in
    let low = c.requires.low in
    let item = c.requires.item in
    fills C.object (C.primitive x) _ _ (g.met.C.ClientWords.keeps x) _ _ g.K.Numbered.slot
    c.args.seat.now.me c.requires.one (c.requires.out ∙ ap Some slot) (omega arith)
    (subst (λ k. laid_in v.laid k ≡ None) slot c.requires.unlaid) c.requires.alone
    (subst (λ k. handed_in v.handed k ≡ None) slot c.requires.empty) item.0
    (item.1 ∙ ap (λ k. (k, Some item.0) ∷ []) slot)

pub returns-clause-bare : goal.returns-clause-bare
returns-clause-bare g c =
    let item = c.requires.item in
    (c.load_at.ensures.told item.0 (item.1 ∙ ap (λ k. (k, Some item.0) ∷ []) c.requires.number)).2

pub returns-clause-put : goal.returns-clause-put
returns-clause-put g c =
    let item = c.requires.item in
    (c.load_at.ensures.told item.0 (item.1 ∙ ap (λ k. (k, Some item.0) ∷ []) c.requires.number)).0
