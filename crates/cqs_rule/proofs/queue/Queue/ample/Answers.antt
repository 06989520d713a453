use Rattle.std.proofs.Common.{◌∙◌, ap, sym, length}
use Rattle.std.proofs.lemmas.Result.{IfOk-weaker}
use Rattle.cqs_slots.proofs.Opens.{numbers-length}
use Rattle.cqs_rule_laws.specs.declared.view.View.{View}
use Rattle.cqs_rule_laws.specs.Ruled.{cell_count}
use Rattle.cqs_rule_laws.specs.Views.{first_view}
use Rattle.cqs_rule.proofs.queue.Queue.ample.Goals as goal

pub returns-clause-pass : goal.returns-clause-pass
returns-clause-pass g c =
    let p = g.C.ClientWords.primitive c.args.client in
    let config = c.args.config in
    IfOk-weaker c.new.result _ _ (λ made h.
    let slots = ap (λ (z : View _ _). z.slots) h in
    let homes = ap (λ (z : View _ _). length z.segments.homes) h ∙ numbers-length 0 _ in
    h ∙ (λ i. first_view config.passes config.limit (cell_count config.passes config.limit p.values)
    (sym slots i) (sym homes i) p.opening p.held)) c.new.ensures.pass
