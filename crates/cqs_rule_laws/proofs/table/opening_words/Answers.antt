use Rattle.std.proofs.Common.{◌+◌, sym, subst}
use Rattle.cqs_rule_laws.specs.Opened.{IsOpening}
use Rattle.cqs_rule_laws.proofs.Opens.{opening-push, opening-none}
use Rattle.cqs_rule_laws.proofs.table.opening_words.Goals as goal

pub loop-place-init : goal.loop-place-init
loop-place-init g c =
    let x = g.C.ClientWords.primitive c.args.client.now in
    subst (IsOpening 0 c.args.made x.values x.words) (sym c.in_ok-words.ensures.items)
    (opening-none c.args.made x.values x.words)

pub loop-place-preserved : goal.loop-place-preserved
loop-place-preserved g c =
    let x = g.C.ClientWords.primitive c.args.client.now in
    let l = c.loop-place in
    subst (IsOpening (l.place + 1) c.args.made x.values x.words) (sym c.in_ok-push.ensures.items)
    (opening-push l.place c.args.made x.values x.words l.words.items c.word_at.result c.word_at.ensures l.invariant)
