use Rattle.std.proofs.Common.{length, sym, ap, ◌∙◌}
use Rattle.cqs_rule.proofs.Segments.{many-slots}
use Rattle.cqs_rule.proofs.queue.Pass.spares.Goals as goal

pub returns : goal.returns
returns g c =
    let p = c.args.self.now in c.count.ensures ∙ (sym (ap length p.spares_are.are) ∙ many-slots _)
