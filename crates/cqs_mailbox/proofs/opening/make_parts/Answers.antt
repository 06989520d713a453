use Rattle.std.proofs.Common.{◌≡◌, ap, refl, ◌∙◌, arith}
use Rattle.cqs_rule_laws.specs.declared.config.Config.{Config}
use Rattle.cqs_mailbox.proofs.DesksKept.{parts-desk}
use Rattle.cqs_mailbox.proofs.opening.make_parts.Goals as goal

pub returns-clause-desk : goal.returns-clause-desk
returns-clause-desk c =
    let many = c.in-Ok-open_all.ensures.many in
    let range = c.in-Some.ensures.range in
    let passes : c.in-Some.config.passes ≡ c.args.passes = ap (λ (x : Config). x.passes) c.in-Some.ensures.some in
    parts-desk _ _ c.args.room c.args.passes c.in-Ok.ensures.size c.in-Ok-open.ensures.room
    (omega (arith, many, range.1))
    (c.in-Ok.ensures.passes.0 ∙ passes) range.2 c.rest_all.ensures.belongs c.rest_all.ensures.ready
    c.in-Ok-rest_all.ensures.spare c.in-Ok-open.ensures.belongs c.in-Ok-open.ensures.knows refl
    c.in-Ok-open_all.ensures.each
