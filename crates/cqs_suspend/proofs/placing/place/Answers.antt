use Rattle.std.proofs.Common.{ap, ◌∙◌, inl}
use Rattle.cqs_rule.specs.Passes.{pass_view}
use Rattle.cqs_find.proofs.Numbers.{number-out}
use Rattle.cqs_suspend.proofs.placing.place.Goals as goal

pub unreachable-requires : goal.unreachable-requires
unreachable-requires g c =
    let out = rw c.in-Ok-Over.field-0-is at c.in-Ok-Over.ensures.locates in
    let drawn = ap (λ f. f.doing) c.in-Ok-Over.ensures.searched.saw.facts_are ∙ c.requires.drawn in
    out.own c.args.number (inl drawn) (number-out c.args.number _ (pass_view c.locate.new.pass) out)
