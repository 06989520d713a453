use Rattle.std.proofs.Common.{[], ◌∷◌, refl, sym, inl, subst}
use Rattle.cqs_slots.proofs.Lists.{has_right}
use Rattle.cqs_rule_laws.specs.Lists.{Has}
use Rattle.cqs_segment.specs.declared.leaving.Retired.TheVariants.{Out}
use Rattle.cqs_segment.specs.Finds.{IsDoneWith}
use Rattle.cqs_segment.proofs.Leavings.{done-then, has-done}
use Rattle.cqs_segment.proofs.leaving.take_out.Goals as goal

pub close_gap-requires-clause-out : goal.close_gap-requires-clause-out
close_gap-requires-clause-out g c =
    let u = c.args.seat.now.me.0 in
    let v = c.retire-retired.new.seat.me.0 in
    let done : IsDoneWith c.args.slot c.args.id Out u v =
    subst (λ a. IsDoneWith c.args.slot c.args.id a u v) c.in-Out.is c.retire-retired.ensures.retires in
    subst (Has c.args.id) (sym done.retires.0.1) (has_right c.args.id done.retires.0.0 (c.args.id ∷ []) (inl refl))

pub returns-in-Out-clause-done : goal.returns-in-Out-clause-done
returns-in-Out-clause-done g c =
    let u = c.args.seat.now.me.0 in
    let v = c.retire-retired.new.seat.me.0 in
    done-then c.args.id u v c.close_gap.new.seat.me.0
    (has-done c.args.slot c.args.id c.retire-retired.result u v c.retire-retired.ensures.retires)
    c.close_gap.ensures.looked
