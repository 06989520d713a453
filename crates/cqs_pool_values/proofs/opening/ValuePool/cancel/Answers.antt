use Rattle.std.proofs.Common.{sym, refl, subst, inl, inr}
use Rattle.cqs_rule_laws.specs.Lists.{Has}
use Rattle.cqs_rule.specs.Passes.{pass_view}
use Rattle.cqs_pool_values.proofs.Values.{all-filled, tidy-then, tidy-same, leaves-slots}
use Rattle.cqs_pool_values.proofs.opening.ValuePool.cancel.Goals as goal

pub take_out-requires-clause-filled : goal.take_out-requires-clause-filled
take_out-requires-clause-filled g c = λ κs lives.
    all-filled _ _ _ c.requires.belongs.filled (c.cancel.ensures.cancelled.2.called).handed

pub take_out-requires-clause-tidy : goal.take_out-requires-clause-tidy
take_out-requires-clause-tidy g c = λ κs lives.
    let v = pass_view c.args.pass.now in
    let w = pass_view c.cancel.new.pass in
    tidy-then v w c.requires.belongs.tidy (c.cancel.ensures.cancelled.2.called).unlaid
    (λ e h. subst (Has e) (sym c.in-TooLate.ensures.leaves.elements_are) (inr h))

pub take_out-requires-clause-has : goal.take_out-requires-clause-has
take_out-requires-clause-has g c = λ κs lives.
    subst (Has c.in-TooLate.element.number) (sym c.in-TooLate.ensures.leaves.elements_are) (inl refl)

pub take_out-requires-clause-bare : goal.take_out-requires-clause-bare
take_out-requires-clause-bare g c = λ κs lives.
    let e = c.in-TooLate.element.number in
    (c.cancel.ensures.cancelled.2.called).unlaid e (c.requires.belongs.tidy e c.in-TooLate.ensures.new)

pub returns-in-Cancelled-clause-belongs : goal.returns-in-Cancelled-clause-belongs
returns-in-Cancelled-clause-belongs g c =
    let v = pass_view c.args.pass.now in
    let w = pass_view c.cancel.new.pass in
    let b = c.requires.belongs in
    let rule = c.cancel.ensures.cancelled.2.called in record {
      mine = c.cancel.ensures.belongs;
      filled = all-filled _ _ _ b.filled rule.handed;
      tidy = tidy-same v w b.tidy rule.unlaid (leaves-slots _ _ _ c.in-Cancelled.under c.in-Cancelled.ensures.leaves);
    }

pub returns-in-TooLate-clause-left : goal.returns-in-TooLate-clause-left
returns-in-TooLate-clause-left g c =
    let e = c.in-TooLate.ensures in
    let same = sym c.take_out.ensures.element in record {
      between = pass_view c.cancel.new.pass;
      cancelled = rw same at e.cancelled;
      alone = λ alone. rw same at (e.alone alone);
      new = rw same at e.new;
      value = rw same at c.take_out.ensures.took;
    }
