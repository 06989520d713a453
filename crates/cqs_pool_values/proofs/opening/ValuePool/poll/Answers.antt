use Rattle.std.proofs.Common.{sym, refl, subst, inl, inr}
use Rattle.cqs_rule_laws.specs.Lists.{Has}
use Rattle.cqs_rule.specs.Passes.{pass_view}
use Rattle.cqs_pool_values.proofs.Values.{all-filled, tidy-then, tidy-same}
use Rattle.cqs_pool_values.proofs.opening.ValuePool.poll.Goals as goal

pub take_out-requires-clause-filled : goal.take_out-requires-clause-filled
take_out-requires-clause-filled g c = λ κs lives.
    all-filled _ _ _ c.requires.belongs.filled (c.poll.ensures.called.called).handed

pub take_out-requires-clause-tidy : goal.take_out-requires-clause-tidy
take_out-requires-clause-tidy g c = λ κs lives.
    let v = pass_view c.args.pass.now in
    let w = pass_view c.poll.new.pass in
    tidy-then v w c.requires.belongs.tidy (c.poll.ensures.called.called).unlaid
    (λ e h. subst (Has e) (sym c.in-Granted.ensures.polled.2.elements_are) (inr h))

pub take_out-requires-clause-has : goal.take_out-requires-clause-has
take_out-requires-clause-has g c = λ κs lives.
    subst (Has c.in-Granted.element.number) (sym c.in-Granted.ensures.polled.2.elements_are) (inl refl)

pub take_out-requires-clause-bare : goal.take_out-requires-clause-bare
take_out-requires-clause-bare g c = λ κs lives.
    let e = c.in-Granted.element.number in
    (c.poll.ensures.called.called).unlaid e (c.requires.belongs.tidy e c.in-Granted.ensures.new)

pub returns-in-Pending-clause-belongs : goal.returns-in-Pending-clause-belongs
returns-in-Pending-clause-belongs g c =
    let v = pass_view c.args.pass.now in
    let w = pass_view c.poll.new.pass in
    let b = c.requires.belongs in
    let rule = c.poll.ensures.called.called in record {
      mine = c.poll.ensures.belongs;
      filled = all-filled _ _ _ b.filled rule.handed;
      tidy = tidy-same v w b.tidy rule.unlaid c.in-Pending.ensures.polled.3.elements_are;
    }

pub returns-in-Granted-clause-polled : goal.returns-in-Granted-clause-polled
returns-in-Granted-clause-polled g c =
    let e = c.in-Granted.ensures in
    let same = sym c.take_out.ensures.element in record {
      between = pass_view c.poll.new.pass;
      called = rw same at e.called;
      polled = rw same at e.polled;
      alone = λ alone. rw same at (e.alone alone);
      new = rw same at e.new;
      value = rw same at c.take_out.ensures.took;
    }
