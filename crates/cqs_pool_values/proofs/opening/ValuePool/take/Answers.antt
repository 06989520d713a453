use Rattle.std.proofs.Common.{sym, refl, subst, inl, inr}
use Rattle.cqs_rule_laws.specs.Lists.{Has}
use Rattle.cqs_rule.specs.Passes.{pass_view}
use Rattle.cqs_pool_values.proofs.Values.{all-filled, tidy-then, tidy-same, refused-slots, refused-waits, same-error}
use Rattle.cqs_pool_values.proofs.opening.ValuePool.take.Goals as goal

pub take_out-requires-clause-filled : goal.take_out-requires-clause-filled
take_out-requires-clause-filled g c = λ κs lives.
    all-filled _ _ _ c.requires.belongs.filled (c.take.ensures.called.called).handed

pub take_out-requires-clause-tidy : goal.take_out-requires-clause-tidy
take_out-requires-clause-tidy g c = λ κs lives.
    let v = pass_view c.args.pass.now in
    let w = pass_view c.take.new.pass in
    let rests = (rw c.in-Ok-Took.field-0-is at c.in-Ok-Took.ensures.took).1 in
    tidy-then v w c.requires.belongs.tidy (c.take.ensures.called.called).unlaid
    (λ e h. subst (Has e) (sym rests.elements_are) (inr h))

pub take_out-requires-clause-has : goal.take_out-requires-clause-has
take_out-requires-clause-has g c = λ κs lives.
    let rests = (rw c.in-Ok-Took.field-0-is at c.in-Ok-Took.ensures.took).1 in
    subst (Has c.in-Ok-Took.element.number) (sym rests.elements_are) (inl refl)

pub take_out-requires-clause-bare : goal.take_out-requires-clause-bare
take_out-requires-clause-bare g c = λ κs lives.
    let e = c.in-Ok-Took.element.number in
    (c.take.ensures.called.called).unlaid e
    (c.requires.belongs.tidy e (rw c.in-Ok-Took.field-0-is at c.in-Ok-Took.ensures.new))

pub returns-in-Ok-Later-clause-belongs : goal.returns-in-Ok-Later-clause-belongs
returns-in-Ok-Later-clause-belongs g c =
    let v = pass_view c.args.pass.now in
    let w = pass_view c.take.new.pass in
    let b = c.requires.belongs in
    let rule = c.take.ensures.called.called in
    let rests = (rw c.in-Ok-Later.field-0-is at c.in-Ok-Later.ensures.took).2 in record {
      mine = c.take.ensures.belongs;
      filled = all-filled _ _ _ b.filled rule.handed;
      tidy = tidy-same v w b.tidy rule.unlaid rests.elements_are;
    }

pub returns-in-Err-clause-belongs : goal.returns-in-Err-clause-belongs
returns-in-Err-clause-belongs g c =
    let v = pass_view c.args.pass.now in
    let w = pass_view c.take.new.pass in
    let b = c.requires.belongs in
    let rule = c.take.ensures.called.called in record {
      mine = c.take.ensures.belongs;
      filled = all-filled _ _ _ b.filled rule.handed;
      tidy = tidy-same v w b.tidy rule.unlaid
          (refused-slots _ _ _ c.in-Err.ensures.worn c.in-Err.ensures.crowded);
    }

pub returns-in-Ok-Took-clause-taken : goal.returns-in-Ok-Took-clause-taken
returns-in-Ok-Took-clause-taken g c =
    let is = c.in-Ok-Took.field-0-is in
    let e = c.in-Ok-Took.ensures in
    let same = sym c.take_out.ensures.element in record {
      between = pass_view c.take.new.pass;
      called = rw (is, same) at e.called;
      worn = λ is. absurd (cc);
      crowded = λ is. absurd (cc);
      below = e.below;
      took = rw (is, same) at e.took;
      alone = λ alone. rw (is, same) at (e.alone alone);
      new = rw (is, same) at e.new;
      first = λ only. rw (is, same) at (e.first only);
      value = rw same at c.take_out.ensures.took;
    }

pub returns-in-Ok-Later-clause-taken : goal.returns-in-Ok-Later-clause-taken
returns-in-Ok-Later-clause-taken g c =
    let is = c.in-Ok-Later.field-0-is in
    let e = c.in-Ok-Later.ensures in record {
      between = pass_view c.take.new.pass;
      called = rw is at e.called;
      worn = λ is. absurd (cc);
      crowded = λ is. absurd (cc);
      below = e.below;
      took = rw is at e.took;
      alone = λ alone. rw is at (e.alone alone);
      new = tt;
      first = λ only. tt;
      value = refl;
    }

pub returns-in-Err-clause-leaves : goal.returns-in-Err-clause-leaves
returns-in-Err-clause-leaves g c = record {
  ready = c.take.ensures.ready;
  elements_are = refused-slots _ _ _ c.in-Err.ensures.worn c.in-Err.ensures.crowded;
  waits_are = refused-waits _ _ _ c.in-Err.ensures.worn c.in-Err.ensures.crowded;
}

pub returns-in-Err-clause-taken : goal.returns-in-Err-clause-taken
returns-in-Err-clause-taken g c =
    let e = c.in-Err.ensures in record {
      between = pass_view c.take.new.pass;
      called = e.called;
      worn = λ is. e.worn (same-error _ _ is);
      crowded = λ is. e.crowded (same-error _ _ is);
      below = tt;
      took = tt;
      alone = λ alone. tt;
      new = tt;
      first = λ only. tt;
      value = refl;
    }
