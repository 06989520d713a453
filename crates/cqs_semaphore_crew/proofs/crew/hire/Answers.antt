use Rattle.std.proofs.Common.{All, ap, arith, length, refl, subst, sym, vec_len, ◌∙◌}
use Rattle.std.proofs.lemmas.List.{length_push}
use Rattle.std.proofs.lemmas.List.Elements.{All-nil, All-push}
use Rattle.cqs_rule.specs.Passes.{pass_view}
use Rattle.cqs_semaphore_crew.specs.Workers.{IsHired, IsNew}
use Rattle.cqs_semaphore_crew.proofs.Meeting.{course-none, met-none, met-then}
use Rattle.cqs_semaphore_crew.proofs.crew.hire.Goals as goal

pub loop-made-init : goal.loop-made-init
loop-made-init c = record {
  rest = c.requires.rest;
  made = omega arith;
  met = met-none _ _ (course-none _ c.requires.rest.belongs.live.legal) refl;
  hired = subst (All (IsHired c.args.semaphore.now)) (sym c.in_ok-passes.ensures.items)
      (All-nil (IsHired c.args.semaphore.now));
  new = subst (All IsNew) (sym c.in_ok-passes.ensures.items) (All-nil IsNew);
  same = refl;
  many = omega (arith, c.in_ok-passes.ensures.len);
  room = omega (arith, c.in_ok-passes.ensures.capacity);
}

-- one more, which is at rest too
pub loop-made-preserved : goal.loop-made-preserved
loop-made-preserved c =
    let rest = c.hire_one.ensures.rest in
    let so_far = c.loop-made.invariant in
    let free = IsHired c.args.semaphore.now in
    record {
      rest = record {
        belongs = rest.belongs;
        ready = rest.ready;
        held_is = rest.held_is ∙ so_far.rest.held_is;
        waits_are = rest.waits_are;
      };
      made =
          let one = ap (λ l. length l) c.in-Ok.ensures.made_one ∙ length_push _ _ in
          let before = so_far.made in
          omega arith;
      met = met-then 0 0 _ _ _ so_far.met c.hire_one.ensures.met;
      hired = subst (All free) (sym c.push_reserved.ensures.items)
          (All-push free c.loop-made.passes.items c.in-Ok.new so_far.hired c.in-Ok.ensures.hired);
      new = subst (All IsNew) (sym c.push_reserved.ensures.items)
          (All-push IsNew c.loop-made.passes.items c.in-Ok.new so_far.new c.in-Ok.ensures.new);
      same = c.hire_one.ensures.same ∙ so_far.same;
      many = let more = c.push_reserved.ensures.len in let few = so_far.many in omega arith;
      room = let same = c.push_reserved.ensures.capacity in let few = so_far.room in omega arith;
    }

-- those that were made before are taken in again
pub returns-in-Err-clause-crowd : goal.returns-in-Err-clause-crowd
returns-in-Err-clause-crowd c = λ refused. record {
  between = pass_view c.hire_one.new.pass;
  looked = met-then 0 0 _ _ _ c.loop-made.invariant.met c.hire_one.ensures.met;
  full = c.in-Err.ensures.crowd refl;
  many = vec_len c.loop-made.passes;
  few = let few = c.loop-made.invariant.many in omega arith;
  back = c.take_back.ensures.met;
  made =
      let back = ap (λ l. length l) c.take_back.ensures.made_none in
      let none = ap (λ l. length l) c.in-Err.ensures.made_none in
      let before = c.loop-made.invariant.made in
      let many = c.loop-made.invariant.many in
      omega arith;
}

pub returns-in-Err-clause-rest : goal.returns-in-Err-clause-rest
returns-in-Err-clause-rest c =
    let rest = c.take_back.ensures.rest in
    record {
      belongs = rest.belongs;
      ready = rest.ready;
      held_is = rest.held_is ∙ (c.hire_one.ensures.rest.held_is ∙ c.loop-made.invariant.rest.held_is);
      waits_are = rest.waits_are;
    }

-- none was made
pub returns-in_err-passes-clause-memory : goal.returns-in_err-passes-clause-memory
returns-in_err-passes-clause-memory c = λ refused. met-none _ _ (course-none _ c.requires.rest.belongs.live.legal) refl
