use Rattle.cqs_rule.specs.Passes.{pass_view}
use Rattle.cqs_pool.specs.Answers.{IsInHand}
use Rattle.cqs_pool.specs.Elements.{number_of}
use Rattle.cqs_rule_laws.proofs.Places.{goes-same}
use Rattle.cqs_c_callers.proofs.PoolKept.{owes-none, ends_owes, elements_back, elements_less}
use Rattle.cqs_c_callers.proofs.TokenSteps.{the_wait, same_waits, taken_one, taken_none}
use Rattle.cqs_c_callers.proofs.Every.{every_same}
use Rattle.std.proofs.Common.{ℕ, ◌++◌, ◌∷◌, [], inr, subst, sym, ap, ◌∙◌}
use Rattle.cqs_rule_laws.specs.declared.view.Facts.{Facts}
use Rattle.cqs_c_callers.specs.declared.answers.Answer.TheVariants as answer
use Rattle.cqs_c_callers.specs.PoolCallers.{HasElements}
use Rattle.cqs_c_callers.specs.PoolAnswers.{HasPut}
use Rattle.cqs_c_callers.specs.PoolTold.{told_put}
use Rattle.cqs_c_callers.proofs.pool_caller.PoolCaller.put.Goals as goal

pub put-requires-clause-has : goal.put-requires-clause-has
put-requires-clause-has c = λ κs.
    taken_one number_of _ _ _ _ c.in-Some.ensures.taken
    (λ y. IsInHand (number_of y) (pass_view c.args.self.now.pass).facts) c.requires.stands.elements.has

pub keep-requires-clause-owes : goal.keep-requires-clause-owes
keep-requires-clause-owes c = (ends_owes _ _ _ _ _ _ c.in-Ok.ensures.ends).0

pub keep-requires-clause-waits : goal.keep-requires-clause-waits
keep-requires-clause-waits c =
    same_waits the_wait _ _ _
    (goes-same _ _ c.put.ensures.called.called.same, (ends_owes _ _ _ _ _ _ c.in-Ok.ensures.ends).2)
    c.requires.stands.waits

pub keep-requires-clause-every : goal.keep-requires-clause-every
keep-requires-clause-every c =
    every_same _ _ _ (ends_owes _ _ _ _ _ _ c.in-Ok.ensures.ends).2 c.requires.stands.every

pub keep-requires-clause-elements : goal.keep-requires-clause-elements
keep-requires-clause-elements c =
    elements_less _ _ _ _ _ _ c.in-Some.ensures.taken (ends_owes _ _ _ _ _ _ c.in-Ok.ensures.ends).1
    c.requires.stands.elements

pub returns-in-Err-clause-stands : goal.returns-in-Err-clause-stands
returns-in-Err-clause-stands c =
    let v = pass_view c.args.self.now.pass in
    let w = pass_view c.put.new.pass in
    let same = c.in-Err.ensures.crowded.facts_are in
    record {
      belongs = c.put.ensures.belongs;
      owes = owes-none _ _ c.if-is_some.ensures c.in-Err.ensures.ready;
      waits = same_waits the_wait v w _
          (goes-same _ _ c.put.ensures.called.called.same, ap (λ (f : Facts). f.waits) same) c.requires.stands.waits;
      every = every_same _ _ _ (ap (λ (f : Facts). f.waits) same) c.requires.stands.every;
      elements = subst (HasElements w.facts) (sym c.push_reserved.ensures.items)
          (subst (λ x. HasElements w.facts (c.take_out.new.tokens.items ++ x ∷ [])) (sym c.in-Err.ensures.back)
          (elements_back v.facts w.facts _ _ _ _ c.in-Some.ensures.taken (ap (λ (f : Facts). f.has.slots) same)
          c.requires.stands.elements));
    }

pub returns-in-Ok-clause-no_element : goal.returns-in-Ok-clause-no_element
returns-in-Ok-clause-no_element c free none =
    absurd (taken_none number_of _ _ _ _ c.in-Some.ensures.taken none)

pub returns-in-Err-clause-no_element : goal.returns-in-Err-clause-no_element
returns-in-Err-clause-no_element c free none =
    absurd (taken_none number_of _ _ _ _ c.in-Some.ensures.taken none)

pub returns-in-Ok-clause-answered : goal.returns-in-Ok-clause-answered
returns-in-Ok-clause-answered c =
    let v = pass_view c.args.self.now.pass in
    let w = pass_view c.put.new.pass in
    let e = number_of c.in-Some.element in
    let has : HasPut e v c.keep.result w = record {
      had = taken_one number_of _ _ _ _ c.in-Some.ensures.taken (λ y. IsInHand (number_of y) v.facts)
          c.requires.stands.elements.has;
      given = c.put.result;
      told = c.keep.ensures.told ∙ ap told_put (sym c.in-Ok.is);
      called = c.put.ensures.called;
      crowded = c.put.ensures.crowded;
      ends = c.put.ensures.ends;
    } in
    inr (subst (λ p. HasPut c.args.number v c.keep.result (pass_view p)) (sym c.keep.ensures.pass)
    (subst (λ (n : ℕ). HasPut n v c.keep.result w) c.in-Some.ensures.taken.number_is has))

pub returns-in-Err-clause-answered : goal.returns-in-Err-clause-answered
returns-in-Err-clause-answered c =
    let v = pass_view c.args.self.now.pass in
    let w = pass_view c.put.new.pass in
    let has : HasPut (number_of c.in-Some.element) v answer.Crowded w = record {
      had = taken_one number_of _ _ _ _ c.in-Some.ensures.taken (λ y. IsInHand (number_of y) v.facts)
          c.requires.stands.elements.has;
      given = c.put.result;
      told = ap told_put (sym c.in-Err.is);
      called = c.put.ensures.called;
      crowded = c.put.ensures.crowded;
      ends = c.put.ensures.ends;
    } in
    inr (subst (λ (n : ℕ). HasPut n v answer.Crowded w) c.in-Some.ensures.taken.number_is has)
