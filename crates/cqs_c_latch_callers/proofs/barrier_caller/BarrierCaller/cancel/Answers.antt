use Rattle.std.proofs.Common.{◌≢◌, ℕ, All, subst, sym, ap, inr, rules, ◌∙◌, ℤ}
use Rattle.cqs_barrier.specs.Leaving.{HasLeft}
use Rattle.cqs_barrier.specs.Waits.{wait_in}
use Rattle.cqs_rule.specs.Passes.{pass_view}
use Rattle.cqs_c_callers.specs.Tokens.{wait_index}
use Rattle.cqs_rule_laws.proofs.Places.{goes-same}
use Rattle.cqs_c_latch_callers.proofs.BarrierKept.{owes-none, apart-none, late-waits, every-none, none-every, has-yet}
use Rattle.cqs_c_callers.proofs.TokenSteps.{taken_token, taken_none, taken_others, one_less, one_out}
use Rattle.cqs_c_callers.proofs.Every.{every_over, every_same, one_fewer}
use Rattle.cqs_c_latch_callers.specs.BarrierTold.{told_left}
use Rattle.std.proofs.lemmas.Int.{to_z-of_z}
use mir.Syntax.{w64}
use Rattle.cqs_c_callers.specs.declared.answers.Answer.TheVariants as answer
use Rattle.cqs_c_latch_callers.proofs.barrier_caller.BarrierCaller.cancel.Goals as goal

pub cancel-requires-clause-has : goal.cancel-requires-clause-has
cancel-requires-clause-has c = λ κs. taken_token wait_in _ _ _ _ _ c.in-Some.ensures.taken c.requires.stands.waits

pub returns-in-Withdrawn-clause-stands : goal.returns-in-Withdrawn-clause-stands
returns-in-Withdrawn-clause-stands c =
    let v = pass_view c.args.self.now.pass in
    let w = pass_view c.cancel.new.pass in
    let wait = c.in-Some.wait in
    let told = subst (λ left. HasLeft (wait_index (wait_in wait)) v left w) c.in-Withdrawn.is c.cancel.ensures.left in
    record {
      belongs = c.cancel.ensures.belongs;
      owes = owes-none w _ c.if-is_some.ensures told.1.ready;
      waits = one_less wait_in v w _ _ _ wait c.in-Some.ensures.taken
          (goes-same _ _ told.0.called.same, told.1.waits_are) c.requires.stands.waits;
      apart = apart-none _ _ c.if-is_some.ensures;
      every = every-none _ _ _ c.if-is_some.ensures
          (every_over wait_in v _ _ _ wait _ c.in-Some.ensures.taken c.requires.stands.belongs.live.inside
          c.requires.stands.waits told.1.waits_are (none-every _ _ _ c.if-is_some.ensures c.requires.stands.every));
    }

pub returns-in-TooLate-clause-stands : goal.returns-in-TooLate-clause-stands
returns-in-TooLate-clause-stands c =
    let v = pass_view c.args.self.now.pass in
    let w = pass_view c.cancel.new.pass in
    let wait = c.in-Some.wait in
    let told = late-waits (wait_index (wait_in wait)) v w
    (subst (λ left. HasLeft (wait_index (wait_in wait)) v left w) c.in-TooLate.is c.cancel.ensures.left) in
    record {
      belongs = c.cancel.ensures.belongs;
      owes = owes-none w _ c.if-is_some.ensures told.2;
      waits = one_less wait_in v w _ _ _ wait c.in-Some.ensures.taken (told.0, told.1) c.requires.stands.waits;
      apart = apart-none _ _ c.if-is_some.ensures;
      every = every-none _ _ _ c.if-is_some.ensures
          (every_over wait_in v _ _ _ wait _ c.in-Some.ensures.taken c.requires.stands.belongs.live.inside
          c.requires.stands.waits told.1 (none-every _ _ _ c.if-is_some.ensures c.requires.stands.every));
    }

pub returns-in-Contended-clause-stands : goal.returns-in-Contended-clause-stands
returns-in-Contended-clause-stands c =
    let v = pass_view c.args.self.now.pass in
    let w = pass_view c.cancel.new.pass in
    let wait = c.in-Some.wait in
    let told = subst (λ left. HasLeft (wait_index (wait_in wait)) v left w) c.in-Contended.is c.cancel.ensures.left in
    let old = c.requires.stands.waits in
    record {
      belongs = c.cancel.ensures.belongs;
      owes = told.1.still;
      waits = one_out wait_in v w _ _ _ wait c.in-Some.ensures.taken (goes-same _ _ told.0.called.same, told.4) old;
      apart = subst (λ (k : ℕ). All (λ x. wait_index (wait_in x) ≢ k) c.take_out.new.tokens.items) (sym told.2)
          (taken_others (λ x. wait_index (wait_in x)) _ _ _ wait c.in-Some.ensures.taken old.apart);
      every = (
        one_fewer (λ x. wait_index (wait_in x)) _ _ _ wait c.in-Some.ensures.taken
            ∙ every_same _ _ _ told.4 (none-every _ _ _ c.if-is_some.ensures c.requires.stands.every),
        has-yet _ _ _ _ told.2 told.4 (taken_token wait_in _ _ _ _ _ c.in-Some.ensures.taken old).open_yet,
      );
    }

pub returns-in-Withdrawn-clause-no_wait : goal.returns-in-Withdrawn-clause-no_wait
returns-in-Withdrawn-clause-no_wait c free none =
    absurd (taken_none (λ x. wait_index (wait_in x)) _ _ _ _ c.in-Some.ensures.taken none)

pub returns-in-TooLate-clause-no_wait : goal.returns-in-TooLate-clause-no_wait
returns-in-TooLate-clause-no_wait c free none =
    absurd (taken_none (λ x. wait_index (wait_in x)) _ _ _ _ c.in-Some.ensures.taken none)

pub returns-in-Contended-clause-no_wait : goal.returns-in-Contended-clause-no_wait
returns-in-Contended-clause-no_wait c free none =
    absurd (taken_none (λ x. wait_index (wait_in x)) _ _ _ _ c.in-Some.ensures.taken none)

pub returns-in-Withdrawn-clause-answered : goal.returns-in-Withdrawn-clause-answered
returns-in-Withdrawn-clause-answered c =
    inr (record {
      wait = c.in-Some.wait;
      has = taken_token wait_in _ _ _ _ _ c.in-Some.ensures.taken c.requires.stands.waits;
      number_is = c.in-Some.ensures.taken.number_is;
      given = c.cancel.result;
      told = ap told_left (sym c.in-Withdrawn.is);
      left = c.cancel.ensures.left;
    })

pub returns-in-TooLate-clause-answered : goal.returns-in-TooLate-clause-answered
returns-in-TooLate-clause-answered c =
    inr (record {
      wait = c.in-Some.wait;
      has = taken_token wait_in _ _ _ _ _ c.in-Some.ensures.taken c.requires.stands.waits;
      number_is = c.in-Some.ensures.taken.number_is;
      given = c.cancel.result;
      told = ap told_left (sym c.in-TooLate.is);
      left = c.cancel.ensures.left;
    })

pub returns-in-Contended-clause-answered : goal.returns-in-Contended-clause-answered
returns-in-Contended-clause-answered c =
    inr (record {
      wait = c.in-Some.wait;
      has = taken_token wait_in _ _ _ _ _ c.in-Some.ensures.taken c.requires.stands.waits;
      number_is = c.in-Some.ensures.taken.number_is;
      given = c.cancel.result;
      told = ap (λ (p : ℤ × ℤ). answer.Contended p.0 p.1) (λ k. (
        (to_z-of_z w64 c.from.result (search rules) ∙ c.from.ensures) k,
        (to_z-of_z w64 c.from-in-Contended.result (search rules) ∙ c.from-in-Contended.ensures) k,
      )) ∙ ap told_left (sym c.in-Contended.is);
      left = c.cancel.ensures.left;
    })
