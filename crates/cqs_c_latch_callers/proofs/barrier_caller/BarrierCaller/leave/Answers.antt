use Rattle.std.proofs.Common.{◌≢◌, ℕ, All, length, subst, sym, ap, rules, ◌∙◌, ℤ}
use Rattle.cqs_barrier.specs.Leaving.{HasLeft, leaving_at}
use Rattle.cqs_barrier.specs.Waits.{wait_in}
use Rattle.cqs_rule.specs.Passes.{pass_view}
use Rattle.cqs_rule_laws.proofs.Places.{goes-same}
use Rattle.cqs_c_latch_callers.specs.BarrierCallers.{OwesJust, StayApart, AreEvery}
use Rattle.cqs_c_callers.specs.Tokens.{wait_index}
use Rattle.cqs_c_latch_callers.proofs.BarrierKept.{late-waits, every-left, has-yet}
use Rattle.cqs_c_callers.proofs.TokenSteps.{same_waits, one_gone}
use Rattle.cqs_c_latch_callers.specs.BarrierTold.{told_left}
use Rattle.std.proofs.lemmas.Int.{to_z-of_z}
use mir.Syntax.{w64}
use Rattle.cqs_c_callers.specs.declared.answers.Answer.TheVariants as answer
use Rattle.cqs_c_latch_callers.proofs.barrier_caller.BarrierCaller.leave.Goals as goal

pub returns-in-Withdrawn-clause-stands : goal.returns-in-Withdrawn-clause-stands
returns-in-Withdrawn-clause-stands c =
    let v = pass_view c.args.self.now.pass in
    let w = pass_view c.leave_again.new.pass in
    let k = (leaving_at c.args.leaving).index in
    let told = subst (λ left. HasLeft k v left w) c.in-Withdrawn.is c.leave_again.ensures.left in
    record {
      belongs = c.leave_again.ensures.belongs;
      owes = subst (OwesJust w) (sym c.requires.free) told.1.ready;
      waits = one_gone wait_in v w _ k (goes-same _ _ told.0.called.same, told.1.waits_are) c.requires.apart
          c.requires.waits;
      apart = subst (λ o. StayApart o c.args.self.now.waits.items) (sym c.requires.free) tt;
      every = subst (λ o. AreEvery o c.args.self.now.waits.items w.facts.waits) (sym c.requires.free)
          (every-left k _ _ _ told.1.waits_are (c.requires.belongs.live.inside.once k c.requires.has_yet)
          c.requires.every);
    }

pub returns-in-TooLate-clause-stands : goal.returns-in-TooLate-clause-stands
returns-in-TooLate-clause-stands c =
    let v = pass_view c.args.self.now.pass in
    let w = pass_view c.leave_again.new.pass in
    let k = (leaving_at c.args.leaving).index in
    let told = late-waits k v w (subst (λ left. HasLeft k v left w) c.in-TooLate.is c.leave_again.ensures.left) in
    record {
      belongs = c.leave_again.ensures.belongs;
      owes = subst (OwesJust w) (sym c.requires.free) told.2;
      waits = one_gone wait_in v w _ k (told.0, told.1) c.requires.apart c.requires.waits;
      apart = subst (λ o. StayApart o c.args.self.now.waits.items) (sym c.requires.free) tt;
      every = subst (λ o. AreEvery o c.args.self.now.waits.items w.facts.waits) (sym c.requires.free)
          (every-left k _ _ _ told.1 (c.requires.belongs.live.inside.once k c.requires.has_yet) c.requires.every);
    }

pub returns-in-Contended-clause-stands : goal.returns-in-Contended-clause-stands
returns-in-Contended-clause-stands c =
    let v = pass_view c.args.self.now.pass in
    let w = pass_view c.leave_again.new.pass in
    let k = (leaving_at c.args.leaving).index in
    let told = subst (λ left. HasLeft k v left w) c.in-Contended.is c.leave_again.ensures.left in
    record {
      belongs = c.leave_again.ensures.belongs;
      owes = told.1.still;
      waits = same_waits wait_in v w _ (goes-same _ _ told.0.called.same, told.4) c.requires.waits;
      apart = subst (λ (n : ℕ). All (λ x. wait_index (wait_in x) ≢ n) c.args.self.now.waits.items) (sym told.2)
          c.requires.apart;
      every = (c.requires.every ∙ ap length (sym told.4), has-yet _ _ _ _ told.2 told.4 c.requires.has_yet);
    }

pub returns-in-Withdrawn-clause-went : goal.returns-in-Withdrawn-clause-went
returns-in-Withdrawn-clause-went c =
    record {
      given = c.leave_again.result;
      told = ap told_left (sym c.in-Withdrawn.is);
      left = c.leave_again.ensures.left;
    }

pub returns-in-TooLate-clause-went : goal.returns-in-TooLate-clause-went
returns-in-TooLate-clause-went c =
    record {
      given = c.leave_again.result;
      told = ap told_left (sym c.in-TooLate.is);
      left = c.leave_again.ensures.left;
    }

pub returns-in-Contended-clause-went : goal.returns-in-Contended-clause-went
returns-in-Contended-clause-went c =
    record {
      given = c.leave_again.result;
      told = ap (λ (p : ℤ × ℤ). answer.Contended p.0 p.1) (λ k. (
        (to_z-of_z w64 c.from.result (search rules) ∙ c.from.ensures) k,
        (to_z-of_z w64 c.from-in-Contended.result (search rules) ∙ c.from-in-Contended.ensures) k,
      )) ∙ ap told_left (sym c.in-Contended.is);
      left = c.leave_again.ensures.left;
    }
