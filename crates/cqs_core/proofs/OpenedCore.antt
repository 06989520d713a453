-- A core as it is made is one, and so is each that steps lead to.
use Rattle.std.proofs.Common.{◌≡◌, ℕ, ◌-◌, ◌≤◌, length, sum, replicate, Some, refl, sym, ap, ap₂, ◌∙◌, arith}
use Rattle.std.proofs.lemmas.Int.{ints}
use Rattle.std.proofs.lemmas.List.{length-replicate}
use Rattle.cqs_core.specs.declared.doings.Doing.TheVariants as doing
use Rattle.cqs_core.specs.QueueState.{Queue}
use Rattle.cqs_core.specs.QueueLine.{going, ending}
use Rattle.cqs_core.specs.SemaphoreTable.{Shape}
use Rattle.cqs_core.specs.SemaphoreShown.{IsCore, IsSize, opening_shape}
use Rattle.cqs_core.specs.SemaphoreRuns.{hand_over, EveryRunIsLegal}
use Rattle.cqs_core.specs.QueueWaiters.{waiters, no_waiters}
use Rattle.cqs_core.proofs.CoreFrame.{same-by_waiters}
use Rattle.cqs_core.proofs.QueueOpens.{get-replicate, sum-replicate, opened-sound, opened-waiters, opened-due, opened-going, opened-ending}
use Rattle.cqs_core.proofs.EitherFacts.{either-core, plain-core}
use Rattle.cqs_core.proofs.EitherHands as either
use Rattle.cqs_core.proofs.RunsKeep.{HandsOver, handed, run-keeps}
use Rattle.cqs_core.proofs.StepKeeps.{row-core}

pub opened-core : (permits passes : ℕ) → IsSize permits passes → IsCore (opening_shape permits passes)
opened-core permits passes size =
    let q : Queue = (opening_shape permits passes).queue in
    let nobody : waiters q ≡ no_waiters = opened-waiters 0 passes in
    let none_held : sum (replicate passes 0) ≡ 0 = sum-replicate passes in
    let going_none : going q ≡ 0 = opened-going 0 passes in
    let ending_none : ending q ≡ 0 = opened-ending 0 passes in
    let few : length (replicate passes doing.Idle) ≤ 32 =
    rw (length-replicate passes doing.Idle) size.few_passes in
    record {
      plain = refl;
      range = record {
        some_permits = size.some_permits;
        permits = size.few_permits;
        passes = few;
        state = omega (arith, ints);
        suspends = omega arith;
        resumes = omega arith;
      };
      sound = opened-sound 0 passes;
      covered = record { at = λ j cell got declined past. absurd (cc) };
      loaded =
          record {
            at = λ p d got. let is : d ≡ doing.Idle = get-replicate passes p doing.Idle d got in rw is
                tt;
          };
      holders = length-replicate passes 0 ∙ sym (length-replicate passes doing.Idle);
      legal = record { at = λ n e got. absurd (cc) };
      object = same-by_waiters refl (sym (ap₂ (λ g e. g - e) going_none ending_none)) (sym nobody) (omega arith) refl;
      short = omega (arith, opened-due 0 passes);
      conserved = omega arith;
    }

-- permits that change hands leave it one
handed-core : (s next : Shape) → IsCore s → HandsOver s next → IsCore next
handed-core s next core hands =
    plain-core next (either.handed-core s next (either-core s core) hands)
    (ap (λ (x : Shape). x.sync) (sym hands.is) ∙ core.plain)

pub hand_over-core : (s next : Shape) (from to many : ℕ) → IsCore s → hand_over s from to many ≡ Some next
    → IsCore next
hand_over-core s next from to many core given = handed-core s next core (handed s next from to many given)

pub every-run-is-legal : EveryRunIsLegal
every-run-is-legal permits passes size steps s ran =
    run-keeps IsCore row-core handed-core steps (opening_shape permits passes) s (opened-core permits passes size) ran
