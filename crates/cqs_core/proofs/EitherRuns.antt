-- A core as it is made is one, synchronous or not, and so is each that steps lead to.
use Rattle.std.proofs.Common.{◌≡◌, ℕ, zero, suc, Bool, [], ◌∷◌, map, replicate, refl, sym, ap, subst, arith}
use Rattle.cqs_core.specs.declared.doings.Doing.TheVariants as doing
use Rattle.cqs_core.specs.QueueState.{Queue}
use Rattle.cqs_core.specs.QueueSound.{IsSound}
use Rattle.cqs_core.specs.QueueCover.{IsCovered}
use Rattle.cqs_core.specs.QueueAsUnbroken.{unwatching, as_unbroken}
use Rattle.cqs_core.specs.SemaphoreShown.{IsCore, IsSize, opening_shape}
use Rattle.cqs_core.specs.SemaphoreCores.{IsEitherCore, opening_of, EveryRunOfEitherIsLegal}
use Rattle.cqs_core.proofs.OpenedCore.{opened-core}
use Rattle.cqs_core.proofs.EitherHands.{handed-core}
use Rattle.cqs_core.proofs.RunsKeep.{run-keeps}
use Rattle.cqs_core.proofs.EitherTable.{row-core}
use Rattle.cqs_core.proofs.EitherFacts.{sound-unbroken}

unwatching-idle : (passes : ℕ) → map unwatching (replicate passes doing.Idle) ≡ replicate passes doing.Idle
unwatching-idle zero = refl
unwatching-idle (suc n) = ap (λ ds. doing.Idle ∷ ds) (unwatching-idle n)

-- a queue as it opens reads as itself
unread : (permits passes : ℕ) → (opening_shape permits passes).queue ≡ as_unbroken (opening_shape permits passes).queue
unread permits passes = λ i. record {
  suspends = 0;
  resumes = 0;
  cells = [];
  doing = sym (unwatching-idle passes) i;
}

pub opened-either : (sync : Bool) (permits passes : ℕ) → IsSize permits passes
    → IsEitherCore (opening_of sync permits passes)
opened-either sync permits passes size =
    let core : IsCore (opening_shape permits passes) = opened-core permits passes size in
    record {
      plain = λ is. sound-unbroken (opening_shape permits passes).queue core.sound;
      range = record {
        some_permits = core.range.some_permits;
        permits = core.range.permits;
        passes = core.range.passes;
        state = core.range.state;
        suspends = core.range.suspends;
        resumes = core.range.resumes;
      };
      sound = subst (λ (q : Queue). IsSound q) (unread permits passes) core.sound;
      covered = subst (λ (q : Queue). IsCovered q) (unread permits passes) core.covered;
      loaded = core.loaded;
      holders = core.holders;
      legal = core.legal;
      object = core.object;
      short = omega (arith, core.short);
      conserved = core.conserved;
    }

pub every-run-of-either-is-legal : EveryRunOfEitherIsLegal
every-run-of-either-is-legal sync permits passes size steps s ran =
    run-keeps IsEitherCore row-core handed-core steps (opening_of sync permits passes) s
    (opened-either sync permits passes size) ran
