-- What workers left of a plan, apart from what was kept of it.
use Rattle.std.proofs.Common.{◌≡◌, ℕ, List, length, refl, subst, ◌∙◌, arith}
use Rattle.std.proofs.lemmas.List.{length-map}
use Rattle.cqs_core.specs.Numbered.{EachAt}
use Rattle.cqs_plan.specs.declared.plans.plan.Plan.{Plan}
use Rattle.cqs_floor_shared.specs.Shared.{Shared}
use Rattle.cqs_floor_shared_queue.specs.Openings.{AreLimits}
use Rattle.cqs_work.specs.declared.plans.Worked.{Worked}
use Rattle.cqs_work.specs.Drawn.{AreFew, AreWide}
use Rattle.cqs_work.specs.Met.{shared_of}
use Rattle.cqs_work.specs.Opening.{AreSplit}
use Rattle.cqs_work.specs.Worked.{AreBounded, AreQuiet, AreTold, AreUncrowded, AreWaits, HaveAllIn}
use Rattle.cqs_cli_top.specs.declared.kept.Kept.{Kept}
use Rattle.cqs_cli_top.specs.declared.kept.Kept.TheVariants as kept
use Rattle.cqs_cli_top.specs.KeptWorks.{IsWorkKept, KeepsWork}
use Rattle.cqs_cli_top.specs.Working.{IsWorkText}
use Rattle.cqs_cli_top.specs.WorkText.{work_text}

-- a text of what was kept is one of what workers left
pub of-kept : {F : Type 0} (shared : F → Shared) (Leaves : Plan → List Shared → Worked F → Type 0) (bytes : List ℕ)
    (workers : ℕ) (text : List ℕ) (all : Kept F)
    → IsWorkKept shared Leaves bytes workers text all → IsWorkText bytes workers text
of-kept shared Leaves bytes workers text all given = record {
  plan = given.plan;
  says = given.says;
  ends = given.keeps.worked.ends;
  waits = given.keeps.worked.waits;
  last = shared given.keeps.worked.floor;
  worked = given.keeps.done;
  made = given.keeps.made;
}

-- what workers left is kept as it is told, where the floor was asked how its resources stand
-- limits that are above what the jobs may begin to wait are wide enough
wide-enough : (plan : Plan) (floors : List Shared) → EachAt (λ worker f. AreLimits plan f.limits) floors
    → AreWide plan floors
wide-enough plan floors limits = record {
  at = λ worker f at there below. let same = (limits.at worker f there).at at below in omega (arith, same);
}

pub keeps-work : {F : Type 0} (shared : F → Shared) (Leaves : Plan → List Shared → Worked F → Type 0) (plan : Plan)
    (workers : ℕ) (floors : List F) (left now : Worked F)
    (text : List ℕ) → AreSplit plan (shared_of shared floors) → length floors ≡ workers
    → EachAt (λ worker f. AreLimits plan f.limits) (shared_of shared floors)
    → length left.ends ≡ length plan.jobs
    → AreTold plan (shared_of shared floors) (shared left.floor) left.ends left.waits
    → AreWaits (shared_of shared floors) (shared left.floor) left.waits
    → AreBounded plan (shared_of shared floors) (shared left.floor) left.ends
    → AreFew plan (shared left.floor) → (AreWide plan (shared_of shared floors) → AreUncrowded plan left.ends)
    → AreQuiet (shared left.floor)
    → HaveAllIn plan (length floors) (shared left.floor)
    → now.ends ≡ left.ends → now.waits ≡ left.waits → shared now.floor ≡ shared left.floor
    → text ≡ work_text plan left.ends left.waits (shared left.floor)
    → Leaves plan (shared_of shared floors) now
    → KeepsWork shared Leaves plan workers text (kept.Worked now)
keeps-work shared Leaves plan workers floors left now text split many wide one_each told drawn bounds few uncrowded
    quiet met ends waits floor made leaves =
    record {
      worked = now;
      is = refl;
      done = record {
        floors = shared_of shared floors;
        split = split;
        many = length-map floors shared ∙ many;
        wide = wide;
        one_each = rw ends one_each;
        told = rw (ends, waits, floor) told;
        drawn = rw (waits, floor) drawn;
        bounds = rw (ends, floor) bounds;
        few = rw floor few;
        uncrowded = rw ends (uncrowded (wide-enough plan (shared_of shared floors) wide));
        quiet = rw floor quiet;
        met = rw floor (subst (λ n. HaveAllIn plan n (shared left.floor)) many met);
      };
      made = rw (ends, waits, floor) made;
      leaves = leaves;
    }
