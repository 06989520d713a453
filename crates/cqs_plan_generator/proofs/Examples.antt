-- The plan that the number 1 makes, computed.
use Rattle.std.proofs.Common.{◌≡◌, [], ◌∷◌, Some, None, map, refl}
use Rattle.std.specs.List.{range_with_len}
use Rattle.cqs_plan.specs.declared.plans.step.Step.TheVariants.{Take, Work}
use Rattle.cqs_plan_generator.specs.Draws.{draw}
use Rattle.cqs_plan_generator.specs.Generated.{steps_of, deadline_of}

nine-draws : map (draw 1) (range_with_len 0 9)
    ≡ 16838 ∷ 5758 ∷ 10113 ∷ 17515 ∷ 31051 ∷ 5627 ∷ 23010 ∷ 7419 ∷ 16212 ∷ []
nine-draws = refl

first-steps : steps_of 16838 5758 ≡ Work 4 ∷ Take 0 ∷ Work 3 ∷ []
first-steps = refl

second-steps : steps_of 17515 31051 ≡ Work 1 ∷ Take 0 ∷ Take 1 ∷ Work 4 ∷ []
second-steps = refl

third-steps : steps_of 23010 7419 ≡ Work 1 ∷ Take 0 ∷ Take 1 ∷ Work 4 ∷ []
third-steps = refl

deadlines : map deadline_of (10113 ∷ 5627 ∷ 16212 ∷ []) ≡ Some 4 ∷ None ∷ Some 13 ∷ []
deadlines = refl
