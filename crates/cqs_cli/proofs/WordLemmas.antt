-- The words of the commands.
use Rattle.std.proofs.Common.{◌≡◌, ℕ, ◌<◌, ◌≤◌, ◌^◌, List, ◌∷◌, Ok, Result, inl, inr, codes, decimal, arith, refl}
use Rattle.std.specs.Str.Parse.{ParsesUnsigned}
use Rattle.std.proofs.lemmas.Fmt.{decimal_injective, parse-decimal}
use Rattle.cqs_cli.specs.Words.{IsCommand, IsGen, IsRun, IsSomeGen, IsSomeStudy, IsStudy, Reads, SpellGen}
use Rattle.cqs_cli_histories.specs.declared.studies.Study.{Study}
use Rattle.cqs_cli_histories.specs.declared.studies.Study.TheVariants.{Replay, History, Check}

-- a number of 32 bits in decimal is read as that number
pub reads : {E : Type 0} (n most : ℕ) (word : List ℕ) (r : Result ℕ E) → n ≤ most → most < 2 ^ 32
    → word ≡ decimal n → ParsesUnsigned 32 10 word r → r ≡ Ok n
reads n most word r high fits is parses = parse-decimal 32 n word r (omega arith) (omega arith) is parses

-- no words are of both commands
pub one_command : (words : List (List ℕ)) → IsRun words → IsSomeGen words → ⊥
one_command words run (number, (jobs, gen)) = elim gen.spelled [
  | inl one ↦ absurd (cc)
  | inr other ↦ absurd (cc)
]

-- words ask for one number and one count of jobs
pub one_gen : (words : List (List ℕ)) (number jobs other more : ℕ) → IsGen number jobs words
    → IsGen other more words → (number ≡ other) × (jobs ≡ more)
one_gen words number jobs other more first second = go first.spelled second.spelled
  where
    same : decimal number ≡ decimal other → decimal jobs ≡ decimal more → (number ≡ other) × (jobs ≡ more)
    same numbers counts = (
      decimal_injective number other (omega (arith, first.number_fits)) (omega (arith, second.number_fits)) numbers,
      decimal_injective jobs more (omega (arith, first.few_jobs)) (omega (arith, second.few_jobs)) counts,
    )

    go : SpellGen number jobs words → SpellGen other more words → (number ≡ other) × (jobs ≡ more)
    go (inl one) (inl two) = same (cc) (cc)
    go (inr one) (inr two) = same (cc) (cc)
    go (inl one) (inr two) = absurd (cc)
    go (inr one) (inl two) = absurd (cc)

-- no words of another command ask for a study
pub run-is-no-study : (words : List (List ℕ)) → IsRun words → IsSomeStudy words → ⊥
run-is-no-study words run (Replay, asked) = absurd (cc)
run-is-no-study words run (History, asked) = absurd (cc)
run-is-no-study words run (Check, asked) = absurd (cc)

pub gen-is-no-study : (words : List (List ℕ)) → IsSomeGen words → IsSomeStudy words → ⊥
gen-is-no-study words (number, (jobs, gen)) (study, asked) = elim gen.spelled [
  | inl one ↦ absurd (cc)
  | inr other ↦ absurd (cc)
]

-- nor do those of workers, whatever stands behind the first
pub begun-is-no-study : (words more : List (List ℕ)) → words ≡ codes "work" ∷ more → IsSomeStudy words → ⊥
begun-is-no-study words more work (Replay, asked) = absurd (cc)
begun-is-no-study words more work (History, asked) = absurd (cc)
begun-is-no-study words more work (Check, asked) = absurd (cc)

-- words ask for one study
pub one-study : (study other : Study) (words : List (List ℕ)) → IsStudy study words → IsStudy other words
    → study ≡ other
one-study Replay Replay words first second = refl
one-study Replay History words first second = absurd (cc)
one-study Replay Check words first second = absurd (cc)
one-study History Replay words first second = absurd (cc)
one-study History History words first second = refl
one-study History Check words first second = absurd (cc)
one-study Check Replay words first second = absurd (cc)
one-study Check History words first second = absurd (cc)
one-study Check Check words first second = refl

-- words that read are a command, and not that of a number
pub reads-command : (words : List (List ℕ)) → Reads words → IsCommand words
reads-command words (inl run) = inl run
reads-command words (inr study) = inr (inr study)

pub gen-reads-nothing : (words : List (List ℕ)) → IsSomeGen words → Reads words → ⊥
gen-reads-nothing words gen (inl run) = one_command words run gen
gen-reads-nothing words gen (inr study) = gen-is-no-study words gen study
