-- What was read for a verdict on an input follows from how the reading ended.
use Rattle.std.proofs.Common.{◌≡◌, ℕ, List, arith, rules}
use Rattle.cqs_cli_streams.specs.Tally.{StopsWithin}
use Rattle.cqs_cli_streams.specs.declared.streams.tally.Tally.{Tally}
use Rattle.cqs_cli.specs.Verdicts.{HasTaken, IsVerdictOn}
use Rattle.cqs_cli.specs.declared.verdict.Verdict.{Verdict}
use Rattle.cqs_cli.specs.declared.verdict.Verdict.TheVariants as verdict
use Rattle.cqs_cli.proofs.judging.judge.Goals as goal

-- what was read for a verdict on an input that was read to its end
taken_for : (bytes : List ℕ) (given : Verdict) (old new : Tally) → IsVerdictOn bytes given
    → StopsWithin 1048576 old new → HasTaken given old new
taken_for bytes (verdict.Report text) old new right stops = stops
taken_for bytes (verdict.NoPlan line) old new right stops = stops
taken_for bytes verdict.NoMemory old new right stops =
    (omega (arith, stops.few), λ none. let one = stops.stops none in omega (arith, one))
taken_for bytes (verdict.Summary text) old new right stops = absurd right
taken_for bytes (verdict.Studied found) old new right stops = absurd right
taken_for bytes verdict.NoCommand old new right stops = absurd right
taken_for bytes verdict.SourceFailed old new right stops = absurd right
taken_for bytes verdict.TooLong old new right stops = absurd right

pub returns-in-Ok-clause-counted : goal.returns-in-Ok-clause-counted
returns-in-Ok-clause-counted g c =
    taken_for _ c.judge_input.result _ _ c.judge_input.ensures.right
    (record { few = search rules; stops = search rules })
