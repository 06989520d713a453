-- Each progress is counted in one of the four totals, but for a crowded job's, and no job of a run is crowded.
use Rattle.std.proofs.Common.{◌≡◌, ◌+◌, List, [], ◌∷◌, cond, count_by, length, refl, arith}
use Rattle.std.proofs.lemmas.List.Sums.{sum_by-cons}
use Rattle.cqs_turns_report.specs.declared.states.End.TheVariants.{Done, GaveUp, Late, Crowded}
use Rattle.cqs_turns_report.specs.declared.states.Progress.{Progress}
use Rattle.cqs_turns_report.specs.declared.states.Progress.TheVariants.{Stepping, Working, Waiting, Ended}
use Rattle.cqs_turns_report.specs.Lines.{is_done, has_given_up, is_late, is_crowded, is_unfinished}
use Rattle.cqs_turns_report.specs.Turns.{machine_after}
use Rattle.cqs_turns_report.proofs.NoneTurnedAway.{none-crowded}
use Rattle.cqs_turns_laws.specs.Totals.{total_of, TotalsAddUp}
use Rattle.cqs_turns_laws.proofs.Everywhere.{all-jobs}

counts-once : (p : Progress) → cond (is_done p) 1 0 + cond (has_given_up p) 1 0 + cond (is_late p) 1 0
    + cond (is_unfinished p) 1 0 + cond (is_crowded p) 1 0 ≡ 1
counts-once (Stepping next) = refl
counts-once (Working next until) = refl
counts-once (Waiting next at round number) = refl
counts-once (Ended Done) = refl
counts-once (Ended GaveUp) = refl
counts-once (Ended Late) = refl
counts-once (Ended Crowded) = refl

counts-all : (progress : List Progress) → total_of progress + count_by is_crowded progress ≡ length progress
counts-all [] = refl
counts-all (p ∷ progress) =
    omega (
      arith,
      sum_by-cons (λ q. cond (is_done q) 1 0) p progress,
      sum_by-cons (λ q. cond (has_given_up q) 1 0) p progress,
      sum_by-cons (λ q. cond (is_late q) 1 0) p progress,
      sum_by-cons (λ q. cond (is_unfinished q) 1 0) p progress,
      sum_by-cons (λ q. cond (is_crowded q) 1 0) p progress,
      counts-once p,
      counts-all progress,
    )

pub totals-add-up : TotalsAddUp
totals-add-up plan =
    omega (
      arith,
      counts-all (machine_after plan plan.turns).progress,
      none-crowded plan plan.turns,
      all-jobs plan plan.turns,
    )
