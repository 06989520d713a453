use Rattle.std.proofs.Common.{◌≡◌, ℕ, ◌+◌, ◌<◌, ◌≤◌, get_or, length}
use Rattle.cqs_plan.specs.Floor.{times_at}
use Rattle.cqs_floor_common.proofs.room.count_retries.Given as goal

abbrev pub invariant-loop-at : goal.invariant-loop-at
invariant-loop-at l = record {
  counted : (q : ℕ) → q < l.at → get_or l.room q 0 ≡ get_or l.initial.room q 0 + times_at q l.job l.job.retry;
  others : (q : ℕ) → l.at ≤ q → get_or l.room q 0 ≡ get_or l.initial.room q 0;
  few : (q : ℕ) → get_or l.room q 0 ≤ get_or l.initial.room q 0 + l.job.retry;
}
