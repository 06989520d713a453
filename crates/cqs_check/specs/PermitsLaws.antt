-- What the first line of a history says is a line.
use Rattle.std.specs.Prelude.{ℕ, codes, refl}
use Rattle.cqs_lines.specs.Said.{IsLine}
use Rattle.cqs_lines.proofs.Verbs.{line-permits}
use Rattle.cqs_replay.specs.Runs.{permits_say}
use Rattle.cqs_check.specs.Histories.{IsPermits}

pub permits_are_a_line : (p : ℕ) → IsPermits p → IsLine (permits_say p)
permits_are_a_line p fit = line-permits (codes "semaphore") p refl refl fit.1
