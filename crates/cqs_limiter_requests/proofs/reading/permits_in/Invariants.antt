use Rattle.std.proofs.Common.{◌≡◌, ◌++◌, All, drop}
use Rattle.cqs_limiter_requests.specs.Lines.{IsPermits}
use Rattle.cqs_limiter_requests.proofs.reading.permits_in.Given as goal

abbrev pub invariant-loop-number : goal.invariant-loop-number
invariant-loop-number l =
    (l.permits.items ++ drop l.number-index l.numbers ≡ l.numbers) × All IsPermits l.permits.items
