use Rattle.cqs_limiter_workers.proofs.Handed.{IsHanding}
use Rattle.cqs_limiter_workers.proofs.tokens.deal_back.Given as goal

abbrev pub invariant-loop-line : goal.invariant-loop-line
invariant-loop-line g l = IsHanding l.notes l.lines l.hands l.next.items l.tokens.items l.line-index
