use Rattle.cqs_rule.specs.Passes.{pass_view}
use Rattle.cqs_rule.specs.Seats.{IsBusy}
use Rattle.cqs_barrier_rounds.proofs.Below.{BelowIs}
use Rattle.cqs_barrier_rounds.proofs.rounds.RoundsPass.is_busy.Given as goal

-- no pass so far has a wait or owes something
abbrev pub invariant-loop-pass : goal.invariant-loop-pass
invariant-loop-pass l = BelowIs (λ p. IsBusy (pass_view p).facts → ⊥) l.pass-index l.self.passes.items
