use Rattle.std.proofs.Common.{◌≡◌, ℕ, ◌<◌, ◌≤◌, length, map, max}
use Rattle.cqs_floor_shared_queue.specs.Ledgers.{own_round, own_rounds}
use Rattle.cqs_floor_shared_queue.proofs.floors.meeting.raise_rounds.Given as goal

-- so far the later of both, and from there on what there was
abbrev pub invariant-loop-job : goal.invariant-loop-job
invariant-loop-job l = record {
  long : length l.rounds.items ≡ length l.fn.rounds.items;
  each : (k : ℕ) → length (own_rounds (map (λ own. own.items) l.rounds.items) k)
      ≡ length (own_rounds (map (λ own. own.items) l.fn.rounds.items) k);
  raised : (k at : ℕ) → k < l.job → own_round (map (λ own. own.items) l.rounds.items) k at
      ≡ max (own_round (map (λ own. own.items) l.fn.rounds.items) k at)
      (own_round (map (λ own. own.items) l.given.items) k at);
  rest : (k : ℕ) → l.job ≤ k → own_rounds (map (λ own. own.items) l.rounds.items) k
      ≡ own_rounds (map (λ own. own.items) l.fn.rounds.items) k;
}
