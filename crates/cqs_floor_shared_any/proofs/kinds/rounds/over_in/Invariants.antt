use Rattle.std.proofs.Common.{◌≡◌, count_by, take}
use Rattle.cqs_floor_shared_any.proofs.kinds.rounds.over_in.Given as goal

-- those so far were counted
abbrev pub invariant-loop-round : goal.invariant-loop-round
invariant-loop-round l = l.over ≡ count_by (λ r. r.over) (take l.round-index l.rounds)
