use Rattle.std.proofs.Common.{◌≢◌, ℕ, ◌<◌, slice_index_or}
use Rattle.cqs_c_callers.proofs.tokens.place.Given as goal

-- none of those before has the number
abbrev pub invariant-loop-i : goal.invariant-loop-i
invariant-loop-i g l =
    (j : ℕ) (d : g.row.T.Denot) → j < l.i → g.T.Token.index (slice_index_or l.tokens j d) ≢ l.number
