use Rattle.std.proofs.Common.{◌≡◌, ◌++◌, drop, map}
use Rattle.cqs_limiter_requests.specs.Told.{outcomes_text}
use Rattle.cqs_limiter_workers.specs.Noting.{AreOf, noted_value}
use Rattle.cqs_limiter_workers.proofs.tokens.text_of.Given as goal

abbrev pub invariant-loop-token : goal.invariant-loop-token
invariant-loop-token l =
    (l.text.items ++ outcomes_text (map noted_value (drop l.token-index l.tokens))
    ≡ outcomes_text (map noted_value l.tokens))
    × AreOf l.notes (drop l.token-index l.tokens)
