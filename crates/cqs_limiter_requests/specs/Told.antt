-- The line for a request with its reply.
use Rattle.std.specs.Prelude.{ℕ, List, [], ◌∷◌, ◌++◌, codes, decimal}
use Rattle.cqs_lines.specs.Said.{said_text}
use Rattle.cqs_limiter_requests.specs.declared.asks.Answer.{Answer}
use Rattle.cqs_limiter_requests.specs.declared.asks.Answer.TheVariants as answer
use Rattle.cqs_limiter_requests.specs.declared.asks.Line.{Line}
use Rattle.cqs_limiter_requests.specs.declared.asks.LimitOutcome.{LimitOutcome}
use Rattle.cqs_limiter_requests.specs.Lines.{line_says}

-- the words of an answer, behind a space
abbrev pub answer_text : Answer → List ℕ
answer_text answer.Now = codes " now"
answer_text (answer.Waits k) = codes " waits " ++ decimal k
answer_text answer.Granted = codes " granted"
answer_text answer.Pending = codes " pending"
answer_text answer.Gone = codes " gone"
answer_text answer.Late = codes " late"
answer_text answer.Freed = codes " freed"
answer_text (answer.Sent k) = codes " sent " ++ decimal k
answer_text answer.Refused = codes " refused"

abbrev pub line_of : LimitOutcome → Line
line_of o = record { tenant = o.tenant; client = o.client; ask = o.ask }

-- the request, its answer, and a line feed
abbrev pub outcome_text : LimitOutcome → List ℕ
outcome_text o = said_text (line_says (line_of o)) ++ answer_text o.answer ++ codes "\n"

abbrev pub outcomes_text : List LimitOutcome → List ℕ
outcomes_text [] = []
outcomes_text (o ∷ os) = outcome_text o ++ outcomes_text os
