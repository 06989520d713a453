use Rattle.cqs_limiter_requests.proofs.Heads.{heard-permits, unsaid}
use Rattle.cqs_limiter_requests.proofs.reading.permits_of.Goals as goal

pub returns-in_default : goal.returns-in_default
returns-in_default c = unsaid _ (rw c.in_default.is at c.in_ok-heard.ensures)

pub returns : goal.returns
returns c =
    let is = rw c.in-Some.is at c.in_ok-heard.ensures in
    heard-permits (λ ps. ps.items) c.args.line.now c.in-Some.heard.verb.now c.in-Some.heard.numbers.items
    c.permits_said.result is (rw c.as_slice.ensures.value at c.permits_said.ensures)
