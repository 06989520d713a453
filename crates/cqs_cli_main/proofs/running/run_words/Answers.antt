-- It is the call of `top`, said of the status that the process ends with.
use Rattle.std.proofs.Common.{inl, inr}
use Rattle.cqs_cli_main.proofs.running.run_words.Goals as goal

pub returns-clause-call : goal.returns-clause-call
returns-clause-call g c = rw c.finish.ensures.status c.top-status.ensures

-- the text is the message, or there is more to tell
pub returns-clause-message : goal.returns-clause-message
returns-clause-message g c = record {
  text = c.text_of-text.result.now;
  says = rw c.finish.ensures.status (elim c.text_of-text.ensures [
    | inl message ↦ inr message
    | inr some ↦ inl (c.explain-explained.ensures some)
  ]);
  told = c.finish.ensures.message;
  counted = c.finish.ensures.counted;
}
