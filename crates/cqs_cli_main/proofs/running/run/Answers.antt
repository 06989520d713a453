-- It is the run on the words of the command line, or there was no memory for them.
use Rattle.std.proofs.Common.{inl, inr}
use Rattle.cqs_cli_main.proofs.running.run.Goals as goal

pub returns-in-Ok-clause-call : goal.returns-in-Ok-clause-call
returns-in-Ok-clause-call g c = inl (rw (← c.in-Ok.ensures.words, ← c.deref.ensures.value) c.run_words.ensures.call)

pub returns-in-Ok-clause-message : goal.returns-in-Ok-clause-message
returns-in-Ok-clause-message g c = rw (← c.in-Ok.ensures.words, ← c.deref.ensures.value) c.run_words.ensures.message

-- the message of this status is the same after any words
pub returns-in-Err-clause-message : goal.returns-in-Err-clause-message
returns-in-Err-clause-message g c = rw c.finish.ensures.status (record {
  text = c.message_of.result.now;
  says = inr c.message_of.ensures;
  told = c.finish.ensures.message;
  counted = c.finish.ensures.counted;
})
