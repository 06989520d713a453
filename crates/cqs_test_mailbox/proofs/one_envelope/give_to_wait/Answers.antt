use Rattle.cqs_test_mailbox.proofs.one_envelope.give_to_wait.Goals as goal

-- giving an envelope back closes no wait
pub poll-requires-clause-has : goal.poll-requires-clause-has
poll-requires-clause-has g c = c.post_back.ensures.waits c.args.wait c.requires.waits.has
