-- What is still owed after a permit was sent.
use Rattle.std.specs.Prelude.{Option, Some, None}
use Rattle.cqs_rule.specs.declared.queue.tokens.Under as token
use Rattle.cqs_semaphore.specs.declared.answers.Released.{Released}
use Rattle.cqs_semaphore.specs.declared.answers.Released.TheVariants.{Freed, Sent, Left, Void, Under}

-- the resumption that is still owed
abbrev pub owed_after : Released → Option token.Under
owed_after Freed = None
owed_after (Sent k) = None
owed_after (Left k) = None
owed_after (Void k) = None
owed_after (Under under) = Some under
