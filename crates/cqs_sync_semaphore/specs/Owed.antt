-- What contracts see of a permit whose resumption was handed back.
use Rattle.std.specs.Prelude.{◌≡◌, ℕ, ◌<◌, ◌≤◌, Option, None}
use Rattle.cqs_rule.specs.declared.queue.tokens.Under as token
use Rattle.cqs_rule.specs.Owed.{under_reached, under_ticket}
use Rattle.cqs_sync_semaphore.specs.declared.answers.SyncReleased.{SyncReleased}
use Rattle.cqs_sync_semaphore.specs.declared.answers.SyncReleased.TheVariants.{Freed, Sent, Void, Broke, Handling, Under}
use Rattle.cqs_sync_semaphore.specs.declared.answers.Under as owed

-- the queue's token of the resumption
abbrev pub token_of : owed.Under → token.Under
token_of u = u.token

-- the number of the permit that was given back
abbrev pub number_under : owed.Under → Option ℕ
number_under u = u.number

-- Where the resumption was handed back, the last number that was drawn for it is greater than this;
-- where a canceller is to end first, it is no less.
abbrev pub IsFurther : ℕ → SyncReleased → Type 0
IsFurther reached Freed = Unit {0}
IsFurther reached (Sent k) = Unit {0}
IsFurther reached (Void k) = Unit {0}
IsFurther reached (Broke k permit) = Unit {0}
IsFurther reached (Handling k under) = reached ≤ under_reached (token_of under)
IsFurther reached (Under under) = reached < under_reached (token_of under)

-- the same where it was handed back with no ticket open
abbrev pub HasDrawnPast : ℕ → SyncReleased → Type 0
HasDrawnPast reached Freed = Unit {0}
HasDrawnPast reached (Sent k) = Unit {0}
HasDrawnPast reached (Void k) = Unit {0}
HasDrawnPast reached (Broke k permit) = Unit {0}
HasDrawnPast reached (Handling k under) = Unit {0}
HasDrawnPast reached (Under under) =
    under_ticket (token_of under) ≡ None → reached < under_reached (token_of under)
