-- What a core that isn't synchronous gives, by what every core does: it shows the object after its history, and its
-- state word is small.
use Rattle.std.proofs.Common.{pos, ◌≤ℤ◌}
use Rattle.cqs_core.specs.SemaphoreEntries.{object_after}
use Rattle.cqs_core.specs.SemaphoreShown.{IsCore, Shows}
use Rattle.cqs_core.specs.SemaphoreTable.{Shape}
use Rattle.cqs_core.proofs.EitherFacts as either
use Rattle.cqs_core.proofs.EitherFacts.{either-core, core-fits}

-- a core shows the object after its history
pub shows-object : (s : Shape) → IsCore s → Shows s (object_after s.permits s.history)
shows-object s core = either.shows-object s (either-core s core)

-- the state word never rises above the permits
pub state-few : (s : Shape) → IsCore s → s.state ≤ℤ pos 1048576
state-few s core = (core-fits s (either-core s core)).high
