-- Each row of the table keeps the core that isn't synchronous, and so does each call that answers by a row.
use Rattle.std.proofs.Common.{◌≡◌, Option, Some, None, Result, Ok, Err, refl}
use Rattle.cqs_core.specs.declared.errors.CoreError.{CoreError}
use Rattle.cqs_core.specs.declared.errors.CoreError.TheVariants.{Memory, BadSize, NotEnabled}
use Rattle.cqs_core.specs.declared.events.Event.{Event}
use Rattle.cqs_core.specs.declared.outcomes.Outcome.{Outcome}
use Rattle.cqs_core.specs.SemaphoreTable.{Shape, Stepped, step}
use Rattle.cqs_core.specs.SemaphoreAnswers.{Makes, Room, MakesReady}
use Rattle.cqs_core.specs.SemaphoreShown.{IsCore}
use Rattle.cqs_core.proofs.RowsKeep.{Keeps}
use Rattle.cqs_core.proofs.EitherFacts.{rows-keep-plain}

pub rows-keep : (s : Shape) (e : Event) → IsCore s → Keeps IsCore (step s e)
rows-keep s e core = rows-keep-plain s e core

-- what an allowed event makes of a core is a core
pub row-core : (s : Shape) (e : Event) (row : Stepped) → IsCore s → step s e ≡ Some row → IsCore row.shape
row-core s e row core is = (rows-keep s e core).at row is

makes-core : (s new : Shape) (row : Option Stepped) (r : Result Outcome CoreError) → IsCore s → Keeps IsCore row
    → Makes row r s new → IsCore new
makes-core s new (Some row) (Ok o) core keeps made = rw made.1 (keeps.at row refl)
makes-core s new (Some row) (Err Memory) core keeps made = rw made core
makes-core s new (Some row) (Err BadSize) core keeps made = absurd made
makes-core s new (Some row) (Err NotEnabled) core keeps made = absurd made
makes-core s new None (Ok o) core keeps made = absurd made
makes-core s new None (Err Memory) core keeps made = rw made core
makes-core s new None (Err BadSize) core keeps made = absurd made
makes-core s new None (Err NotEnabled) core keeps made = rw made core

-- a call that answers as the table says keeps the core
pub step-keeps : (s new : Shape) (e : Event) (r : Result Outcome CoreError) → IsCore s
    → Makes (step s e) r s new → IsCore new
step-keeps s new e r core made = makes-core s new (step s e) r core (rows-keep s e core) made

ready-core : (old new : Room) (row : Option Stepped) (o : Option Outcome) → IsCore old.shape → Keeps IsCore row
    → MakesReady row o old new → IsCore new.shape
ready-core old new (Some row) (Some o) core keeps made = rw made.1 (keeps.at row refl)
ready-core old new None None core keeps made = rw made core
ready-core old new (Some row) None core keeps made = absurd made
ready-core old new None (Some o) core keeps made = absurd made

-- and so does one that has room for it
pub ready-keeps : (old new : Room) (e : Event) (o : Option Outcome) → IsCore old.shape
    → MakesReady (step old.shape e) o old new → IsCore new.shape
ready-keeps old new e o core made =
    ready-core old new (step old.shape e) o core (rows-keep old.shape e core) made
