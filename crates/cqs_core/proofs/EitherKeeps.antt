-- A row of the table keeps the core, if it is one, and whether it is synchronous.
use Rattle.std.proofs.Common.{◌≡◌, Option}
use Rattle.cqs_core.specs.declared.outcomes.Outcome.{Outcome}
use Rattle.cqs_core.specs.SemaphoreTable.{Shape, Stepped, answers}
use Rattle.cqs_core.specs.SemaphoreCores.{IsEitherCore}
use Rattle.cqs_core.proofs.RowsKeep.{Keeps, keeps-row}
pub use Rattle.cqs_core.proofs.RowsKeep.{keeps-none, keeps-if, keeps-found}

-- where the row is one, what it makes is a core, synchronous as the one before
abbrev pub KeepsCore : Shape → Option Stepped → Type 0
KeepsCore s row = Keeps (λ r. IsEitherCore r × (r.sync ≡ s.sync)) row

pub keeps-answers : (s r : Shape) (o : Outcome) → IsEitherCore r → r.sync ≡ s.sync → KeepsCore s (answers r o)
keeps-answers s r o core same = keeps-row r o (core, same)
