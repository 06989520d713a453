-- What contracts see of the semaphore as a client: what it was made with.
use Rattle.std.specs.Prelude.{ℕ, Bool}
use Rattle.cqs_core.specs.declared.entries.Entry.{Entry}
use Rattle.cqs_rule_laws.specs.Object.{Primitive}
use Rattle.cqs_semaphore_client.specs.declared.semaphore.SemClient.{SemClient}
use Rattle.cqs_semaphore_client.specs.Semaphore.{semaphore_primitive}

module _ {T : Type 0} where
  -- the permits that it opens with
  abbrev pub permits_of : SemClient T → ℕ
  permits_of x = x.permits

  -- whether it is synchronous: each value that a resume leaves is taken or taken back
  abbrev pub sync_of : SemClient T → Bool
  sync_of x = x.sync

  -- how often a resume of it looks at the value that it left
  abbrev pub looks_of : SemClient T → ℕ
  looks_of x = x.looks

  abbrev pub primitive_of : SemClient T → Primitive Entry T
  primitive_of x = semaphore_primitive (sync_of x) (looks_of x) (permits_of x)
