-- What `cqs_new` makes, by the numbers of the header.
use Rattle.std.specs.Prelude.{◌≡◌, ℕ, ◌+◌, ◌*◌, ◌/◌, ◌==◌, nat_le, if◌then◌else◌, Option, Some, None}
use Rattle.cqs_rule_laws.specs.declared.config.CancelMode.TheVariants.{Smart, Simple}
use Rattle.cqs_rule_laws.specs.declared.config.Config.{Config}
use Rattle.cqs_c_numbers.specs.declared.numbered.Numbered.{Numbered}
use Rattle.cqs_c_numbers.specs.Making.{IsBarrierOf, IsLatchOf, IsOpen, IsPoolOf, IsSemaphoreOf, IsSyncSemaphoreOf}
use Rattle.cqs_c_numbers.specs.Numbered.{primitive_in}
use Rattle.cqs_c.specs.declared.making.Kind.{Kind}
use Rattle.cqs_c.specs.declared.making.Kind.TheVariants.{Semaphore, Pool, Latch, Barrier, SyncSemaphore}

-- the kind of this number
abbrev pub kind_at : ℕ → Option Kind
kind_at n =
    if n == 0 then Some Semaphore
    else if n == 1 then Some Pool
    else if n == 2 then Some (Latch Smart)
    else if n == 3 then Some (Latch Simple)
    else if n == 4 then Some Barrier
    else if n == 5 then Some SyncSemaphore
    else None

-- how many slots are wanted: 32 waits stand in one, each pass has two spare ones, a pool's elements
-- need room for their cells, and the wait of each party may keep a slot of its own
abbrev pub wanted_slots : ℕ → ℕ → ℕ → ℕ → ℕ
wanted_slots kind size passes waits =
    waits * passes / 32 + 2 * passes + 2
    + (if kind == 1 then size / 32 + 1 else if kind == 4 then size else 0)

-- how it is configured, with as many of the wanted slots as there may be
abbrev pub config_of : ℕ → ℕ → ℕ → ℕ → ℕ → Config
config_of kind size passes limit waits = record {
  passes = passes;
  limit = limit;
  slots = if nat_le (wanted_slots kind size passes waits) 65535
      then wanted_slots kind size passes waits else 65535;
}

-- The primitive is of this kind, and of so many permits, elements, counts or parties; its first
-- pass, under the number 0, has all the parties of a barrier. A synchronous semaphore has so many
-- looks, too; no other kind has any.
abbrev pub IsOfKind : Option Kind → ℕ → Config → ℕ → ℕ → Numbered → Type 0
IsOfKind (Some Semaphore) size config waits looks n =
    IsSemaphoreOf size (primitive_in n) × IsOpen config 0 waits 0 n
IsOfKind (Some Pool) size config waits looks n =
    IsPoolOf size (primitive_in n) × IsOpen config 0 waits (size + 1) n
IsOfKind (Some (Latch mode)) size config waits looks n =
    IsLatchOf size mode (primitive_in n) × IsOpen config 0 waits 0 n
IsOfKind (Some Barrier) size config waits looks n =
    IsBarrierOf size (primitive_in n) × IsOpen config size waits 0 n
IsOfKind (Some SyncSemaphore) size config waits looks n =
    IsSyncSemaphoreOf size looks (primitive_in n) × IsOpen config 0 waits 0 n
IsOfKind None size config waits looks n = ⊥
