-- What a primitive is made as, and what its first pass is.
use Rattle.std.specs.Prelude.{◌≡◌, ℕ, ◌+◌, ◌≤◌, [], Some, vec_capacity}
use Rattle.cqs_rule_laws.specs.declared.config.CancelMode.{CancelMode}
use Rattle.cqs_rule_laws.specs.declared.config.Config.{Config}
use Rattle.cqs_rule.specs.Passes.{pass_view, client_of, limit_of, looks_of, passes_of}
use Rattle.cqs_barrier.specs.Calls.{parties_in}
use Rattle.cqs_latch.specs.LatchMade.{count_of, mode_of}
use Rattle.cqs_pool.specs.Calls.{size_of}
use Rattle.cqs_semaphore.specs.Calls.{permits_in}
use Rattle.cqs_sync_semaphore.specs.Calls as sync
use Rattle.cqs_c_numbers.specs.declared.caller.Caller.{Caller}
use Rattle.cqs_c_numbers.specs.declared.caller.Caller.TheVariants as caller
use Rattle.cqs_c_numbers.specs.declared.numbered.Numbered.{Numbered}
use Rattle.cqs_c_numbers.specs.declared.primitive.Primitive.{Primitive}
use Rattle.cqs_c_numbers.specs.declared.primitive.Primitive.TheVariants as primitive
use Rattle.cqs_c_numbers.specs.Callers.{StandsAs, pass_number}
use Rattle.cqs_c_numbers.specs.Numbered.{primitive_in, IsLaid}

-- how many passes may be made in all, and numbers of waits drawn
abbrev pub passes_in : Primitive → ℕ
passes_in (primitive.Semaphore s) = passes_of s.queue
passes_in (primitive.Pool p) = passes_of p.queue
passes_in (primitive.Latch l) = passes_of l.queue
passes_in (primitive.Barrier b) = passes_of b.queue
passes_in (primitive.SyncSemaphore s) = passes_of s.queue

abbrev pub limit_in : Primitive → ℕ
limit_in (primitive.Semaphore s) = limit_of s.queue
limit_in (primitive.Pool p) = limit_of p.queue
limit_in (primitive.Latch l) = limit_of l.queue
limit_in (primitive.Barrier b) = limit_of b.queue
limit_in (primitive.SyncSemaphore s) = limit_of s.queue

-- it is a semaphore of so many permits, a pool of so many elements, a latch of this count and mode,
-- a barrier of so many parties, or a synchronous semaphore of so many permits and looks
abbrev pub IsSemaphoreOf : ℕ → Primitive → Type 0
IsSemaphoreOf permits (primitive.Semaphore s) = permits_in s ≡ permits
IsSemaphoreOf permits _ = ⊥

abbrev pub IsPoolOf : ℕ → Primitive → Type 0
IsPoolOf elements (primitive.Pool p) = size_of p ≡ elements
IsPoolOf elements _ = ⊥

abbrev pub IsLatchOf : ℕ → CancelMode → Primitive → Type 0
IsLatchOf count mode (primitive.Latch l) =
    (count_of (client_of l.queue) ≡ count) × (mode_of (client_of l.queue) ≡ mode)
IsLatchOf count mode _ = ⊥

abbrev pub IsBarrierOf : ℕ → Primitive → Type 0
IsBarrierOf parties (primitive.Barrier b) = parties_in b ≡ parties
IsBarrierOf parties _ = ⊥

abbrev pub IsSyncSemaphoreOf : ℕ → ℕ → Primitive → Type 0
IsSyncSemaphoreOf permits looks (primitive.SyncSemaphore s) =
    (sync.permits_in s ≡ permits) × (looks_of s.queue ≡ looks)
IsSyncSemaphoreOf permits looks _ = ⊥

-- The caller has seen nothing, holds so much, and waits for nothing; there is room for so many
-- waits, and in a pool for so many elements.
abbrev pub IsNew : ℕ → ℕ → ℕ → Caller → Type 0
IsNew held waits elements (caller.Semaphore c) =
    ((pass_view c.pass).seen ≡ []) × ((pass_view c.pass).facts.has.held ≡ held)
    × (c.waits.items ≡ []) × (vec_capacity c.waits ≡ waits)
IsNew held waits elements (caller.Pool c) =
    ((pass_view c.pass).seen ≡ []) × (c.waits.items ≡ []) × (vec_capacity c.waits ≡ waits)
    × (c.elements.items ≡ []) × (vec_capacity c.elements ≡ elements)
IsNew held waits elements (caller.Latch c) =
    ((pass_view c.pass).seen ≡ []) × (c.waits.items ≡ []) × (vec_capacity c.waits ≡ waits)
IsNew held waits elements (caller.Barrier c) =
    ((pass_view c.pass).seen ≡ []) × ((pass_view c.pass).facts.has.held ≡ held)
    × (c.waits.items ≡ []) × (vec_capacity c.waits ≡ waits)
IsNew held waits elements (caller.SyncSemaphore c) =
    ((pass_view c.pass).seen ≡ []) × ((pass_view c.pass).facts.has.held ≡ held)
    × (c.waits.items ≡ []) × (vec_capacity c.waits ≡ waits)

-- for how many segments of cells there is room, as the caller's pass has it
abbrev pub slots_at : Caller → ℕ
slots_at (caller.Semaphore c) = (pass_view c.pass).slots
slots_at (caller.Pool c) = (pass_view c.pass).slots
slots_at (caller.Latch c) = (pass_view c.pass).slots
slots_at (caller.Barrier c) = (pass_view c.pass).slots
slots_at (caller.SyncSemaphore c) = (pass_view c.pass).slots

-- The primitive has as many passes, waits and slots as it was configured for, and as many numbers
-- of passes. Its first pass lies under the number 0.
pub record IsOpen (config : Config) (held waits elements : ℕ) (n : Numbered) : Type 0 where
  pub passes : passes_in (primitive_in n) ≡ config.passes
  pub limit : limit_in (primitive_in n) ≡ config.limit
  pub numbers : n.passes ≡ config.passes
  pub room : n.room ≡ waits
  pub first : Caller
  pub stands : StandsAs (primitive_in n) 0 first
  pub new : IsNew held waits elements first
  pub slots : slots_at first ≡ config.slots
  pub laid : IsLaid n 0 0 (Some first)

-- the table of this primitive is open, with this caller in it
pub record HasOpened (p : Primitive) (first : Caller) (passes waits : ℕ) (n : Numbered)
    : Type 0 where
  pub primitive_is : primitive_in n ≡ p
  pub numbers : n.passes ≡ passes
  pub room : n.room ≡ waits
  pub laid : IsLaid n (pass_number first) 0 (Some first)
