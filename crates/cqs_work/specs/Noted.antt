-- The waits that a worker's jobs were told, beside the numbers that its pass drew.
use Rattle.std.specs.Prelude.{◌≡◌, ℕ, ◌==◌, ◌≤◌, List, [], Option, Some, None, map, length, filter, filter_map}
use Rattle.cqs_core.specs.declared.entries.Entry.{Entry}
use Rattle.cqs_core.specs.declared.entries.Entry.TheVariants as permit
use Rattle.cqs_plan.specs.declared.plans.kind.Kind.{Kind}
use Rattle.cqs_plan.specs.declared.plans.kind.Kind.TheVariants as kind
use Rattle.cqs_plan.specs.FloorHistory.{History, of_permits, of_elements, of_latch, of_rounds}
use Rattle.cqs_floor_shared.specs.Entries.{Entries, at_permits, at_elements, at_latch, in_round, own_history}
use Rattle.cqs_floor_shared.specs.Shared.{kind_at, seen_at}
use Rattle.cqs_work.specs.declared.waits.Waited.{Waited}
use Rattle.cqs_work.specs.Desk.{Desk}

-- a pass drew a number
pub record Draw : Type 0 where
  pub pass : ℕ
  pub number : ℕ

abbrev pub draw_of : Entry → Option Draw
draw_of (permit.Enter c k) = Some (record { pass = c; number = k })
draw_of entry = None

-- which passes drew numbers of a semaphore, and which, in order
abbrev pub draws : List Entry → List Draw
draws entries = filter_map draw_of entries

abbrev pub draws_in : History → List Draw
draws_in (of_permits h) = draws h
draws_in (of_elements h) = []
draws_in (of_latch h) = []
draws_in (of_rounds all) = []

abbrev pub drawn_by : Entries → List Draw
drawn_by (at_permits entries) = draws entries
drawn_by (at_elements entries) = []
drawn_by (at_latch entries) = []
drawn_by (in_round round entries) = []

-- there is a semaphore, or a mutex, which is one of one permit
abbrev pub HasPermits : Option Kind → Type 0
HasPermits (Some (kind.Semaphore permits)) = Unit {0}
HasPermits (Some kind.Mutex) = Unit {0}
HasPermits (Some (kind.Pool elements)) = ⊥
HasPermits (Some (kind.Latch count)) = ⊥
HasPermits (Some (kind.Rounds parties rounds)) = ⊥
HasPermits None = ⊥

-- the waits that were told at a place
abbrev pub told_at : ℕ → List Waited → List Waited
told_at at waits = filter (λ wait. wait.at == at) waits

-- a wait that a job of the pass c was told, as a number that the pass drew
abbrev pub as_draw : ℕ → Waited → Draw
as_draw c wait = record { pass = c; number = wait.number }

-- at each semaphore and mutex the waits that jobs were told are the numbers that the pass drew
pub record IsNoted (d : Desk) : Type 0 where
  pub long : length d.floor.board.kinds ≤ length d.floor.seen
  pub at : (at : ℕ) → HasPermits (kind_at d.floor at)
      → draws_in (own_history d.floor.number (seen_at d.floor at))
      ≡ map (as_draw d.floor.number) (told_at at d.waits)
