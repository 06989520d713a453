-- What a worker's calls leave of its floor, whatever they are.
use Rattle.std.specs.Prelude.{◌≡◌, ◌+◌, ◌≤◌, ℕ, []}
use Rattle.cqs_core.specs.Parts.{part}
use Rattle.cqs_core.specs.SemaphoreNames.{entry_names as permit_names}
use Rattle.cqs_pool_object.specs.PoolNames.{entry_names as element_names}
use Rattle.cqs_latch_object.specs.LatchNames.{entry_names as latch_names}
use Rattle.cqs_barrier_object.specs.BarrierNames.{entry_names as party_names}
use Rattle.cqs_plan.specs.FloorHistory.{History, of_permits, of_elements, of_latch, of_rounds, entries_in}
use Rattle.cqs_floor_shared.specs.Entries.{IsBefore}
use Rattle.cqs_floor_shared.specs.Shared.{Shared, IsSame, IsLegalAt, seen_at}
use Rattle.cqs_plan.specs.Floor.{room_at}
use Rattle.cqs_work.specs.Accounts.{IsAccounted}
use Rattle.cqs_work.specs.Drawn.{drew}

-- no entry names the caller n, in no round
abbrev pub IsUnnamed : ℕ → History → Type 0
IsUnnamed n (of_permits h) = part permit_names n h ≡ []
IsUnnamed n (of_elements h) = part element_names n h ≡ []
IsUnnamed n (of_latch h) = part latch_names n h ≡ []
IsUnnamed n (of_rounds all) = (round : ℕ) → part party_names n (entries_in all round) ≡ []

-- all that the pass has seen is legal, and names only passes that some floor has
pub record IsSound (f : Shared) : Type 0 where
  pub legal : (at : ℕ) → IsLegalAt f.board at (seen_at f at)
  pub unnamed : (at n : ℕ) → f.floors ≤ n → IsUnnamed n (seen_at f at)

-- g is the floor f some calls later
pub record Later (f g : Shared) : Type 0 where
  pub same : IsSame f g
  pub kinds : g.board.kinds ≡ f.board.kinds
  pub before : (at : ℕ) → IsBefore (seen_at f at) (seen_at g at)
  pub sound : IsSound f → IsSound g
  pub accounted : IsAccounted f → IsAccounted g
  -- each number that the pass drew used up room for one
  pub room : (at round : ℕ)
      → drew g at round + room_at g.board at ≤ drew f at round + room_at f.board at
