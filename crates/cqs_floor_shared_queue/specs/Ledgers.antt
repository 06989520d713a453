-- What the floor of a worker keeps, and what it is to those who call it.
use Rattle.std.specs.Prelude.{ℕ, ◌+◌, ◌-◌, List, [], ◌∷◌, length, map, Option, slice_get, slice_index, slice_index_or, slice_set}
use Rattle.std.specs.Option.{option_map, option_map_or}
use Rattle.cqs_plan.specs.declared.plans.kind.Kind.{Kind}
use Rattle.cqs_plan.specs.declared.plans.kind.Kind.TheVariants as kind
use Rattle.cqs_plan.specs.Floor.{Holding, rounds_back}
use Rattle.cqs_floor_shared.specs.Shared.{Shared}
use Rattle.cqs_floor_shared_queue.specs.declared.floors.holdings.JobHolding.{JobHolding}
use Rattle.cqs_floor_shared_queue.specs.declared.floors.spots.FloorWait.{FloorWait}
use Rattle.cqs_floor_shared_queue.specs.declared.floors.spots.Spot.{Spot}
use Rattle.cqs_floor_shared_kinds.specs.declared.resource.Came.{Came}
use Rattle.cqs_floor_shared_kinds.specs.declared.resource.Came.TheVariants as came
use Rattle.cqs_floor_shared_queue.specs.Holdings.{and_brought, held_by_jobs}
use Rattle.cqs_floor_shared_kinds.specs.Shares.{Share}
use Rattle.cqs_floor_shared_queue.specs.Spots.{job_wait, no_spot, spot_for, spot_over}

pub record Ledger (X : Type 0) : Type 0 where
  -- what each resource is
  pub kinds : List Kind
  -- what each resource is kept as
  pub shares : List X
  -- for each resource how often it has room for a job that begins to wait
  pub room : List ℕ
  -- for each job where it stands
  pub spots : List Spot
  -- for each job how often it arrived at each resource and didn't take that back
  pub rounds : List (List ℕ)
  -- what the jobs hold, oldest first
  pub holdings : List JobHolding
  -- the number of the floor, and of those that met in it
  pub number : ℕ
  pub met : List ℕ
  -- how many floors were split from one with it, and what each of them may need of room at most
  pub floors : ℕ
  pub budget : ℕ
  -- for how many holdings and for how many numbers there is memory
  pub space : ℕ
  pub seats : ℕ

-- a kind in numbers: floors of one family have the same ones
abbrev pub kind_numbers : Kind → List ℕ
kind_numbers (kind.Semaphore permits) = 0 ∷ permits ∷ []
kind_numbers kind.Mutex = 1 ∷ []
kind_numbers (kind.Pool elements) = 2 ∷ elements ∷ []
kind_numbers (kind.Latch count) = 3 ∷ count ∷ []
kind_numbers (kind.Rounds parties rounds) = 4 ∷ parties ∷ rounds ∷ []

-- how often a job arrived, at each resource and at one; and once more
abbrev pub own_rounds : List (List ℕ) → ℕ → List ℕ
own_rounds rounds job = slice_index_or rounds job []

abbrev pub own_round : List (List ℕ) → ℕ → ℕ → ℕ
own_round rounds job at = slice_index_or (own_rounds rounds job) at 0

abbrev pub with_arrival : List (List ℕ) → ℕ → ℕ → List (List ℕ)
with_arrival rounds job at =
    slice_set rounds job (slice_set (own_rounds rounds job) at (own_round rounds job at + 1))

-- after an arrival that wasn't turned away
abbrev pub and_arrived : List (List ℕ) → ℕ → ℕ → Came → List (List ℕ)
and_arrived rounds at job (came.Now element) = with_arrival rounds job at
and_arrived rounds at job (came.Under k) = with_arrival rounds job at
and_arrived rounds at job (came.Waits place) = with_arrival rounds job at
and_arrived rounds at job came.Worn = rounds

-- a job has what came for its wait at a resource, where that can be held
abbrev pub brought_to : Option Kind → List JobHolding → ℕ → ℕ → ℕ → List JobHolding
brought_to k hs at job element = option_map_or (λ kind. and_brought kind hs at job element) k hs

module _ {X : Type 0} where
  -- where a job stands
  abbrev pub spot_of : Ledger X → ℕ → Spot
  spot_of l job = slice_index_or l.spots job no_spot

  -- what the jobs hold
  abbrev pub holds_in : Ledger X → List (List Holding)
  holds_in l = held_by_jobs (length l.spots) l.holdings

  -- in which round a job arrives next
  abbrev pub round_in : Ledger X → ℕ → ℕ → ℕ
  round_in l job at = own_round l.rounds job at

  -- What floors that were split from one have in common, beside the names of their resources: how
  -- many jobs and floors there are, the room of each, and what the resources are.
  abbrev pub own_name : Ledger X → List (List ℕ)
  own_name l = (length l.spots ∷ l.floors ∷ l.budget ∷ []) ∷ map kind_numbers l.kinds

  -- what a floor is to those who call it
  abbrev pub shared_in : Share X → Ledger X → Shared
  shared_in s l = record {
    board = record {
      kinds = l.kinds;
      histories = [];
      room = l.room;
      waits = map (λ spot. option_map job_wait spot.wait) l.spots;
      holds = holds_in l;
      rounds = l.rounds;
    };
    came = map (λ spot. spot.came) l.spots;
    seen = map s.seen l.shares;
    parties = map s.parties l.shares;
    limits = map s.limit l.shares;
    number = l.number;
    met = l.met;
    floors = l.floors;
    family = own_name l ∷ map s.family l.shares;
  }

  abbrev pub with_shares : Ledger X → List X → Ledger X
  with_shares l shares = record l { shares = shares }

  -- One take, wait or arrival less has room, and the job stands where this says. It holds these,
  -- and arrives next in these rounds.
  abbrev pub with_come : Ledger X → ℕ → ℕ → ℕ → Came → List JobHolding → List (List ℕ) → Ledger X
  with_come l at round job c holdings rounds =
      record l {
        room = slice_set l.room at (slice_index l.room at - 1);
        spots = slice_set l.spots job (spot_for at round c);
        holdings = holdings;
        rounds = rounds;
      }

  -- the wait of a job is over
  abbrev pub without_wait : Ledger X → ℕ → Ledger X
  without_wait l job =
      record l { spots = slice_set l.spots job (spot_over (spot_of l job)) }

  -- and takes an arrival back that this was
  abbrev pub with_back : Ledger X → ℕ → FloorWait → Ledger X
  with_back l job wait =
      record l { rounds = rounds_back l.kinds l.rounds job (job_wait wait) }

  -- and it has what came
  abbrev pub with_grant : Ledger X → ℕ → ℕ → ℕ → Ledger X
  with_grant l at job element =
      record (without_wait l job) {
        holdings = brought_to (slice_get l.kinds at) l.holdings at job element;
      }
