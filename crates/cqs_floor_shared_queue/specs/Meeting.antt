-- Two desks that meet.
use Rattle.std.specs.Prelude.{◌≡◌, ℕ, suc, ◌+◌, ◌<◌, ◌≤◌, ◌^◌, Bool, List, ◌∷◌, ◌++◌, length, max, Some, is_some, slice_get, slice_index}
use Rattle.cqs_floor_shared_queue.specs.declared.floors.spots.Spot.{Spot}
use Rattle.cqs_floor_shared_queue.specs.Ledgers.{Ledger, own_round, own_rounds}
use Rattle.cqs_floor_shared_kinds.specs.Shares.{Share}
use Rattle.cqs_floor_shared_kinds.specs.ShareCalls.{CanMeet, Meets}

-- the job has a wait
abbrev pub has_wait : Spot → Bool
has_wait spot = is_some spot.wait

module _ {X : Type 0} (s : Share X) where
  -- of two lists of what resources are kept as, each may take in its like
  pub record CanMeetEach (shares given : List X) : Type 0 where
    pub long : length given ≡ length shares
    pub each : (at : ℕ) (x one : X) → slice_get shares at ≡ Some x → slice_get given at ≡ Some one
        → CanMeet s one x

  -- and has done so
  pub record HasMetAt (shares given : List X) (at : ℕ) (y : X) : Type 0 where
    pub share : X
    pub there : slice_get shares at ≡ Some share
    pub one : X
    pub its : slice_get given at ≡ Some one
    pub meets : Meets s one share y

  pub record HaveMetEach (shares given new : List X) : Type 0 where
    pub long : length new ≡ length shares
    pub each : (at : ℕ) (y : X) → slice_get new at ≡ Some y → HasMetAt shares given at y

  -- one desk may take in another
  pub record CanJoin (l given : Ledger X) : Type 0 where
    pub shares : CanMeetEach l.shares given.shares
    pub rooms : length given.room ≡ length l.room
    pub few : (at : ℕ) → slice_index l.room at + slice_index given.room at < 2 ^ 32
    pub jobs : length given.rounds ≡ length l.rounds
    pub each_round : (job : ℕ)
        → length (own_rounds given.rounds job) ≡ length (own_rounds l.rounds job)
    pub space : length l.holdings + length given.holdings ≤ l.space
    pub seats : length l.met + suc (length given.met) ≤ l.seats

  -- and has done so: what jobs hold, and the numbers, stand one behind the other
  pub record HasJoined (l given n : Ledger X) : Type 0 where
    pub shares : HaveMetEach l.shares given.shares n.shares
    pub rooms : length n.room ≡ length l.room
    pub sums : (at : ℕ)
        → slice_index n.room at ≡ slice_index l.room at + slice_index given.room at
    pub jobs : length n.rounds ≡ length l.rounds
    pub each_round : (job : ℕ) → length (own_rounds n.rounds job) ≡ length (own_rounds l.rounds job)
    pub raised : (job at : ℕ) → own_round n.rounds job at
        ≡ max (own_round l.rounds job at) (own_round given.rounds job at)
    pub written : n
        ≡ record l {
          shares = n.shares;
          room = n.room;
          rounds = n.rounds;
          holdings = l.holdings ++ given.holdings;
          met = l.met ++ given.number ∷ given.met;
        }
