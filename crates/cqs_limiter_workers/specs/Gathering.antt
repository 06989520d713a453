-- What workers hand back, put together.
use Rattle.std.specs.Prelude.{◌≡◌, ℕ, ◌<◌, ◌≤◌, ◌%◌, List, Some, length, slice_get, slice_set, None}
use Rattle.cqs_limiter_workers.specs.declared.works.Told.{Told}

module _ {X : Type 0} where
  -- the tenant at the place stands with its worker
  pub record IsWith (hands : List (Told X)) (t : ℕ) (x : X) : Type 0 where
    pub hand : Told X
    pub hand_is : slice_get hands (t % length hands) ≡ Some hand
    pub there : slice_get hand.desks.items t ≡ Some (Some x)

  -- those from this place on do
  abbrev pub AreAllThere : List (Told X) → ℕ → ℕ → Type 0
  AreAllThere hands from tenants =
      (t : ℕ) → from ≤ t → t < tenants → (x : X) × IsWith hands t x

  pub record AreGathered (hands : List (Told X)) (tenants : ℕ) (all : List X) : Type 0 where
    pub long : length all ≡ tenants
    pub at : (t : ℕ) (x : X) → slice_get all t ≡ Some x → IsWith hands t x

  -- one tenant was taken from its worker
  pub record IsTakenFrom (old : List (Told X)) (worker place : ℕ) (x : X) (new : List (Told X))
      : Type 0 where
    pub was : Told X
    pub is : Told X
    pub there : slice_get old worker ≡ Some was
    pub hands : new ≡ slice_set old worker is
    pub tenant : slice_get was.desks.items place ≡ Some (Some x)
    pub desks : is.desks.items ≡ slice_set was.desks.items place None
