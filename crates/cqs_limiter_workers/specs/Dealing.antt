-- How tenants are dealt to workers.
use Rattle.std.specs.Prelude.{◌≡◌, ◌≢◌, ◌⊎◌, ℕ, ◌<◌, ◌≤◌, ◌%◌, List, Some, None, length, replicate, slice_get, slice_set}
use Rattle.cqs_limiter_workers.specs.declared.works.Post.{Post}

module _ {X : Type 0} where
  -- a worker's post, when the tenants from this place on are dealt
  pub record IsPost (workers : ℕ) (tenants : List X) (from w : ℕ) (post : Post X) : Type 0 where
    pub worker : post.worker ≡ w
    pub long : length post.desks.items ≡ length tenants
    pub own : (t : ℕ) (x : X) → from ≤ t → t % workers ≡ w → slice_get tenants t ≡ Some x
        → slice_get post.desks.items t ≡ Some (Some x)
    pub none : (t : ℕ) → t < length tenants → (t < from) ⊎ (t % workers ≢ w)
        → slice_get post.desks.items t ≡ Some None

  pub record AreDealt (workers : ℕ) (tenants : List X) (from : ℕ) (posts : List (Post X))
      : Type 0 where
    pub many : length posts ≡ workers
    pub at : (w : ℕ) (post : Post X) → slice_get posts w ≡ Some post
        → IsPost workers tenants from w post

  -- the worker has no tenant
  pub record IsEmpty (tenants w : ℕ) (post : Post X) : Type 0 where
    pub worker : post.worker ≡ w
    pub none : post.desks.items ≡ replicate tenants None

  pub record AreEmpty (workers tenants : ℕ) (posts : List (Post X)) : Type 0 where
    pub many : length posts ≡ workers
    pub at : (w : ℕ) (post : Post X) → slice_get posts w ≡ Some post → IsEmpty tenants w post

  -- one tenant came to its place at a worker
  pub record IsSeatedIn (old : List (Post X)) (worker place : ℕ) (x : X) (new : List (Post X))
      : Type 0 where
    pub was : Post X
    pub is : Post X
    pub there : slice_get old worker ≡ Some was
    pub posts : new ≡ slice_set old worker is
    pub worker_is : is.worker ≡ was.worker
    pub desks : is.desks.items ≡ slice_set was.desks.items place (Some x)
