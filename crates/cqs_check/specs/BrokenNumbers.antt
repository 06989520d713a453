-- The numbers that were broken, by number.
use Rattle.std.specs.Prelude.{◌≡◌, ◌≢◌, ◌==◌, ℕ, ◌<◌, List, [], ◌∷◌, Option, Some, None, if◌then◌else◌}
use Rattle.std.specs.Ordering.{nat_cmp}
use Rattle.std.specs.BTreeMap.{get}
use Rattle.cqs_core.specs.QueueLine.{Spoiled}
use Rattle.cqs_core.specs.SemaphoreObject.{early_of}
use Rattle.cqs_core.proofs.Distinct.{AreDistinct}
use Rattle.cqs_check.specs.declared.broken.Broken.{Broken}

-- whose a number is, where it was broken: nobody's where it wasn't drawn
abbrev pub owner_in : Broken → ℕ → Option (Option ℕ)
owner_in b k = get nat_cmp b.callers k

abbrev pub early_in : Broken → ℕ
early_in b = b.early

-- the same of a list
abbrev pub owner_of : ℕ → List Spoiled → Option (Option ℕ)
owner_of k [] = None
owner_of k (s ∷ spoiled) = if k == s.wait then Some s.pass else owner_of k spoiled

-- these numbers are broken, where those below `next` were drawn
pub record AreBroken (b : Broken) (next : ℕ) (spoiled : List Spoiled) : Type 0 where
  pub owners : (k : ℕ) → owner_in b k ≡ owner_of k spoiled
  pub apart : AreDistinct (λ (s : Spoiled). s.wait) spoiled
  pub early : early_in b ≡ early_of next spoiled
  pub drawn : (k c : ℕ) → owner_in b k ≡ Some (Some c) → k < next

pub record HasBroken (b : Broken) (next : ℕ) : Type 0 where
  pub spoiled : List Spoiled
  pub broken : AreBroken b next spoiled

-- this became of number k
pub record Sets (old : Broken) (k : ℕ) (owner : Option (Option ℕ)) (new : Broken) : Type 0 where
  pub here : owner_in new k ≡ owner
  pub others : (other : ℕ) → other ≢ k → owner_in new other ≡ owner_in old other
