-- The order in which the resources of a plan stand.
use Rattle.std.specs.Prelude.{◌≡◌, ◌≢◌, ℕ, ◌<◌, ◌≤◌, ◌⊎◌, List, length, AllPairs}
use Rattle.std.specs.Ordering.{nat_cmp}
use Rattle.std.specs.declared.cmp.Ordering.TheVariants.{Less}
use Rattle.std.specs.Cmp.Lexicographic.{slice_cmp}
use Rattle.cqs_plan.specs.declared.plans.kind.Kind.{Kind}
use Rattle.cqs_plan.specs.declared.plans.kind.Kind.TheVariants.{Semaphore, Mutex, Pool, Latch, Rounds}
use Rattle.cqs_plan.specs.declared.plans.resource.Resource.{Resource}

-- the place of a kind among the kinds
abbrev pub rank : Kind → ℕ
rank (Semaphore permits) = 0
rank Mutex = 1
rank (Pool elements) = 2
rank (Latch count) = 3
rank (Rounds parties rounds) = 4

abbrev pub IsBelow : List ℕ → List ℕ → Type 0
IsBelow one other = slice_cmp nat_cmp one other ≡ Less

-- of an earlier kind, or of the same kind and below in byte order of the names
abbrev pub Precedes : Resource → Resource → Type 0
Precedes one other =
    (rank one.kind < rank other.kind)
    ⊎ ((rank one.kind ≡ rank other.kind) × IsBelow one.name other.name)

-- kind by kind, and within a kind in byte order of the names, which are all different
pub record AreInOrder (resources : List Resource) : Type 0 where
  pub order : AllPairs Precedes resources
  pub distinct : AllPairs (λ one other. one.name ≢ other.name) resources

-- at most 64
abbrev pub AreFew : List Resource → Type 0
AreFew resources = length resources ≤ 64

-- in byte order of the names, as resources of one kind stand
abbrev pub NamesAscend : List Resource → Type 0
NamesAscend resources = AllPairs (λ one other. IsBelow one.name other.name) resources
