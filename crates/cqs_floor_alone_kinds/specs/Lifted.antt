-- A semaphore with one caller as a resource of a floor: what the jobs hold of it are permits.
use Rattle.std.specs.Prelude.{◌≡◌, ℕ, List, [], ◌∷◌, length, sum_by, Option}
use Rattle.cqs_plan.specs.declared.plans.kind.Kind.{Kind}
use Rattle.cqs_plan.specs.FloorHistory.{of_permits}
use Rattle.cqs_floor_alone_kinds.specs.Soles.{IsOfPermits, Sole}
use Rattle.cqs_floor_alone_kinds.specs.Stores.{Store}

-- permits have the number 0
abbrev pub ArePermits : List ℕ → Type 0
ArePermits [] = Unit {0}
ArePermits (e ∷ es) = (e ≡ 0) × ArePermits es

abbrev pub HoldPermits : List (List ℕ) → Type 0
HoldPermits [] = Unit {0}
HoldPermits (es ∷ held) = ArePermits es × HoldPermits held

-- how many all jobs hold together
abbrev pub total : List (List ℕ) → ℕ
total held = sum_by (λ es. length es) held

module _ {X : Type 0} (s : Sole X) where
  -- it stands for a semaphore or a mutex, and its caller holds all that the jobs hold
  pub record IsFundedFor (x : X) (kind : Option Kind) (room waiting : ℕ) (held : List (List ℕ))
      : Type 0 where
    pub sort : IsOfPermits kind
    pub permits : HoldPermits held
    pub funded : s.funded x kind room waiting (total held)

  abbrev pub of_semaphore : Store X
  of_semaphore = record {
    history = λ x. of_permits (s.entries x);
    funded = IsFundedFor;
    has = λ x round wait. (round ≡ 0) × s.has x wait;
  }
