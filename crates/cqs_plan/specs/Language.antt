-- The words of the plan language: its names, its kinds of resource and its verbs.
use Rattle.std.specs.Prelude.{ℕ, Bool, true, false, ◌&&◌, ◌||◌, ◌==◌, nat_le, List, [], ◌∷◌, length, codes, slice_index}
use Rattle.std.specs.List.{list_all}
use Rattle.std.specs.Char.{is_ascii_alphanumeric}
use Rattle.cqs_plan.specs.declared.plans.kind.Kind.{Kind}
use Rattle.cqs_plan.specs.declared.plans.kind.Kind.TheVariants.{Semaphore, Mutex, Pool, Latch, Rounds}
use Rattle.cqs_plan.specs.declared.plans.step.Step.{Step}
use Rattle.cqs_plan.specs.declared.plans.step.Step.TheVariants.{Take, Give, Down, Await, Arrive}

-- an ASCII letter, an ASCII digit, `_` or `-`
abbrev pub is_name_byte : ℕ → Bool
is_name_byte byte = (is_ascii_alphanumeric byte || (byte == 95)) || (byte == 45)

-- 1 to 32 such bytes
abbrev pub is_name : List ℕ → Bool
is_name text = (nat_le 1 (length text) && nat_le (length text) 32) && list_all is_name_byte text

-- an integer that a table holds: its key and its range
pub record Number : Type 0 where
  pub key : List ℕ
  pub least : ℕ
  pub most : ℕ

-- a kind of resource: its key in the root, the numbers of each of its resources, in
-- order, and what they make
pub record ResourceKind : Type 0 where
  pub key : List ℕ
  pub numbers : List Number
  pub kind : List ℕ → Kind

abbrev pub semaphores : ResourceKind
semaphores = record {
  key = codes "semaphore";
  numbers = record { key = codes "size"; least = 1; most = 1048576 } ∷ [];
  kind = λ numbers. Semaphore (slice_index numbers 0);
}

abbrev pub mutexes : ResourceKind
mutexes = record { key = codes "mutex"; numbers = []; kind = λ numbers. Mutex }

abbrev pub pools : ResourceKind
pools = record {
  key = codes "pool";
  numbers = record { key = codes "size"; least = 1; most = 4096 } ∷ [];
  kind = λ numbers. Pool (slice_index numbers 0);
}

abbrev pub latches : ResourceKind
latches = record {
  key = codes "latch";
  numbers = record { key = codes "count"; least = 1; most = 1048576 } ∷ [];
  kind = λ numbers. Latch (slice_index numbers 0);
}

abbrev pub barriers : ResourceKind
barriers = record {
  key = codes "barrier";
  numbers =
      record { key = codes "parties"; least = 1; most = 32 }
      ∷ record { key = codes "rounds"; least = 1; most = 64 }
      ∷ [];
  kind = λ numbers. Rounds (slice_index numbers 0) (slice_index numbers 1);
}

-- the kinds, in the order in which their resources stand
abbrev pub resource_kinds : List ResourceKind
resource_kinds = semaphores ∷ mutexes ∷ pools ∷ latches ∷ barriers ∷ []

-- a verb whose argument is a resource: its word, the kinds that it works
-- on, and its step at a place
pub record Verb : Type 0 where
  pub word : List ℕ
  pub works_on : Kind → Bool
  pub step : ℕ → Step

-- what can be taken and given
abbrev pub can_hold : Kind → Bool
can_hold (Semaphore permits) = true
can_hold Mutex = true
can_hold (Pool elements) = true
can_hold (Latch count) = false
can_hold (Rounds parties rounds) = false

-- what can be counted down, and waited at until it is open
abbrev pub is_latch : Kind → Bool
is_latch (Latch count) = true
is_latch (Semaphore permits) = false
is_latch Mutex = false
is_latch (Pool elements) = false
is_latch (Rounds parties rounds) = false

-- what can be arrived at
abbrev pub is_barrier : Kind → Bool
is_barrier (Rounds parties rounds) = true
is_barrier (Semaphore permits) = false
is_barrier Mutex = false
is_barrier (Pool elements) = false
is_barrier (Latch count) = false

abbrev pub take_verb : Verb
take_verb = record { word = codes "take"; works_on = can_hold; step = Take }

abbrev pub give_verb : Verb
give_verb = record { word = codes "give"; works_on = can_hold; step = Give }

abbrev pub down_verb : Verb
down_verb = record { word = codes "down"; works_on = is_latch; step = Down }

abbrev pub wait_verb : Verb
wait_verb = record { word = codes "wait"; works_on = is_latch; step = Await }

abbrev pub arrive_verb : Verb
arrive_verb = record { word = codes "arrive"; works_on = is_barrier; step = Arrive }

abbrev pub verbs : List Verb
verbs = take_verb ∷ give_verb ∷ down_verb ∷ wait_verb ∷ arrive_verb ∷ []
