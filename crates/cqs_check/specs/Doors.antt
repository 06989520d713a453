-- How often each caller stands at the door.
use Rattle.std.specs.Prelude.{◌≡◌, ◌≢◌, ◌==◌, ℕ, suc, ◌+◌, List, [], ◌∷◌, length, unwrap_or, if◌then◌else◌}
use Rattle.std.specs.Ordering.{nat_cmp}
use Rattle.std.specs.BTreeMap.{get}
use Rattle.cqs_check.specs.declared.door.Door.{Door}

abbrev pub many_of : Door → ℕ → ℕ
many_of d caller = unwrap_or (get nat_cmp d.callers caller) 0

abbrev pub total_of : Door → ℕ
total_of d = d.total

-- how often c is in a list
abbrev pub times : ℕ → List ℕ → ℕ
times c [] = 0
times c (x ∷ xs) = if c == x then suc (times c xs) else times c xs

-- these callers stand at the door
pub record IsDoor (d : Door) (callers : List ℕ) : Type 0 where
  pub many : (c : ℕ) → many_of d c ≡ times c callers
  pub total : total_of d ≡ length callers

pub record HasDoor (d : Door) : Type 0 where
  pub callers : List ℕ
  pub door : IsDoor d callers

-- the caller came, or went
pub record Comes (old : Door) (caller : ℕ) (new : Door) : Type 0 where
  pub here : many_of new caller ≡ many_of old caller + 1
  pub others : (other : ℕ) → other ≢ caller → many_of new other ≡ many_of old other
  pub total : total_of new ≡ total_of old + 1

pub record Goes (old : Door) (caller : ℕ) (new : Door) : Type 0 where
  pub here : many_of old caller ≡ many_of new caller + 1
  pub others : (other : ℕ) → other ≢ caller → many_of new other ≡ many_of old other
  pub total : total_of old ≡ total_of new + 1
