-- All floors have met in one.
use Rattle.std.specs.Prelude.{◌≡◌, ◌≢◌, ◌⊎◌, ℕ, ◌<◌, List, [], ◌∷◌, map, AllPairs}
use Rattle.cqs_core.specs.Numbered.{EachAt}
use Rattle.cqs_core.specs.Parts.{Has}
use Rattle.cqs_floor_shared.specs.Entries.{own_history, IsBefore}
use Rattle.cqs_floor_shared.specs.Shared.{Shared, IsLegalAt, seen_at}
use Rattle.cqs_floor_shared.specs.Calls.{HaveAllMet, IsAtRest}
use Rattle.cqs_work.specs.Later.{IsSound, IsUnnamed}

abbrev pub shared_of : {F : Type 0} → (F → Shared) → List F → List Shared
shared_of shared floors = map shared floors

-- These floors are of one family, no two have the same number, none has met another, and none has a
-- job that waits or holds anything. All that the first has seen is sound.
pub record CanMeet (first : Shared) (given : List Shared) : Type 0 where
  pub family : EachAt (λ i f. f.family ≡ first.family) given
  pub alone : EachAt (λ i f. f.met ≡ []) given
  pub rest : EachAt (λ i f. IsAtRest f.board) given
  pub first_alone : first.met ≡ []
  pub first_rest : IsAtRest first.board
  pub first_number : first.number < first.floors
  pub apart : AllPairs (λ f g. f.number ≢ g.number) (first ∷ given)
  pub sound : IsSound first

abbrev pub CanMeetAll : List Shared → Type 0
CanMeetAll [] = ⊥
CanMeetAll (first ∷ given) = CanMeet first given

-- what the floor has seen is how all that is seen now begins, and what names its pass is the same
pub record IsKeptIn (g f : Shared) : Type 0 where
  pub before : (at : ℕ) → IsBefore (seen_at f at) (seen_at g at)
  pub mine : (at : ℕ)
      → own_history f.number (seen_at g at) ≡ own_history f.number (seen_at f at)

pub record HaveMet (first : Shared) (given : List Shared) (g : Shared) : Type 0 where
  pub first_kept : IsKeptIn g first
  pub kept : EachAt (λ i f. IsKeptIn g f) given
  pub number : g.number ≡ first.number
  pub met : g.met ≡ map (λ f. f.number) given
  pub floors : g.floors ≡ first.floors
  pub kinds : g.board.kinds ≡ first.board.kinds
  pub rest : IsAtRest g.board
  pub legal : (at : ℕ) → IsLegalAt g.board at (seen_at g at)
  pub named : HaveAllMet g → (at n : ℕ)
      → IsUnnamed n (seen_at g at) ⊎ Has n (g.number ∷ g.met)

abbrev pub HaveMetAll : List Shared → Shared → Type 0
HaveMetAll [] g = ⊥
HaveMetAll (first ∷ given) g = HaveMet first given g
