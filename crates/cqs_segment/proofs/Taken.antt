-- Slots that were seen not free.
use Rattle.std.proofs.Common.{ℕ, List, [], ◌∷◌, ◌++◌, ⊎_elim, inl, inr}
use Rattle.cqs_segment.specs.Slots.{FoundTaken}

pub found-left : (x : ℕ) (l m : List (ℕ × ℕ)) → FoundTaken x l → FoundTaken x (l ++ m)
found-left x [] m h = absurd h
found-left x (y ∷ l) m h = ⊎_elim inl (λ q. inr (found-left x l m q)) h

pub found-right : (x : ℕ) (l m : List (ℕ × ℕ)) → FoundTaken x m → FoundTaken x (l ++ m)
found-right x [] m h = h
found-right x (y ∷ l) m h = inr (found-right x l m h)
