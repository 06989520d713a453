-- A kind is told by its numbers.
use Rattle.std.proofs.Common.{◌≡◌, ℕ, zero, suc, List, [], ◌∷◌, map, refl, ap, sym, ◌∙◌}
use Rattle.cqs_plan.specs.declared.plans.kind.Kind.{Kind}
use Rattle.cqs_plan.specs.declared.plans.kind.Kind.TheVariants as kind
use Rattle.cqs_floor_shared_queue.specs.Ledgers.{kind_numbers}

-- a kind is told by its numbers
kind_of : List ℕ → Kind
kind_of (zero ∷ n ∷ rest) = kind.Semaphore n
kind_of (suc zero ∷ rest) = kind.Mutex
kind_of (suc (suc zero) ∷ n ∷ rest) = kind.Pool n
kind_of (suc (suc (suc zero)) ∷ n ∷ rest) = kind.Latch n
kind_of (suc (suc (suc (suc m))) ∷ parties ∷ rounds ∷ rest) = kind.Rounds parties rounds
kind_of other = kind.Mutex

kind-told : (k : Kind) → kind_of (kind_numbers k) ≡ k
unfolding kind_of
kind-told (kind.Semaphore permits) = refl
kind-told kind.Mutex = refl
kind-told (kind.Pool elements) = refl
kind-told (kind.Latch count) = refl
kind-told (kind.Rounds parties rounds) = refl

kinds-told : (ks : List Kind) → map kind_of (map kind_numbers ks) ≡ ks
kinds-told [] = refl
kinds-told (k ∷ ks) = (λ i. kind-told k i ∷ kinds-told ks i)

pub same-kinds : (ks js : List Kind) → map kind_numbers ks ≡ map kind_numbers js → ks ≡ js
same-kinds ks js same = sym (kinds-told ks) ∙ ap (map kind_of) same ∙ kinds-told js
