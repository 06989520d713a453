-- What jobs hold of a semaphore, counted and without numbers, after one more and after one less.
use Rattle.std.proofs.Common.{◌≡◌, ℕ, zero, suc, ◌+◌, ◌<◌, List, [], ◌∷◌, ◌++◌, drop, length, set, refl, arith}
use Rattle.std.proofs.lemmas.List.{length_push}
use Rattle.std.proofs.lemmas.List.Sums.{sum_by-set}
use Rattle.cqs_floor_common.specs.HeldElements.{held_by}
use Rattle.cqs_floor_shared_kinds.specs.Shares.{Funds, with_less, with_more}
use Rattle.cqs_floor_shared_kinds.specs.PermitShares.{ArePermits, HoldPermits, total}

-- what the jobs hold, counted and without numbers, after one more and after one less
pub more-total : (a : Funds) (job e : ℕ) → job < length a.held → total (with_more a job e).held ≡ total a.held + 1
more-total a job e below =
    omega (
      arith,
      sum_by-set (λ (es : List ℕ). length es) a.held job (held_by a.held job ++ e ∷ []) [] below,
      length_push (held_by a.held job) e,
    )

pub there-of : (held : List (List ℕ)) (job : ℕ) → 0 < length (held_by held job) → job < length held
there-of [] job some = absurd (omega (arith, some))
there-of (es ∷ held) zero some = omega arith
there-of (es ∷ held) (suc job) some = omega (arith, there-of held job some)

one-less : (es : List ℕ) → 0 < length es → length (drop 1 es) + 1 ≡ length es
one-less [] some = absurd (omega (arith, some))
one-less (e ∷ es) some = omega arith

pub less-total : (a : Funds) (job : ℕ) → 0 < length (held_by a.held job)
    → total (with_less a job).held + 1 ≡ total a.held
less-total a job some =
    omega (
      arith,
      sum_by-set (λ (es : List ℕ). length es) a.held job (drop 1 (held_by a.held job)) [] (there-of a.held job some),
      one-less (held_by a.held job) some,
    )

permits-push : (es : List ℕ) → ArePermits es → ArePermits (es ++ 0 ∷ [])
permits-push [] all = (refl, tt)
permits-push (e ∷ es) all = (all.0, permits-push es all.1)

permits-drop : (es : List ℕ) → ArePermits es → ArePermits (drop 1 es)
permits-drop [] all = all
permits-drop (e ∷ es) all = all.1

permits-set : (held : List (List ℕ)) (job : ℕ) (es : List ℕ) → HoldPermits held → ArePermits es
    → HoldPermits (set held job es)
permits-set [] job es all new = all
permits-set (x ∷ held) zero es all new = (new, all.1)
permits-set (x ∷ held) (suc job) es all new = (all.0, permits-set held job es all.1 new)

pub permits-at : (held : List (List ℕ)) (job : ℕ) → HoldPermits held → ArePermits (held_by held job)
permits-at [] job all = tt
permits-at (es ∷ held) zero all = all.0
permits-at (es ∷ held) (suc job) all = permits-at held job all.1

pub permits-more : (a : Funds) (job : ℕ) → HoldPermits a.held → HoldPermits (with_more a job 0).held
permits-more a job all = permits-set a.held job _ all (permits-push (held_by a.held job) (permits-at a.held job all))

pub permits-less : (a : Funds) (job : ℕ) → HoldPermits a.held → HoldPermits (with_less a job).held
permits-less a job all = permits-set a.held job _ all (permits-drop (held_by a.held job) (permits-at a.held job all))
