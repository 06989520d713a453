-- A resource whose pass has all numbers that there may be has the one live pass of each of its tables.
use Rattle.std.proofs.Common.{ℕ, ◌<◌, List, ◌∷◌, drop, sym, subst}
use Rattle.cqs_core.specs.Parts.{Has}
use Rattle.cqs_floor_shared_any.specs.AnyShares.{share_any}
use Rattle.cqs_floor_shared_any.specs.OnlyPasses.{IsOnlyPass}
use Rattle.cqs_floor_shared_any.specs.declared.kinds.any.AnyShared.{AnyShared}
use Rattle.cqs_floor_shared_any.specs.declared.kinds.any.AnyShared.TheVariants.{Permits, Pool, Latch, Rounds}
use Rattle.cqs_floor_shared_any.specs.RoundsOne.{numbers_of}
use Rattle.cqs_floor_shared_any.specs.RoundsShares.{crew_of}
use Rattle.cqs_floor_shared_kinds.specs.Shares.{Funds, own}

pub only-pass : (x : AnyShared) (a : Funds) → share_any.funded x a
    → ((n : ℕ) → n < share_any.passes x → Has n (own share_any x)) → IsOnlyPass a.kind x
only-pass (Permits x) a funded all =
    (funded.sort, funded.mine, λ n below. subst (Has n) (sym funded.rests.numbers) (all n below))
only-pass (Pool x) a funded all =
    (funded.sort, funded.mine, λ n below. subst (Has n) (sym funded.rests.numbers) (all n below))
only-pass (Latch x) a funded all =
    (funded.sort, funded.mine, λ n below. subst (Has n) (sym funded.rests.numbers) (all n below))
only-pass (Rounds x) a funded all = (
  funded.sort,
  record {
    at = λ round r got.
        let its = funded.each.at round r got in
        (its.mine, λ n below. subst (Has n) (sym its.own) (all n (subst (λ m. n < m) its.passes below)));
  },
)
