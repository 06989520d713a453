-- A resource of any kind is one as a floor needs it.
use Rattle.std.proofs.Common.{◌≡◌, ℕ, ◌≤◌, ◌<◌, true, length}
use Rattle.cqs_plan.specs.Language.{can_hold}
use Rattle.cqs_plan.specs.LegalFloor.{IsHistory}
use Rattle.cqs_floor_shared.specs.Entries.{is_nothing, own_history}
use Rattle.cqs_floor_shared_any.specs.declared.kinds.any.AnyShared.{AnyShared}
use Rattle.cqs_floor_shared_any.specs.declared.kinds.any.AnyShared.TheVariants.{Permits, Pool, Latch, Rounds}
use Rattle.cqs_floor_shared_any.specs.AnyShares.{share_any}
use Rattle.cqs_floor_shared_any.specs.LatchShares.{share_latch}
use Rattle.cqs_floor_shared_kinds.specs.PermitShares.{share_permits}
use Rattle.cqs_floor_shared_kinds.specs.PoolShares.{share_pool}
use Rattle.cqs_floor_shared_any.specs.RoundsShares.{share_rounds}
use Rattle.cqs_floor_shared_kinds.specs.Shares.{Funds, IsLawful, with_brought, with_came}

pub any-lawful : IsLawful share_permits → IsLawful share_pool → IsLawful share_latch → IsLawful share_rounds
    → IsLawful share_any
any-lawful permits pool latch rounds =
    record { legal = legal; unnamed = unnamed; held = held; found = found }
  where
    legal : (x : AnyShared) (a : Funds) → share_any.funded x a → IsHistory a.kind (share_any.seen x)
    legal (Permits x) a funded = permits.legal x a funded
    legal (Pool x) a funded = pool.legal x a funded
    legal (Latch x) a funded = latch.legal x a funded
    legal (Rounds x) a funded = rounds.legal x a funded

    unnamed : (x : AnyShared) (a : Funds) → share_any.funded x a → (n : ℕ) → share_any.passes x ≤ n
        → is_nothing (own_history n (share_any.seen x)) ≡ true
    unnamed (Permits x) a funded n many = permits.unnamed x a funded n many
    unnamed (Pool x) a funded n many = pool.unnamed x a funded n many
    unnamed (Latch x) a funded n many = latch.unnamed x a funded n many
    unnamed (Rounds x) a funded n many = rounds.unnamed x a funded n many

    held : (x : AnyShared) (a : Funds) → share_any.funded x (with_came a) → can_hold a.kind ≡ true
    held (Permits x) a funded = permits.held x a funded
    held (Pool x) a funded = pool.held x a funded
    held (Latch x) a funded = latch.held x a funded
    held (Rounds x) a funded = rounds.held x a funded

    found : (x : AnyShared) (a : Funds) (job : ℕ) → share_any.funded x (with_came a) → job < length a.held
        → share_any.funded x (with_brought a job 0)
    found (Permits x) a job funded there = permits.found x a job funded there
    found (Pool x) a job funded there = pool.found x a job funded there
    found (Latch x) a job funded there = latch.found x a job funded there
    found (Rounds x) a job funded there = rounds.found x a job funded there
