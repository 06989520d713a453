-- What stays of all other passes at a step of one.
use Rattle.std.proofs.Common.{◌≡◌, ◌≢◌, ℕ, slice_get}
use Rattle.cqs_rule_laws.specs.declared.view.Facts.{Facts}
use Rattle.cqs_rule_laws.specs.Hidden.{Hidden}
use Rattle.cqs_rule_laws.specs.Ruled.{Stands, IsWaitOf}

-- what stays of every other pass than p
pub record OthersStay (c d : Hidden) (p : ℕ) : Type 0 where
  pub doing : (n : ℕ) → n ≢ p → slice_get d.queue.doing n ≡ slice_get c.queue.doing n
  pub waits : (n k : ℕ) → n ≢ p → IsWaitOf d.queue n k → IsWaitOf c.queue n k
  pub stands : (n : ℕ) (facts : Facts) → n ≢ p → Stands c n facts → Stands d n facts
