-- The resources of a ledger, and what each is kept as.
use Rattle.std.proofs.Common.{◌≡◌, ℕ, zero, suc, ◌<◌, List, [], ◌∷◌, Option, Some, None, length, map, get_or, slice_get, refl, ap, arith}
use Rattle.std.specs.Option.{option_map}
use Rattle.std.proofs.lemmas.List.{length-map}
use Rattle.cqs_core.proofs.Places.{get-below, get-there}
use Rattle.cqs_plan.specs.Floor.{IsJob, size_of, standing_at, stands_in as stands_at, to_come_at}
use Rattle.cqs_plan.specs.FloorHistory.{of_permits, standing_in, to_come}
use Rattle.cqs_turns_report.proofs.KindsThere.{IsThere}
use Rattle.cqs_floor_alone_kinds.specs.declared.waits.Wait.{Wait}
use Rattle.cqs_floor_alone.specs.Kept.{IsKept, IsFundedAt}
use Rattle.cqs_floor_alone.specs.Ledger.{Ledger, job_wait, plain_floor}
use Rattle.cqs_floor_alone_kinds.specs.Stores.{Store, comes_in, stands, stands_in}

module _ {X : Type 0} (s : Store X) where
  -- what a resource is kept as, with its funds
  pub record Funds (l : Ledger X) (at : ℕ) : Type 0 where
    pub sole : X
    pub there : slice_get l.soles at ≡ Some sole
    pub funded : IsFundedAt s l at sole

  pub funds-at : (l : Ledger X) (at : ℕ) → IsKept s l → IsThere (slice_get l.kinds at) → Funds l at
  funds-at l at kept is =
      let below : at < length l.soles = omega (arith, get-below l.kinds at is.0 is.1, kept.soles) in
      let there = get-there l.soles at below in
      record { sole = there.0; there = there.1; funded = kept.funded.at at there.0 there.1 }

  pub history-there : (soles : List X) (at : ℕ) (sole : X) → slice_get soles at ≡ Some sole
      → get_or (map s.history soles) at (of_permits []) ≡ s.history sole
  history-there [] at sole there = absurd (cc)
  history-there (x ∷ soles) zero sole there = let same : x ≡ sole = cc in ap s.history same
  history-there (x ∷ soles) (suc at) sole there = history-there soles at sole there

  -- a resource stands as what it is kept as does
  pub stands-there : (l : Ledger X) (at : ℕ) (sole : X) (round : ℕ) → slice_get l.soles at ≡ Some sole
      → stands_at (plain_floor s l) at round ≡ stands_in s (slice_get l.kinds at) sole round
  stands-there l at sole round there =
      ap (λ h. standing_in (size_of (slice_get l.kinds at)) h round) (history-there l.soles at sole there)

  pub standing-there : (l : Ledger X) (at : ℕ) (sole : X) → slice_get l.soles at ≡ Some sole
      → standing_at (plain_floor s l) at ≡ stands s (slice_get l.kinds at) sole
  standing-there l at sole there = stands-there l at sole 0 there

  -- and as much is still to come there
  pub comes-there : (l : Ledger X) (at : ℕ) (sole : X) (round : ℕ) → slice_get l.soles at ≡ Some sole
      → to_come_at (plain_floor s l) at round ≡ comes_in s (slice_get l.kinds at) sole round
  comes-there l at sole round there =
      ap (λ h. to_come (size_of (slice_get l.kinds at)) h round) (history-there l.soles at sole there)

  -- the place of a resource
  pub place-room : (l : Ledger X) (at : ℕ) → IsKept s l → IsThere (slice_get l.kinds at) → at < length l.room
  place-room l at kept is =
      omega (arith, get-below l.kinds at is.0 is.1, kept.rooms)

  -- a job is one of the ledger's, and waits there as it does on the plain floor
  pub job-there : (l : Ledger X) (job : ℕ) → IsJob (plain_floor s l) job → job < length l.waits
  job-there l job is = omega (arith, is.waits, length-map l.waits (option_map job_wait))

  pub idle-there : (waits : List (Option Wait)) (job : ℕ)
      → get_or (map (option_map job_wait) waits) job None ≡ None
      → get_or waits job None ≡ None
  idle-there [] job idle = refl
  idle-there (None ∷ waits) zero idle = refl
  idle-there (Some wait ∷ waits) zero idle = absurd (cc)
  idle-there (wait ∷ waits) (suc job) idle = idle-there waits job idle

  -- the wait of a job, in the ledger and on the plain floor
  pub record Waiting (waits : List (Option Wait)) (job : ℕ) (wait : Wait) : Type 0 where
    pub stands : slice_get waits job ≡ Some (Some wait)
    pub plain : get_or (map (option_map job_wait) waits) job None ≡ Some (job_wait wait)

  pub wait-there : (waits : List (Option Wait)) (job : ℕ) (wait : Wait) → get_or waits job None ≡ Some wait
      → Waiting waits job wait
  wait-there [] job wait is = absurd (cc)
  wait-there (w ∷ waits) zero wait is = record { stands = ap Some is; plain = ap (option_map job_wait) is }
  wait-there (w ∷ waits) (suc job) wait is =
      let there = wait-there waits job wait is in
      record { stands = there.stands; plain = there.plain }
