-- What each kind of resource is on a floor is one as the floor needs it.
use Rattle.std.proofs.Common.{ℕ, ◌<◌, List, Option, Some, refl}
use Rattle.cqs_plan.specs.declared.plans.kind.Kind.{Kind}
use Rattle.cqs_plan.specs.LegalFloor.{IsHistory}
use Rattle.cqs_rule_laws.specs.declared.config.Place.{Place}
use Rattle.cqs_floor_alone_kinds.specs.declared.any_sole.AnySole.{AnySole}
use Rattle.cqs_floor_alone_kinds.specs.declared.any_sole.AnySole.TheVariants.{Permits, Pool, Latch, Rounds}
use Rattle.cqs_floor_alone_kinds.specs.AnySoles.{store_any}
use Rattle.cqs_floor_alone_kinds.specs.Lifted.{of_semaphore}
use Rattle.cqs_floor_alone_kinds.specs.SoleCore.{sole_core, store_core}
use Rattle.cqs_floor_alone_kinds.specs.SoleLatch.{store_latch}
use Rattle.cqs_floor_alone_kinds.specs.SolePool.{store_pool}
use Rattle.cqs_floor_alone_kinds.specs.SoleRounds.{store_rounds}
use Rattle.cqs_floor_alone_kinds.specs.SoleRunning.{sole_running, store_running}
use Rattle.cqs_floor_alone_kinds.specs.Soles.{Sole}
use Rattle.cqs_floor_alone_kinds.specs.Soles as permits
use Rattle.cqs_floor_alone_kinds.specs.Stores.{IsLawful, stands_in}
use Rattle.cqs_floor_alone_kinds.proofs.AmongStores.{IsAmong}
use Rattle.cqs_floor_alone_kinds.proofs.CoreSole as core
use Rattle.cqs_floor_alone_kinds.proofs.LatchSole.{latch-lawful}
use Rattle.cqs_floor_alone_kinds.proofs.Lifted.{lifted-lawful}
use Rattle.cqs_floor_alone_kinds.proofs.PoolSole.{pool-lawful}
use Rattle.cqs_floor_alone_kinds.proofs.RoundsLawful.{rounds-lawful}
use Rattle.cqs_floor_alone_kinds.proofs.RunningLemmas as running

module _ {S : Type 0} (s : Sole S) where
  pub permits-among : IsAmong (of_semaphore s) (store_any s) Permits
  permits-among = record {
    history = λ x. refl;
    funds = λ x kind room waiting held funded. funded;
    funded = λ x kind room waiting held funded. funded;
    had = λ x round w has. has;
    has = λ x round w has. has;
  }

  pub pool-among : IsAmong store_pool (store_any s) Pool
  pool-among = record {
    history = λ x. refl;
    funds = λ x kind room waiting held funded. funded;
    funded = λ x kind room waiting held funded. funded;
    had = λ x round w has. has;
    has = λ x round w has. has;
  }

  pub latch-among : IsAmong store_latch (store_any s) Latch
  latch-among = record {
    history = λ x. refl;
    funds = λ x kind room waiting held funded. funded;
    funded = λ x kind room waiting held funded. funded;
    had = λ x round w has. has;
    has = λ x round w has. has;
  }

  pub rounds-among : IsAmong store_rounds (store_any s) Rounds
  rounds-among = record {
    history = λ x. refl;
    funds = λ x kind room waiting held funded. funded;
    funded = λ x kind room waiting held funded. funded;
    had = λ x round w has. has;
    has = λ x round w has. has;
  }

  pub any-lawful : permits.IsLawful s → IsLawful (store_any s)
  any-lawful lawful = record { legal = legal; numbered = numbered }
    where
      legal : (x : AnySole S) (kind : Kind) (room waiting : ℕ) (held : List (List ℕ))
          → (store_any s).funded x (Some kind) room waiting held → IsHistory kind ((store_any s).history x)
      legal (Permits x) kind room waiting held funded =
          (lifted-lawful s lawful).legal x kind room waiting held funded
      legal (Pool x) kind room waiting held funded = pool-lawful.legal x kind room waiting held funded
      legal (Latch x) kind room waiting held funded = latch-lawful.legal x kind room waiting held funded
      legal (Rounds x) kind room waiting held funded = rounds-lawful.legal x kind room waiting held funded

      numbered : (x : AnySole S) (round : ℕ) (wait : Place) (kind : Option Kind) (room waiting : ℕ)
          (held : List (List ℕ)) → (store_any s).funded x kind room waiting held → (store_any s).has x round wait
          → wait.index < (stands_in (store_any s) kind x round).next
      numbered (Permits x) round wait kind room waiting held funded has =
          (lifted-lawful s lawful).numbered x round wait kind room waiting held funded has
      numbered (Pool x) round wait kind room waiting held funded has =
          pool-lawful.numbered x round wait kind room waiting held funded has
      numbered (Latch x) round wait kind room waiting held funded has =
          latch-lawful.numbered x round wait kind room waiting held funded has
      numbered (Rounds x) round wait kind room waiting held funded has =
          rounds-lawful.numbered x round wait kind room waiting held funded has

pub core-lawful : IsLawful store_core
core-lawful = any-lawful sole_core core.core-lawful

pub running-lawful : IsLawful store_running
running-lawful = any-lawful sole_running running.running-lawful
