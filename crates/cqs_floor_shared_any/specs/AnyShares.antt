-- A resource of any kind that workers share, as a floor sees it.
use Rattle.std.specs.Prelude.{ℕ, List}
use Rattle.cqs_plan.specs.FloorHistory.{History}
use Rattle.cqs_rule_laws.specs.declared.config.Place.{Place}
use Rattle.cqs_floor_shared_any.specs.declared.kinds.any.AnyShared.{AnyShared}
use Rattle.cqs_floor_shared_any.specs.declared.kinds.any.AnyShared.TheVariants.{Permits, Pool, Latch, Rounds}
use Rattle.cqs_floor_shared_any.specs.LatchShares.{share_latch}
use Rattle.cqs_floor_shared_kinds.specs.PermitShares.{share_permits}
use Rattle.cqs_floor_shared_kinds.specs.PoolShares.{share_pool}
use Rattle.cqs_floor_shared_any.specs.RoundsShares.{share_rounds}
use Rattle.cqs_floor_shared_kinds.specs.Shares.{Funds, Share}

abbrev pub seen_of : AnyShared → History
seen_of (Permits x) = share_permits.seen x
seen_of (Pool x) = share_pool.seen x
seen_of (Latch x) = share_latch.seen x
seen_of (Rounds x) = share_rounds.seen x

abbrev pub number_of : AnyShared → ℕ
number_of (Permits x) = share_permits.number x
number_of (Pool x) = share_pool.number x
number_of (Latch x) = share_latch.number x
number_of (Rounds x) = share_rounds.number x

abbrev pub met_of : AnyShared → List ℕ
met_of (Permits x) = share_permits.met x
met_of (Pool x) = share_pool.met x
met_of (Latch x) = share_latch.met x
met_of (Rounds x) = share_rounds.met x

abbrev pub passes_of : AnyShared → ℕ
passes_of (Permits x) = share_permits.passes x
passes_of (Pool x) = share_pool.passes x
passes_of (Latch x) = share_latch.passes x
passes_of (Rounds x) = share_rounds.passes x

abbrev pub limit_of : AnyShared → ℕ
limit_of (Permits x) = share_permits.limit x
limit_of (Pool x) = share_pool.limit x
limit_of (Latch x) = share_latch.limit x
limit_of (Rounds x) = share_rounds.limit x

abbrev pub parties_of : AnyShared → List ℕ
parties_of (Permits x) = share_permits.parties x
parties_of (Pool x) = share_pool.parties x
parties_of (Latch x) = share_latch.parties x
parties_of (Rounds x) = share_rounds.parties x

abbrev pub family_of : AnyShared → List (List ℕ)
family_of (Permits x) = share_permits.family x
family_of (Pool x) = share_pool.family x
family_of (Latch x) = share_latch.family x
family_of (Rounds x) = share_rounds.family x

abbrev pub IsFunded : AnyShared → Funds → Type 0
IsFunded (Permits x) a = share_permits.funded x a
IsFunded (Pool x) a = share_pool.funded x a
IsFunded (Latch x) a = share_latch.funded x a
IsFunded (Rounds x) a = share_rounds.funded x a

abbrev pub HasAny : AnyShared → ℕ → Place → Type 0
HasAny (Permits x) round wait = share_permits.has x round wait
HasAny (Pool x) round wait = share_pool.has x round wait
HasAny (Latch x) round wait = share_latch.has x round wait
HasAny (Rounds x) round wait = share_rounds.has x round wait

abbrev pub share_any : Share AnyShared
share_any = record {
  seen = seen_of;
  number = number_of;
  met = met_of;
  passes = passes_of;
  limit = limit_of;
  parties = parties_of;
  family = family_of;
  funded = IsFunded;
  has = HasAny;
}
