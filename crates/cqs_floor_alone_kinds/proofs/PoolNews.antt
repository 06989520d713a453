-- A history of a pool without looks that found nothing new: the object after it is the same, and it is legal as well.
use Rattle.std.proofs.Common.{◌≡◌, ℕ, false, List, refl}
use Rattle.cqs_pool_object.specs.declared.entries.PoolEntry.{PoolEntry}
use Rattle.cqs_pool_object.specs.declared.entries.PoolEntry.TheVariants as entry
use Rattle.cqs_pool_object.specs.PoolEntries.{IsAllowed, IsLegal, after_entry, object_after}
use Rattle.cqs_pool_object.specs.PoolObject.{Pool, opening}
use Rattle.cqs_floor_alone_kinds.specs.SolePool.{is_news, news}
use Rattle.cqs_floor_alone_kinds.proofs.FreshHistories.{fresh-legal, fresh-object}

-- what an entry that is no news changes
no-news : (o : Pool) (e : PoolEntry) → is_news e ≡ false → after_entry o e ≡ o
no-news o (entry.LookPending c k) old = refl
no-news o (entry.Put c e) old = absurd (cc)
no-news o (entry.Enter c k) old = absurd (cc)
no-news o (entry.Deliver k e) old = absurd (cc)
no-news o (entry.Leave c k) old = absurd (cc)
no-news o (entry.Late c k e) old = absurd (cc)
no-news o (entry.LookGranted c k e) old = absurd (cc)

pub news-object : (size : ℕ) (es : List PoolEntry) → object_after size (news es) ≡ object_after size es
news-object size es = fresh-object IsAllowed after_entry is_news no-news (opening size) es

pub news-legal : (size : ℕ) (es : List PoolEntry) → IsLegal size es → IsLegal size (news es)
news-legal size es legal = fresh-legal IsAllowed after_entry is_news no-news (opening size) es legal
