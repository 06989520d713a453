-- A history without looks that found nothing new: the object after it is the same, and it is legal and breaks no
-- number as well.
use Rattle.std.proofs.Common.{◌≡◌, ℕ, false, List, slice_index_or, refl}
use Rattle.std.proofs.lemmas.List.Elements.{All-filter}
use Rattle.std.proofs.lemmas.Option.{slice_get-get_or}
use Rattle.cqs_core.specs.declared.entries.Entry.{Entry}
use Rattle.cqs_core.specs.declared.entries.Entry.TheVariants as entry
use Rattle.cqs_core.specs.SemaphoreEntries.{IsAllowed, IsLegal, after_entry, object_after}
use Rattle.cqs_core.specs.SemaphoreObject.{Semaphore, opening}
use Rattle.cqs_plan.specs.LegalFloor.{BreaksNone, IsOfSemaphore}
use Rattle.cqs_semaphore_client.specs.PlainHistories.{IsPlainHistory}
use Rattle.cqs_floor_alone_kinds.specs.SoleQueue.{is_news, news}
use Rattle.cqs_floor_alone_kinds.proofs.FreshHistories.{fresh-legal, fresh-object}
use Rattle.cqs_floor_alone_kinds.proofs.Unbroken.{breaks-none}

-- what an entry that is no news changes
no-news : (o : Semaphore) (e : Entry) → is_news e ≡ false → after_entry o e ≡ o
no-news o (entry.LookPending c k) old = refl
no-news o (entry.TakeNow c) old = absurd (cc)
no-news o (entry.TakeDoor c) old = absurd (cc)
no-news o (entry.Enter c k) old = absurd (cc)
no-news o (entry.TryGot c) old = absurd (cc)
no-news o (entry.TryBusy c) old = absurd (cc)
no-news o (entry.GiveFreed c) old = absurd (cc)
no-news o (entry.GiveSent c) old = absurd (cc)
no-news o (entry.Deliver k) old = absurd (cc)
no-news o (entry.Spoil c k) old = absurd (cc)
no-news o (entry.Undo c k) old = absurd (cc)
no-news o (entry.Leave c k) old = absurd (cc)
no-news o (entry.Late c k) old = absurd (cc)
no-news o (entry.LookGranted c k) old = absurd (cc)

pub news-object : (size : ℕ) (es : List Entry) → object_after size (news es) ≡ object_after size es
news-object size es = fresh-object IsAllowed after_entry is_news no-news (opening size) es

news-legal : (size : ℕ) (es : List Entry) → IsLegal size es → IsLegal size (news es)
news-legal size es legal = fresh-legal IsAllowed after_entry is_news no-news (opening size) es legal

pub news-plain : (size : ℕ) (es : List Entry) → IsPlainHistory size es → IsOfSemaphore size (news es)
news-plain size es plain = record {
  legal = news-legal size es plain.legal;
  unbroken = All-filter is_news BreaksNone es
      (λ n d below. breaks-none (slice_index_or es n d) (plain.unbroken.at n _ (slice_get-get_or es n d below)));
}
