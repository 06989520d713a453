-- What a worker's counts say of the entries that its pass made.
use Rattle.std.specs.Prelude.{◌≡◌, ◌⊎◌, ℕ, ◌+◌, ◌-◌, ◌^◌, min, List, [], ◌∷◌, ◌++◌, All, Option, Some, None}
use Rattle.std.specs.List.{fold}
use Rattle.cqs_core.specs.declared.entries.Entry.{Entry}
use Rattle.cqs_core.specs.declared.entries.Entry.TheVariants as entry
use Rattle.cqs_core.specs.SemaphoreNames.{entry_names}
use Rattle.cqs_rule_laws.specs.declared.view.View.{View}
use Rattle.cqs_rule_laws.specs.Lists.{part}
use Rattle.cqs_rule_laws.specs.Views.{IsSame}
use Rattle.cqs_rule.specs.Waits.{place_of}
use Rattle.cqs_semaphore.specs.declared.answers.Permit.{Permit}
use Rattle.cqs_semaphore.specs.declared.answers.Polled.{Polled}
use Rattle.cqs_semaphore.specs.declared.answers.Polled.TheVariants.{Granted, Pending}
use Rattle.cqs_semaphore.specs.Calls.{Course}
use Rattle.cqs_semaphore_crew.specs.declared.counts.Acquires.{Acquires}
use Rattle.cqs_semaphore_crew.specs.declared.counts.Cancels.{Cancels}
use Rattle.cqs_semaphore_crew.specs.declared.counts.Counts.{Counts}
use Rattle.cqs_semaphore_crew.specs.declared.counts.Polls.{Polls}
use Rattle.cqs_semaphore_crew.specs.declared.counts.Releases.{Releases}
use Rattle.cqs_semaphore_crew.specs.declared.counts.Tries.{Tries}

-- how many entries of each kind there are
pub record Tally : Type 0 where
  pub free : ℕ
  pub entered : ℕ
  pub got : ℕ
  pub busy : ℕ
  pub freed : ℕ
  pub sent : ℕ
  pub granted : ℕ
  pub pending : ℕ
  pub gone : ℕ
  pub late : ℕ

abbrev pub nothing_yet : Tally
nothing_yet = record {
  free = 0;
  entered = 0;
  got = 0;
  busy = 0;
  freed = 0;
  sent = 0;
  granted = 0;
  pending = 0;
  gone = 0;
  late = 0;
}

abbrev pub with_entry : Tally → Entry → Tally
with_entry t (entry.TakeNow c) = record t { free = t.free + 1 }
with_entry t (entry.TakeDoor c) = t
with_entry t (entry.Enter c k) = record t { entered = t.entered + 1 }
with_entry t (entry.TryGot c) = record t { got = t.got + 1 }
with_entry t (entry.TryBusy c) = record t { busy = t.busy + 1 }
with_entry t (entry.GiveFreed c) = record t { freed = t.freed + 1 }
with_entry t (entry.GiveSent c) = record t { sent = t.sent + 1 }
with_entry t (entry.Deliver k) = t
with_entry t (entry.Spoil c k) = t
with_entry t (entry.Undo c k) = t
with_entry t (entry.Leave c k) = record t { gone = t.gone + 1 }
with_entry t (entry.Late c k) = record t { late = t.late + 1 }
with_entry t (entry.LookGranted c k) = record t { granted = t.granted + 1 }
with_entry t (entry.LookPending c k) = record t { pending = t.pending + 1 }

abbrev pub tally_of : List Entry → Tally
tally_of entries = fold with_entry nothing_yet entries

-- a count that is full stays so
abbrev pub count_of : ℕ → ℕ
count_of n = min n (2 ^ 64 - 1)

-- a permit that came at once was counted: one that was free, or one that came by a number
abbrev pub CountsNow : Option ℕ → Acquires → Acquires → Type 0
CountsNow None before after = after ≡ record before { free = count_of (before.free + 1) }
CountsNow (Some k) before after = after ≡ record before { took = count_of (before.took + 1) }

-- The answers to `acquire`: each number that was drawn was one of a wait, or its permit was there.
pub record TellsAcquires (free entered : ℕ) (a : Acquires) : Type 0 where
  pub free_is : a.free ≡ count_of free
  pub took : ℕ
  pub waited : ℕ
  pub entered_is : took + waited ≡ entered
  pub took_is : a.took ≡ count_of took
  pub waited_is : a.waited ≡ count_of waited

pub record TellsTries (got busy : ℕ) (a : Tries) : Type 0 where
  pub got_is : a.got ≡ count_of got
  pub busy_is : a.busy ≡ count_of busy

pub record TellsPolls (granted pending : ℕ) (a : Polls) : Type 0 where
  pub granted_is : a.granted ≡ count_of granted
  pub pending_is : a.pending ≡ count_of pending

-- The answers to `release`, `finish` and `cancel`: each wait that was given up was cancelled, with
-- something owed or nothing. Each permit that was sent, and each that a cancel owed, arrived
-- somewhere, but for so many.
pub record TellsEnds (due freed sent gone late : ℕ) (r : Releases) (a : Cancels) : Type 0 where
  pub freed_is : r.freed ≡ count_of freed
  pub served : ℕ
  pub left : ℕ
  pub void : ℕ
  pub cancelled : ℕ
  pub owing : ℕ
  pub arrived : served + left + void + due ≡ sent + owing
  pub gone_is : cancelled + owing ≡ gone
  pub served_is : r.sent ≡ count_of served
  pub left_is : r.left ≡ count_of left
  pub void_is : r.void ≡ count_of void
  pub cancelled_is : a.cancelled ≡ count_of cancelled
  pub owing_is : a.owing ≡ count_of owing
  pub late_is : a.too_late ≡ count_of late

-- the counts are those of entries with this tally
pub record TellsBut (due : ℕ) (t : Tally) (c : Counts) : Type 0 where
  pub acquires : TellsAcquires t.free t.entered c.acquires
  pub tries : TellsTries t.got t.busy c.tries
  pub polls : TellsPolls t.granted t.pending c.polls
  pub ends : TellsEnds due t.freed t.sent t.gone t.late c.releases c.cancels

-- The pass p gave its wait k up: it came too late, where it has its permit, or it left the line.
abbrev pub given_up : ℕ → ℕ → Option Permit → Entry
given_up p k (Some permit) = entry.Late p k
given_up p k None = entry.Leave p k

-- with this entry the wait k of the pass p ended, which has its permit or none
abbrev pub EndsWait : ℕ → ℕ → Option Permit → Entry → Type 0
EndsWait p k (Some permit) last = (last ≡ entry.LookGranted p k) ⊎ (last ≡ entry.Late p k)
EndsWait p k None last = last ≡ entry.Leave p k

module _ {T : Type 0} where
  -- the pass looked some times at its wait k, which went on each time, and then made these entries
  pub record LooksThen (k : ℕ) (last : List Entry) (v w : View Entry T) : Type 0 where
    pub looks : List Entry
    pub pending : All (λ e. e ≡ entry.LookPending v.number k) looks
    pub course : Course v (looks ++ last) w

  -- a look found its permit at last, or the wait still goes on
  abbrev pub LooksUntil : ℕ → View Entry T → Polled → View Entry T → Type 0
  LooksUntil k v (Granted permit) w = LooksThen k (entry.LookGranted v.number k ∷ []) v w
  LooksUntil k v (Pending wait) w = LooksThen k [] v w × ((place_of wait).index ≡ k)

  -- after some looks the wait ended: with its permit, or it was given up
  abbrev pub WaitsUntil : ℕ → View Entry T → Option Permit → View Entry T → Type 0
  WaitsUntil k v answer w =
      (last : Entry) × EndsWait v.number k answer last × LooksThen k (last ∷ []) v w

  -- The pass made these entries, which all name it, and no step of the crew. The counts were of
  -- what it had made before, and are of that and these now. Of the permits that were sent so many
  -- hadn't arrived before, and so many haven't now.
  pub record Adds (due_before due : ℕ) (v : View Entry T) (before : Counts) (w : View Entry T)
      (after : Counts)
      : Type 0 where
    pub own : List Entry
    pub course : Course v own w
    pub named : part entry_names v.number own ≡ own
    pub same : IsSame v w
    pub tells : (earlier : List Entry) → TellsBut due_before (tally_of earlier) before
        → TellsBut due (tally_of (earlier ++ own)) after

  -- the pass made entries since, and no step of the crew, and the counts are just of the entries
  pub record HasWorked (v w : View Entry T) (counts : Counts) : Type 0 where
    pub own : List Entry
    pub course : Course v own w
    pub named : part entry_names v.number own ≡ own
    pub same : IsSame v w
    pub tells : TellsBut 0 (tally_of own) counts
