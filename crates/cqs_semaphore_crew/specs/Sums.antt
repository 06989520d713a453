-- Counts that are added up, and how many calls they are of.
use Rattle.std.specs.Prelude.{◌≡◌, ℕ, ◌+◌, ◌^◌, ◌<◌}
use Rattle.cqs_semaphore_crew.specs.declared.counts.Acquires.{Acquires}
use Rattle.cqs_semaphore_crew.specs.declared.counts.Cancels.{Cancels}
use Rattle.cqs_semaphore_crew.specs.declared.counts.Counts.{Counts}
use Rattle.cqs_semaphore_crew.specs.declared.counts.Polls.{Polls}
use Rattle.cqs_semaphore_crew.specs.declared.counts.Releases.{Releases}
use Rattle.cqs_semaphore_crew.specs.declared.counts.Tries.{Tries}
use Rattle.cqs_semaphore_crew.specs.Tallies.{count_of}

-- how often an answer came in both
abbrev pub both : ℕ → ℕ → ℕ
both m n = count_of (m + n)

-- what two workers counted, taken together
abbrev pub both_acquires : Acquires → Acquires → Acquires
both_acquires a b = record {
  free = both a.free b.free;
  took = both a.took b.took;
  waited = both a.waited b.waited;
  worn = both a.worn b.worn;
  crowded = both a.crowded b.crowded;
}

abbrev pub both_tries : Tries → Tries → Tries
both_tries a b = record {
  got = both a.got b.got;
  busy = both a.busy b.busy;
  contended = both a.contended b.contended;
}

abbrev pub both_releases : Releases → Releases → Releases
both_releases a b = record {
  freed = both a.freed b.freed;
  sent = both a.sent b.sent;
  left = both a.left b.left;
  void = both a.void b.void;
  under = both a.under b.under;
}

abbrev pub both_polls : Polls → Polls → Polls
both_polls a b = record {
  granted = both a.granted b.granted;
  pending = both a.pending b.pending;
}

abbrev pub both_cancels : Cancels → Cancels → Cancels
both_cancels a b = record {
  cancelled = both a.cancelled b.cancelled;
  owing = both a.owing b.owing;
  too_late = both a.too_late b.too_late;
}

abbrev pub both_counts : Counts → Counts → Counts
both_counts a b = record {
  acquires = both_acquires a.acquires b.acquires;
  tries = both_tries a.tries b.tries;
  releases = both_releases a.releases b.releases;
  polls = both_polls a.polls b.polls;
  cancels = both_cancels a.cancels b.cancels;
}

-- of nobody
abbrev pub no_counts : Counts
no_counts = record {
  acquires = record { free = 0; took = 0; waited = 0; worn = 0; crowded = 0 };
  tries = record { got = 0; busy = 0; contended = 0 };
  releases = record { freed = 0; sent = 0; left = 0; void = 0; under = 0 };
  polls = record { granted = 0; pending = 0 };
  cancels = record { cancelled = 0; owing = 0; too_late = 0 };
}

-- how many acquires these are
abbrev pub acquires_of : Acquires → ℕ
acquires_of a = a.free + a.took + a.waited + a.worn + a.crowded

-- how many tries
abbrev pub tries_of : Tries → ℕ
tries_of t = t.got + t.busy + t.contended

-- the counts of acquires and of tries are as they were
pub record KeepsCalls (before after : Counts) : Type 0 where
  pub acquires : after.acquires ≡ before.acquires
  pub tries : after.tries ≡ before.tries

-- so many acquires and so many tries more were counted, where so many go into a count
pub record CountsCalls (acquires tries : ℕ) (before after : Counts) : Type 0 where
  pub acquires_are : acquires_of before.acquires + acquires < 2 ^ 64
      → acquires_of after.acquires ≡ acquires_of before.acquires + acquires
  pub tries_are : tries_of before.tries + tries < 2 ^ 64
      → tries_of after.tries ≡ tries_of before.tries + tries

-- so many rounds were counted, each with an acquire and a try
pub record CountsRounds (rounds : ℕ) (counts : Counts) : Type 0 where
  pub acquires : acquires_of counts.acquires ≡ rounds
  pub tries : tries_of counts.tries ≡ rounds
