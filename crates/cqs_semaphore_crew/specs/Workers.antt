-- What the pass of a worker is at when it is hired, and what passes of a crew have met.
use Rattle.std.specs.Prelude.{◌≡◌, ℕ, ◌+◌, ◌<◌, ◌≤◌, List, [], ◌∷◌, ◌++◌, All, length, Some, slice_get}
use Rattle.std.specs.List.{fold}
use Rattle.cqs_core.specs.declared.entries.Entry.{Entry}
use Rattle.cqs_core.specs.SemaphoreNames.{entry_names}
use Rattle.cqs_rule_laws.specs.declared.client.ClientWords.{Ghosts}
use Rattle.cqs_rule.specs.declared.queue.Pass.{Pass}
use Rattle.cqs_semaphore_client.specs.declared.semaphore.SemClient.{SemClient}
use Rattle.cqs_rule_laws.specs.declared.view.View.{View}
use Rattle.cqs_rule.specs.Passes.{pass_view, passes_of}
use Rattle.cqs_rule_laws.specs.Lists.{Has, part}
use Rattle.cqs_rule_laws.specs.Views.{made_in}
use Rattle.cqs_semaphore.specs.declared.semaphore.Semaphore.{Semaphore}
use Rattle.cqs_semaphore.specs.Callers.{IsAtRest}
use Rattle.cqs_semaphore.specs.Calls.{Course}
use Rattle.cqs_semaphore_crew.specs.declared.counts.Counts.{Counts}
use Rattle.cqs_semaphore_crew.specs.Sums.{both_counts, no_counts, CountsRounds}
use Rattle.cqs_semaphore_crew.specs.Tallies.{TellsBut, tally_of}

module _ {T : Type 0} {g : Ghosts (SemClient T) T Entry} where
  -- a pass for a worker: it holds nothing, and no other was met into it
  pub record IsHired (s : Semaphore T) (p : Pass (SemClient T) T Entry g) : Type 0 where
    pub rest : IsAtRest s 0 p
    pub one : length (pass_view p).own ≡ 1

  -- it has one number, and no entry names it yet
  pub record IsNew (p : Pass (SemClient T) T Entry g) : Type 0 where
    pub own : (pass_view p).own ≡ (pass_view p).number ∷ []
    pub unnamed : part entry_names (pass_view p).number (pass_view p).seen ≡ []

  -- it has one number, and the counts are those of all entries that name it
  pub record HasToldAll (p : Pass (SemClient T) T Entry g) (counts : Counts) : Type 0 where
    pub own : (pass_view p).own ≡ (pass_view p).number ∷ []
    pub tells : TellsBut 0 (tally_of (part entry_names (pass_view p).number (pass_view p).seen))
        counts

module _ {T : Type 0} where
  -- The pass has met so many others, whose numbers are its own now: it has seen all that they have
  -- seen, and made no entry itself.
  pub record HasMetAll (v : View Entry T) (many : ℕ) (w : View Entry T) : Type 0 where
    pub course : Course v [] w
    pub numbers : List ℕ
    pub own_is : w.own ≡ v.own ++ numbers
    pub many_are : length numbers ≡ many

  -- the pass has met one other: it has its numbers, and sees of each number what its pass had seen
  pub record HasTakenIn (v given w : View Entry T) : Type 0 where
    pub own_is : w.own ≡ v.own ++ given.own
    pub mine : (n : ℕ) → Has n v.own → part entry_names n w.seen ≡ part entry_names n v.seen
    pub theirs : (n : ℕ) → Has n given.own
        → part entry_names n w.seen ≡ part entry_names n given.seen

  -- The pass has met passes with these numbers. For each of them there are counts, which are of so
  -- many rounds, and those of all entries that name it; and these counts are the sum of them.
  pub record HasCounted (rounds : ℕ) (v w : View Entry T) (counts : Counts) : Type 0 where
    pub numbers : List ℕ
    pub own_is : w.own ≡ v.own ++ numbers
    pub each : List Counts
    pub many : length each ≡ length numbers
    pub tells : (i n : ℕ) (c : Counts) → slice_get numbers i ≡ Some n → slice_get each i ≡ Some c
        → TellsBut 0 (tally_of (part entry_names n w.seen)) c
    pub made : All (CountsRounds rounds) each
    pub sum : counts ≡ fold both_counts no_counts each

  -- the pass has made so many others
  abbrev pub HasMade : View Entry T → ℕ → View Entry T → Type 0
  HasMade v many w = length w.made ≡ length v.made + many

  -- The pass has looked on, and then as many passes were made as the semaphore allows. It has met
  -- some others since, fewer than so many: those that it had made before, which are all that it
  -- made.
  pub record IsCrowded (s : Semaphore T) (threads : ℕ) (v w : View Entry T) : Type 0 where
    pub between : View Entry T
    pub looked : HasMetAll v 0 between
    pub full : passes_of s.queue ≤ made_in between.crew
    pub many : ℕ
    pub few : many < threads
    pub back : HasMetAll between many w
    pub made : HasMade v many w
