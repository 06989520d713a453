-- What each call of a synchronous semaphore answers, and why.
use Rattle.std.specs.Prelude.{◌≡◌, ◌≢◌, ◌⊎◌, ℕ, ◌+◌, ◌-◌, ◌≤◌, true, List, [], ◌∷◌, ◌++◌, length, Option, Some}
use Rattle.cqs_core.specs.declared.cells.CoreState.TheVariants as state
use Rattle.cqs_core.specs.declared.entries.Entry.{Entry}
use Rattle.cqs_core.specs.declared.entries.Entry.TheVariants as entry
use Rattle.cqs_core.specs.Numbered.{IsIn}
use Rattle.cqs_rule_laws.specs.declared.view.View.{View}
use Rattle.cqs_rule_laws.specs.Lists.{without}
use Rattle.cqs_rule.specs.Owed.{HasUnder, under_ticket}
use Rattle.cqs_rule.specs.Waits.{place_of, HasWait}
use Rattle.cqs_resume.specs.Watching.{HeldOut}
use Rattle.cqs_semaphore_client.specs.SemaphoreMade.{primitive_of}
use Rattle.cqs_semaphore.specs.Answers.{HandsBack, LeftLine, Takes, WasNone, WasRefused, WasUnwanted, WasWanted}
use Rattle.cqs_semaphore.specs.Calls.{CallRule, Rests}
use Rattle.cqs_semaphore.specs.Causes.{CellWas, CellWasOnce}
use Rattle.cqs_semaphore.specs.Permits.{number_of}
use Rattle.cqs_sync_semaphore.specs.Owed.{number_under, token_of}
use Rattle.cqs_sync_semaphore.specs.declared.answers.SyncAcquired.{SyncAcquired}
use Rattle.cqs_sync_semaphore.specs.declared.answers.SyncAcquired.TheVariants.{Now, Later, Broke as Broken}
use Rattle.cqs_sync_semaphore.specs.declared.answers.SyncLeft.{SyncLeft}
use Rattle.cqs_sync_semaphore.specs.declared.answers.SyncLeft.TheVariants.{Cancelled, TooLate}
use Rattle.cqs_sync_semaphore.specs.declared.answers.SyncReleased.{SyncReleased}
use Rattle.cqs_sync_semaphore.specs.declared.answers.Under as owed
use Rattle.cqs_sync_semaphore.specs.declared.answers.SyncReleased.TheVariants.{Freed, Sent, Void, Broke, Handling, Under}

module _ {T : Type 0} where
  -- A caller has a permit that was free, or one that its release was holding out in the cell of its
  -- number; or the cell was empty, and the caller waits there; or the cell was found broken.
  abbrev pub Acquires : View Entry T → SyncAcquired → View Entry T → Type 0
  Acquires v (Now permit) w = Takes v (number_of permit) w
  Acquires v (Later wait) w =
      WasNone v w × CellWas state.Empty (place_of wait).index [] w × HasWait w wait
      × Rests v v.facts.has.held (v.facts.waits ++ (place_of wait).index ∷ []) w
  Acquires v (Broken k) w =
      WasNone v w × CellWas state.Broken k (entry.Undo v.number k ∷ []) w
      × Rests v v.facts.has.held v.facts.waits w

  -- The rest of these are the ends of a permit that is on its way, by a call whose own entries are
  -- these before. The waiter of k was found in its cell, and served.
  pub record WasServed (own : List Entry) (k : ℕ) (v w : View Entry T) : Type 0 where
    pub called : CallRule v own (entry.Deliver k ∷ []) w
    pub waited : CellWas state.Waiter k (entry.Deliver k ∷ []) w

  -- The permit was held out in the cell of k, which was found empty, and found there by looks, no
  -- more than the semaphore asks for; and then it was found to be taken. So it was delivered, by a
  -- caller beside this one.
  pub record WasTaken (own : List Entry) (k : ℕ) (v w : View Entry T) : Type 0 where
    pub called : CallRule v own [] w
    pub words : List ℕ
    pub few : length words ≤ v.opening.looks
    pub held_out : HeldOut primitive_of state.Taken k words [] v w
    pub delivered : IsIn (entry.Deliver k) w.seen
    pub together : v.alone ≢ true

  -- It was held out there, was found there by just as many looks as the semaphore asks for, and was
  -- taken back.
  pub record WasBroken (own : List Entry) (k : ℕ) (v w : View Entry T) : Type 0 where
    pub called : CallRule v (own ++ entry.Spoil v.number k ∷ []) [] w
    pub words : List ℕ
    pub all : length words ≡ v.opening.looks
    pub held_out : HeldOut primitive_of state.Value k words (entry.Spoil v.number k ∷ []) v w

  -- The pass still owes the resumption of this token, and has what it had.
  pub record StillOwes (under : owed.Under) (held : ℕ) (waits : List ℕ) (w : View Entry T)
      : Type 0 where
    pub owes : HasUnder w.facts (token_of under)
    pub further : w.facts.has.further ≡ 0
    pub held_is : w.facts.has.held ≡ held
    pub waits_are : w.facts.waits ≡ waits

  -- How a resumption ended that began with a permit of this number: the pass holds so much then,
  -- or one more where the permit came back, and has these waits. A canceller in the cell of k is to
  -- end before the resumption goes on, which keeps its ticket.
  abbrev pub Ends : List Entry → ℕ → List ℕ → Option ℕ → View Entry T → SyncReleased → View Entry T
      → Type 0
  Ends own held waits number v Freed w = ⊥
  Ends own held waits number v (Sent k) w =
      (WasServed own k v w ⊎ WasTaken own k v w) × Rests v held waits w
  Ends own held waits number v (Void k) w =
      CallRule v own [] w × CellWas state.Refused k [] w × Rests v held waits w
  Ends own held waits number v (Broke k permit) w =
      WasBroken own k v w × (number_of permit ≡ number) × Rests v (held + 1) waits w
  Ends own held waits number v (Handling k under) w =
      CallRule v own [] w × CellWas state.Cancelling k [] w × CellWasOnce state.Cancelling k v w
      × (number_under under ≡ number)
      × (under_ticket (token_of under) ≡ Some k) × StillOwes under held waits w
  Ends own held waits number v (Under under) w =
      CallRule v own [] w × HandsBack v (token_of under) held waits w
      × (number_under under ≡ number)

  -- the end of one that this call began by giving the permit away
  abbrev pub Sends : Option ℕ → View Entry T → SyncReleased → View Entry T → Type 0
  Sends number v a w =
      Ends (entry.GiveSent v.number ∷ []) (v.facts.has.held - 1) v.facts.waits number v a w

  -- The state was found at 0 or above: nobody waited for want of a permit. Else somebody did, and
  -- the permit was sent.
  abbrev pub Releases : Option ℕ → View Entry T → SyncReleased → View Entry T → Type 0
  Releases number v Freed w =
      CallRule v (entry.GiveFreed v.number ∷ []) [] w × WasUnwanted v w
  Releases number v (Sent k) w = WasWanted v w × Sends number v (Sent k) w
  Releases number v (Void k) w = WasWanted v w × Sends number v (Void k) w
  Releases number v (Broke k permit) w = WasWanted v w × Sends number v (Broke k permit) w
  Releases number v (Handling k under) w = WasWanted v w × Sends number v (Handling k under) w
  Releases number v (Under under) w = WasWanted v w × Sends number v (Under under) w

  -- A cancel found the cell of the wait served; or with its waiter, who left the line, or was
  -- refused where a permit was on the way to each who waited. No release had left anything there.
  abbrev pub Cancels : ℕ → View Entry T → SyncLeft → View Entry T → Type 0
  Cancels k v Cancelled w =
      CallRule v (entry.Leave v.number k ∷ []) [] w × CellWasOnce state.Waiter k v w
      × (LeftLine k v w ⊎ WasRefused k v w) × CellWas state.Cancelling k [] w
      × Rests v v.facts.has.held (without k v.facts.waits) w
  Cancels k v (TooLate permit) w =
      CallRule v (entry.Late v.number k ∷ []) [] w × (number_of permit ≡ Some k)
      × CellWas state.Resumed k (entry.Late v.number k ∷ []) w
      × Rests v (v.facts.has.held + 1) (without k v.facts.waits) w
