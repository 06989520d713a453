-- What each call answers, and why.
use Rattle.std.specs.Prelude.{◌≡◌, ◌≢◌, ◌⊎◌, ℕ, ◌+◌, ◌-◌, ◌<◌, true, List, [], ◌∷◌, ◌++◌, Option, Some, None, ℤ, pos, ◌<ℤ◌, ◌≤ℤ◌}
use Rattle.cqs_core.specs.declared.cells.CoreState.TheVariants as state
use Rattle.cqs_core.specs.declared.entries.Entry.{Entry}
use Rattle.cqs_core.specs.declared.entries.Entry.TheVariants as entry
use Rattle.cqs_rule.specs.declared.queue.tokens.Under as token
use Rattle.cqs_rule.specs.declared.queue.tokens.Wait.{Wait}
use Rattle.cqs_rule_laws.specs.declared.view.Facts.{Facts}
use Rattle.cqs_rule_laws.specs.declared.view.Sighting.TheVariants.{Word}
use Rattle.cqs_rule_laws.specs.declared.view.View.{View}
use Rattle.cqs_rule_laws.specs.Causes as laws
use Rattle.cqs_rule_laws.specs.Causes.{PassedOver}
use Rattle.cqs_rule_laws.specs.Layout.{suspends_place}
use Rattle.cqs_rule_laws.specs.Lists.{without}
use Rattle.cqs_rule.specs.Claims.{HasSpares, WantsSlot, WasCrowded}
use Rattle.cqs_rule.specs.Owed.{HasUnder, under_ticket}
use Rattle.cqs_rule.specs.Waits.{place_of, HasWait}
use Rattle.cqs_semaphore.specs.declared.answers.Acquired.{Acquired}
use Rattle.cqs_semaphore.specs.declared.answers.Acquired.TheVariants.{Now, Later}
use Rattle.cqs_semaphore.specs.declared.answers.Tried.{Tried}
use Rattle.cqs_semaphore.specs.declared.answers.Tried.TheVariants.{Got, Busy, Contended}
use Rattle.cqs_semaphore.specs.declared.answers.Released.{Released}
use Rattle.cqs_semaphore.specs.declared.answers.Released.TheVariants.{Freed, Sent, Left, Void, Under}
use Rattle.cqs_semaphore.specs.declared.answers.Polled.{Polled}
use Rattle.cqs_semaphore.specs.declared.answers.Polled.TheVariants.{Granted, Pending}
use Rattle.cqs_semaphore.specs.declared.answers.CancelAnswer.{CancelAnswer}
use Rattle.cqs_semaphore.specs.declared.answers.CancelAnswer.TheVariants.{Cancelled, TooLate}
use Rattle.cqs_semaphore.specs.Calls.{Rests}
use Rattle.cqs_semaphore.specs.Causes.{drawn_in, StateWas, FoundJust, CellWas, CellWasOnce}
use Rattle.cqs_semaphore.specs.Owed.{owed_after}
use Rattle.cqs_semaphore.specs.Permits.{number_of}

-- how many numbers one call passes over before it hands the resumption back
abbrev pub most_passed_over : ℕ
most_passed_over = 64

-- a pass at these facts that loaded the suspend counter as n, below the limit, and did nothing else
abbrev pub facts_below : ℕ → Facts → Facts
facts_below n f = record f { may_draw = true; found = f.found ++ Word suspends_place n ∷ [] }

module _ {T : Type 0} where
  -- An acquire was refused, as the limit was reached; or it wasn't.
  abbrev pub IsWorn : View Entry T → View Entry T → Type 0
  IsWorn v w = laws.IsWorn drawn_in v w

  abbrev pub IsBelow : View Entry T → View Entry T → Type 0
  IsBelow v w = laws.IsBelow drawn_in v w

  -- An acquire was refused, as it needs two spare slots: it had loaded the suspend counter below
  -- the limit, and then each slot was seen not free. Nothing else was touched.
  pub record IsCrowded (v w : View Entry T) : Type 0 where
    pub loaded : ℕ
    pub before : List Entry
    pub below : loaded < v.limit
    pub counted : laws.Counted drawn_in v loaded before w
    pub crowded : WasCrowded 2 (facts_below loaded v.facts) v w

  -- The pass had two spare slots, and then the state was found above 0, and the permit taken by
  -- that step.
  pub record WasFree (v w : View Entry T) : Type 0 where
    pub spare : HasSpares 2 w
    pub count : ℤ
    pub before : List Entry
    pub free : pos 0 <ℤ count
    pub found : StateWas v count before (entry.TakeNow v.number ∷ []) w
    pub rests : Rests v (v.facts.has.held + 1) v.facts.waits w

  -- The state was found at most 0, and so the caller came to the door.
  pub record WasNone (v w : View Entry T) : Type 0 where
    pub count : ℤ
    pub before : List Entry
    pub none : count ≤ℤ pos 0
    pub found : StateWas v count before (entry.TakeDoor v.number ∷ []) w

  -- a permit that was free; or the resume of the number was first, and had left its value in the
  -- cell
  abbrev pub Takes : View Entry T → Option ℕ → View Entry T → Type 0
  Takes v None w = WasFree v w
  Takes v (Some k) w =
      WasNone v w × CellWas state.Value k (entry.Deliver k ∷ []) w
      × Rests v (v.facts.has.held + 1) v.facts.waits w

  -- or the cell of the number was empty, and the caller waits there
  abbrev pub Acquires : View Entry T → Acquired → View Entry T → Type 0
  Acquires v (Now permit) w = Takes v (number_of permit) w
  Acquires v (Later wait) w =
      WasNone v w × CellWas state.Empty (place_of wait).index [] w × HasWait w wait
      × Rests v v.facts.has.held (v.facts.waits ++ (place_of wait).index ∷ []) w

  -- A try made one load of the state, which found it at most 0.
  pub record WasBusy (v w : View Entry T) : Type 0 where
    pub count : ℤ
    pub before : List Entry
    pub none : count ≤ℤ pos 0
    pub found : StateWas v count before (entry.TryBusy v.number ∷ []) w
    pub last : w.seen ≡ before ++ entry.TryBusy v.number ∷ []
    pub steps : FoundJust (count ∷ []) v w
    pub rests : Rests v v.facts.has.held v.facts.waits w

  -- It made a load of the state, and one exchange. Both found the same, above 0, and the exchange
  -- took the permit.
  pub record WasGot (v w : View Entry T) : Type 0 where
    pub count : ℤ
    pub before : List Entry
    pub free : pos 0 <ℤ count
    pub found : StateWas v count before (entry.TryGot v.number ∷ []) w
    pub last : w.seen ≡ before ++ entry.TryGot v.number ∷ []
    pub steps : FoundJust (count ∷ count ∷ []) v w
    pub rests : Rests v (v.facts.has.held + 1) v.facts.waits w

  -- Another caller was first: the load found one count, above 0, and the one exchange another. The
  -- first was the plain semaphore's after some of what the pass has seen, not less than it had seen
  -- before; the second is its state now.
  pub record IsContended (v : View Entry T) (saw found : ℤ) (w : View Entry T) : Type 0 where
    pub before : List Entry
    pub free : pos 0 <ℤ saw
    pub loaded : StateWas v saw before [] w
    pub exchanged : StateWas v found w.seen [] w
    pub differ : saw ≢ found
    pub together : v.alone ≢ true
    pub steps : FoundJust (saw ∷ found ∷ []) v w
    pub rests : Rests v v.facts.has.held v.facts.waits w

  abbrev pub Tries : View Entry T → Tried → View Entry T → Type 0
  Tries v (Got permit) w = (number_of permit ≡ None) × WasGot v w
  Tries v Busy w = WasBusy v w
  Tries v (Contended saw found) w = IsContended v saw found w

  -- the resumption that the pass owes was handed back, since so many numbers were passed over, or
  -- since there was no slot for the segment of the next
  pub record HandsBack (v : View Entry T) (under : token.Under) (held : ℕ) (waits : List ℕ)
      (w : View Entry T) : Type 0 where
    pub cause : ((under_ticket under ≡ None) × PassedOver most_passed_over v w)
        ⊎ WantsSlot under v w
    pub owes : HasUnder w.facts under
    pub further : w.facts.has.further ≡ 0
    pub held_is : w.facts.has.held ≡ held
    pub waits_are : w.facts.waits ≡ waits

  -- How a resumption ended: by the state of the cell that it found last. The pass holds so much
  -- then, and has these waits.
  abbrev pub Ends : View Entry T → ℕ → List ℕ → Released → View Entry T → Type 0
  Ends v held waits Freed w = ⊥
  Ends v held waits (Sent k) w =
      CellWas state.Waiter k (entry.Deliver k ∷ []) w × Rests v held waits w
  Ends v held waits (Left k) w =
      (CellWas state.Empty k [] w ⊎ CellWas state.Cancelling k [] w) × Rests v held waits w
  Ends v held waits (Void k) w = CellWas state.Refused k [] w × Rests v held waits w
  Ends v held waits (Under under) w = HandsBack v under held waits w

  -- The pass had a spare slot, and then the state was found at 0 or above: nobody waited for want
  -- of a permit.
  pub record WasUnwanted (v w : View Entry T) : Type 0 where
    pub spare : HasSpares 1 w
    pub count : ℤ
    pub before : List Entry
    pub enough : pos 0 ≤ℤ count
    pub found : StateWas v count before (entry.GiveFreed v.number ∷ []) w
    pub rests : Rests v (v.facts.has.held - 1) v.facts.waits w

  -- The state was found below 0: somebody waited with no permit on its way.
  pub record WasWanted (v w : View Entry T) : Type 0 where
    pub count : ℤ
    pub before : List Entry
    pub short : count <ℤ pos 0
    pub found : StateWas v count before (entry.GiveSent v.number ∷ []) w

  abbrev pub Releases : View Entry T → Released → View Entry T → Type 0
  Releases v Freed w = WasUnwanted v w
  Releases v (Sent k) w = WasWanted v w × Ends v (v.facts.has.held - 1) v.facts.waits (Sent k) w
  Releases v (Left k) w = WasWanted v w × Ends v (v.facts.has.held - 1) v.facts.waits (Left k) w
  Releases v (Void k) w = WasWanted v w × Ends v (v.facts.has.held - 1) v.facts.waits (Void k) w
  Releases v (Under under) w =
      WasWanted v w × Ends v (v.facts.has.held - 1) v.facts.waits (Under under) w

  -- A look at a wait found its cell with its waiter, or found it served.
  abbrev pub IsPolled : Wait → View Entry T → Polled → View Entry T → Type 0
  IsPolled wait v (Granted permit) w =
      (number_of permit ≡ Some (place_of wait).index)
      × CellWas state.Resumed (place_of wait).index
      (entry.LookGranted v.number (place_of wait).index ∷ []) w
      × Rests v (v.facts.has.held + 1) (without (place_of wait).index v.facts.waits) w
  IsPolled wait v (Pending again) w =
      (place_of again ≡ place_of wait) × HasWait w again
      × CellWas state.Waiter (place_of wait).index
      (entry.LookPending v.number (place_of wait).index ∷ []) w
      × Rests v v.facts.has.held v.facts.waits w

  -- What was on its way to the waiter of the number k that left: nothing that this call must pass
  -- on; or a resume had left its value there, the waiter left the line, and the call went on with
  -- that resumption, which ended so.
  abbrev pub PassesOn : ℕ → View Entry T → Option token.Under → Option Released → View Entry T
      → Type 0
  PassesOn k v under None w = (under ≡ None) × Rests v v.facts.has.held (without k v.facts.waits) w
  PassesOn k v under (Some released) w =
      (under ≡ owed_after released) × CellWasOnce state.Delegated k v w
      × Ends v v.facts.has.held (without k v.facts.waits) released w

  -- The semaphore was asked whether the waiter of the number k leaves the line. The state was found
  -- below 0: somebody waited with no permit on its way, and so the waiter left the line.
  pub record LeftLine (k : ℕ) (v w : View Entry T) : Type 0 where
    pub count : ℤ
    pub before : List Entry
    pub short : count <ℤ pos 0
    pub found : StateWas v count before (entry.Leave v.number k ∷ []) w

  -- It was found at 0 or above: a permit was on the way to each who waited. So the waiter was
  -- refused, and one of the permits is free.
  pub record WasRefused (k : ℕ) (v w : View Entry T) : Type 0 where
    pub count : ℤ
    pub before : List Entry
    pub enough : pos 0 ≤ℤ count
    pub found : StateWas v count before (entry.Leave v.number k ∷ []) w

  -- How the waiter of the number k went, and what its cell was found to be in the end, where the
  -- call had nothing to pass on: it left the line, and no resume had come to its cell; or it was
  -- refused, and a resume that had come ended there. Where the call passed something on, it left
  -- the line.
  abbrev pub WentSo : ℕ → View Entry T → Option Released → View Entry T → Type 0
  WentSo k v None w =
      (LeftLine k v w × CellWas state.Cancelling k [] w)
      ⊎ (WasRefused k v w × (CellWas state.Cancelling k [] w ⊎ CellWas state.Delegated k [] w))
  WentSo k v (Some released) w = LeftLine k v w

  -- A cancel found the cell of the wait served; or with its waiter, who went.
  abbrev pub Cancels : ℕ → View Entry T → CancelAnswer → Option Released → View Entry T → Type 0
  Cancels k v (TooLate permit) passed w =
      (passed ≡ None) × (number_of permit ≡ Some k)
      × CellWas state.Resumed k (entry.Late v.number k ∷ []) w
      × Rests v (v.facts.has.held + 1) (without k v.facts.waits) w
  Cancels k v (Cancelled under) passed w =
      CellWasOnce state.Waiter k v w × PassesOn k v under passed w × WentSo k v passed w
