-- What each call answers, and why.
use Rattle.std.specs.Prelude.{◌≡◌, ◌⊎◌, ℕ, ◌<◌, true, List, [], ◌∷◌, ◌++◌, Option, Some, None}
use Rattle.cqs_core.specs.declared.cells.CoreState.TheVariants as state
use Rattle.cqs_pool_object.specs.declared.entries.PoolEntry.{PoolEntry}
use Rattle.cqs_pool_object.specs.declared.entries.PoolEntry.TheVariants as entry
use Rattle.cqs_rule.specs.declared.queue.tokens.Under as token
use Rattle.cqs_rule.specs.declared.queue.tokens.Wait.{Wait}
use Rattle.cqs_rule_laws.specs.declared.view.Facts.{Facts}
use Rattle.cqs_rule_laws.specs.declared.view.Sighting.TheVariants.{Word}
use Rattle.cqs_rule_laws.specs.declared.view.View.{View}
use Rattle.cqs_rule_laws.specs.Causes as laws
use Rattle.cqs_rule_laws.specs.Causes.{PassedOver}
use Rattle.cqs_rule_laws.specs.Layout.{suspends_place}
use Rattle.cqs_rule_laws.specs.Lists.{Has, without}
use Rattle.cqs_rule.specs.Claims.{WantsSlot, WasCrowded}
use Rattle.cqs_rule.specs.Owed.{HasUnder, under_payload, under_ticket}
use Rattle.cqs_rule.specs.Waits.{place_of, HasWait}
use Rattle.cqs_pool.specs.declared.answers.Placed.{Placed}
use Rattle.cqs_pool.specs.declared.answers.Placed.TheVariants.{Sent, Left, Under}
use Rattle.cqs_pool.specs.declared.answers.PoolLeft.{PoolLeft}
use Rattle.cqs_pool.specs.declared.answers.PoolLeft.TheVariants.{Cancelled, TooLate}
use Rattle.cqs_pool.specs.declared.answers.PoolPolled.{PoolPolled}
use Rattle.cqs_pool.specs.declared.answers.PoolPolled.TheVariants.{Granted, Pending}
use Rattle.cqs_pool.specs.declared.answers.Taking.{Taking}
use Rattle.cqs_pool.specs.declared.answers.Taking.TheVariants.{Took, Later}
use Rattle.cqs_pool.specs.Calls.{Rests}
use Rattle.cqs_pool.specs.Causes.{drawn_in, CellWas, CellHad, CellWasOnce, CellHadOnce}
use Rattle.cqs_pool.specs.Elements.{number_of, wait_of}
use Rattle.cqs_pool.specs.Owed.{owed_after}

-- how many numbers one call passes over before it hands the resumption back
abbrev pub most_passed_over : ℕ
most_passed_over = 64

-- the pass has this element in hand: it got it, or met the pass that did
abbrev pub IsInHand : ℕ → Facts → Type 0
IsInHand e f = Has e f.has.slots

-- a pass at these facts that loaded the suspend counter as n, below the limit, and did nothing else
abbrev pub facts_below : ℕ → Facts → Facts
facts_below n f = record f { may_draw = true; found = f.found ++ Word suspends_place n ∷ [] }

module _ {T : Type 0} where
  -- A take was refused, as the limit was reached; or it wasn't.
  abbrev pub IsWorn : View PoolEntry T → View PoolEntry T → Type 0
  IsWorn v w = laws.IsWorn drawn_in v w

  abbrev pub IsBelow : View PoolEntry T → View PoolEntry T → Type 0
  IsBelow v w = laws.IsBelow drawn_in v w

  -- A take was refused, as it needs two spare slots: it had loaded the suspend counter below the
  -- limit, and so many numbers had been drawn in all that the pass has seen now. Then each slot was
  -- seen not free. Nothing else was touched.
  pub record IsCrowded (v w : View PoolEntry T) : Type 0 where
    pub loaded : ℕ
    pub below : loaded < v.limit
    pub counted : laws.Counted drawn_in v loaded w.seen w
    pub crowded : WasCrowded 2 (facts_below loaded v.facts) v w

  -- The cell of the number was found with an element, which the caller has; or it was empty, and
  -- the caller waits there.
  abbrev pub Takes : View PoolEntry T → Taking → View PoolEntry T → Type 0
  Takes v (Took element) w =
      CellHad state.Value (wait_of element) (number_of element)
      (entry.Deliver (wait_of element) (number_of element) ∷ []) w
      × Rests v (number_of element ∷ v.facts.has.slots) v.facts.waits w
  Takes v (Later wait) w =
      CellWas state.Empty (place_of wait).index [] w × HasWait w wait
      × Rests v v.facts.has.slots (v.facts.waits ++ (place_of wait).index ∷ []) w

  -- The resumption of this element was handed back, since so many numbers were passed over, or
  -- since there was no slot for the segment of its number.
  pub record HandsBack (v : View PoolEntry T) (e : ℕ) (under : token.Under)
      (elements waits : List ℕ) (w : View PoolEntry T) : Type 0 where
    pub cause : ((under_ticket under ≡ None) × PassedOver most_passed_over v w)
        ⊎ WantsSlot under v w
    pub owes : HasUnder w.facts under
    pub brings : under_payload under ≡ e
    pub further : w.facts.has.further ≡ 0
    pub elements_are : w.facts.has.slots ≡ elements
    pub waits_are : w.facts.waits ≡ waits

  -- How the resumption of an element ended: by the state of the cell that it found last. The pass
  -- has these elements in hand then, and these waits.
  abbrev pub Ends : View PoolEntry T → ℕ → List ℕ → List ℕ → Placed → View PoolEntry T → Type 0
  Ends v e elements waits (Sent k) w =
      CellWas state.Waiter k (entry.Deliver k e ∷ []) w × Rests v elements waits w
  Ends v e elements waits (Left k) w =
      (CellWas state.Empty k [] w ⊎ CellWas state.Cancelling k [] w) × Rests v elements waits w
  Ends v e elements waits (Under under) w = HandsBack v e under elements waits w

  -- A look at a wait found its cell with its waiter, or found it served with this element.
  abbrev pub IsPolled : Wait → View PoolEntry T → PoolPolled → View PoolEntry T → Type 0
  IsPolled wait v (Granted element) w =
      (wait_of element ≡ (place_of wait).index)
      × CellHad state.Resumed (place_of wait).index (number_of element)
      (entry.LookGranted v.number (place_of wait).index (number_of element) ∷ []) w
      × Rests v (number_of element ∷ v.facts.has.slots)
      (without (place_of wait).index v.facts.waits) w
  IsPolled wait v (Pending again) w =
      (place_of again ≡ place_of wait) × HasWait w again
      × CellWas state.Waiter (place_of wait).index
      (entry.LookPending v.number (place_of wait).index ∷ []) w
      × Rests v v.facts.has.slots v.facts.waits w

  -- What was on its way to the waiter of the number k that left: nothing that this call must pass
  -- on; or an element had been left there, and the call went on with it, which ended so.
  abbrev pub PassesOn : ℕ → View PoolEntry T → Option token.Under → ℕ → Option Placed
      → View PoolEntry T → Type 0
  PassesOn k v under e None w =
      (under ≡ None) × Rests v v.facts.has.slots (without k v.facts.waits) w
  PassesOn k v under e (Some placed) w =
      (under ≡ owed_after placed) × CellHadOnce state.Delegated k e v w
      × Ends v e v.facts.has.slots (without k v.facts.waits) placed w

  -- A cancel found the cell of the wait served; or with its waiter, who left.
  abbrev pub Cancels : ℕ → View PoolEntry T → PoolLeft → ℕ → Option Placed → View PoolEntry T
      → Type 0
  Cancels k v (TooLate element) e passed w =
      (passed ≡ None) × (wait_of element ≡ k)
      × CellHad state.Resumed k (number_of element)
      (entry.Late v.number k (number_of element) ∷ []) w
      × Rests v (number_of element ∷ v.facts.has.slots) (without k v.facts.waits) w
  Cancels k v (Cancelled under) e passed w =
      CellWasOnce state.Waiter k v w × PassesOn k v under e passed w

  -- What a cancel leaves of its pass: it is between two calls; or it has a resumption to finish.
  abbrev pub LeavesPass : ℕ → View PoolEntry T → PoolLeft → View PoolEntry T → Type 0
  LeavesPass k v (Cancelled None) w = Rests v v.facts.has.slots (without k v.facts.waits) w
  LeavesPass k v (Cancelled (Some under)) w =
      HasUnder w.facts under × (w.facts.has.further ≡ 0)
      × (w.facts.has.slots ≡ v.facts.has.slots) × (w.facts.waits ≡ without k v.facts.waits)
  LeavesPass k v (TooLate element) w =
      Rests v (number_of element ∷ v.facts.has.slots) (without k v.facts.waits) w
