-- How a wait is left: what contracts see of one that is being left, and what a call that leaves it
-- answers, and why.
use Rattle.std.specs.Prelude.{◌≡◌, ◌≢◌, ◌⊎◌, ℕ, ◌+◌, ◌<◌, Bool, true, false, List, [], ◌∷◌, ◌++◌, if◌then◌else◌}
use Rattle.cqs_core.specs.declared.cells.CoreState.TheVariants as state
use Rattle.cqs_core.specs.declared.doings.Doing.{Doing}
use Rattle.cqs_core.specs.declared.doings.Doing.TheVariants as doing
use Rattle.cqs_barrier_object.specs.declared.entries.BarrierEntry.{BarrierEntry}
use Rattle.cqs_barrier_object.specs.declared.entries.BarrierEntry.TheVariants as entry
use Rattle.cqs_barrier_object.specs.BarrierEntries.{object_after}
use Rattle.cqs_rule_laws.specs.declared.config.Place.{Place}
use Rattle.cqs_rule_laws.specs.declared.view.Facts.{Facts}
use Rattle.cqs_rule_laws.specs.declared.view.View.{View}
use Rattle.cqs_rule_laws.specs.Called.{Called}
use Rattle.cqs_rule_laws.specs.Lists.{IsPrefix, without}
use Rattle.cqs_rule_laws.specs.Placed.{KnowsPlace}
use Rattle.cqs_rule_laws.specs.Saw.{Saw}
use Rattle.cqs_barrier.specs.declared.answers.Leaving.{Leaving}
use Rattle.cqs_barrier.specs.declared.answers.PartyLeft.{PartyLeft}
use Rattle.cqs_barrier.specs.declared.answers.PartyLeft.TheVariants.{Withdrawn, TooLate, Contended}
use Rattle.cqs_barrier.specs.Barrier.{barrier_object}
use Rattle.cqs_barrier.specs.Calls.{CallRule, Rests, plain_after}
use Rattle.cqs_barrier.specs.Causes.{CellWas}
use Rattle.cqs_barrier.specs.Word.{is_over, parties_in, remaining_in}

-- what the load of the remaining number appends for who is leaving the wait k: whether all have
-- arrived
abbrev pub look_entries : Bool → ℕ → ℕ → List BarrierEntry
look_entries over p k = if over then entry.Stay p k ∷ [] else []

-- where the cell of the wait stands that is being left
abbrev pub leaving_at : Leaving → Place
leaving_at l = l.at

-- who is leaving the wait k is to be refused where all have arrived
abbrev pub deciding : Bool → ℕ → Doing
deciding over k = if over then doing.Decided k false else doing.Leaving k

module _ {T : Type 0} where
  -- the pass began to leave this wait, and owes the end of it
  pub record HasLeaving (v : View BarrierEntry T) (leaving : Leaving) : Type 0 where
    pub leaves : v.facts.doing ≡ doing.Leaving (leaving_at leaving).index
    pub further : v.facts.has.further ≡ 0
    pub place : KnowsPlace v (leaving_at leaving)

  -- A step of the call found that so many are still to arrive: it was so of the plain barrier after
  -- this history, which the pass has seen all of, and what it had seen before is the prefix of
  -- it. The step's own entry, where it has one, comes next.
  pub record RemainingWas (v : View BarrierEntry T) (n : ℕ) (before own : List BarrierEntry)
      (w : View BarrierEntry T) : Type 0 where
    pub since : IsPrefix v.seen before
    pub seen : IsPrefix (before ++ own) w.seen
    pub remaining : n ≡ (object_after w.opening.size before).remaining

  -- some were still to arrive where the party withdrew
  pub record WasSome (v : View BarrierEntry T) (own : List BarrierEntry) (w : View BarrierEntry T)
      : Type 0 where
    pub count : ℕ
    pub before : List BarrierEntry
    pub some : 0 < count
    pub found : RemainingWas v count before own w

  -- none was, where the canceller loaded the remaining number
  pub record WasNone (v : View BarrierEntry T) (own : List BarrierEntry) (w : View BarrierEntry T)
      : Type 0 where
    pub before : List BarrierEntry
    pub found : RemainingWas v 0 before own w

  -- The number was loaded as one, and the exchange found another: they are those of the plain
  -- barrier after a part of what the pass has seen and after all of it. So it never comes for a
  -- pass that is alone.
  pub record WasContended (v : View BarrierEntry T) (saw found : ℕ) (leaving : Leaving)
      (w : View BarrierEntry T) : Type 0 where
    pub differ : saw ≢ found
    pub before : List BarrierEntry
    pub loaded : RemainingWas v saw before [] w
    pub exchanged : found ≡ (plain_after w).remaining
    pub beside : v.alone ≡ true → ⊥
    pub still : HasLeaving w leaving

  -- The call appended these entries of its own, and the pass is at this then, holds so much, and
  -- has these waits.
  pub record Out (own : List BarrierEntry) (at : Doing) (held : ℕ) (waits : List ℕ)
      (v w : View BarrierEntry T) : Type 0 where
    pub called : Called barrier_object v own [] w
    pub doing_is : w.facts.doing ≡ at
    pub further : w.facts.has.further ≡ v.facts.has.further
    pub held_is : w.facts.has.held ≡ held
    pub waits_are : w.facts.waits ≡ waits

  -- how a leaving goes on that was begun
  abbrev pub Leaves : ℕ → View BarrierEntry T → PartyLeft → View BarrierEntry T → Type 0
  Leaves k v Withdrawn w =
      Out (entry.Withdraw v.number k ∷ []) doing.Idle (v.facts.has.held + 1)
      (without k v.facts.waits) v w
      × WasSome v (entry.Withdraw v.number k ∷ []) w
  Leaves k v TooLate w =
      Out (entry.Stay v.number k ∷ []) doing.Idle v.facts.has.held (without k v.facts.waits) v w
      × WasNone v (entry.Stay v.number k ∷ []) w
  Leaves k v (Contended saw found leaving) w =
      Out [] (doing.Leaving k) v.facts.has.held v.facts.waits v w
      × WasContended v saw found leaving w

  -- The pass v loaded the remaining number as n, while it was leaving the wait k: all had arrived,
  -- or not.
  pub record LookedAt (b : Bool) (k n : ℕ) (v u : View BarrierEntry T) : Type 0 where
    pub facts : Facts
    pub saw : Saw barrier_object v facts (look_entries b v.number k) u
    pub before : List BarrierEntry
    pub seen : u.seen ≡ before ++ look_entries b v.number k
    pub remaining : remaining_in n ≡ (object_after u.opening.size before).remaining
    pub parties : parties_in n ≡ u.opening.size
    pub doing_is : u.facts.doing ≡ deciding b k
    pub has : u.facts.has ≡ v.facts.has
    pub waits : u.facts.waits ≡ v.facts.waits

  -- the pass has loaded the number as `saw`
  pub record HasLoaded (k saw : ℕ) (v : View BarrierEntry T) : Type 0 where
    pub at : v.facts.doing ≡ deciding (is_over saw) k
    pub parties : parties_in saw ≡ v.opening.size

  -- how it goes on from there, whatever the pass had seen before it loaded the number
  abbrev pub LeavesFrom : ℕ → ℕ → View BarrierEntry T → PartyLeft → View BarrierEntry T → Type 0
  LeavesFrom k saw u result w =
      (v : View BarrierEntry T) → LookedAt (is_over saw) k saw v u → Leaves k v result w

  -- The wait k was left, or the party counts as through: its cell was found served, or all had
  -- arrived; or it is still being left, with what the pass holds and waits for as before.
  abbrev pub HasLeft : ℕ → View BarrierEntry T → PartyLeft → View BarrierEntry T → Type 0
  HasLeft k v Withdrawn w =
      CallRule v (entry.Withdraw v.number k ∷ []) [] w
      × Rests v (v.facts.has.held + 1) (without k v.facts.waits) w
      × WasSome v (entry.Withdraw v.number k ∷ []) w
  HasLeft k v TooLate w =
      (CallRule v (entry.Stay v.number k ∷ []) [] w
      × Rests v v.facts.has.held (without k v.facts.waits) w
      × WasNone v (entry.Stay v.number k ∷ []) w)
      ⊎ (CallRule v (entry.Late v.number k ∷ []) [] w
      × Rests v v.facts.has.held (without k v.facts.waits) w
      × CellWas state.Resumed k (entry.Late v.number k ∷ []) w)
  HasLeft k v (Contended saw found leaving) w =
      CallRule v [] [] w
      × WasContended v saw found leaving w
      × ((leaving_at leaving).index ≡ k)
      × (w.facts.has.held ≡ v.facts.has.held)
      × (w.facts.waits ≡ v.facts.waits)
