-- What each call answers, and why.
use Rattle.std.specs.Prelude.{◌≡◌, [], ◌∷◌}
use Rattle.cqs_core.specs.declared.cells.CoreState.TheVariants as state
use Rattle.cqs_barrier_object.specs.declared.entries.BarrierEntry.{BarrierEntry}
use Rattle.cqs_barrier_object.specs.declared.entries.BarrierEntry.TheVariants as entry
use Rattle.cqs_rule.specs.declared.queue.tokens.Wait.{Wait}
use Rattle.cqs_rule_laws.specs.declared.view.View.{View}
use Rattle.cqs_rule_laws.specs.Lists.{without}
use Rattle.cqs_rule.specs.Waits.{place_of, HasWait}
use Rattle.cqs_barrier.specs.declared.answers.PartyPolled.{PartyPolled}
use Rattle.cqs_barrier.specs.declared.answers.PartyPolled.TheVariants.{Through, Pending}
use Rattle.cqs_barrier.specs.Calls.{Rests}
use Rattle.cqs_barrier.specs.Causes.{CellWas}
use Rattle.cqs_barrier.specs.Waits.{wait_in}

module _ {T : Type 0} where
  -- A look at a wait found its cell with its waiter, or found it served.
  abbrev pub IsPolled : Wait → View BarrierEntry T → PartyPolled → View BarrierEntry T → Type 0
  IsPolled wait v Through w =
      CellWas state.Resumed (place_of wait).index
      (entry.LookGranted v.number (place_of wait).index ∷ []) w
      × Rests v v.facts.has.held (without (place_of wait).index v.facts.waits) w
  IsPolled wait v (Pending again) w =
      (place_of (wait_in again) ≡ place_of wait) × HasWait w (wait_in again)
      × CellWas state.Waiter (place_of wait).index
      (entry.LookPending v.number (place_of wait).index ∷ []) w
      × Rests v v.facts.has.held v.facts.waits w
