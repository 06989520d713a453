-- How a caller of a barrier stands between two calls.
use Rattle.std.specs.Prelude.{◌≡◌, ◌≢◌, ℕ, ◌+◌, List, All, Option, Some, None, length}
use Rattle.cqs_rule_laws.specs.declared.carries.Unparked.{Unparked}
use Rattle.cqs_rule_laws.specs.declared.view.View.{View}
use Rattle.cqs_rule_laws.specs.Lists.{Has}
use Rattle.cqs_rule.specs.Passes.{pass_view}
use Rattle.cqs_barrier_object.specs.declared.entries.BarrierEntry.{BarrierEntry}
use Rattle.cqs_barrier.specs.declared.answers.PartyWait.{PartyWait}
use Rattle.cqs_barrier.specs.declared.barrier.Barrier.{Barrier}
use Rattle.cqs_rule_laws.specs.CallRule.{IsReady}
use Rattle.cqs_barrier.specs.Calls.{IsMine}
use Rattle.cqs_barrier.specs.Leaving.{HasLeaving, leaving_at}
use Rattle.cqs_barrier.specs.Resuming.{HasOwing}
use Rattle.cqs_barrier.specs.Waits.{wait_in}
use Rattle.cqs_c_latch_callers.specs.declared.barrier_caller.BarrierCaller.{BarrierCaller}
use Rattle.cqs_c_latch_callers.specs.declared.barrier_caller.PartyOwes.{PartyOwes}
use Rattle.cqs_c_latch_callers.specs.declared.barrier_caller.PartyOwes.TheVariants.{Others, Leave}
use Rattle.cqs_c_callers.specs.Tokens.{HasTokens, wait_index}

module _ {T : Type 0} where
  -- the pass is ready, or owes just this
  abbrev pub OwesJust : View BarrierEntry T → Option PartyOwes → Type 0
  OwesJust v None = IsReady v.facts
  OwesJust v (Some (Others owing)) = HasOwing v.facts owing
  OwesJust v (Some (Leave leaving)) = HasLeaving v leaving

-- none of these is the wait that is being left
abbrev pub StayApart : Option PartyOwes → List PartyWait → Type 0
StayApart None xs = Unit {0}
StayApart (Some (Others owing)) xs = Unit {0}
StayApart (Some (Leave leaving)) xs =
    All (λ x. wait_index (wait_in x) ≢ (leaving_at leaving).index) xs

-- there are as many of these as the pass has waits, and one less where one is being left, which it
-- has still
abbrev pub AreEvery : Option PartyOwes → List PartyWait → List ℕ → Type 0
AreEvery None xs waits = length xs ≡ length waits
AreEvery (Some (Others owing)) xs waits = length xs ≡ length waits
AreEvery (Some (Leave leaving)) xs waits =
    (length xs + 1 ≡ length waits) × Has (leaving_at leaving).index waits

-- The pass is one of the barrier, and owes just what the caller has the token of; and the caller
-- has tokens of the waits of the pass, of each but for the one that is being left.
pub record StandsAt (b : Barrier Unparked) (c : BarrierCaller) : Type 0 where
  pub belongs : IsMine b c.pass
  pub owes : OwesJust (pass_view c.pass) c.owed
  pub waits : HasTokens wait_in (pass_view c.pass) c.waits.items
  pub apart : StayApart c.owed c.waits.items
  pub every : AreEvery c.owed c.waits.items (pass_view c.pass).facts.waits
