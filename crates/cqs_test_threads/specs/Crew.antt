-- What the members of a crew have before they go, and after.
use Rattle.std.specs.Prelude.{◌≡◌, ℕ, ◌<◌, ◌≤◌, List, Option, Some, None}
use Rattle.cqs_barrier_object.specs.declared.entries.BarrierEntry.{BarrierEntry}
use Rattle.cqs_rule_laws.specs.declared.client.ClientWords.{Ghosts}
use Rattle.cqs_rule.specs.declared.queue.Pass.{Pass}
use Rattle.cqs_rule.specs.Passes.{pass_view}
use Rattle.cqs_barrier.specs.Parked.{BarrierClient}
use Rattle.cqs_barrier_rounds.specs.declared.rounds.Rounds.{Rounds}
use Rattle.cqs_barrier_rounds.specs.declared.rounds.RoundsPass.{RoundsPass}
use Rattle.cqs_barrier_rounds.specs.Members.{round_of, wait_round}
use Rattle.cqs_barrier_rounds.specs.Passes.{EachIs}
use Rattle.cqs_barrier_rounds.specs.Rounds.{AreMine, barriers_of, rounds_in}
use Rattle.cqs_barrier_rounds.specs.Seats.{AreReady}
use Rattle.cqs_test_threads.specs.declared.rounds.seats.Seat.{Seat}
use Rattle.cqs_test_threads.specs.declared.rounds.going.Seen.{Seen}
use Rattle.cqs_test_threads.specs.declared.rounds.row.WaitingSeat.{WaitingSeat}
use Rattle.cqs_test_threads.specs.Goes.{MayGoOn, WaitsAt}

module _ {g : Ghosts BarrierClient (Unit {0}) BarrierEntry} where
  -- of each round the pass holds a party for each of so many members
  abbrev pub HoldFor : ℕ → List (Pass BarrierClient (Unit {0}) BarrierEntry g) → Type 0
  HoldFor members ps = EachIs (λ p. (pass_view p).facts.has.held ≡ members) ps

-- a member that may go through all rounds
pub record Sits (rounds : Rounds) (seat : Seat) : Type 0 where
  pub belongs : AreMine (barriers_of rounds) seat.pass.passes.items
  pub member : round_of seat.member ≤ rounds_in rounds
  pub on : MayGoOn seat.member seat.pass.passes.items

-- a member that waits in one of the rounds
pub record SitsWaiting (rounds : Rounds) (seat : WaitingSeat) : Type 0 where
  pub belongs : AreMine (barriers_of rounds) seat.pass.passes.items
  pub member : wait_round seat.wait < rounds_in rounds
  pub waits : WaitsAt seat.wait seat.pass.passes.items

-- the pass of one that came back
pub record IsBack (rounds : Rounds) (pass : RoundsPass) : Type 0 where
  pub belongs : AreMine (barriers_of rounds) pass.passes.items
  pub ready : AreReady pass.passes.items

abbrev pub HasWorked : Rounds → Option (RoundsPass × Seen) → Type 0
HasWorked rounds None = Unit {0}
HasWorked rounds (Some back) = IsBack rounds back.0
