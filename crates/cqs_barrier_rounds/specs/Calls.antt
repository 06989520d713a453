-- What each call of the rounds answers: what the call of its round's barrier does.
use Rattle.std.specs.Prelude.{◌≡◌, ℕ, ◌+◌, true, [], Result, Ok, Err}
use Rattle.cqs_barrier_object.specs.declared.entries.BarrierEntry.{BarrierEntry}
use Rattle.cqs_rule_laws.specs.declared.view.View.{View}
use Rattle.cqs_rule.specs.Waits.{place_of}
use Rattle.cqs_barrier.specs.declared.answers.Arrived.TheVariants as arrived
use Rattle.cqs_barrier.specs.declared.answers.PartyLeft.TheVariants as left
use Rattle.cqs_barrier.specs.declared.answers.PartyPolled.TheVariants as polled
use Rattle.cqs_barrier.specs.declared.answers.Arrived.{Arrived}
use Rattle.cqs_barrier.specs.declared.answers.Owing.{Owing}
use Rattle.cqs_barrier.specs.declared.answers.PartyLeft.{PartyLeft}
use Rattle.cqs_barrier.specs.declared.answers.PartyPolled.{PartyPolled}
use Rattle.cqs_barrier.specs.declared.answers.PartyWait.{PartyWait}
use Rattle.cqs_barrier.specs.Alone.{IsPlainArrive, IsPlainFinish, IsPlainPoll, IsPlainCancel}
use Rattle.cqs_barrier.specs.Answers.{IsPolled}
use Rattle.cqs_barrier.specs.Arriving.{Arrives, EndsAtCell, Finishes, IsBelow, IsCrowded, IsWorn}
use Rattle.cqs_rule_laws.specs.CallRule.{IsReady}
use Rattle.cqs_barrier.specs.Calls.{CallRule}
use Rattle.cqs_barrier.specs.Entries.{polled_entries}
use Rattle.cqs_barrier.specs.Leaving.{HasLeft}
use Rattle.cqs_barrier.specs.Waits.{wait_in}
use Rattle.cqs_barrier_rounds.specs.declared.answers.RoundArrived.{RoundArrived}
use Rattle.cqs_barrier_rounds.specs.declared.answers.RoundArrived.TheVariants.{Last, LastOwing, Later}
use Rattle.cqs_barrier_rounds.specs.declared.answers.RoundError.{RoundError}
use Rattle.cqs_barrier_rounds.specs.declared.answers.RoundError.TheVariants.{Worn, Crowded, Over}
use Rattle.cqs_barrier_rounds.specs.declared.answers.RoundLeft.{RoundLeft}
use Rattle.cqs_barrier_rounds.specs.declared.answers.RoundLeft.TheVariants.{Withdrawn, TooLate, Contended}
use Rattle.cqs_barrier_rounds.specs.declared.answers.RoundPolled.{RoundPolled}
use Rattle.cqs_barrier_rounds.specs.declared.answers.RoundPolled.TheVariants.{Through, Pending}
use Rattle.cqs_barrier_rounds.specs.declared.members.Member.{Member}
use Rattle.cqs_barrier_rounds.specs.declared.members.MemberOwing.{MemberOwing}
use Rattle.cqs_barrier_rounds.specs.Members.{round_of, wait_round, wait_of, owing_round, owing_of, leaving_round, leaving_of}

abbrev pub Party : Type 0
Party = View BarrierEntry (Unit {0})

-- the barrier's call, with all that it tells
pub record HasArrived (answer : Arrived) (v w : Party) : Type 0 where
  pub below : IsBelow v w
  pub arrives : Arrives v answer w
  pub cell : EndsAtCell v answer w
  pub alone : v.alone ≡ true → IsPlainArrive v answer w

pub record HasFinished (answer : Result (Unit {0}) Owing) (v w : Party) : Type 0 where
  pub finishes : Finishes v answer w
  pub alone : v.alone ≡ true → IsPlainFinish v answer w

pub record HasPolled (wait : PartyWait) (answer : PartyPolled) (v w : Party) : Type 0 where
  pub called : CallRule v (polled_entries v.number (place_of (wait_in wait)).index answer) [] w
  pub polled : IsPolled (wait_in wait) v answer w
  pub ready : IsReady w.facts
  pub alone : v.alone ≡ true → IsPlainPoll (place_of (wait_in wait)).index v answer

pub record HasCancelled (wait : PartyWait) (answer : PartyLeft) (v w : Party) : Type 0 where
  pub left : HasLeft (place_of (wait_in wait)).index v answer w
  pub alone : v.alone ≡ true → IsPlainCancel (place_of (wait_in wait)).index v answer w

-- A member of this round arrived, by a call of its barrier. One that goes through comes to the next
-- round. It isn't told that it is over.
abbrev pub ArrivesAt : ℕ → Party → Result RoundArrived (Member × RoundError) → Party → Type 0
ArrivesAt r v (Ok (Last member)) w = (round_of member ≡ r + 1) × HasArrived arrived.Last v w
ArrivesAt r v (Ok (LastOwing owing)) w =
    (owing_round owing ≡ r) × HasArrived (arrived.LastOwing (owing_of owing)) v w
ArrivesAt r v (Ok (Later wait)) w =
    (wait_round wait ≡ r) × HasArrived (arrived.Later (wait_of wait)) v w
ArrivesAt r v (Err (member, Worn)) w = (round_of member ≡ r) × IsWorn v w
ArrivesAt r v (Err (member, Crowded)) w = (round_of member ≡ r) × IsCrowded v w
ArrivesAt r v (Err (member, Over)) w = ⊥

abbrev pub FinishesAt : ℕ → Party → Result Member MemberOwing → Party → Type 0
FinishesAt r v (Ok member) w = (round_of member ≡ r + 1) × HasFinished (Ok tt) v w
FinishesAt r v (Err again) w = (owing_round again ≡ r) × HasFinished (Err (owing_of again)) v w

abbrev pub PollsAt : ℕ → PartyWait → Party → RoundPolled → Party → Type 0
PollsAt r wait v (Through member) w =
    (round_of member ≡ r + 1) × HasPolled wait polled.Through v w
PollsAt r wait v (Pending again) w =
    (wait_round again ≡ r) × HasPolled wait (polled.Pending (wait_of again)) v w

-- A member that withdrew is to arrive in the same round again.
abbrev pub CancelsAt : ℕ → PartyWait → Party → RoundLeft → Party → Type 0
CancelsAt r wait v (Withdrawn member) w =
    (round_of member ≡ r) × HasCancelled wait left.Withdrawn v w
CancelsAt r wait v (TooLate member) w =
    (round_of member ≡ r + 1) × HasCancelled wait left.TooLate v w
CancelsAt r wait v (Contended saw found leaving) w =
    (leaving_round leaving ≡ r)
    × HasCancelled wait (left.Contended saw found (leaving_of leaving)) v w

-- The same of a leaving of the wait k that goes on.
abbrev pub LeavesAt : ℕ → ℕ → Party → RoundLeft → Party → Type 0
LeavesAt r k v (Withdrawn member) w = (round_of member ≡ r) × HasLeft k v left.Withdrawn w
LeavesAt r k v (TooLate member) w = (round_of member ≡ r + 1) × HasLeft k v left.TooLate w
LeavesAt r k v (Contended saw found leaving) w =
    (leaving_round leaving ≡ r) × HasLeft k v (left.Contended saw found (leaving_of leaving)) w
