-- What a thread has that goes through the rounds.
use Rattle.std.specs.Prelude.{◌≡◌, ◌≢◌, ℕ, ◌+◌, ◌<◌, ◌≤◌, List, Some, slice_get}
use Rattle.cqs_barrier_object.specs.declared.entries.BarrierEntry.{BarrierEntry}
use Rattle.cqs_rule_laws.specs.declared.client.ClientWords.{Ghosts}
use Rattle.cqs_rule.specs.declared.queue.Pass.{Pass}
use Rattle.cqs_rule.specs.Passes.{pass_view}
use Rattle.cqs_barrier.specs.Parked.{BarrierClient}
use Rattle.cqs_rule.specs.Waits.{HasWait}
use Rattle.cqs_rule_laws.specs.CallRule.{IsReady}
use Rattle.cqs_barrier.specs.Leaving.{HasLeaving}
use Rattle.cqs_barrier.specs.Resuming.{HasOwing}
use Rattle.cqs_barrier.specs.Waits.{wait_in}
use Rattle.cqs_barrier_rounds.specs.declared.members.Member.{Member}
use Rattle.cqs_barrier_rounds.specs.declared.members.MemberLeaving.{MemberLeaving}
use Rattle.cqs_barrier_rounds.specs.declared.members.MemberOwing.{MemberOwing}
use Rattle.cqs_barrier_rounds.specs.declared.members.MemberWait.{MemberWait}
use Rattle.cqs_barrier_rounds.specs.Members.{round_of, leaving_of, leaving_round, owing_of, owing_round, wait_of, wait_round}
use Rattle.cqs_barrier_rounds.specs.Rounds.{IsAt}
use Rattle.cqs_barrier_rounds.specs.Seats.{AreReady}

module _ {g : Ghosts BarrierClient (Unit {0}) BarrierEntry} where
  -- the pass is ready in every round but this one
  abbrev pub ReadyElse : ℕ → List (Pass BarrierClient (Unit {0}) BarrierEntry g) → Type 0
  ReadyElse r ps =
      (i : ℕ) (p : Pass BarrierClient (Unit {0}) BarrierEntry g) → i ≢ r → slice_get ps i ≡ Some p
      → IsReady (pass_view p).facts

  -- the pass holds a party of this round and of each later one
  abbrev pub HoldFrom : ℕ → List (Pass BarrierClient (Unit {0}) BarrierEntry g) → Type 0
  HoldFrom r ps =
      (i : ℕ) (p : Pass BarrierClient (Unit {0}) BarrierEntry g) → r ≤ i → slice_get ps i ≡ Some p
      → 0 < (pass_view p).facts.has.held

  -- the pass is in the middle of nothing, and the member may arrive by it in its round and in each
  -- later one
  pub record MayGoOn (m : Member) (ps : List (Pass BarrierClient (Unit {0}) BarrierEntry g))
      : Type 0 where
    pub ready : AreReady ps
    pub holds : HoldFrom (round_of m) ps

  -- The member left this round, by going through it or by its own will: it comes to the next one,
  -- or to this one again.
  pub record Comes (r : ℕ) (m : Member) (ps : List (Pass BarrierClient (Unit {0}) BarrierEntry g))
      : Type 0 where
    pub on : MayGoOn m ps
    pub next : round_of m ≤ r + 1

  -- the member was the last of its round, and owes resumptions there
  pub record OwesAt (o : MemberOwing) (ps : List (Pass BarrierClient (Unit {0}) BarrierEntry g))
      : Type 0 where
    pub owes : IsAt (λ v. HasOwing v.facts (owing_of o)) ps (owing_round o)
    pub others : ReadyElse (owing_round o) ps
    pub holds : HoldFrom (owing_round o + 1) ps

  -- the member waits in its round
  pub record WaitsAt (w : MemberWait) (ps : List (Pass BarrierClient (Unit {0}) BarrierEntry g))
      : Type 0 where
    pub has : IsAt (λ v. HasWait v (wait_in (wait_of w))) ps (wait_round w)
    pub ready : AreReady ps
    pub holds : HoldFrom (wait_round w + 1) ps

  -- the member is leaving its wait
  pub record LeavesOn (l : MemberLeaving) (ps : List (Pass BarrierClient (Unit {0}) BarrierEntry g))
      : Type 0 where
    pub has : IsAt (λ v. HasLeaving v (leaving_of l)) ps (leaving_round l)
    pub others : ReadyElse (leaving_round l) ps
    pub holds : HoldFrom (leaving_round l + 1) ps
