-- What stands after a call of a member at its round: the pass is ready there again, and in the other rounds as before.
use Rattle.std.proofs.Common.{◌≡◌, ◌≢◌, inl, inr, ℕ, ◌+◌, ◌<◌, List, Ok, Err, Some, slice_get, sym, subst, arith}
use mathlib.Core.Logic.{dite}
use native.Mathlib.Decide.{ℕ_discrete}
use Rattle.cqs_barrier_object.specs.declared.entries.BarrierEntry.{BarrierEntry}
use Rattle.cqs_rule_laws.specs.declared.client.ClientWords.{Ghosts}
use Rattle.cqs_rule.specs.declared.queue.Pass.{Pass}
use Rattle.cqs_rule_laws.specs.declared.view.View.{View}
use Rattle.cqs_rule.specs.Passes.{pass_view}
use Rattle.cqs_rule.specs.Waits.{HasWait}
use Rattle.cqs_barrier.specs.Parked.{BarrierClient}
use Rattle.cqs_barrier.specs.declared.answers.PartyLeft.TheVariants.{TooLate, Withdrawn}
use Rattle.cqs_rule_laws.specs.CallRule.{IsReady}
use Rattle.cqs_barrier.specs.Leaving.{HasLeaving, HasLeft}
use Rattle.cqs_barrier.specs.Resuming.{HasOwing}
use Rattle.cqs_barrier.specs.Waits.{wait_in}
use Rattle.cqs_barrier_rounds.specs.declared.answers.RoundArrived.TheVariants as arrived
use Rattle.cqs_barrier_rounds.specs.declared.answers.RoundError.TheVariants.{Crowded}
use Rattle.cqs_barrier_rounds.specs.declared.answers.RoundLeft.TheVariants as left
use Rattle.cqs_barrier_rounds.specs.declared.answers.RoundPolled.TheVariants as polled
use Rattle.cqs_barrier_rounds.specs.declared.members.Member.{Member}
use Rattle.cqs_barrier_rounds.specs.declared.members.MemberLeaving.{MemberLeaving}
use Rattle.cqs_barrier_rounds.specs.declared.members.MemberOwing.{MemberOwing}
use Rattle.cqs_barrier_rounds.specs.declared.members.MemberWait.{MemberWait}
use Rattle.cqs_barrier_rounds.specs.Calls.{ArrivesAt, CancelsAt, FinishesAt, LeavesAt, PollsAt}
use Rattle.cqs_barrier_rounds.specs.Members.{round_of, leaving_of, leaving_round, owing_of, owing_round, wait_of, wait_round}
use Rattle.cqs_barrier_rounds.specs.Rounds.{IsAt, IsCalled}
use Rattle.cqs_barrier_rounds.specs.Seats.{AreReady}
use Rattle.cqs_barrier_rounds.proofs.Callers.{at-here, at-else}
use Rattle.cqs_test_threads.specs.Goes.{Comes, HoldFrom, LeavesOn, MayGoOn, OwesAt, ReadyElse, WaitsAt}

abbrev Party : Type 0
Party = View BarrierEntry (Unit {0})

module _ {g : Ghosts BarrierClient (Unit {0}) BarrierEntry} (call : Party → Party → Type 0) (r : ℕ)
    (ps qs : List (Pass BarrierClient (Unit {0}) BarrierEntry g)) (called : IsCalled call r ps qs) where
  -- the other rounds
  else-called : ReadyElse r ps → ReadyElse r qs
  else-called ready i q other there =
      at-else call (λ v. IsReady v.facts) r i ps qs called (λ e. other (sym e)) (λ p was. ready i p other was) q there

  later-called : HoldFrom (r + 1) ps → HoldFrom (r + 1) qs
  later-called holds i q high there =
      let other : r ≢ i = omega arith in
      at-else call (λ v. 0 < v.facts.has.held) r i ps qs called other (λ p was. holds i p high was) q there

  -- and this one with them
  all-ready : ReadyElse r ps → ((v w : Party) → call v w → IsReady w.facts) → AreReady qs
  all-ready ready gives i q there = dite (ℕ_discrete i r)
      (λ (e : i ≡ r).
      at-here call (λ v. IsReady v.facts) r ps qs called gives q (subst (λ j. slice_get qs j ≡ Some q) e there))
      (λ (other : i ≢ r). else-called ready i q other there)

  hold-here : HoldFrom (r + 1) ps → ((v w : Party) → call v w → 0 < w.facts.has.held) → HoldFrom r qs
  hold-here holds gives i q high there = dite (ℕ_discrete i r)
      (λ (e : i ≡ r).
      at-here call (λ v. 0 < v.facts.has.held) r ps qs called gives q (subst (λ j. slice_get qs j ≡ Some q) e there))
      (λ (other : i ≢ r). later-called holds i q (omega arith) there)

  -- the member comes to the next round, or to this one again
  comes-next : (m : Member) → ReadyElse r ps → HoldFrom (r + 1) ps
      → ((v w : Party) → call v w → (round_of m ≡ r + 1) × IsReady w.facts) → Comes r m qs
  comes-next m ready holds gives =
      let next : round_of m ≡ r + 1 = (gives (pass_view called.old) (pass_view called.new) called.called).0 in
      record {
        on = record {
          ready = all-ready ready (λ v w c. (gives v w c).1);
          holds = subst (λ n. HoldFrom n qs) (sym next) (later-called holds);
        };
        next = omega arith;
      }

  comes-again : (m : Member) → ReadyElse r ps → HoldFrom (r + 1) ps
      → ((v w : Party) → call v w → (round_of m ≡ r) × IsReady w.facts × (0 < w.facts.has.held)) → Comes r m qs
  comes-again m ready holds gives =
      let same : round_of m ≡ r = (gives (pass_view called.old) (pass_view called.new) called.called).0 in
      record {
        on = record {
          ready = all-ready ready (λ v w c. (gives v w c).1);
          holds = subst (λ n. HoldFrom n qs) (sym same) (hold-here holds (λ v w c. (gives v w c).2));
        };
        next = omega arith;
      }

  -- it owes, waits or leaves in this round
  owes-here : (o : MemberOwing) → ReadyElse r ps → HoldFrom (r + 1) ps
      → ((v w : Party) → call v w → (owing_round o ≡ r) × HasOwing w.facts (owing_of o))
      → OwesAt o qs × (owing_round o ≡ r)
  owes-here o ready holds gives =
      let same : owing_round o ≡ r = (gives (pass_view called.old) (pass_view called.new) called.called).0 in (
        record {
          owes = subst (IsAt (λ v. HasOwing v.facts (owing_of o)) qs) (sym same)
              (at-here call (λ v. HasOwing v.facts (owing_of o)) r ps qs called (λ v w c. (gives v w c).1));
          others = subst (λ n. ReadyElse n qs) (sym same) (else-called ready);
          holds = subst (λ n. HoldFrom (n + 1) qs) (sym same) (later-called holds);
        },
        same,
      )

  waits-here : (t : MemberWait) → ReadyElse r ps → HoldFrom (r + 1) ps
      → ((v w : Party) → call v w → (wait_round t ≡ r) × HasWait w (wait_in (wait_of t)) × IsReady w.facts)
      → WaitsAt t qs × (wait_round t ≡ r)
  waits-here t ready holds gives =
      let same : wait_round t ≡ r = (gives (pass_view called.old) (pass_view called.new) called.called).0 in (
        record {
          has = subst (IsAt (λ v. HasWait v (wait_in (wait_of t))) qs) (sym same)
              (at-here call (λ v. HasWait v (wait_in (wait_of t))) r ps qs called (λ v w c. (gives v w c).1));
          ready = all-ready ready (λ v w c. (gives v w c).2);
          holds = subst (λ n. HoldFrom (n + 1) qs) (sym same) (later-called holds);
        },
        same,
      )

  leaves-here : (l : MemberLeaving) → ReadyElse r ps → HoldFrom (r + 1) ps
      → ((v w : Party) → call v w → (leaving_round l ≡ r) × HasLeaving w (leaving_of l))
      → LeavesOn l qs × (leaving_round l ≡ r)
  leaves-here l ready holds gives =
      let same : leaving_round l ≡ r = (gives (pass_view called.old) (pass_view called.new) called.called).0 in (
        record {
          has = subst (IsAt (λ v. HasLeaving v (leaving_of l)) qs) (sym same)
              (at-here call (λ v. HasLeaving v (leaving_of l)) r ps qs called (λ v w c. (gives v w c).1));
          others = subst (λ n. ReadyElse n qs) (sym same) (else-called ready);
          holds = subst (λ n. HoldFrom (n + 1) qs) (sym same) (later-called holds);
        },
        same,
      )

-- a party that is too late is ready again, whichever way it was
late-ready : (k : ℕ) (v w : Party) → HasLeft k v TooLate w → IsReady w.facts
late-ready k v w (inl stayed) = stayed.1.ready
late-ready k v w (inr late) = late.1.ready

-- an arrival was refused as crowded, by a pass that held a party
abbrev IsCrowdedHolding : Member → Member → Party → Party → Type 0
IsCrowdedHolding m same v w = ArrivesAt (round_of m) v (Err (same, Crowded)) w × (0 < v.facts.has.held)

crowded-holds : (m same : Member) (v w : Party) → IsCrowdedHolding m same v w
    → (round_of same ≡ round_of m) × IsReady w.facts × (0 < w.facts.has.held)
crowded-holds m same v w c =
    let stays = c.0.1.rests.held_is in
    let some = c.1 in
    (c.0.0, c.0.1.rests.ready, omega (arith, stays, some))

withdrawn-holds : (k : ℕ) (v w : Party) → HasLeft k v Withdrawn w → 0 < w.facts.has.held
withdrawn-holds k v w gone = let held = gone.1.held_is in omega arith

module _ {g : Ghosts BarrierClient (Unit {0}) BarrierEntry}
    (ps qs : List (Pass BarrierClient (Unit {0}) BarrierEntry g))
  where
    else-of : (r : ℕ) → AreReady ps → ReadyElse r ps
    else-of r ready i p other there = ready i p there

    later-of : (r : ℕ) → HoldFrom r ps → HoldFrom (r + 1) ps
    later-of r holds i p high there = holds i p (omega arith) there

    -- an arrival
    pub arrive-last : (m next : Member) → MayGoOn m ps
        → IsCalled (λ v w. ArrivesAt (round_of m) v (Ok (arrived.Last next)) w) (round_of m) ps qs
        → Comes (round_of m) next qs
    arrive-last m next on called =
        comes-next _ (round_of m) ps qs called next (else-of (round_of m) on.ready) (later-of (round_of m) on.holds)
        (λ v w c. (c.0, c.1.arrives.1.ready))

    pub arrive-owing : (m : Member) (o : MemberOwing) → MayGoOn m ps
        → IsCalled (λ v w. ArrivesAt (round_of m) v (Ok (arrived.LastOwing o)) w) (round_of m) ps qs
        → OwesAt o qs × (owing_round o ≡ round_of m)
    arrive-owing m o on called =
        owes-here _ (round_of m) ps qs called o (else-of (round_of m) on.ready) (later-of (round_of m) on.holds)
        (λ v w c. (c.0, c.1.arrives.2))

    pub arrive-later : (m : Member) (t : MemberWait) → MayGoOn m ps
        → IsCalled (λ v w. ArrivesAt (round_of m) v (Ok (arrived.Later t)) w) (round_of m) ps qs
        → WaitsAt t qs × (wait_round t ≡ round_of m)
    arrive-later m t on called =
        waits-here _ (round_of m) ps qs called t (else-of (round_of m) on.ready) (later-of (round_of m) on.holds)
        (λ v w c. (c.0, c.1.arrives.1, c.1.arrives.2.ready))

    -- one that was crowded leaves all as it was
    pub arrive-crowded : (m same : Member) → MayGoOn m ps
        → IsCalled (λ v w. ArrivesAt (round_of m) v (Err (same, Crowded)) w) (round_of m) ps qs
        → MayGoOn same qs × (round_of same ≡ round_of m)
    arrive-crowded m same on called =
        let held = on.holds (round_of m) called.old (omega arith) called.was in
        let holding : IsCalled (IsCrowdedHolding m same) (round_of m) ps qs =
        record {
          old = called.old;
          new = called.new;
          was = called.was;
          now = called.now;
          called = (called.called, held);
        } in
        let again = comes-again (IsCrowdedHolding m same) (round_of m) ps qs holding same
        (else-of (round_of m) on.ready) (later-of (round_of m) on.holds) (crowded-holds m same) in
        (again.on, called.called.0)

    -- the end of what was owed
    pub finish-done : (o : MemberOwing) (m : Member) → OwesAt o ps
        → IsCalled (λ v w. FinishesAt (owing_round o) v (Ok m) w) (owing_round o) ps qs → Comes (owing_round o) m qs
    finish-done o m owes called =
        comes-next _ (owing_round o) ps qs called m owes.others owes.holds (λ v w c. (c.0, c.1.finishes.4))

    pub finish-again : (o again : MemberOwing) → OwesAt o ps
        → IsCalled (λ v w. FinishesAt (owing_round o) v (Err again) w) (owing_round o) ps qs
        → OwesAt again qs × (owing_round again ≡ owing_round o)
    finish-again o again owes called =
        owes-here _ (owing_round o) ps qs called again owes.others owes.holds (λ v w c. (c.0, c.1.finishes.3))

    -- a look
    pub poll-through : (t : MemberWait) (m : Member) → WaitsAt t ps
        → IsCalled (λ v w. PollsAt (wait_round t) (wait_of t) v (polled.Through m) w) (wait_round t) ps qs
        → Comes (wait_round t) m qs
    poll-through t m waits called =
        comes-next _ (wait_round t) ps qs called m (else-of (wait_round t) waits.ready) waits.holds
        (λ v w c. (c.0, c.1.ready))

    pub poll-pending : (t again : MemberWait) → WaitsAt t ps
        → IsCalled (λ v w. PollsAt (wait_round t) (wait_of t) v (polled.Pending again) w) (wait_round t) ps qs
        → WaitsAt again qs × (wait_round again ≡ wait_round t)
    poll-pending t again waits called =
        waits-here _ (wait_round t) ps qs called again (else-of (wait_round t) waits.ready) waits.holds
        (λ v w c. (c.0, c.1.polled.1, c.1.ready))

    -- a cancel
    pub cancel-withdrawn : (t : MemberWait) (m : Member) → WaitsAt t ps
        → IsCalled (λ v w. CancelsAt (wait_round t) (wait_of t) v (left.Withdrawn m) w) (wait_round t) ps qs
        → Comes (wait_round t) m qs
    cancel-withdrawn t m waits called =
        comes-again _ (wait_round t) ps qs called m (else-of (wait_round t) waits.ready) waits.holds
        (λ v w c. (c.0, c.1.left.1.ready, withdrawn-holds _ v w c.1.left))

    pub cancel-late : (t : MemberWait) (m : Member) → WaitsAt t ps
        → IsCalled (λ v w. CancelsAt (wait_round t) (wait_of t) v (left.TooLate m) w) (wait_round t) ps qs
        → Comes (wait_round t) m qs
    cancel-late t m waits called =
        comes-next _ (wait_round t) ps qs called m (else-of (wait_round t) waits.ready) waits.holds
        (λ v w c. (c.0, late-ready _ v w c.1.left))

    pub cancel-contended : (t : MemberWait) (saw found : ℕ) (l : MemberLeaving) → WaitsAt t ps
        → IsCalled (λ v w. CancelsAt (wait_round t) (wait_of t) v (left.Contended saw found l) w) (wait_round t) ps qs
        → LeavesOn l qs × (leaving_round l ≡ wait_round t)
    cancel-contended t saw found l waits called =
        leaves-here _ (wait_round t) ps qs called l (else-of (wait_round t) waits.ready) waits.holds
        (λ v w c. (c.0, c.1.left.1.still))

    -- a leaving that goes on
    pub leave-withdrawn : (k : ℕ) (l : MemberLeaving) (m : Member) → LeavesOn l ps
        → IsCalled (λ v w. LeavesAt (leaving_round l) k v (left.Withdrawn m) w) (leaving_round l) ps qs
        → Comes (leaving_round l) m qs
    leave-withdrawn k l m leaves called =
        comes-again _ (leaving_round l) ps qs called m leaves.others leaves.holds
        (λ v w c. (c.0, c.1.1.ready, withdrawn-holds k v w c.1))

    pub leave-late : (k : ℕ) (l : MemberLeaving) (m : Member) → LeavesOn l ps
        → IsCalled (λ v w. LeavesAt (leaving_round l) k v (left.TooLate m) w) (leaving_round l) ps qs
        → Comes (leaving_round l) m qs
    leave-late k l m leaves called =
        comes-next _ (leaving_round l) ps qs called m leaves.others leaves.holds
        (λ v w c. (c.0, late-ready k v w c.1))

    pub leave-contended : (k saw found : ℕ) (l again : MemberLeaving) → LeavesOn l ps
        → IsCalled (λ v w. LeavesAt (leaving_round l) k v (left.Contended saw found again) w) (leaving_round l) ps qs
        → LeavesOn again qs × (leaving_round again ≡ leaving_round l)
    leave-contended k saw found l again leaves called =
        leaves-here _ (leaving_round l) ps qs called again leaves.others leaves.holds
        (λ v w c. (c.0, c.1.1.still))
