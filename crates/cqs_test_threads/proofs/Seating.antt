-- Passes for the members of a crew: each gets a party of every round.
use Rattle.std.proofs.Common.{◌≡◌, ℕ, ◌+◌, ◌≤◌, List, Some, length, slice_get, refl, sym, ap, ◌∙◌, subst, arith, Result, Ok, Err}
use Rattle.std.specs.Prelude.{OnOk, OnErr}
use Rattle.std.proofs.lemmas.Option.{same_Some}
use Rattle.cqs_core.proofs.Places.{get-there, get-below}
use Rattle.cqs_barrier_object.specs.declared.entries.BarrierEntry.{BarrierEntry}
use Rattle.cqs_rule_laws.specs.declared.client.ClientWords.{Ghosts}
use Rattle.cqs_rule.specs.declared.queue.Pass.{Pass}
use Rattle.cqs_rule.specs.Passes.{pass_view}
use Rattle.cqs_rule_laws.specs.Views.{first_facts}
use Rattle.cqs_barrier.specs.Parked.{BarrierClient}
use Rattle.cqs_rule_laws.specs.CallRule.{IsReady}
use Rattle.cqs_barrier_rounds.specs.declared.members.Member.{Member}
use Rattle.cqs_barrier_rounds.specs.Passes.{AreCalled}
use Rattle.cqs_barrier_rounds.specs.Seats.{AreReady, HasSplit, HasTaken, HoldEach}
use Rattle.cqs_barrier_rounds.proofs.Splits.{made-ready}
use Rattle.cqs_test_threads.specs.Crew.{HoldFor}
use Rattle.cqs_test_threads.specs.Goes.{MayGoOn}

module _ {g : Ghosts BarrierClient (Unit {0}) BarrierEntry} where
  pub enough : (members : ℕ) (ps : List (Pass BarrierClient (Unit {0}) BarrierEntry g)) → 1 ≤ members
      → HoldFor members ps → HoldEach 1 ps
  enough members ps some holds r p there = let held = holds r p there in omega arith

  pub split-ready : (gives : ℕ) (made ps qs : List (Pass BarrierClient (Unit {0}) BarrierEntry g)) → AreReady ps
      → AreCalled (HasSplit gives made) ps qs → AreReady qs
  split-ready gives made ps qs ready split r q there =
      let low = get-below qs r q there in
      let many = split.many in
      let old = get-there ps r (omega arith) in
      let new = split.called r old.0 q old.1 there in
      made-ready gives new.new old.0 q new.gave (ready r old.0 old.1)

  pub split-holds : (members fewer : ℕ) (made ps qs : List (Pass BarrierClient (Unit {0}) BarrierEntry g))
      → members ≡ fewer + 1 → HoldFor members ps → AreCalled (HasSplit 1 made) ps qs → HoldFor fewer qs
  split-holds members fewer made ps qs parts holds split r q there =
      let low = get-below qs r q there in
      let many = split.many in
      let old = get-there ps r (omega arith) in
      let new = split.called r old.0 q old.1 there in
      let less = ap (λ f. f.has.held) new.gave.gave.facts_are in
      let held = holds r old.0 old.1 in
      omega (arith, less)

  -- the new passes
  made-facts : (made ps qs : List (Pass BarrierClient (Unit {0}) BarrierEntry g)) → length made ≡ length ps
      → AreCalled (HasSplit 1 made) ps qs → (r : ℕ) (x : Pass BarrierClient (Unit {0}) BarrierEntry g)
      → slice_get made r ≡ Some x → (pass_view x).facts ≡ first_facts 1
  made-facts made ps qs long split r x there =
      let low = get-below made r x there in
      let many = split.many in
      let old = get-there ps r (omega arith) in
      let now = get-there qs r (omega arith) in
      let new = split.called r old.0 now.0 old.1 now.1 in
      let one : x ≡ new.new = same_Some x new.new (sym there ∙ new.there) in
      rw one new.gave.came.facts

  pub split-sits : (m : Member) (made ps qs : List (Pass BarrierClient (Unit {0}) BarrierEntry g))
      → length made ≡ length ps → AreCalled (HasSplit 1 made) ps qs → MayGoOn m made
  split-sits m made ps qs long split = record {
    ready = λ r x there.
        subst IsReady (sym (made-facts made ps qs long split r x there)) (record { idle = refl; further = refl });
    holds = λ r x high there.
        let held = ap (λ f. f.has.held) (made-facts made ps qs long split r x there) in
        omega (arith, held);
  }

  -- what is left is for one's own member
  pub own-sits : (m : Member) (n : ℕ) (ps : List (Pass BarrierClient (Unit {0}) BarrierEntry g)) → AreReady ps
      → HoldFor (n + 1) ps → MayGoOn m ps
  own-sits m n ps ready holds = record {
    ready = ready;
    holds = λ r x high there. let held = holds r x there in omega arith;
  }

  -- after passes were taken in
  pub met-ready : (givens ps qs : List (Pass BarrierClient (Unit {0}) BarrierEntry g))
      → AreCalled (HasTaken givens) ps qs → AreReady qs
  met-ready givens ps qs met r q there =
      let low = get-below qs r q there in
      let many = met.many in
      let old = get-there ps r (omega arith) in
      (met.called r old.0 q old.1 there).taken.ready

  -- or not
  pub met-back : {A B X : Type 0} (r : Result A B) (givens : List (Pass BarrierClient (Unit {0}) BarrierEntry g))
      (p q : X) (in_it : X → List (Pass BarrierClient (Unit {0}) BarrierEntry g))
      → OnOk r (AreCalled (HasTaken givens) (in_it p) (in_it q)) → OnErr r (q ≡ p) → AreReady (in_it p)
      → AreReady (in_it q)
  met-back (Ok done) givens p q in_it met same ready = met-ready givens (in_it p) (in_it q) met
  met-back (Err refused) givens p q in_it met same ready = subst (λ z. AreReady (in_it z)) (sym same) ready
