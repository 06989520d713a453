-- What holds of the passes of all rounds after a split.
use Rattle.std.proofs.Common.{◌≡◌, ℕ, List, length, sym, ap, ◌∙◌, arith}
use Rattle.std.proofs.lemmas.Option.{same_Some}
use Rattle.cqs_core.proofs.Places.{get-there, get-below}
use Rattle.cqs_barrier_object.specs.declared.entries.BarrierEntry.{BarrierEntry}
use Rattle.cqs_rule_laws.specs.declared.client.ClientWords.{Ghosts}
use Rattle.cqs_rule.specs.declared.queue.Pass.{Pass}
use Rattle.cqs_barrier.specs.Parked.{BarrierClient}
use Rattle.cqs_barrier_rounds.specs.Passes.{AreCalled}
use Rattle.cqs_barrier_rounds.specs.Seats.{AreBetween, AreReady, HasSplit, HoldEach}
use Rattle.cqs_barrier_rounds.proofs.Splits.{made-free, made-ready}

module _ {g : Ghosts BarrierClient (Unit {0}) BarrierEntry} where
  pub split-ready : (gives : ℕ) (made ps qs : List (Pass BarrierClient (Unit {0}) BarrierEntry g)) → AreReady ps
      → AreCalled (HasSplit gives made) ps qs → AreReady qs
  split-ready gives made ps qs ready split r q there =
      let low = get-below qs r q there in
      let many = split.many in
      let old = get-there ps r (omega arith) in
      let new = split.called r old.0 q old.1 there in
      made-ready gives new.new old.0 q new.gave (ready r old.0 old.1)

  pub split-holds : (made ps qs : List (Pass BarrierClient (Unit {0}) BarrierEntry g)) → HoldEach 2 ps
      → AreCalled (HasSplit 1 made) ps qs → HoldEach 1 qs
  split-holds made ps qs holds split r q there =
      let low = get-below qs r q there in
      let many = split.many in
      let old = get-there ps r (omega arith) in
      let new = split.called r old.0 q old.1 there in
      let less = ap (λ f. f.has.held) new.gave.gave.facts_are in
      let held = holds r old.0 old.1 in
      omega (arith, less)

  pub split-between : (gives : ℕ) (made ps qs : List (Pass BarrierClient (Unit {0}) BarrierEntry g))
      → length made ≡ length ps → AreCalled (HasSplit gives made) ps qs → AreBetween made
  split-between gives made ps qs long split r x there =
      let low = get-below made r x there in
      let many = split.many in
      let old = get-there ps r (omega arith) in
      let now = get-there qs r (omega arith) in
      let new = split.called r old.0 now.0 old.1 now.1 in
      let one : x ≡ new.new = same_Some x new.new (sym there ∙ new.there) in
      rw one (made-free gives new.new old.0 now.0 new.gave).between
