-- Passes are taken in from the last of the given ones to the first.
use Rattle.std.proofs.Common.{◌≡◌, ℕ, ◌+◌, List, [], ◌∷◌, ◌++◌, Some, length, set, slice_get, sym, ap, ◌∙◌, subst, arith}
use Rattle.std.proofs.lemmas.List.{length_push}
use Rattle.cqs_barrier_object.specs.declared.entries.BarrierEntry.{BarrierEntry}
use Rattle.cqs_rule_laws.specs.declared.client.ClientWords.{Ghosts}
use Rattle.cqs_rule.specs.declared.queue.Pass.{Pass}
use Rattle.cqs_rule.specs.Passes.{pass_view}
use Rattle.cqs_barrier.specs.Parked.{BarrierClient}
use Rattle.cqs_rule_laws.specs.CallRule.{IsReady}
use Rattle.cqs_barrier_rounds.specs.Passes.{AreCalledWithin}
use Rattle.cqs_barrier_rounds.specs.Seats.{AreReady, HasTaken, HasTakenIn}
use Rattle.cqs_barrier_rounds.proofs.Lasts.{AreFirst, first-last}
use Rattle.cqs_barrier_rounds.proofs.Placed.{called-down}

module _ {g : Ghosts BarrierClient (Unit {0}) BarrierEntry} where
  pub take-there : (left fewer givens : List (Pass BarrierClient (Unit {0}) BarrierEntry g)) (i : ℕ)
      (given : Pass BarrierClient (Unit {0}) BarrierEntry g) → AreFirst left givens → left ≡ fewer ++ given ∷ []
      → i ≡ length fewer → slice_get givens i ≡ Some given
  take-there left fewer givens i given first parts at = rw at (first-last left fewer givens given first parts)

  pub take-ready : (left fewer givens ps qs : List (Pass BarrierClient (Unit {0}) BarrierEntry g)) (i : ℕ)
      (given p : Pass BarrierClient (Unit {0}) BarrierEntry g) → left ≡ fewer ++ given ∷ [] → i ≡ length fewer
      → AreReady ps → AreCalledWithin (HasTaken givens) (length left) (length givens) ps qs → slice_get qs i ≡ Some p
      → IsReady (pass_view p).facts
  take-ready left fewer givens ps qs i given p parts at ready taken there =
      let long : length left ≡ length fewer + 1 = ap length parts ∙ length_push fewer given in
      ready i p (sym (taken.before i (omega arith)) ∙ there)

  pub take-more : (left fewer givens ps qs : List (Pass BarrierClient (Unit {0}) BarrierEntry g)) (i : ℕ)
      (given p q : Pass BarrierClient (Unit {0}) BarrierEntry g) → AreFirst left givens → left ≡ fewer ++ given ∷ []
      → i ≡ length fewer → AreCalledWithin (HasTaken givens) (length left) (length givens) ps qs
      → slice_get qs i ≡ Some p → HasTakenIn given p q
      → AreCalledWithin (HasTaken givens) (length fewer) (length givens) ps (set qs i q)
  take-more left fewer givens ps qs i given p q first parts at taken there met =
      let long : length left ≡ length fewer + 1 = ap length parts ∙ length_push fewer given in
      let few = first.few in
      let more : length left ≡ i + 1 = omega arith in
      subst (λ n. AreCalledWithin (HasTaken givens) n (length givens) ps (set qs i q)) at
      (called-down (HasTaken givens) i (length givens) ps qs p q
      (subst (λ n. AreCalledWithin (HasTaken givens) n (length givens) ps qs) more taken) (omega arith) there
      (record { given = given; there = take-there left fewer givens i given first parts at; taken = met }))
