-- A put is its steps: a spare slot is claimed, a number is drawn to resume at with the element, and the resumption
-- goes on from there.
use Rattle.std.proofs.Common.{◌≡◌, ℕ, List, [], ◌∷◌, Some, refl, ap, ◌∙◌, subst, arith}
use Rattle.cqs_core.specs.QueueSteps.{puts, row_of}
use Rattle.cqs_pool_object.specs.declared.entries.PoolEntry.{PoolEntry}
use Rattle.cqs_pool_object.specs.declared.entries.PoolEntry.TheVariants as entry
use Rattle.cqs_pool_object.specs.PoolEntries.{IsLegal}
use Rattle.cqs_rule_laws.specs.declared.view.Facts.{Facts}
use Rattle.cqs_rule_laws.specs.declared.view.View.{View}
use Rattle.cqs_rule_laws.specs.Counts.{DrewBy}
use Rattle.cqs_rule_laws.specs.Lists.{Has, without}
use Rattle.cqs_rule_laws.specs.Called.{Called}
use Rattle.cqs_rule_laws.proofs.Calls.{called-by, called-and, called-then, same-then}
use Rattle.cqs_rule_laws.proofs.Rules.{call-rule}
use Rattle.cqs_rule.specs.Claims.{Claimed}
use Rattle.cqs_rule.proofs.Claiming.{saw-left}
use Rattle.cqs_pool.specs.declared.answers.Placed.{Placed}
use Rattle.cqs_pool.specs.Answers.{Ends}
use Rattle.cqs_rule_laws.specs.CallRule.{IsReady}
use Rattle.cqs_pool.specs.Calls.{CallRule}
use Rattle.cqs_pool.specs.Entries.{placed_further}
use Rattle.cqs_pool.specs.Pool.{pool_object}
use Rattle.cqs_pool.specs.Steps.{HasEnded}
use Rattle.cqs_pool.proofs.ResumeSteps.{Follows, ends-so, ends-called, further-names}

module _ {T : Type 0} where
  -- The number was drawn after a claim.
  record Drew (v : View PoolEntry T) (k e : ℕ) (u : View PoolEntry T) : Type 0 where
    follows : Follows v u
    called : Called pool_object v (entry.Put v.number e ∷ []) (entry.Put v.number e ∷ []) u
    slots : u.facts.has.slots ≡ without e v.facts.has.slots
    further : u.facts.has.further ≡ v.facts.has.further
    waits : u.facts.waits ≡ v.facts.waits

  drew : (v t u : View PoolEntry T) (k e : ℕ) → Claimed 1 v t → DrewBy pool_object puts (row_of puts) e t k u
      → Drew v k e u
  drew v t u k e claimed d =
      let spares = t.facts.spare_slots in
      let left = saw-left pool_object v t claimed.left.0 spares v.facts.duties claimed.left.1 in
      let was = left.facts_are in
      let is = d.facts_are in
      let number : t.number ≡ v.number = left.same.number in
      record {
        follows = record {
          same = same-then v t u left.same d.same;
          passed = ap (λ (f : Facts). f.passed) is ∙ ap (λ (f : Facts). f.passed) was;
          heads = claimed.left.0;
          heads_are = ap (λ (f : Facts). f.heads) is ∙ ap (λ (f : Facts). f.heads) was;
        };
        called = subst (λ p. Called pool_object v (entry.Put p e ∷ []) (entry.Put p e ∷ []) u) number
            (called-then pool_object v t u _ [] [] (entry.Put t.number e ∷ [])
            (called-by pool_object v t _ [] left) d);
        slots = ap (λ (f : Facts). f.has.slots) is ∙ ap (λ (f : Facts). without e f.has.slots) was;
        further = ap (λ (f : Facts). f.has.further) is ∙ ap (λ (f : Facts). f.has.further) was;
        waits = ap (λ (f : Facts). f.waits) is ∙ ap (λ (f : Facts). f.waits) was;
      }

  pub put-rule : (v t u w : View PoolEntry T) (k e : ℕ) (a : Placed) → Claimed 1 v t
      → DrewBy pool_object puts (row_of puts) e t k u → HasEnded 63 (Some k) e u a w → Has v.number v.own
      → IsLegal w.opening.size w.seen → CallRule v (entry.Put v.number e ∷ []) (placed_further e a) w
  put-rule v t u w k e a claimed d ended own legal =
      call-rule pool_object v w (entry.Put v.number e ∷ []) (placed_further e a)
      (called-and pool_object v u w _ _ _ _ (drew v t u k e claimed d).called
      (ends-called u w 63 (Some k) e a ended).0)
      (λ n. refl, tt) (further-names e a) own legal

  pub put-ends : (v t u w : View PoolEntry T) (k e : ℕ) (a : Placed) → IsReady v.facts → Claimed 1 v t
      → DrewBy pool_object puts (row_of puts) e t k u → HasEnded 63 (Some k) e u a w
      → Ends v e (without e v.facts.has.slots) v.facts.waits a w
  put-ends v t u w k e a ready claimed d ended =
      let was = drew v t u k e claimed d in
      subst (λ (z : List ℕ × List ℕ). Ends v e z.0 z.1 a w)
      (λ i. (was.slots i, was.waits i))
      (ends-so v u w 63 (Some k) e a was.follows (was.further ∙ ready.further) (omega arith) ended)
