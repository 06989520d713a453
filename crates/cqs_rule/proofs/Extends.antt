-- A pass that has claimed a slot can make the segment of a number that it draws.
use Rattle.std.proofs.Common.{◌≡◌, ℕ, ◌<◌, true, sym, subst, ⊎_elim, inl, inr, arith}
use Rattle.cqs_rule_laws.specs.declared.client.ClientWords.{Ghosts}
use Rattle.cqs_rule_laws.specs.Ample.{AreEnough, IsAmple}
use Rattle.cqs_rule.specs.declared.queue.Pass.{Pass}
use Rattle.cqs_rule.specs.declared.queue.Queue.{Queue}
use Rattle.cqs_rule.specs.Claims.{CanExtend, HasSpares}
use Rattle.cqs_rule.specs.Passes.{IsOf, pass_view}
use Rattle.cqs_rule.proofs.Segments.{all-slots}

module _ {C S E : Type 0} {g : Ghosts C S E} where
  -- the queue says that its table is ample
  pub says-ample : (q : Queue C S E) (p : Pass C S E g) → IsOf q p → IsAmple (pass_view p) → q.ample ≡ true
  says-ample q p b ample =
      let slots = all-slots q p b in
      b.ample.1 (subst (λ (n : ℕ × ℕ × ℕ). AreEnough n.0 n.1 n.2)
      (λ i. (b.cells i, b.passes i, sym slots i)) ample)

  -- and where it says so, that of its pass is
  pub is-ample : (q : Queue C S E) (p : Pass C S E g) → IsOf q p → q.ample ≡ true → IsAmple (pass_view p)
  is-ample q p b says =
      let slots = all-slots q p b in
      subst (λ (n : ℕ × ℕ × ℕ). AreEnough n.0 n.1 n.2)
      (λ i. (sym b.cells i, sym b.passes i, slots i)) (b.ample.0 says)

  pub claimed-extends : (most : ℕ) (q : Queue C S E) (p : Pass C S E g) → IsOf q p → 0 < most
      → HasSpares most (pass_view p) → CanExtend q p
  claimed-extends most q p b some has = ⊎_elim (λ ample. inl (says-ample q p b ample))
      (λ enough. inr (omega arith)) has
