-- A pass that may make a jump may still make it after it tried to.
use Rattle.std.proofs.Common.{◌≡◌, ◌≢◌, ℕ, ◌/◌, ap, ◌∙◌}
use Rattle.std.specs.Prelude.{Result, Ok, Err, OnOk, IfErr}
use Rattle.cqs_rule_laws.specs.declared.view.Facts.{Facts}
use Rattle.cqs_rule_laws.specs.declared.view.View.{View}
use Rattle.cqs_rule_laws.specs.Jumped.{Jumped, MayJump}
use Rattle.cqs_rule_laws.specs.Object.{Object, Primitive}
use Rattle.cqs_find.proofs.Numbers.{outs-grow}

module _ {C E S : Type 0} (object : Object E) (primitive : C → Primitive E S) where
  may-then : (from to n : ℕ) (v w : View E S) → MayJump from to v → Jumped object primitive from to v n w
      → MayJump from to w
  may-then from to n v w may j = record {
    owes = ap (λ (f : Facts). f.doing) j.saw.facts_are ∙ may.owes;
    order = may.order;
    out = λ k low below. outs-grow v w (k / 32) j.saw.same.segments (may.out k low below);
  }

  pub may-again : {T : Type 0} (from to : ℕ) (result : Result T ℕ) (v w : View E S) → MayJump from to v
      → OnOk result (Jumped object primitive from to v from w)
      → IfErr result (λ n. (n ≢ from) × Jumped object primitive from to v n w) → MayJump from to w
  may-again from to (Ok made) v w may jumped missed = may-then from to from v w may jumped
  may-again from to (Err n) v w may jumped missed = may-then from to n v w may missed.1
