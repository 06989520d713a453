-- What a worker told its gate, call by call.
use Rattle.std.proofs.Common.{◌≡◌, ℕ, zero, suc, ◌+◌, ◌<◌, ◌≤◌, ◌⊎◌, inl, inr, ◌&&◌, Bool, true, refl, sym, ap, ◌∙◌, arith}
use Rattle.std.proofs.lemmas.Bool.{cases_lt}
use Rattle.cqs_work.specs.Gated.{Gated, HasTold, next_call, calls_on, gated}

-- no call
pub told-none : (f : Gated) → HasTold f f 0
told-none f = record { same = refl; call = refl; each = λ call past before. absurd (omega (arith, past, before)) }

calls-sum : (one other call : ℕ) → calls_on (one + other) call ≡ calls_on other (calls_on one call)
calls-sum zero other call =
    let none : zero + other ≡ other = omega arith in ap (λ n. calls_on n call) none
calls-sum (suc one) other call =
    let more : suc one + other ≡ suc (one + other) = omega arith in
    ap (λ n. calls_on n call) more ∙ calls-sum one other (next_call call)

-- some calls, and then others
pub told-then : (f g k : Gated) (one other all : ℕ) → HasTold f g one → HasTold g k other → all ≡ one + other
    → HasTold f k all
told-then f g k one other all first second sum = record {
  same = second.same ∙ first.same;
  call = second.call ∙ ap (calls_on other) first.call ∙ sym (calls-sum one other f.call)
      ∙ ap (λ n. calls_on n f.call) (sym sum);
  each = λ call past before. go call past before (cases_lt g.call call);
}
  where
    go : (call : ℕ) → f.call < call → call ≤ k.call → (g.call < call) ⊎ (call ≤ g.call) → f.told call ≡ true
    go call past before (inr early) = first.each call past early
    go call past before (inl late) = ap (λ t. t call) (sym first.same) ∙ second.each call late before

both-true : (a b : Bool) → a ≡ true → b ≡ true → (a && b) ≡ true
both-true a b one other = ap (λ x. x && b) one ∙ other

-- one call, of which the gate was told before and after
module _ {G : Type 0} (begun ended : G → ℕ → ℕ → Bool) (gate then_gate : G) (worker then_worker call then_call : ℕ)
  where
    pub told-one : then_gate ≡ gate → then_worker ≡ worker → then_call ≡ next_call call
        → begun then_gate then_worker then_call ≡ true → ended then_gate then_worker then_call ≡ true
        → HasTold (gated begun ended gate worker call) (gated begun ended then_gate then_worker then_call) 1
    told-one same_gate same_worker next begins ends = record {
      same = ap (λ x. (gated begun ended x then_worker call).told) same_gate
          ∙ ap (λ w. (gated begun ended gate w call).told) same_worker;
      call = next;
      each = λ k past before.
          let this : k ≡ then_call = omega (arith, past, before, next) in
          let told : (gated begun ended then_gate then_worker call).told then_call ≡ true
          = both-true _ _ begins ends in
          let here : (gated begun ended gate worker call).told then_call ≡ true
          = ap (λ x. (gated begun ended x worker call).told then_call) (sym same_gate)
          ∙ ap (λ w. (gated begun ended then_gate w call).told then_call) (sym same_worker) ∙ told in
          ap (gated begun ended gate worker call).told this ∙ here;
    }
