-- The links of slots: what stays of one at each step, and what a step on it and a load of it come to.
use Rattle.std.proofs.Common.{◌≡◌, ℕ, ◌≤◌, List, ◌∙◌, ⊎_elim, inl, inr, arith}
use Rattle.cqs_core.specs.Parts.{IsPrefix}
use Rattle.cqs_slots.specs.Shown.{IsLink}
use Rattle.cqs_slots.proofs.Lists.{has_prefix, home-prefix}

-- A link stays one where its word does, for the same segment or a later one.
pub link-stays : (homes homes' outs outs' : List ℕ) (last last' n n' : ℕ) → IsPrefix homes homes'
    → IsPrefix outs outs' → last ≤ last' → n' ≡ n → IsLink homes outs last n → IsLink homes' outs' last' n'
link-stays homes homes' outs outs' last last' n n' more gone up same link = record {
  id = link.id;
  slot = link.slot;
  word = same ∙ link.word;
  fits = link.fits;
  named = ⊎_elim (λ h. inl (home-prefix homes homes' link.id link.slot more h)) inr link.named;
  passed = λ s above below. has_prefix s outs outs' gone (link.passed s (omega arith) below);
}

-- the word 0 names nothing
pub link-none : (homes outs : List ℕ) (last n : ℕ) → n ≡ 0 → IsLink homes outs last n
link-none homes outs last n none = record {
  id = 0;
  slot = 0;
  word = omega arith;
  fits = omega arith;
  named = inr (omega arith);
  passed = λ s above below. absurd (omega arith);
}
