-- Lists of what resources are kept as, of which one after the other is split.
use Rattle.std.proofs.Common.{◌≡◌, ◌≢◌, ◌⊎◌, inl, inr, ℕ, ◌+◌, ◌<◌, List, [], ◌∷◌, ◌++◌, Some, length, set, slice_get, ap, sym, ◌∙◌, subst, arith}
use Rattle.std.proofs.lemmas.Bool.{cases_eq}
use Rattle.cqs_core.proofs.Places.{get-append_left, get-push_at, get-set_else, get-set_here}
use Rattle.cqs_floor_shared_queue.specs.Openings.{HasSplitAt}
use Rattle.cqs_floor_shared_kinds.specs.ShareCalls.{HasSplit}
use Rattle.cqs_floor_shared_kinds.specs.Shares.{Share}

pub split-next : {X : Type 0} (s : Share X) (gives : ℕ → ℕ) (number : ℕ) (old made now : List X) (at : ℕ) (x one y : X)
    → length made ≡ at → slice_get now at ≡ Some x → slice_get old at ≡ Some x → HasSplit s (gives at) x one y
    → s.number one ≡ number
    → ((k : ℕ) (z : X) → k < at → slice_get old k ≡ Some z → HasSplitAt s gives number made now k z)
    → (k : ℕ) (z : X) → k < at + 1 → slice_get old k ≡ Some z
    → HasSplitAt s gives number (made ++ one ∷ []) (set now at y) k z
split-next {X} s gives number old made now at x one y long here was split number_is before k z low got =
    go (cases_eq k at)
  where
    go : (k ≡ at) ⊎ (k ≢ at) → HasSplitAt s gives number (made ++ one ∷ []) (set now at y) k z
    go (inl same) =
        let found : Some x ≡ Some z = sym was ∙ ap (slice_get old) (sym same) ∙ got in
        let is : x ≡ z = cc in
        record {
          one = one;
          its = get-push_at made one k (same ∙ sym long);
          after = y;
          there = ap (slice_get (set now at y)) same ∙ get-set_here now at x y here;
          split = subst (λ n. HasSplit s (gives n) z one y) (sym same)
              (subst (λ v. HasSplit s (gives at) v one y) is split);
          number_is = number_is;
        }
    go (inr other) =
        let b = before k z (omega (arith, low, other)) got in
        record {
          one = b.one;
          its = get-append_left made (one ∷ []) k b.one b.its;
          after = b.after;
          there = get-set_else now at k y (λ e. other (sym e)) ∙ b.there;
          split = b.split;
          number_is = b.number_is;
        }
