-- Opening the resources of a plan.
use Rattle.std.proofs.Common.{◌≡◌, ◌⊎◌, inl, inr, ℕ, ◌+◌, ◌<◌, ◌≤◌, List, [], ◌∷◌, ◌++◌, Some, length, get_or, slice_get, ap, sym, ◌∙◌, arith}
use Rattle.std.specs.Prelude.{slice_index}
use Rattle.std.proofs.lemmas.Bool.{cases_lt}
use Rattle.std.proofs.lemmas.List.{length_push}
use Rattle.std.proofs.lemmas.Option.{slice_get-get_or}
use Rattle.cqs_core.proofs.Places.{get-below, get-append_below, get-push_at}
use Rattle.cqs_plan.specs.declared.plans.resource.Resource.{Resource}
use Rattle.cqs_floor_alone.specs.Opening.{AreOpened}
use Rattle.cqs_floor_alone_kinds.specs.Stores.{Store, IsOpened}

-- one more resource is opened
pub opened-push : {X : Type 0} (s : Store X) (resources : List Resource) (room : List ℕ) (soles : List X)
    (resource : Resource) (sole : X)
    → length soles < length resources → resource ≡ get_or resources (length soles) resource
    → IsOpened s resource.kind (slice_index room (length soles)) sole
    → AreOpened s resources room soles → AreOpened s resources room (soles ++ sole ∷ [])
opened-push {X} s resources room soles resource sole below is opens opened =
    record { each = λ at r x named got. go at r x named got (cases_lt at (length soles)) }
  where
    go : (at : ℕ) (r : Resource) (x : X) → slice_get resources at ≡ Some r
        → slice_get (soles ++ sole ∷ []) at ≡ Some x
        → (at < length soles) ⊎ (length soles ≤ at)
        → IsOpened s r.kind (slice_index room at) x
    go at r x named got (inl before) =
        opened.each at r x named (sym (get-append_below soles (sole ∷ []) at before) ∙ got)
    go at r x named got (inr past) =
        let last : at ≡ length soles =
        omega (arith, get-below (soles ++ sole ∷ []) at x got, length_push soles sole) in
        let sole_is : Some sole ≡ Some x = sym (get-push_at soles sole at last) ∙ got in
        let same_sole : sole ≡ x = cc in
        let named_is : Some (get_or resources (length soles) resource) ≡ Some r =
        sym (slice_get-get_or resources (length soles) resource below)
        ∙ ap (slice_get resources) (sym last) ∙ named in
        let same : get_or resources (length soles) resource ≡ r = cc in
        let same_resource : resource ≡ r = is ∙ same in
        rw (last, ← same_sole, ← same_resource) opens
