-- What the jobs hold and wait for, counted before and after a transfer and a written wait.
use Rattle.std.proofs.Common.{◌≡◌, ◌≢◌, ℕ, ◌+◌, ◌<◌, ◌==◌, Bool, true, false, List, [], ◌∷◌, ◌++◌, IsSome, drop, length, set, get_or, slice_get, sum_by, count_by, refl, ap, sym, ◌∙◌, eq-eqb, ne_eqb, eqb-true, arith}
use Rattle.std.specs.Option.{option_map}
use Rattle.std.proofs.lemmas.List.{append-nil, length_push, map-set}
use Rattle.std.proofs.lemmas.List.Sums.{sum_by-set, fold_push}
use Rattle.cqs_core.specs.Keyed.{without}
use Rattle.cqs_core.proofs.Counts.{bit}
use Rattle.cqs_plan.specs.Floor.{Holding, oldest}
use Rattle.cqs_floor_common.specs.HeldElements.{with_less, with_more}
use Rattle.cqs_floor_common.proofs.Holdings.{elements-append, elements-away, elements-here, elements-kept, elements-less, held-there, set-same}
use Rattle.cqs_floor_common.specs.Holdings.{elements_of, held_at}
use Rattle.cqs_floor_alone.specs.declared.transfers.Transfer.{Transfer}
use Rattle.cqs_floor_alone.specs.declared.transfers.Transfer.TheVariants.{Got, GaveBack}
use Rattle.cqs_floor_alone.specs.Ledger.{after_transfer, holds_after}

-- a count after a write
pub count-set : {X : Type 0} (p : X → Bool) (xs : List X) (i : ℕ) (old new d : X) → i < length xs
    → get_or xs i d ≡ old
    → count_by p (set xs i new) + bit (p old) ≡ count_by p xs + bit (p new)
count-set p xs i old new d below was = rw (← was) (sum_by-set (λ x. bit (p x)) xs i new d below)

-- the oldest of them is that of the oldest
pub oldest-elements : (at : ℕ) (hs : List Holding)
    → slice_get (elements_of at hs) 0 ≡ option_map (λ h. h.element) (oldest at hs)
oldest-elements at [] = refl
oldest-elements at (h ∷ hs) = go (h.at == at) refl (oldest-elements at hs)
  where
    go : (b : Bool) → h.at == at ≡ b → slice_get (elements_of at hs) 0 ≡ option_map (λ h. h.element) (oldest at hs)
        → slice_get (elements_of at (h ∷ hs)) 0 ≡ option_map (λ h. h.element) (oldest at (h ∷ hs))
    go true same rest = rw same refl
    go false other rest = rw other rest

-- a job got an element of a resource, or a permit
module _ (holds : List (List Holding)) (job at element : ℕ) where
  abbrev before : List Holding
  before = get_or holds job []

  abbrev newest : Holding
  newest = record { at = at; element = element }

  pub held-got : held_at (after_transfer holds (Got job at element)) at ≡ with_more (held_at holds at) job element
  held-got =
      map-set (elements_of at) holds job (before ++ newest ∷ [])
      ∙ ap (set (held_at holds at) job)
      (elements-append at before (newest ∷ []) ∙ ap (λ es. elements_of at before ++ es) (elements-here at element)
      ∙ ap (λ es. es ++ element ∷ []) (sym (held-there holds at job)))

  pub else-got : (q : ℕ) → at ≢ q → held_at (after_transfer holds (Got job at element)) q ≡ held_at holds q
  else-got q other =
      map-set (elements_of q) holds job (before ++ newest ∷ [])
      ∙ ap (set (held_at holds q) job)
      (elements-append q before (newest ∷ []) ∙ ap (λ es. elements_of q before ++ es) (elements-away at q element other)
      ∙ append-nil (elements_of q before) ∙ sym (held-there holds q job))
      ∙ set-same (held_at holds q) job []

  pub many-got : job < length holds → sum_by (λ hs. length hs) (after_transfer holds (Got job at element))
      ≡ sum_by (λ hs. length hs) holds + 1
  many-got below =
      let written = sum_by-set (λ (hs : List Holding). length hs) holds job (before ++ newest ∷ []) [] below in
      let more = length_push before newest in
      omega (arith, written, more)

length-without : (at : ℕ) (hs : List Holding) → IsSome (oldest at hs)
    → length (without (λ h. h.at) at hs) + 1 ≡ length hs
length-without at [] some = absurd (cc)
length-without at (h ∷ hs) some = go (h.at == at) refl (length-without at hs)
  where
    go : (b : Bool) → h.at == at ≡ b
        → (IsSome (oldest at hs) → length (without (λ h. h.at) at hs) + 1 ≡ length hs)
        → length (without (λ h. h.at) at (h ∷ hs)) + 1 ≡ length (h ∷ hs)
    go true same later = rw (eq-eqb at h.at (sym (eqb-true h.at at same))) (omega arith)
    go false other later =
        let differs : at ≢ h.at = λ e. absurd (cc (eq-eqb h.at at (sym e), other)) in
        let rest : IsSome (oldest at hs) = rw other at some in
        let fewer = later rest in
        rw (ne_eqb at h.at differs) (omega (arith, fewer))

-- a job gave back the oldest of a resource
module _ (holds : List (List Holding)) (job at : ℕ) where
  pub held-gave : held_at (after_transfer holds (GaveBack job at)) at ≡ with_less (held_at holds at) job
  held-gave =
      map-set (elements_of at) holds job (without (λ h. h.at) at (get_or holds job []))
      ∙ ap (set (held_at holds at) job)
      (elements-less at (get_or holds job []) ∙ ap (drop 1) (sym (held-there holds at job)))

  pub else-gave : (q : ℕ) → at ≢ q → held_at (after_transfer holds (GaveBack job at)) q ≡ held_at holds q
  else-gave q other =
      map-set (elements_of q) holds job (without (λ h. h.at) at (get_or holds job []))
      ∙ ap (set (held_at holds q) job)
      (elements-kept at q (get_or holds job []) other ∙ sym (held-there holds q job))
      ∙ set-same (held_at holds q) job []

  pub many-gave : job < length holds → IsSome (oldest at (get_or holds job []))
      → sum_by (λ hs. length hs) (after_transfer holds (GaveBack job at)) + 1 ≡ sum_by (λ hs. length hs) holds
  many-gave below some =
      let written = sum_by-set (λ (hs : List Holding). length hs) holds job
      (without (λ h. h.at) at (get_or holds job [])) [] below in
      let fewer = length-without at (get_or holds job []) some in
      omega (arith, written, fewer)

-- what the jobs hold after one more transfer
pub holds-transfer : (jobs : ℕ) (ts : List Transfer) (t : Transfer)
    → holds_after jobs (ts ++ t ∷ []) ≡ after_transfer (holds_after jobs ts) t
holds-transfer jobs ts t = fold_push after_transfer _ ts t
