-- What a pass has in hand after a take and after a put.
use Rattle.std.proofs.Common.{◌≡◌, ◌≢◌, ◌⊎◌, inl, inr, ℕ, List, [], ◌∷◌, refl, sym, ◌∙◌, subst, eq-eqb, ne_eqb}
use Rattle.std.proofs.lemmas.Bool.{cases_eq}
use Rattle.cqs_rule_laws.specs.Lists.{Has, without}

pub has-new : (e : ℕ) (xs ys : List ℕ) → ys ≡ e ∷ xs → Has e ys
has-new e xs ys is = subst (Has e) (sym is) (inl refl)

pub has-kept : (k e : ℕ) (xs ys : List ℕ) → ys ≡ e ∷ xs → Has k xs → Has k ys
has-kept k e xs ys is has = subst (Has k) (sym is) (inr has)

-- all but the one that was put are still there
still : (k e : ℕ) (xs : List ℕ) → k ≢ e → Has k xs → Has k (without e xs)
still k e [] apart has = absurd has
still k e (x ∷ xs) apart has = go (cases_eq x e) has (λ later. still k e xs apart later)
  where
    go : (x ≡ e) ⊎ (x ≢ e) → (k ≡ x) ⊎ Has k xs → (Has k xs → Has k (without e xs)) → Has k (without e (x ∷ xs))
    go (inl same) (inl is) rest = absurd (apart (is ∙ same))
    go (inl same) (inr later) rest = rw (eq-eqb x e same) (rest later)
    go (inr other) (inl is) rest = rw (ne_eqb x e other) (inl is)
    go (inr other) (inr later) rest = rw (ne_eqb x e other) (inr (rest later))

pub has-left : (k e : ℕ) (xs ys : List ℕ) → ys ≡ without e xs → k ≢ e → Has k xs → Has k ys
has-left k e xs ys is apart has = subst (Has k) (sym is) (still k e xs apart has)
