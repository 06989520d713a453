-- The spare slots of a pass after a call.
use Rattle.std.proofs.Common.{◌≡◌, ℕ, List, [], refl, sym, subst}
use Rattle.cqs_rule_laws.specs.declared.view.Spare.{Spare}
use Rattle.cqs_rule.specs.declared.queue.spares.Spares.{Spares}
use Rattle.cqs_rule.specs.declared.queue.spares.Spares.TheVariants.{Nothing}
use Rattle.cqs_rule.specs.Spares.{HasSpare}

-- they are the same
pub same-spares : (spares later : List Spare) (slots more : ℕ) (kept : Spares) → later ≡ spares → more ≡ slots
    → HasSpare spares slots kept → HasSpare later more kept
same-spares spares later slots more kept is count has =
    subst (λ (z : List Spare × ℕ). HasSpare z.0 z.1 kept) (λ i. (sym is i, sym count i)) has

-- there are none
pub no-spares : (spares : List Spare) (slots : ℕ) → spares ≡ [] → HasSpare spares slots Nothing
no-spares spares slots none =
    subst (λ l. HasSpare l slots Nothing) (sym none) (record { are = refl; low = λ x h. absurd h })
