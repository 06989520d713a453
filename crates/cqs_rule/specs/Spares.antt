-- The slots that a pass has spare, as the program keeps them.
use Rattle.std.specs.Prelude.{◌≡◌, ℕ, ◌<◌, List, [], ◌∷◌}
use Rattle.cqs_rule_laws.specs.declared.view.Spare.{Spare}
use Rattle.cqs_rule_laws.specs.Lists.{Has}
use Rattle.cqs_rule_laws.specs.Spares.{slots_of}
use Rattle.cqs_rule.specs.declared.queue.spares.Spares.{Spares}
use Rattle.cqs_rule.specs.declared.queue.spares.Spares.TheVariants.{Nothing, One, Two}

-- in the order in which they were claimed
abbrev pub spare_list : Spares → List ℕ
spare_list Nothing = []
spare_list (One x) = x ∷ []
spare_list (Two x y) = x ∷ y ∷ []

-- These are the slots that the pass has spare, each one of the table.
pub record HasSpare (spares : List Spare) (slots : ℕ) (kept : Spares) : Type 0 where
  pub are : slots_of spares ≡ spare_list kept
  pub low : (x : ℕ) → Has x (spare_list kept) → x < slots
