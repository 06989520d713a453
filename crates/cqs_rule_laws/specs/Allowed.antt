-- What a step on a word of the table needs.
use Rattle.std.specs.Prelude.{ℕ, Option}
use Rattle.atomic_table.specs.Table.{Me, Allows}
use Rattle.cqs_rule_laws.specs.declared.rule.Key.{Key}
use Rattle.cqs_rule_laws.specs.declared.view.View.{View}
use Rattle.cqs_rule_laws.specs.Object.{Object, Primitive}
use Rattle.cqs_rule_laws.specs.Ruled.{Ruled}

module _ {C S E : Type 0} (object : Object E) (primitive : C → Primitive E S) where
  -- a step on this word, by which n becomes f n, keeps the rule wherever a seat may make it, and
  -- tells the seat this
  abbrev pub IsAllowed : Key C → ℕ → ℕ → Me (Option S) (View E S) → ℕ → (ℕ → ℕ)
      → (ℕ → Me (Option S) (View E S) → Type 0) → Type 0
  IsAllowed key slots id me word f told =
      Allows (Ruled object (primitive key.client) key.passes key.limit) slots id me word f told
