-- The name of a queue: numbers that no two tables have in common, and what its passes know of it.
use Rattle.std.specs.Prelude.{ℕ, List, ◌∷◌}
use Rattle.atomic_table.specs.Seated.{TableId}
use Rattle.cqs_rule_laws.specs.declared.client.ClientWords.{Ghosts}
use Rattle.cqs_rule.specs.declared.queue.Pass.{Pass}
use Rattle.cqs_rule_laws.specs.declared.view.View.{View}
use Rattle.cqs_rule.specs.Passes.{pass_view}

-- the numbers of a table
abbrev pub table_numbers : TableId → List ℕ
table_numbers z =
    z.words ∷ z.slots ∷ z.views_name ∷ z.atom ∷ z.block ∷ z.offset ∷ z.slot_names

-- and with them what each pass of a queue knows of it from the start
abbrev pub numbers_of : {E S : Type 0} → View E S → TableId → List ℕ
numbers_of v z = v.passes ∷ v.limit ∷ v.cells ∷ v.opening.size ∷ table_numbers z

module _ {C S E : Type 0} {g : Ghosts C S E} where
  -- the name of the queue that a pass is one of
  abbrev pub queue_name : Pass C S E g → List ℕ
  queue_name p = numbers_of (pass_view p) p.seat.table_id
