-- Whether a table has slots for all segments that can ever be wanted. Then each of them is made as
-- the table opens: none needs a slot that another one left, and no pass needs a spare slot.
use Rattle.std.specs.Prelude.{ℕ, ◌+◌, ◌*◌, ◌/◌, ◌≤◌}
use Rattle.cqs_rule_laws.specs.declared.view.View.{View}

-- so many slots are enough for the segments of so many cells, and for two spare slots of each pass
abbrev pub AreEnough : ℕ → ℕ → ℕ → Type 0
AreEnough cells passes slots = cells / 32 + 2 * passes + 2 ≤ slots

-- the table of this pass has as many
abbrev pub IsAmple : {E S : Type 0} → View E S → Type 0
IsAmple v = AreEnough v.cells v.passes v.slots
