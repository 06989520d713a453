-- What a call takes of its pass, has of it while it works with it, and lays back.
use Rattle.std.specs.Prelude.{◌≡◌, ℕ, [], ◌∷◌, None, Option}
use mathlib.Core.Option.{none}
use Rattle.atomic_table.specs.Table.{step}
use Rattle.atomic_table.specs.declared.shared.Seat.{Seat}
use Rattle.cqs_c_numbers.specs.declared.primitive.Primitive.{Primitive}
use Rattle.cqs_c_numbers.specs.declared.caller.Caller.{Caller}
use Rattle.cqs_c_numbers.specs.declared.numbered.Numbered.{Numbered}
use Rattle.cqs_c_numbers.specs.Marks.{Seated, word_of, HasClaimed, HasLaid}

-- the hand holds the slot of the pass i, with nothing in it
pub record Holds (n : Numbered) (i : ℕ)
    (hand : Seat (Option Caller) Primitive) : Type 0 where
  pub table : hand.table_id ≡ n.table.shared.table_id
  pub slot : hand.me.1 ≡ (i, None) ∷ []

-- A hand of the table that had nothing has the slot of the pass i, with this in it, since its
-- exchange of the mark was made, which found this one.
pub record IsTaken (n : Numbered) (i mark : ℕ) (lying : Option Caller) : Type 0 where
  pub before : Seated
  pub bare : before.1 ≡ []
  pub after : Seat (Option Caller) Primitive
  pub table : after.table_id ≡ n.table.shared.table_id
  pub exchanged : HasClaimed (step n.table.shared.table_id.slots (word_of i) mark 1 none) before
      mark after.me
  pub has : after.me.1 ≡ (i, lying) ∷ []

-- A hand of the table had the slot of the pass i, with this in it, and gave it back by a store of
-- this mark.
pub record IsLaid (n : Numbered) (i mark : ℕ) (lying : Option Caller) : Type 0 where
  pub before : Seated
  pub had : before.1 ≡ (i, lying) ∷ []
  pub after : Seat (Option Caller) Primitive
  pub table : after.table_id ≡ n.table.shared.table_id
  pub stored : HasLaid (step n.table.shared.table_id.slots (word_of i) mark 0 none) before mark
      after.me

-- its primitive
abbrev pub primitive_in : Numbered → Primitive
primitive_in n = n.primitive
