-- What contracts see of an item.
use Rattle.std.specs.Prelude.{ℕ}
use Rattle.std.specs.Borrow.{Fml, RattleType, MutBor, Lends}
use Rattle.cqs_pool.specs.declared.element.Element.{Element}
pub use Rattle.cqs_pool.specs.Elements.{number_of as element_number}
use Rattle.cqs_pool_values.specs.declared.item.Item.{Item}
use Rattle.cqs_pool_values.specs.contracts.item.Item.{the_row}

-- the value that the item has, its element, and the number of that
abbrev pub value_of : {T : Type 0} → Item T → T
value_of item = item.value

abbrev pub element_of : {T : Type 0} → Item T → Element
element_of item = item.element

abbrev pub number_of : {T : Type 0} → Item T → ℕ
number_of item = element_number (element_of item)

-- the item ends with the value that is left behind the reference
abbrev pub lends_value : (R : RattleType) → MutBor (Item R.Denot) → MutBor R.Denot → Fml
lends_value R i r = Lends (the_row R) R i r (λ w. record i.now { value = w })
