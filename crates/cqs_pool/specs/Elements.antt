-- What contracts see of an element.
use Rattle.std.specs.Prelude.{ℕ}
use Rattle.cqs_pool.specs.declared.element.Element.{Element}

-- its number
abbrev pub number_of : Element → ℕ
number_of element = element.number

-- the number of the wait by which it came
abbrev pub wait_of : Element → ℕ
wait_of element = element.wait
