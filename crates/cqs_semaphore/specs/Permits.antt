-- What contracts see of a permit.
use Rattle.std.specs.Prelude.{ℕ, Option}
use Rattle.cqs_semaphore.specs.declared.answers.Permit.{Permit}

-- the number of the wait by which it came, if it came by one
abbrev pub number_of : Permit → Option ℕ
number_of permit = permit.number
