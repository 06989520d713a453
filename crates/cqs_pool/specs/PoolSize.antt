-- What contracts see of the pool as a client.
use Rattle.std.specs.Prelude.{ℕ, Bool, true, false}
use Rattle.cqs_pool.specs.declared.client.PoolClient.{PoolClient}

-- how many elements it opens with
abbrev pub elements_of : {T : Type 0} → PoolClient T → ℕ
elements_of x = x.elements

-- how many value slots it has, by whether its elements carry values
abbrev pub slots_when : Bool → ℕ → ℕ
slots_when true elements = elements
slots_when false elements = 0
