-- Why a call answered as it did: what its steps found, and where in the history this was so.
use Rattle.std.specs.Prelude.{◌≡◌, ℕ, Bool, true, false, List, count_by}
use Rattle.cqs_core.specs.declared.cells.CoreState.{CoreState}
use Rattle.cqs_pool_object.specs.declared.entries.PoolEntry.{PoolEntry}
use Rattle.cqs_pool_object.specs.declared.entries.PoolEntry.TheVariants as entry
use Rattle.cqs_rule_laws.specs.declared.view.View.{View}
use Rattle.cqs_rule_laws.specs.Causes as laws
use Rattle.cqs_rule_laws.specs.Object.{Primitive}
use Rattle.cqs_pool.specs.declared.client.PoolClient.{PoolClient}
use Rattle.cqs_pool.specs.Pool.{pool_primitive}
use Rattle.cqs_pool.specs.PoolSize.{elements_of}

-- a caller drew a number, and came to the end of the line
abbrev pub is_enter : PoolEntry → Bool
is_enter (entry.Enter c k) = true
is_enter (entry.Put c e) = false
is_enter (entry.Deliver k e) = false
is_enter (entry.Leave c k) = false
is_enter (entry.Late c k e) = false
is_enter (entry.LookGranted c k e) = false
is_enter (entry.LookPending c k) = false

-- how many numbers were drawn in a history
abbrev pub drawn_in : List PoolEntry → ℕ
drawn_in history = count_by is_enter history

module _ {T : Type 0} where
  abbrev pub primitive_of : PoolClient T → Primitive PoolEntry T
  primitive_of x = pool_primitive (elements_of x)

  -- a step of the call found the cell of the number k in this state: its last step, or any
  abbrev pub CellWas : CoreState → ℕ → List PoolEntry → View PoolEntry T → Type 0
  CellWas state k own w = laws.CellWas primitive_of state k own w

  abbrev pub CellWasOnce : CoreState → ℕ → View PoolEntry T → View PoolEntry T → Type 0
  CellWasOnce state k v w = laws.CellWasOnce primitive_of state k v w

  -- the same, and this element stood there
  abbrev pub CellHad : CoreState → ℕ → ℕ → List PoolEntry → View PoolEntry T → Type 0
  CellHad state k e own w = (cell : CellWas state k own w) × (cell.payload ≡ e)

  abbrev pub CellHadOnce : CoreState → ℕ → ℕ → View PoolEntry T → View PoolEntry T → Type 0
  CellHadOnce state k e v w = (cell : CellWasOnce state k v w) × (cell.payload ≡ e)
