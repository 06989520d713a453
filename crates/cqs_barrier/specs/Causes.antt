-- Why a call answered as it did: what its steps found, and where in the history this was so.
use Rattle.std.specs.Prelude.{ℕ, List}
use Rattle.cqs_core.specs.declared.cells.CoreState.{CoreState}
use Rattle.cqs_barrier_object.specs.declared.entries.BarrierEntry.{BarrierEntry}
use Rattle.cqs_rule_laws.specs.declared.view.View.{View}
use Rattle.cqs_rule_laws.specs.Causes as laws
use Rattle.cqs_rule_laws.specs.Object.{Primitive}
use Rattle.cqs_barrier.specs.declared.client.BarrierClient.{BarrierClient}
use Rattle.cqs_barrier.specs.Barrier.{barrier_primitive}
use Rattle.cqs_barrier.specs.Parties.{parties_of}

module _ {T : Type 0} where
  abbrev pub primitive_of : BarrierClient T → Primitive BarrierEntry T
  primitive_of x = barrier_primitive (parties_of x)

  -- the last step of the call found the cell of the number k in this state
  abbrev pub CellWas : CoreState → ℕ → List BarrierEntry → View BarrierEntry T → Type 0
  CellWas state k own w = laws.CellWas primitive_of state k own w
