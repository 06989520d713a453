-- What contracts see of the barrier as a client.
use Rattle.std.specs.Prelude.{ℕ}
use Rattle.cqs_barrier.specs.declared.client.BarrierClient.{BarrierClient}

-- its parties
abbrev pub parties_of : {T : Type 0} → BarrierClient T → ℕ
parties_of x = x.parties
