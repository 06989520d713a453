-- The barrier whose parties may park, and its client: what a definition names that needs no other.
use Rattle.cqs_barrier.specs.declared.barrier.Barrier as whole
use Rattle.cqs_barrier.specs.declared.client.BarrierClient as client

abbrev pub Barrier : Type 0
Barrier = whole.Barrier (Unit {0})

abbrev pub BarrierClient : Type 0
BarrierClient = client.BarrierClient (Unit {0})
