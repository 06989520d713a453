use Rattle.std.proofs.Common.{ap, refl}
use Rattle.cqs_floor_alone.specs.Ledger.{Ledger}
use Rattle.cqs_floor_alone.proofs.Called.{called, written}
use Rattle.cqs_floor_alone_kinds.specs.Stores.{Counts}
use Rattle.cqs_floor_alone.proofs.desk.Desk.down.Goals as goal

pub returns : goal.returns
returns g c =
    let s = g.S.SoleResource.store in
    let same = ap (λ (l : Ledger g.row.S.Denot). l.soles) c.self.view_is in (
      called (λ x y. Counts s x c.down.result y) same c.requires.sole c.index_mut.ensures.value c.down.ensures,
      written (λ l. l) c.self.view_is refl refl refl refl refl,
    )
