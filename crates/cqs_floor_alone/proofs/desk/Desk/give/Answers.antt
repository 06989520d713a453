use Rattle.std.proofs.Common.{ap, refl}
use Rattle.cqs_floor_alone.specs.declared.transfers.Transfer.TheVariants.{GaveBack}
use Rattle.cqs_floor_alone.specs.Ledger.{Ledger, with_transfer}
use Rattle.cqs_floor_alone.proofs.Called.{called, less-spare, written}
use Rattle.cqs_floor_alone_kinds.specs.Stores.{Releases}
use Rattle.cqs_floor_alone.proofs.desk.Desk.give.Goals as goal

pub returns : goal.returns
returns g c =
    let s = g.S.SoleResource.store in
    let same = ap (λ (l : Ledger g.row.S.Denot). l.soles) c.self.view_is in
    let push = c.push_reserved.ensures in (
      called (λ x y. Releases s c.args.job x c.give.result y) same c.requires.sole c.index_mut.ensures.value
          c.give.ensures,
      written (λ l. with_transfer l (GaveBack c.args.job c.args.at)) c.self.view_is refl refl refl
          push.items (less-spare _ _ push.capacity push.len),
    )
