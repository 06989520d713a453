use Rattle.std.proofs.Common.{None, Some, ap, refl, subst}
use Rattle.cqs_floor_alone.specs.Ledger.{Ledger, with_less_room, with_waiting}
use Rattle.cqs_floor_alone.proofs.Called.{called, less-room, more-waits, written}
use Rattle.cqs_floor_alone_kinds.specs.Stores.{Awaits}
use Rattle.cqs_floor_alone.proofs.desk.Desk.wait.Goals as goal

pub returns-in-None : goal.returns-in-None
returns-in-None g c =
    let s = g.S.SoleResource.store in
    let job = c.args.job in
    let same = ap (λ (l : Ledger g.row.S.Denot). l.soles) c.self.view_is in
    let rooms = ap (λ (l : Ledger g.row.S.Denot). l.room) c.self.view_is in
    let made = subst (λ r. Awaits s job c.index_mut-2.result.now r c.wait.new.self) c.in-None.is c.wait.ensures in (
      refl,
      called (λ x y. Awaits s job x None y) same c.requires.sole c.index_mut-2.ensures.value made,
      written (λ l. with_less_room l c.args.at) c.self.view_is
          (less-room rooms c.requires.place c.index_mut.ensures.value) refl refl refl refl,
    )

pub returns-in-Some : goal.returns-in-Some
returns-in-Some g c =
    let s = g.S.SoleResource.store in
    let job = c.args.job in
    let place = c.in-Some.place in
    let same = ap (λ (l : Ledger g.row.S.Denot). l.soles) c.self.view_is in
    let rooms = ap (λ (l : Ledger g.row.S.Denot). l.room) c.self.view_is in
    let new = c.new.ensures in
    let made = subst (λ r. Awaits s job c.index_mut-2.result.now r c.wait.new.self) c.in-Some.is c.wait.ensures in (
      place,
      refl,
      called (λ x y. Awaits s job x (Some place) y) same c.requires.sole c.index_mut-2.ensures.value
          made,
      written (λ l. with_waiting l c.args.at job 0 place) c.self.view_is
          (less-room rooms c.requires.place c.index_mut.ensures.value)
          (more-waits _ _ c.put_wait.ensures new.at new.round new.place) refl refl refl,
    )
