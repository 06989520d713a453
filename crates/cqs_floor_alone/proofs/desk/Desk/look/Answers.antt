use Rattle.std.proofs.Common.{None, ap, inl, inr, refl, subst}
use Rattle.cqs_floor_alone.specs.Ledger.{Ledger, with_grant, with_wait}
use Rattle.cqs_floor_alone.proofs.Called.{called, less-spare, written}
use Rattle.cqs_floor_alone_kinds.specs.Stores.{Polls}
use Rattle.cqs_floor_alone_kinds.specs.Waits.{place_in}
use Rattle.cqs_floor_alone_kinds.specs.declared.sole_resource.Looked.TheVariants.{Got, Pending, Through}
use Rattle.cqs_floor_alone.proofs.desk.Desk.look.Goals as goal

pub returns-in-Pending : goal.returns-in-Pending
returns-in-Pending g c =
    let s = g.S.SoleResource.store in
    let job = c.args.job in
    let w = c.wait_of-wait.result in
    let had = c.index_mut.result.now in
    let after = c.look.new.self in
    let same = ap (λ (l : Ledger g.row.S.Denot). l.soles) c.self.view_is in
    let answers = subst (λ r. Polls s job had w.round c.place.result r after) c.in-Pending.is c.look.ensures in
    let made = subst (λ place. Polls s job had w.round place Pending after) c.place.ensures answers in (
      w,
      c.wait_of-wait.ensures.was,
      called (λ x y. Polls s job x w.round (place_in w) Pending y) same
          c.wait_of-wait.ensures.sole c.index_mut.ensures.value made,
      written (λ l. l) c.self.view_is refl refl refl refl refl,
    )

pub returns-in-Got : goal.returns-in-Got
returns-in-Got g c =
    let s = g.S.SoleResource.store in
    let job = c.args.job in
    let w = c.wait_of-wait.result in
    let element = c.in-Got.element in
    let had = c.index_mut.result.now in
    let after = c.look.new.self in
    let same = ap (λ (l : Ledger g.row.S.Denot). l.soles) c.self.view_is in
    let push = c.push_reserved.ensures in
    let answers = subst (λ r. Polls s job had w.round c.place.result r after) c.in-Got.is c.look.ensures in
    let made = subst (λ place. Polls s job had w.round place (Got element) after) c.place.ensures answers in
    inl (
      w,
      c.wait_of-wait.ensures.was,
      called (λ x y. Polls s job x w.round (place_in w) (Got element) y) same
          c.wait_of-wait.ensures.sole c.index_mut.ensures.value made,
      written (λ l. with_grant l job w.at element) c.self.view_is refl c.take_out_wait.ensures refl push.items
          (less-spare _ _ push.capacity push.len),
    )

pub returns-in-Through : goal.returns-in-Through
returns-in-Through g c =
    let s = g.S.SoleResource.store in
    let job = c.args.job in
    let w = c.wait_of-wait.result in
    let had = c.index_mut.result.now in
    let after = c.look.new.self in
    let same = ap (λ (l : Ledger g.row.S.Denot). l.soles) c.self.view_is in
    let answers = subst (λ r. Polls s job had w.round c.place.result r after) c.in-Through.is c.look.ensures in
    let made = subst (λ place. Polls s job had w.round place Through after) c.place.ensures answers in
    inr (
      refl,
      (
        w,
        c.wait_of-wait.ensures.was,
        called (λ x y. Polls s job x w.round (place_in w) Through y) same
            c.wait_of-wait.ensures.sole c.index_mut.ensures.value made,
        written (λ l. with_wait l job None) c.self.view_is refl c.take_out_wait-in-Through.ensures refl refl refl,
      ),
    )
