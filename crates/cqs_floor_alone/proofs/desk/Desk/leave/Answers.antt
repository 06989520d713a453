use Rattle.std.proofs.Common.{None, ap, inl, inr, refl, subst}
use Rattle.cqs_floor_alone.specs.Ledger.{Ledger, with_back, with_grant, with_wait}
use Rattle.cqs_floor_alone.proofs.Called.{called, less-spare, written}
use Rattle.cqs_floor_alone_kinds.specs.Stores.{Cancels}
use Rattle.cqs_floor_alone_kinds.specs.Waits.{place_in}
use Rattle.cqs_floor_alone_kinds.specs.declared.sole_resource.Left.TheVariants.{Gone, Late, Through}
use Rattle.cqs_floor_alone.proofs.desk.Desk.leave.Goals as goal

pub returns-in-Gone : goal.returns-in-Gone
returns-in-Gone g c =
    let s = g.S.SoleResource.store in
    let job = c.args.job in
    let w = c.wait_of-wait.result in
    let had = c.index_mut.result.now in
    let after = c.leave.new.self in
    let same = ap (λ (l : Ledger g.row.S.Denot). l.soles) c.self.view_is in
    let answers = subst (λ r. Cancels s job had w.round c.place.result r after) c.in-Gone.is c.leave.ensures in
    let made = subst (λ place. Cancels s job had w.round place Gone after) c.place.ensures answers in (
      w,
      c.wait_of-wait.ensures.was,
      called (λ x y. Cancels s job x w.round (place_in w) Gone y) same
          c.wait_of-wait.ensures.sole c.index_mut.ensures.value made,
      written (λ l. with_back (with_wait l job None) job w) c.self.view_is refl c.take_out_wait.ensures
          (rw c.as_slice.ensures.value at c.take_back.ensures) refl refl,
    )

pub returns-in-Late : goal.returns-in-Late
returns-in-Late g c =
    let s = g.S.SoleResource.store in
    let job = c.args.job in
    let w = c.wait_of-wait.result in
    let element = c.in-Late.element in
    let had = c.index_mut.result.now in
    let after = c.leave.new.self in
    let same = ap (λ (l : Ledger g.row.S.Denot). l.soles) c.self.view_is in
    let push = c.push_reserved.ensures in
    let answers = subst (λ r. Cancels s job had w.round c.place.result r after) c.in-Late.is c.leave.ensures in
    let made = subst (λ place. Cancels s job had w.round place (Late element) after) c.place.ensures answers in
    inl (
      w,
      c.wait_of-wait.ensures.was,
      called (λ x y. Cancels s job x w.round (place_in w) (Late element) y) same
          c.wait_of-wait.ensures.sole c.index_mut.ensures.value made,
      written (λ l. with_grant l job w.at element) c.self.view_is refl c.take_out_wait.ensures refl push.items
          (less-spare _ _ push.capacity push.len),
    )

pub returns-in-Through : goal.returns-in-Through
returns-in-Through g c =
    let s = g.S.SoleResource.store in
    let job = c.args.job in
    let w = c.wait_of-wait.result in
    let had = c.index_mut.result.now in
    let after = c.leave.new.self in
    let same = ap (λ (l : Ledger g.row.S.Denot). l.soles) c.self.view_is in
    let answers = subst (λ r. Cancels s job had w.round c.place.result r after) c.in-Through.is c.leave.ensures in
    let made = subst (λ place. Cancels s job had w.round place Through after) c.place.ensures answers in
    inr (
      refl,
      (
        w,
        c.wait_of-wait.ensures.was,
        called (λ x y. Cancels s job x w.round (place_in w) Through y) same
            c.wait_of-wait.ensures.sole c.index_mut.ensures.value made,
        written (λ l. with_wait l job None) c.self.view_is refl c.take_out_wait.ensures refl refl refl,
      ),
    )
