use Rattle.std.proofs.Common.{ap, refl, subst, sym, ◌∙◌}
use Rattle.std.specs.List.{list_any}
use Rattle.cqs_floor_shared_queue.specs.FloorKept.{IsKept}
use Rattle.cqs_floor_shared_queue.specs.Ledgers.{Ledger}
use Rattle.cqs_floor_shared_queue.specs.Meeting.{CanJoin, HasJoined, has_wait}
use Rattle.cqs_floor_shared_queue.proofs.FloorWaiters.{none-waits-there, waits-there}
use Rattle.cqs_floor_shared_queue.proofs.FloorMeets.{join-can, meet-well}
use Rattle.cqs_floor_shared_queue.proofs.floors.share_floor.ShareFloorSharedFloor.meet.Goals as goal

pub meet-requires : goal.meet-requires
meet-requires g c =
    let s = g.X.SharedResource.share in
    let l = c.args.self.now in
    let kept = subst (IsKept s) c.self.view_is c.self.invariant in
    let their = subst (IsKept s) c.given.view_is c.given.invariant in
    let none = ap (λ (m : Ledger g.row.X.Denot). list_any has_wait m.spots) (sym c.given.view_is)
    ∙ sym c.has_wait.ensures ∙ c.if-has_wait.false in
    subst (λ m. CanJoin s m c.given.inside.desk) (sym c.self.view_is)
    (subst (CanJoin s l) (sym c.given.view_is)
    (join-can s l c.args.given kept their c.requires.family c.requires.apart none))

pub invariant_of-self : goal.invariant_of-self
invariant_of-self g c =
    let s = g.X.SharedResource.share in
    let l = c.args.self.now in
    let kept = subst (IsKept s) c.self.view_is c.self.invariant in
    let their = subst (IsKept s) c.given.view_is c.given.invariant in
    let none = ap (λ (m : Ledger g.row.X.Denot). list_any has_wait m.spots) (sym c.given.view_is)
    ∙ sym c.has_wait.ensures ∙ c.if-has_wait.false in
    let joined = subst (λ m. HasJoined s m c.args.given c.meet.new.self) c.self.view_is
    (subst (λ m. HasJoined s c.self.inside.desk m c.meet.new.self) c.given.view_is c.meet.ensures) in
    let w = meet-well s l c.args.given kept their c.requires.family c.requires.apart none c.meet.new.self joined
    c.law.ensures in
    w.kept

pub returns : goal.returns
returns g c =
    let s = g.X.SharedResource.share in
    let l = c.args.self.now in
    let kept = subst (IsKept s) c.self.view_is c.self.invariant in
    let their = subst (IsKept s) c.given.view_is c.given.invariant in
    let none = ap (λ (m : Ledger g.row.X.Denot). list_any has_wait m.spots) (sym c.given.view_is)
    ∙ sym c.has_wait.ensures ∙ c.if-has_wait.false in
    let joined = subst (λ m. HasJoined s m c.args.given c.meet.new.self) c.self.view_is
    (subst (λ m. HasJoined s c.self.inside.desk m c.meet.new.self) c.given.view_is c.meet.ensures) in
    let w = meet-well s l c.args.given kept their c.requires.family c.requires.apart none c.meet.new.self joined
    c.law.ensures in
    record { ok = w.does; idle = none-waits-there s c.args.given none; err = tt }

pub returns-then-has_wait : goal.returns-then-has_wait
returns-then-has_wait g c =
    let s = g.X.SharedResource.share in
    let some = ap (λ (m : Ledger g.row.X.Denot). list_any has_wait m.spots) (sym c.given.view_is)
    ∙ sym c.has_wait.ensures ∙ c.if-has_wait.true in
    record { ok = tt; idle = tt; err = (refl, waits-there s c.args.given some, refl) }
