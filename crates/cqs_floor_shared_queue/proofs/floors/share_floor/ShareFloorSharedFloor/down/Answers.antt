use Rattle.std.proofs.Common.{subst, sym}
use Rattle.cqs_floor_shared_queue.specs.DeskCalls.{Downs, HasAt}
use Rattle.cqs_floor_shared_queue.specs.FloorKept.{IsKept}
use Rattle.cqs_floor_shared_kinds.specs.ShareCalls as calls
use Rattle.cqs_floor_shared_queue.proofs.FloorGives.{down-can, down-well}
use Rattle.cqs_floor_shared_queue.proofs.floors.share_floor.ShareFloorSharedFloor.down.Goals as goal

pub down-requires : goal.down-requires
down-requires g c =
    let s = g.X.SharedResource.share in
    let l = c.args.self.now in
    let kept = subst (IsKept s) c.self.view_is c.self.invariant in
    subst (λ m. HasAt m.shares c.args.at (calls.CanCount s)) (sym c.self.view_is)
    (down-can s l c.args.at kept c.requires.resource)

pub invariant_of-self : goal.invariant_of-self
invariant_of-self g c =
    let s = g.X.SharedResource.share in
    let l = c.args.self.now in
    let kept = subst (IsKept s) c.self.view_is c.self.invariant in
    let made = subst (λ m. Downs s m c.args.at c.down.result c.down.new.self) c.self.view_is c.down.ensures in
    (down-well s l c.args.at kept c.requires.resource c.down.new.self c.down.result made).kept

pub returns : goal.returns
returns g c =
    let s = g.X.SharedResource.share in
    let l = c.args.self.now in
    let kept = subst (IsKept s) c.self.view_is c.self.invariant in
    let made = subst (λ m. Downs s m c.args.at c.down.result c.down.new.self) c.self.view_is c.down.ensures in
    (down-well s l c.args.at kept c.requires.resource c.down.new.self c.down.result made).does
