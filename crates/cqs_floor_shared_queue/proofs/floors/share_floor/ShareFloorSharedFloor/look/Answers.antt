use Rattle.std.proofs.Common.{◌<◌, length, subst, sym}
use Rattle.cqs_floor_shared_queue.specs.DeskCalls.{CanEndWait, Looks}
use Rattle.cqs_floor_shared_queue.specs.FloorKept.{IsKept}
use Rattle.cqs_floor_shared_queue.proofs.FloorLooks.{end-can, end-space, look-well}
use Rattle.cqs_floor_shared_queue.proofs.floors.share_floor.ShareFloorSharedFloor.look.Goals as goal

pub look-requires-clause-wait : goal.look-requires-clause-wait
look-requires-clause-wait g c =
    let s = g.X.SharedResource.share in
    let l = c.args.self.now in
    let kept = subst (IsKept s) c.self.view_is c.self.invariant in
    subst (λ m. CanEndWait s m c.args.job) (sym c.self.view_is)
    (end-can s l c.args.job kept c.requires.job c.requires.waits)

pub look-requires-clause-space : goal.look-requires-clause-space
look-requires-clause-space g c =
    let s = g.X.SharedResource.share in
    let l = c.args.self.now in
    let kept = subst (IsKept s) c.self.view_is c.self.invariant in
    subst (λ m. length m.holdings < m.space) (sym c.self.view_is)
    (end-space s l c.args.job kept c.requires.job c.requires.waits)

pub invariant_of-self : goal.invariant_of-self
invariant_of-self g c =
    let s = g.X.SharedResource.share in
    let l = c.args.self.now in
    let kept = subst (IsKept s) c.self.view_is c.self.invariant in
    let made = subst (λ m. Looks s m c.args.job c.look.result c.look.new.self) c.self.view_is c.look.ensures in
    (look-well s l c.args.job kept c.requires.job c.law.ensures c.look.new.self c.look.result made).kept

pub returns : goal.returns
returns g c =
    let s = g.X.SharedResource.share in
    let l = c.args.self.now in
    let kept = subst (IsKept s) c.self.view_is c.self.invariant in
    let made = subst (λ m. Looks s m c.args.job c.look.result c.look.new.self) c.self.view_is c.look.ensures in
    (look-well s l c.args.job kept c.requires.job c.law.ensures c.look.new.self c.look.result made).does
