use Rattle.std.proofs.Common.{IsTrue, subst, sym}
use Rattle.std.specs.List.{list_any}
use Rattle.cqs_floor_shared_queue.specs.DeskCalls.{Gives, HasAt}
use Rattle.cqs_floor_shared_queue.specs.FloorKept.{IsKept}
use Rattle.cqs_floor_shared_queue.specs.Holdings.{is_of}
use Rattle.cqs_floor_shared_kinds.specs.ShareCalls as calls
use Rattle.cqs_floor_shared_queue.proofs.FloorGives.{give-can, give-holds, give-well}
use Rattle.cqs_floor_shared_queue.proofs.floors.share_floor.ShareFloorSharedFloor.give.Goals as goal

pub give-requires-clause-share : goal.give-requires-clause-share
give-requires-clause-share g c =
    let s = g.X.SharedResource.share in
    let l = c.args.self.now in
    let kept = subst (IsKept s) c.self.view_is c.self.invariant in
    subst (λ m. HasAt m.shares c.args.at (calls.CanGive s c.args.job)) (sym c.self.view_is)
    (give-can s l c.args.at c.args.job kept c.requires.resource c.requires.job c.requires.holds)

pub give-requires-clause-holds : goal.give-requires-clause-holds
give-requires-clause-holds g c =
    let s = g.X.SharedResource.share in
    let l = c.args.self.now in
    let kept = subst (IsKept s) c.self.view_is c.self.invariant in
    subst (λ m. IsTrue (list_any (is_of c.args.at c.args.job) m.holdings)) (sym c.self.view_is)
    (give-holds s l c.args.at c.args.job kept c.requires.resource c.requires.job c.requires.holds)

pub invariant_of-self : goal.invariant_of-self
invariant_of-self g c =
    let s = g.X.SharedResource.share in
    let l = c.args.self.now in
    let kept = subst (IsKept s) c.self.view_is c.self.invariant in
    let made = subst (λ m. Gives s m c.args.at c.args.job c.give.result c.give.new.self) c.self.view_is
    c.give.ensures in
    (give-well s l c.args.at c.args.job kept c.requires.resource c.requires.job c.requires.holds c.give.new.self
    c.give.result made).kept

pub returns : goal.returns
returns g c =
    let s = g.X.SharedResource.share in
    let l = c.args.self.now in
    let kept = subst (IsKept s) c.self.view_is c.self.invariant in
    let made = subst (λ m. Gives s m c.args.at c.args.job c.give.result c.give.new.self) c.self.view_is
    c.give.ensures in
    (give-well s l c.args.at c.args.job kept c.requires.resource c.requires.job c.requires.holds c.give.new.self
    c.give.result made).does
