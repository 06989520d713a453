use Rattle.std.proofs.Common.{◌<◌, length, subst, sym}
use Rattle.cqs_floor_shared_queue.specs.DeskCalls.{HasAt, Takes}
use Rattle.cqs_floor_shared_queue.specs.FloorKept.{IsKept}
use Rattle.cqs_floor_shared_kinds.specs.ShareCalls as calls
use Rattle.cqs_floor_shared_queue.proofs.FloorPlaces.{job-there}
use Rattle.cqs_floor_shared_queue.proofs.FloorTakes.{some-room, take-can, take-space, take-well}
use Rattle.cqs_floor_shared_queue.proofs.floors.share_floor.ShareFloorSharedFloor.take.Goals as goal

pub take-requires-clause-share : goal.take-requires-clause-share
take-requires-clause-share g c =
    let s = g.X.SharedResource.share in
    let l = c.args.self.now in
    let kept = subst (IsKept s) c.self.view_is c.self.invariant in
    subst (λ m. HasAt m.shares c.args.at (calls.CanTake s c.args.job)) (sym c.self.view_is)
    (take-can s l c.args.at c.args.job kept c.requires.job c.requires.room c.requires.resource)

pub take-requires-clause-place : goal.take-requires-clause-place
take-requires-clause-place g c =
    let s = g.X.SharedResource.share in
    let l = c.args.self.now in
    let kept = subst (IsKept s) c.self.view_is c.self.invariant in
    subst (λ m. c.args.at < length m.room) (sym c.self.view_is)
    (some-room s l c.args.at c.args.job kept c.requires.job c.requires.room)

pub take-requires-clause-job : goal.take-requires-clause-job
take-requires-clause-job g c =
    let s = g.X.SharedResource.share in
    let l = c.args.self.now in
    let kept = subst (IsKept s) c.self.view_is c.self.invariant in
    subst (λ m. c.args.job < length m.spots) (sym c.self.view_is) (job-there s l c.args.job c.requires.job)

pub take-requires-clause-space : goal.take-requires-clause-space
take-requires-clause-space g c =
    let s = g.X.SharedResource.share in
    let l = c.args.self.now in
    let kept = subst (IsKept s) c.self.view_is c.self.invariant in
    subst (λ m. length m.holdings < m.space) (sym c.self.view_is)
    (take-space s l c.args.at c.args.job kept c.requires.job c.requires.room)

pub invariant_of-self : goal.invariant_of-self
invariant_of-self g c =
    let s = g.X.SharedResource.share in
    let l = c.args.self.now in
    let kept = subst (IsKept s) c.self.view_is c.self.invariant in
    let made = subst (λ m. Takes s m c.args.at c.args.job c.take.result c.take.new.self) c.self.view_is
    c.take.ensures in
    (take-well s l c.args.at c.args.job kept c.requires.job c.requires.room c.take.new.self c.take.result
    c.requires.idle c.requires.resource made).kept

pub returns : goal.returns
returns g c =
    let s = g.X.SharedResource.share in
    let l = c.args.self.now in
    let kept = subst (IsKept s) c.self.view_is c.self.invariant in
    let made = subst (λ m. Takes s m c.args.at c.args.job c.take.result c.take.new.self) c.self.view_is
    c.take.ensures in
    (take-well s l c.args.at c.args.job kept c.requires.job c.requires.room c.take.new.self c.take.result
    c.requires.idle c.requires.resource made).does
