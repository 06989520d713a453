use Rattle.std.proofs.Common.{◌<◌, length, subst, sym}
use Rattle.cqs_floor_shared_queue.specs.DeskCalls.{HasAt, Waits}
use Rattle.cqs_floor_shared_queue.specs.FloorKept.{IsKept}
use Rattle.cqs_floor_shared_kinds.specs.ShareCalls as calls
use Rattle.cqs_floor_shared_queue.proofs.FloorPlaces.{job-there}
use Rattle.cqs_floor_shared_queue.proofs.FloorTakes.{some-room, wait-can, wait-well}
use Rattle.cqs_floor_shared_queue.proofs.floors.share_floor.ShareFloorSharedFloor.wait.Goals as goal

pub wait-requires-clause-share : goal.wait-requires-clause-share
wait-requires-clause-share g c =
    let s = g.X.SharedResource.share in
    let l = c.args.self.now in
    let kept = subst (IsKept s) c.self.view_is c.self.invariant in
    subst (λ m. HasAt m.shares c.args.at (calls.CanWait s c.args.job)) (sym c.self.view_is)
    (wait-can s l c.args.at c.args.job kept c.requires.job c.requires.room c.requires.resource)

pub wait-requires-clause-place : goal.wait-requires-clause-place
wait-requires-clause-place g c =
    let s = g.X.SharedResource.share in
    let l = c.args.self.now in
    let kept = subst (IsKept s) c.self.view_is c.self.invariant in
    subst (λ m. c.args.at < length m.room) (sym c.self.view_is)
    (some-room s l c.args.at c.args.job kept c.requires.job c.requires.room)

pub wait-requires-clause-job : goal.wait-requires-clause-job
wait-requires-clause-job g c =
    let s = g.X.SharedResource.share in
    let l = c.args.self.now in
    let kept = subst (IsKept s) c.self.view_is c.self.invariant in
    subst (λ m. c.args.job < length m.spots) (sym c.self.view_is) (job-there s l c.args.job c.requires.job)

pub invariant_of-self : goal.invariant_of-self
invariant_of-self g c =
    let s = g.X.SharedResource.share in
    let l = c.args.self.now in
    let kept = subst (IsKept s) c.self.view_is c.self.invariant in
    let made = subst (λ m. Waits s m c.args.at c.args.job c.wait.result c.wait.new.self) c.self.view_is
    c.wait.ensures in
    (wait-well s l c.args.at c.args.job kept c.requires.job c.requires.room c.wait.new.self c.wait.result
    c.requires.idle c.requires.resource made).kept

pub returns : goal.returns
returns g c =
    let s = g.X.SharedResource.share in
    let l = c.args.self.now in
    let kept = subst (IsKept s) c.self.view_is c.self.invariant in
    let made = subst (λ m. Waits s m c.args.at c.args.job c.wait.result c.wait.new.self) c.self.view_is
    c.wait.ensures in
    (wait-well s l c.args.at c.args.job kept c.requires.job c.requires.room c.wait.new.self c.wait.result
    c.requires.idle c.requires.resource made).does
