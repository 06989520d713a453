use Rattle.std.proofs.Common.{◌<◌, length, subst, sym}
use Rattle.cqs_floor_shared_queue.specs.DeskCalls.{HasAt, Arrives}
use Rattle.cqs_floor_shared_queue.specs.FloorKept.{IsKept}
use Rattle.cqs_floor_shared_queue.specs.Ledgers.{own_rounds, round_in}
use Rattle.cqs_floor_shared_kinds.specs.ShareCalls as calls
use Rattle.cqs_floor_shared_queue.proofs.FloorPlaces.{job-there}
use Rattle.cqs_floor_shared_queue.proofs.FloorTakes.{arrive-can, arrive-each, arrive-few, arrive-well, some-room}
use Rattle.cqs_floor_shared_queue.proofs.floors.share_floor.ShareFloorSharedFloor.arrive.Goals as goal

pub arrive-requires-clause-share : goal.arrive-requires-clause-share
arrive-requires-clause-share g c =
    let s = g.X.SharedResource.share in
    let l = c.args.self.now in
    let kept = subst (IsKept s) c.self.view_is c.self.invariant in
    subst (λ m. HasAt m.shares c.args.at (calls.CanArrive s c.args.job (round_in m c.args.job c.args.at)))
    (sym c.self.view_is)
    (arrive-can s l c.args.at c.args.job kept c.requires.job c.requires.room c.requires.resource
    c.requires.party)

pub arrive-requires-clause-place : goal.arrive-requires-clause-place
arrive-requires-clause-place g c =
    let s = g.X.SharedResource.share in
    let l = c.args.self.now in
    let kept = subst (IsKept s) c.self.view_is c.self.invariant in
    subst (λ m. c.args.at < length m.room) (sym c.self.view_is)
    (some-room s l c.args.at c.args.job kept c.requires.job c.requires.room)

pub arrive-requires-clause-job : goal.arrive-requires-clause-job
arrive-requires-clause-job g c =
    let s = g.X.SharedResource.share in
    let l = c.args.self.now in
    let kept = subst (IsKept s) c.self.view_is c.self.invariant in
    subst (λ m. c.args.job < length m.spots) (sym c.self.view_is) (job-there s l c.args.job c.requires.job)

pub arrive-requires-clause-own : goal.arrive-requires-clause-own
arrive-requires-clause-own g c =
    let s = g.X.SharedResource.share in
    let l = c.args.self.now in
    let kept = subst (IsKept s) c.self.view_is c.self.invariant in
    subst (λ m. c.args.job < length m.rounds) (sym c.self.view_is) c.requires.job.rounds

pub arrive-requires-clause-each : goal.arrive-requires-clause-each
arrive-requires-clause-each g c =
    let s = g.X.SharedResource.share in
    let l = c.args.self.now in
    let kept = subst (IsKept s) c.self.view_is c.self.invariant in
    subst (λ m. c.args.at < length (own_rounds m.rounds c.args.job)) (sym c.self.view_is)
    (arrive-each s l c.args.at c.args.job kept c.requires.job c.requires.room)

pub arrive-requires-clause-few : goal.arrive-requires-clause-few
arrive-requires-clause-few g c =
    let s = g.X.SharedResource.share in
    let l = c.args.self.now in
    let kept = subst (IsKept s) c.self.view_is c.self.invariant in
    subst (λ m. round_in m c.args.job c.args.at < 64) (sym c.self.view_is)
    (arrive-few s l c.args.at c.args.job kept c.requires.job c.requires.room c.requires.resource)

pub invariant_of-self : goal.invariant_of-self
invariant_of-self g c =
    let s = g.X.SharedResource.share in
    let l = c.args.self.now in
    let kept = subst (IsKept s) c.self.view_is c.self.invariant in
    let made = subst (λ m. Arrives s m c.args.at c.args.job c.arrive.result c.arrive.new.self) c.self.view_is
    c.arrive.ensures in
    (arrive-well s l c.args.at c.args.job kept c.requires.job c.requires.room c.arrive.new.self c.arrive.result
    c.requires.idle c.requires.resource made).kept

pub returns : goal.returns
returns g c =
    let s = g.X.SharedResource.share in
    let l = c.args.self.now in
    let kept = subst (IsKept s) c.self.view_is c.self.invariant in
    let made = subst (λ m. Arrives s m c.args.at c.args.job c.arrive.result c.arrive.new.self) c.self.view_is
    c.arrive.ensures in
    (arrive-well s l c.args.at c.args.job kept c.requires.job c.requires.room c.arrive.new.self c.arrive.result
    c.requires.idle c.requires.resource made).does
