use Rattle.std.proofs.Common.{◌≡◌, ◌<◌, length, subst, sym}
use Rattle.cqs_floor_shared_queue.specs.Ledgers.{own_rounds}
use Rattle.cqs_floor_shared_queue.specs.DeskCalls.{CanEndWait, Leaves}
use Rattle.cqs_floor_shared_queue.specs.FloorKept.{IsKept}
use Rattle.cqs_floor_shared_queue.proofs.FloorLooks.{end-can, end-space, leave-well}
use Rattle.cqs_floor_shared_queue.proofs.floors.share_floor.ShareFloorSharedFloor.leave.Goals as goal

pub leave-requires-clause-wait : goal.leave-requires-clause-wait
leave-requires-clause-wait g c =
    let s = g.X.SharedResource.share in
    let l = c.args.self.now in
    let kept = subst (IsKept s) c.self.view_is c.self.invariant in
    subst (λ m. CanEndWait s m c.args.job) (sym c.self.view_is)
    (end-can s l c.args.job kept c.requires.job c.requires.waits)

pub leave-requires-clause-space : goal.leave-requires-clause-space
leave-requires-clause-space g c =
    let s = g.X.SharedResource.share in
    let l = c.args.self.now in
    let kept = subst (IsKept s) c.self.view_is c.self.invariant in
    subst (λ m. length m.holdings < m.space) (sym c.self.view_is)
    (end-space s l c.args.job kept c.requires.job c.requires.waits)

pub leave-requires-clause-own : goal.leave-requires-clause-own
leave-requires-clause-own g c =
    subst (λ m. c.args.job < length m.rounds) (sym c.self.view_is) c.requires.job.rounds

pub leave-requires-clause-each : goal.leave-requires-clause-each
leave-requires-clause-each g c =
    subst (λ m. length (own_rounds m.rounds c.args.job) ≡ length m.kinds) (sym c.self.view_is) c.requires.job.each

pub invariant_of-self : goal.invariant_of-self
invariant_of-self g c =
    let s = g.X.SharedResource.share in
    let l = c.args.self.now in
    let kept = subst (IsKept s) c.self.view_is c.self.invariant in
    let made = subst (λ m. Leaves s m c.args.job c.leave.result c.leave.new.self) c.self.view_is c.leave.ensures in
    (leave-well s l c.args.job kept c.requires.job c.law.ensures c.leave.new.self c.leave.result made).kept

pub returns : goal.returns
returns g c =
    let s = g.X.SharedResource.share in
    let l = c.args.self.now in
    let kept = subst (IsKept s) c.self.view_is c.self.invariant in
    let made = subst (λ m. Leaves s m c.args.job c.leave.result c.leave.new.self) c.self.view_is c.leave.ensures in
    (leave-well s l c.args.job kept c.requires.job c.law.ensures c.leave.new.self c.leave.result made).does
