use Rattle.std.proofs.Common.{subst, sym}
use Rattle.cqs_floor_shared_queue.specs.DeskCalls.{CanEndAt, Ends}
use Rattle.cqs_floor_shared_queue.specs.FloorKept.{IsKept}
use Rattle.cqs_floor_shared_queue.proofs.FloorEnds.{ask-can, ask-well}
use Rattle.cqs_floor_shared_queue.proofs.floors.share_floor.ShareFloorSharedFloor.end.Goals as goal

pub end-requires : goal.end-requires
end-requires g c =
    let s = g.X.SharedResource.share in
    let l = c.args.self.now in
    let kept = subst (IsKept s) c.self.view_is c.self.invariant in
    subst (λ m. CanEndAt s m c.args.at) (sym c.self.view_is)
    (ask-can s c.law.ensures l c.args.at kept c.requires.resource c.requires.met c.requires.rest)

pub returns-clause-answer : goal.returns-clause-answer
returns-clause-answer g c =
    let s = g.X.SharedResource.share in
    let l = c.args.self.now in
    let kept = subst (IsKept s) c.self.view_is c.self.invariant in
    ask-well s c.law.ensures l c.args.at kept c.end.result
    (subst (λ m. Ends s m c.args.at c.end.result) c.self.view_is c.end.ensures)
