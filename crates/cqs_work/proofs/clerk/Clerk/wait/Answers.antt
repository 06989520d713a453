use Rattle.cqs_work.proofs.Gating.{told-one}
use Rattle.cqs_work.proofs.clerk.Clerk.wait.Goals as goal

pub returns-clause-told : goal.returns-clause-told
returns-clause-told g c =
    told-one g.G.Gate.begun g.G.Gate.ended _ _ _ _ _ _ c.start_call.ensures.gate c.start_call.ensures.worker
    c.start_call.ensures.call c.start_call.ensures.begun c.end_call.ensures
