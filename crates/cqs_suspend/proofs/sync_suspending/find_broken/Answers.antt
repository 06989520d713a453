use Rattle.cqs_suspend.proofs.Unmet.{looks-broken}
use Rattle.cqs_suspend.proofs.sync_suspending.find_broken.Goals as goal

pub unreachable-requires : goal.unreachable-requires
unreachable-requires g c =
    let C = g.C.ClientWords in
    looks-broken C.object C.primitive _ _ _ _ c.requires.last c.look.ensures.looks c.in_default.not-Broken
