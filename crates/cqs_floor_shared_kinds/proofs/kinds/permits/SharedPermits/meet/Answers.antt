use Rattle.std.proofs.Common.{ℕ, List, [], get_or, ap, refl}
use Rattle.cqs_floor_shared_kinds.proofs.PermitMeets.{mine-by-name, permits-meet}
use Rattle.cqs_floor_shared_kinds.proofs.kinds.permits.SharedPermits.meet.Goals as goal

pub meet-requires-clause-given_belongs : goal.meet-requires-clause-given_belongs
meet-requires-clause-given_belongs c =
    let can = c.requires in
    λ κs. rw c.deref.ensures (mine-by-name c.args.self.now c.args.given
    (ap (λ (names : List (List ℕ)). get_or names 0 []) can.family) can.funded.mine can.given_funded.mine)

pub returns : goal.returns
returns c =
    permits-meet _ c.args.given _ refl (rw c.deref.ensures at c.in-Ok.ensures.belongs) c.in-Ok.ensures.met
    c.in-Ok.ensures.ready c.in-Ok.ensures.held
