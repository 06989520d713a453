use Rattle.std.proofs.Common.{ap, refl, set, subst}
use Rattle.cqs_floor_alone.specs.Ledger.{Ledger, with_taken}
use Rattle.cqs_floor_alone.proofs.Called.{called, less-room, less-spare, written}
use Rattle.cqs_floor_alone_kinds.specs.Stores.{Acquires}
use Rattle.cqs_floor_alone_kinds.specs.declared.sole_resource.Taken.TheVariants.{Now}
use Rattle.cqs_floor_alone.proofs.desk.Desk.take.Goals as goal

-- Where the job waits the goal has no answer: a wrong body in refused turns that exit into two.
pub returns-in-Now : goal.returns-in-Now
returns-in-Now g c =
    let s = g.S.SoleResource.store in
    let job = c.args.job in
    let after = c.take.new.self in
    let element = c.in-Now.element in
    let same = ap (λ (l : Ledger g.row.S.Denot). l.soles) c.self.view_is in
    let rooms = ap (λ (l : Ledger g.row.S.Denot). l.room) c.self.view_is in
    let push = c.push_reserved.ensures in
    let made = subst (λ r. Acquires s job c.index_mut-2.result.now r after) c.in-Now.is c.take.ensures in
    let calls = called (λ x y. Acquires s job x (Now element) y) same c.requires.sole
    c.index_mut-2.ensures.value made in
    let writes = written (λ l. with_taken l c.args.at job element)
    {soles = set c.self.inside.soles.items c.args.at after} c.self.view_is
    (less-room rooms c.requires.place c.index_mut.ensures.value) refl refl push.items
    (less-spare _ _ push.capacity push.len) in
    search (calls, writes)
