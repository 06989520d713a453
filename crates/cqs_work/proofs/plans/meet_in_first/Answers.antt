use Rattle.std.proofs.Common.{◌≡◌, ◌∷◌, map, sym, subst, arith}
use Rattle.cqs_work.specs.Met.{CanMeetAll, HaveMetAll}
use Rattle.cqs_work.proofs.Posting.{first-of}
use Rattle.cqs_work.proofs.plans.meet_in_first.Goals as goal

pub meet_all-requires : goal.meet_all-requires
meet_all-requires g c =
    let shared = g.F.SharedFloor.shared in
    let split : c.args.floors.items ≡ c.remove-first.result ∷ c.remove-first.new.self.items
    = first-of c.args.floors.items c.remove-first.new.self.items c.remove-first.result
    (omega (arith, c.requires.some, c.args.floors.ok.0)) c.remove-first.ensures.value
    c.remove-first.ensures.by_index.2 in
    subst (λ l. CanMeetAll (map shared l)) split c.requires.can

pub returns : goal.returns
returns g c =
    let shared = g.F.SharedFloor.shared in
    let split : c.args.floors.items ≡ c.remove-first.result ∷ c.remove-first.new.self.items
    = first-of c.args.floors.items c.remove-first.new.self.items c.remove-first.result
    (omega (arith, c.requires.some, c.args.floors.ok.0)) c.remove-first.ensures.value
    c.remove-first.ensures.by_index.2 in
    subst (λ l. HaveMetAll (map shared l) (shared c.meet_all.result)) (sym split) c.meet_all.ensures
