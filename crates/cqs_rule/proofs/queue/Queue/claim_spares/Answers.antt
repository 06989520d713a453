use Rattle.std.proofs.Common.{[], refl, sym, inl, inr, rules, arith}
use Rattle.std.proofs.lemmas.List.{append-nil}
use Rattle.cqs_segment.proofs.Walks.{looked-none}
use Rattle.cqs_segment.specs.Walks.{Left}
use Rattle.cqs_rule.specs.Claims.{IsClaimer}
use Rattle.cqs_rule.specs.Passes.{pass_view}
use Rattle.cqs_rule.proofs.Claims.{claims, keeps-claimed}
use Rattle.cqs_rule.proofs.Segments.{ample-view, belongs-left, scarce-view}
use Rattle.cqs_rule.proofs.queue.Queue.claim_spares.Goals as goal

pub returns-then-self-clause-claimed : goal.returns-then-self-clause-claimed
returns-then-self-clause-claimed g c = record {
  left = ([], looked-none (pass_view c.args.pass.now));
  enough = inl (ample-view c.args.self.now c.args.pass.now c.requires.belongs c.if-self.true);
  kept = ([], sym (append-nil (pass_view c.args.pass.now).facts.spare_slots));
  just = inl refl;
  ample = λ _. refl;
}

pub returns-then-spares-most-clause-claimed : goal.returns-then-spares-most-clause-claimed
returns-then-spares-most-clause-claimed g c = record {
  left = ([], looked-none (pass_view c.args.pass.now));
  enough = inr (let all = c.if-spares-most.true in let many = c.spares.ensures in omega arith);
  kept = ([], sym (append-nil (pass_view c.args.pass.now).facts.spare_slots));
  just = inl refl;
  ample = λ _. refl;
}

pub replace_with-spares-requires : goal.replace_with-spares-requires
replace_with-spares-requires g c =
    let q = c.args.self.now in
    let p = c.args.pass.now in
    let belongs = c.requires.belongs in
    (belongs.table, (claims q p belongs, (c.requires.few, scarce-view q p belongs c.if-self.false)))

pub invariant_of-pass : goal.invariant_of-pass
invariant_of-pass g c =
    let p = c.args.pass.now in
    let seat = c.replace_with-spares.new.dest in
    let left : Left seat.me.0.facts.spare_slots (pass_view p).facts.duties (pass_view p) seat.me.0 = search rules in
    let claimer : IsClaimer c.args.self.now c.replace_with-spares.result.0 seat.me.0 = search rules in
    keeps-claimed c.args.self.now p seat.me.0 c.replace_with-spares.result.0 left claimer seat.me.1 seat.table_id
    (search rules) (search rules)

pub returns-clause-belongs : goal.returns-clause-belongs
returns-clause-belongs g c =
    let p = c.args.pass.now in
    let w = c.replace_with-spares.new.dest.me.0 in
    let left : Left w.facts.spare_slots (pass_view p).facts.duties (pass_view p) w = search rules in
    belongs-left c.args.self.now p _ left.0 w.facts.spare_slots (pass_view p).facts.duties c.requires.belongs left.1
    (search rules)
